-- The tests of a sound block, as facts and back.
use mathlib.Core.Path.{◌≡◌, refl, ap, ◌∙◌}
use mathlib.Core.Bool.{Bool, true}
use mathlib.Core.Option.{some}
use Prim.Native.Nat.{ℕ, ◌+◌, ◌^◌, ◌≤◌, ◌<◌}
use native.Mathlib.Omega.{arith}
use borrow.Author.Tests.{leb-true, le-leb}
use lib.ListN.{length, take, drop}
use Rattle.bedrock.proofs.Choices.{and-true, some_same, cond_or_none}
use Rattle.buffer.specs.Bytes.{Bytes, same, zeros}
use Rattle.buffer.proofs.Bytes.{same_true, same_refl}
use Rattle.digits.specs.Number.{small}
use Rattle.kind.specs.Kind.{sha1_of}
use Rattle.kind.specs.Kind.{lawful, longest}
use Rattle.sector.specs.Sector.{is_date_or_none, dated_label, label_length, payload_of, date_field, behind, fits, size_field}
use Rattle.sector.proofs.Dates.{field-date}
use Rattle.block.specs.Block.{Row, parts_of, label_at}
use Rattle.block.specs.Log.{sectors, at, payloads, checked, labelled, sound_as}
use Rattle.block.proofs.Tests.{range_facts, facts_range}

-- the parts of a block with the date and size given
abbrev pub parts_by : Bytes → ℕ → ℕ
parts_by date size = parts_of (payload_of (label_length date)) size

-- such a block that starts at n: its payloads, and the row that these make
abbrev pub payloads_by : Bytes → ℕ → Bytes → ℕ → Bytes
payloads_by log n date size = payloads (label_length date) log (parts_by date size) n

abbrev pub row_at : Bytes → ℕ → ℕ → Bytes → Bytes → ℕ → Row
row_at log n kind score date size = record { kind = kind; score = score; bytes = take size (payloads_by log n date size); first = n; date = date }

pub record Passed (log : Bytes) (n kind : ℕ) (score date : Bytes) (size : ℕ) : Type 0 where
  pub dated : is_date_or_none date ≡ true
  pub some_bytes : 1 ≤ size
  pub not_many : size ≤ longest
  pub lawful-kind : lawful kind ≡ true
  pub in_log : n + parts_by date size ≤ sectors (length log)
  pub can_be_named : n + parts_by date size ≤ 16 ^ 8
  pub labels : (k : ℕ) → k < parts_by date size → take (label_length date) (at log (n + k)) ≡ dated_label date (label_at (parts_by date size) n k kind size) score
  pub checks : (k : ℕ) → k < parts_by date size → fits (at log (n + k)) ≡ true
  pub unused : zeros (drop size (payloads_by log n date size)) ≡ true
  pub of-bytes : small (take size (payloads_by log n date size)) ≡ true
  pub scored : sha1_of (take size (payloads_by log n date size)) ≡ score

module _ (log : Bytes) (n kind : ℕ) (score date : Bytes) (size : ℕ) where
  -- what sector n + k begins with, and the label of part k
  abbrev front : ℕ → Bytes
  front k = take (label_length date) (at log (n + k))

  abbrev label : ℕ → Bytes
  label k = dated_label date (label_at (parts_by date size) n k kind size) score

  has-label : ℕ → Bool
  has-label k = same (front k) (label k)

  labelled_facts : (j : ℕ) → labelled log date (parts_by date size) n kind size score j 0 ≡ true → (k : ℕ) → k < j → front k ≡ label k
  unfolding labelled has-label
  labelled_facts j e k h =
      let z : k ≡ 0 + k = omega arith in
      same_true (front k) (label k) (ap has-label z ∙ range_facts has-label (λ i m. labelled log date (parts_by date size) n kind size score i m) (λ i m. refl) j 0 k e h)

  facts_labelled : (j : ℕ) → ((k : ℕ) → k < j → front k ≡ label k) → labelled log date (parts_by date size) n kind size score j 0 ≡ true
  unfolding labelled has-label
  facts_labelled j f =
      facts_range has-label (λ i m. labelled log date (parts_by date size) n kind size score i m) (λ i m. refl) (λ i. refl) j 0
      (λ k h. let z : 0 + k ≡ k = omega arith in
      ap has-label z ∙ ap (λ (x : Bytes). same x (label k)) (f k h) ∙ same_refl (label k))

module _ (log : Bytes) (n : ℕ) where
  checked_facts : (j : ℕ) → checked log j n ≡ true → (k : ℕ) → k < j → fits (at log (n + k)) ≡ true
  unfolding checked
  checked_facts j e k h = range_facts (λ i. fits (at log i)) (checked log) (λ i m. refl) j n k e h

  facts_checked : (j : ℕ) → ((k : ℕ) → k < j → fits (at log (n + k)) ≡ true) → checked log j n ≡ true
  unfolding checked
  facts_checked j f = facts_range (λ i. fits (at log i)) (checked log) (λ i m. refl) (λ i. refl) j n f

module _ (log : Bytes) (n kind : ℕ) (score : Bytes) where
  date : Bytes
  date = date_field (at log n)

  size : ℕ
  size = size_field (behind (at log n))

  pub as_passed : (r : Row) → sound_as log n kind score ≡ some r → Passed log n kind score (date_field (at log n)) (size_field (behind (at log n)))
      × (row_at log n kind score (date_field (at log n)) (size_field (behind (at log n))) ≡ r)
  unfolding sound_as date size
  as_passed r e =
      let p = cond_or_none _ _ _ e in
      let a = and-true _ _ p.0 in
      let b = and-true _ _ a.1 in
      let c = and-true _ _ b.1 in
      let d = and-true _ _ c.1 in
      let f = and-true _ _ d.1 in
      let g = and-true _ _ f.1 in
      let h = and-true _ _ g.1 in
      let i = and-true _ _ h.1 in
      let j = and-true _ _ i.1 in
      let k = and-true _ _ j.1 in (
        record {
          dated = field-date (at log n);
          some_bytes = leb-true 1 size a.0;
          not_many = leb-true size longest b.0;
          lawful-kind = c.0;
          in_log = leb-true (n + parts_by date size) (sectors (length log)) d.0;
          can_be_named = leb-true (n + parts_by date size) (16 ^ 8) f.0;
          labels = labelled_facts log n kind score date size (parts_by date size) g.0;
          checks = checked_facts log n (parts_by date size) h.0;
          unused = i.0;
          of-bytes = j.0;
          scored = same_true (sha1_of (take size (payloads_by log n date size))) score k.0;
        },
        some_same _ r p.1,
      )

  pub passed_as : Passed log n kind score (date_field (at log n)) (size_field (behind (at log n)))
      → sound_as log n kind score ≡ some (row_at log n kind score (date_field (at log n)) (size_field (behind (at log n))))
  unfolding sound_as date size
  passed_as P = rw (
    le-leb 1 size P.some_bytes,
    le-leb size longest P.not_many,
    P.lawful-kind,
    le-leb (n + parts_by date size) (sectors (length log)) P.in_log,
    le-leb (n + parts_by date size) (16 ^ 8) P.can_be_named,
    facts_labelled log n kind score date size (parts_by date size) P.labels,
    facts_checked log n (parts_by date size) P.checks,
    P.unused,
    P.of-bytes,
    ap (λ (x : Bytes). same x score) P.scored ∙ same_refl score,
  )
