-- What a valid row is, as facts; and how many parts a block has.
use mathlib.Core.Path.{◌≡◌, refl, ap, ◌∙◌}
use mathlib.Core.Bool.{true}
use mathlib.Core.Logic.{◌⊎◌, inl, inr}
use Prim.Native.Nat.{ℕ, zero, suc, ◌+◌, ◌-◌, ◌*◌, ◌/◌, ◌%◌, ◌^◌, ◌≤◌, ◌<◌}
use native.Mathlib.Nat.{mod-lt, div-add-mod, add-mul-div_left, mul-zero, mul_comm, div-eq_of_lt, div-lt_iff_lt-mul}
use native.Mathlib.Omega.{arith}
use lib.Dec.{leb}
use borrow.Author.Tests.{leb-true, le-leb}
use lib.ListN.{length}
use Rattle.bedrock.proofs.Choices.{and-true}
use Rattle.buffer.specs.Bytes.{Bytes, same}
use Rattle.buffer.proofs.Bytes.{same_true, same_refl}
use Rattle.digits.specs.Number.{small}
use Rattle.kind.specs.Kind.{sha1_of}
use Rattle.kind.proofs.ZeroScore.{digest_length}
use Rattle.kind.specs.Kind.{lawful, longest}
use Rattle.sector.specs.Sector.{is_date_or_none, front_of, label_length}
use Rattle.sector.proofs.Editions.{front-lengths, label-lengths}
use Rattle.block.specs.Block.{Row, parts_of, payload, parts, place_of, Inside, valid}

-- how many parts of p bytes some bytes take
module _ (p : ℕ) (pos : 0 < p) where
  pub parts-bounds : (size : ℕ) → (size ≤ p * parts_of p size) × (p * parts_of p size ≤ size + (p - 1))
  unfolding parts_of
  parts-bounds size =
      let a = size + (p - 1) in
      let e : p * (a / p) + a % p ≡ a = div-add-mod a p in
      let m : a % p < p = mod-lt a pos in
      (omega arith, omega arith)

  pub parts_none : parts_of p 0 ≡ 0
  unfolding parts_of
  parts_none = div-eq_of_lt (omega arith)

  -- a payload more
  pub parts_more : (size : ℕ) → parts_of p (size + p) ≡ suc (parts_of p size)
  unfolding parts_of
  parts_more size =
      let e : size + p + (p - 1) ≡ size + (p - 1) + p * 1 = omega arith in
      ap (λ (x : ℕ). x / p) e ∙ add-mul-div_left (size + (p - 1)) 1 pos ∙ omega arith

  pub parts-one : (size : ℕ) → 0 < size → size ≤ p → parts_of p size ≡ 1
  unfolding parts_of
  parts-one size h g =
      let e : size + (p - 1) ≡ size - 1 + p * 1 = omega arith in
      ap (λ (x : ℕ). x / p) e ∙ add-mul-div_left (size - 1) 1 pos ∙ ap (λ (x : ℕ). x + 1) (div-eq_of_lt (omega arith))

  -- byte j lies in part j / p
  pub part_index : (j k : ℕ) → j < p * k → j / p < k
  part_index j k h = (div-lt_iff_lt-mul pos).1 (rw (mul_comm k p) h)

  pub part_of : (j size : ℕ) → j < size → j / p < parts_of p size
  part_of j size h = part_index j (parts_of p size) (omega (arith, parts-bounds size))

  pub some-parts : (size : ℕ) → 0 < size → 0 < parts_of p size
  some-parts size h = go (parts_of p size) refl
    where
      go : (k : ℕ) → parts_of p size ≡ k → 0 < parts_of p size
      go (suc k) q = omega arith
      go zero q =
          let z : p * parts_of p size ≡ 0 = ap (λ (x : ℕ). p * x) q ∙ mul-zero p in
          absurd (omega (arith, parts-bounds size))

pub record Facts (r : Row) : Type 0 where
  pub lawful-kind : lawful r.kind ≡ true
  pub some_bytes : 1 ≤ length r.bytes
  pub not_many : length r.bytes ≤ longest
  pub of-bytes : small r.bytes ≡ true
  pub scored : r.score ≡ sha1_of r.bytes
  pub can_be_named : r.first + parts r ≤ 16 ^ 8
  pub dated : is_date_or_none r.date ≡ true

pub valid_facts : (r : Row) → valid r ≡ true → Facts r
unfolding valid
valid_facts r e =
    let p = and-true (lawful r.kind) _ e in
    let q = and-true (leb 1 (length r.bytes)) _ p.1 in
    let s = and-true (leb (length r.bytes) longest) _ q.1 in
    let u = and-true (small r.bytes) _ s.1 in
    let t = and-true (same r.score (sha1_of r.bytes)) _ u.1 in
    let w = and-true (leb (r.first + parts r) (16 ^ 8)) _ t.1 in
    record {
      lawful-kind = p.0;
      some_bytes = leb-true 1 (length r.bytes) q.0;
      not_many = leb-true (length r.bytes) longest s.0;
      of-bytes = u.0;
      scored = same_true r.score (sha1_of r.bytes) t.0;
      can_be_named = leb-true (r.first + parts r) (16 ^ 8) w.0;
      dated = w.1;
    }

pub facts_valid : (r : Row) → Facts r → valid r ≡ true
unfolding valid
facts_valid r F = rw (
  F.lawful-kind,
  le-leb 1 (length r.bytes) F.some_bytes,
  le-leb (length r.bytes) longest F.not_many,
  F.of-bytes,
  ap (λ (x : Bytes). same x (sha1_of r.bytes)) F.scored ∙ same_refl (sha1_of r.bytes),
  le-leb (r.first + parts r) (16 ^ 8) F.can_be_named,
  F.dated,
)

module _ (r : Row) (v : valid r ≡ true) where
  F : Facts r
  F = valid_facts r v

  pub label-bounds : (96 ≤ label_length r.date) × (label_length r.date ≤ 110)
  label-bounds = label-lengths r.date F.dated

  pub payload_pos : 0 < payload r
  payload_pos = omega (arith, label-bounds)

  -- behind either label
  pub payload-is : (payload r ≡ 403) ⊎ (payload r ≡ 389)
  payload-is = go (front-lengths r.date F.dated)
    where
      go : (length (front_of r.date) ≡ 0) ⊎ (length (front_of r.date) ≡ 14) → (payload r ≡ 403) ⊎ (payload r ≡ 389)
      go (inl z) = inl (omega arith)
      go (inr z) = inr (omega arith)

  pub inside : (n : ℕ) → r.first + parts r ≤ n → Inside n (place_of r)
  inside n h = (h, omega (arith, label-bounds))

  pub parts_pos : 0 < parts r
  parts_pos = some-parts (payload r) payload_pos (length r.bytes) F.some_bytes

  pub parts_lt : parts r < 16 ^ 4
  parts_lt = few (payload r) payload-is
    where
      few : (p : ℕ) → (p ≡ 403) ⊎ (p ≡ 389) → parts_of p (length r.bytes) < 16 ^ 4
      few p (inl e) = rw e (let b = parts-bounds 403 (omega arith) (length r.bytes) in omega (arith, F.not_many))
      few p (inr e) = rw e (let b = parts-bounds 389 (omega arith) (length r.bytes) in omega (arith, F.not_many))

  pub score-length : length r.score ≡ 20
  score-length = ap length F.scored ∙ digest_length r.bytes
