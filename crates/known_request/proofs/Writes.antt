-- A write by what was learned, and what is known after it.
use mathlib.Core.Path.{◌≡◌, refl, sym, ap, ◌∙◌}
use mathlib.Core.Bool.{Bool, true, false, cond, not, ◌&&◌}
use mathlib.Core.Option.{Option, none, some}
use Prim.Native.Nat.{ℕ, ◌≤◌}
use native.Mathlib.Omega.{arith}
use lib.Dec.{ltb}
use lib.ListN.{length}
use borrow.Author.Tests.{ltb-false, not-false}
use Rattle.bedrock.specs.Choice.{on}
use Rattle.bedrock.proofs.Choices.{and-true}
use Rattle.buffer.specs.Bytes.{Bytes, same}
use Rattle.digits.specs.Number.{small}
use Rattle.sha1_digest.specs.Sha1.{sha1_of}
use Rattle.kind.specs.Kind.{lawful, longest, zero_score}
use Rattle.sector.specs.Sector.{is_date}
use Rattle.sector.proofs.Dates.{date_or_none}
use Rattle.block.specs.Block.{Row, valid}
use Rattle.block.specs.Log.{used}
use Rattle.block.proofs.Joined.{used-joined}
use Rattle.refusal.specs.declared.Refusal.TheVariants.{Clash}
use Rattle.sector_log.specs.LookUp.{blocks, first_of, empty_row, held, log_allowed, waiting_allowed, lent_allowed}
use Rattle.sector_log.specs.Parts.{Lent, tape, beside, room_for, append_row}
use Rattle.sector_log.specs.Store.{AfterStore, new_row, parts_for, appended, compared, store}
use Rattle.sector_log.specs.declared.Stored.TheVariants.{Duplicate}
use Rattle.sector_log.proofs.Allowed.{row-valid as valid-row, some_bytes}
use Rattle.sector_log.proofs.Room.{room-reads}
use Rattle.index.specs.Index.{entered}
use Rattle.known.specs.declared.Known.{Known}
use Rattle.known.specs.Known.{learned, listed, after_new}
use Rattle.known.proofs.Learned.{learned_stores, known-after-new}
use Rattle.request.specs.Step.{allowed, write}
use Rattle.indexed.specs.Indexed.{Indexed, index_after, write_by}
use Rattle.known_request.specs.Quick.{Quick, stored_known, write_known}
use Rattle.known_request.specs.Promises.{learned_of}
use Rattle.std.specs.Prelude.{Ok, Err}

-- what is known is what would be learned then
abbrev pub Knows : Quick → Type 0
Knows q = q.known ≡ learned_of q.indexed.outcome.lent q.indexed.index

-- the outcome is the one that is asked for, and what is known after a message of bytes is what would be learned then
abbrev pub Right : Bytes → Quick → Indexed → Type 0
Right m q x = (q.indexed ≡ x) × (small m ≡ true → Knows q)

-- a block that look-up did not find is not there, and has bytes
found_none : (log : Bytes) (t : ℕ) (d : Bytes) → lawful t ≡ true → held log t (sha1_of d) ≡ none → (first_of t (sha1_of d) (blocks log) ≡ none) × (1 ≤ length d)
unfolding held
found_none log t d l e = (go (lawful t && same (sha1_of d) zero_score) e, some_bytes log t d l e)
  where
    go : (b : Bool) → cond b (some (empty_row t)) (first_of t (sha1_of d) (blocks log)) ≡ none → first_of t (sha1_of d) (blocks log) ≡ none
    go true q = let z : ◌≡◌ {A = ℕ} 0 1 = cc in absurd (omega arith)
    go false q = q

module _ (date index log w buffer : Bytes) (kind tag : ℕ) (d : Bytes) where
  abbrev L : Lent
  L = beside log w

  abbrev K : Known
  K = learned log w index

  -- what was done by what is stored
  abbrev Done : AfterStore → Type 0
  Done a = Knows (stored_known K date kind tag d index a buffer)

  module _ (dated : is_date date ≡ true) (ok : allowed L ≡ true) (l : lawful kind ≡ true) (le : length d ≤ longest) (sm : small d ≡ true) where
    row-valid : 1 ≤ length d → room_for L (parts_for date d) ≡ true → valid (new_row L date kind d) ≡ true
    unfolding lent_allowed
    row-valid n room =
        valid-row date kind d (used (tape log w)) (length log) (date_or_none date dated) (and-true (log_allowed (length log)) (waiting_allowed (length w)) ok).0 l le n sm
        (omega (arith, (room-reads log w (parts_for date d) room).0, used-joined log w))

    new : held (tape log w) kind (sha1_of d) ≡ none → Done (appended L date kind d)
    unfolding stored_known append_row learned
    new e = go (room_for L (parts_for date d)) refl
      where
        go : (b : Bool) → room_for L (parts_for date d) ≡ b → Done (appended L date kind d)
        go true q = rw q
            (let f = found_none (tape log w) kind d l e in
            ap (λ (n : ℕ). after_new K (parts_for date d) (listed (entered index (sha1_of d) kind (used (tape log w))) (sha1_of d) kind n)) (sym (used-joined log w))
            ∙ sym (known-after-new log w index date kind d (row-valid f.1 q) q f.0))
        go false q = rw q refl

    stored : (o : Option Row) → held (tape log w) kind (sha1_of d) ≡ o → Done (on o (appended L date kind d) (λ (r : Row). compared L r.bytes r.first d))
    unfolding stored_known
    stored none e = new e
    stored (some r) e = go (same r.bytes d)
      where
        go : (b : Bool) → Done (cond b (record { receipt = record { score = sha1_of d; stored = Ok (Duplicate (record { 0 = r.first })) }; lent = L })
            (record { receipt = record { score = sha1_of d; stored = Err Clash }; lent = L }))
        go true = refl
        go false = refl

    store_right : Done (store L date kind d)
    unfolding store
    store_right = stored (held (tape log w) kind (sha1_of d)) refl

  pub write_right : is_date date ≡ true → allowed L ≡ true → Right d (write_known K date kind tag d index log w buffer) (write_by date kind tag d index L buffer)
  unfolding write_known write_by write index_after stored_known
  write_right dated ok = go (not (lawful kind)) refl (ltb longest (length d)) refl
    where
      go : (a : Bool) → not (lawful kind) ≡ a → (b : Bool) → ltb longest (length d) ≡ b
          → Right d (write_known K date kind tag d index log w buffer) (write_by date kind tag d index L buffer)
      go true p b q = rw p (refl, λ _. refl)
      go false p true q = rw (p, q) (refl, λ _. refl)
      go false p false q =
          rw (p, q, learned_stores log w index date kind d)
          (refl, store_right dated ok (not-false (lawful kind) p) (ltb-false longest (length d) q))
