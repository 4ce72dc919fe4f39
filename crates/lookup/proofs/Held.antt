-- What look-up finds stands in the log at the place that it says: it is a sound block, or the empty one.
use mathlib.Core.Path.{◌≡◌, refl, sym, ap, ◌∙◌, subst}
use mathlib.Core.Bool.{Bool, true, false, ◌&&◌}
use mathlib.Core.Option.{Option, none, some}
use Prim.Native.Nat.{ℕ, ◌+◌, ◌≤◌}
use native.Mathlib.Omega.{arith}
use lib.Dec.{ltb}
use lib.ListN.{length}
use Rattle.bedrock.specs.Choice.{on}
use Rattle.buffer.specs.Bytes.{Bytes, same}
use Rattle.refusal.specs.declared.Refusal.{Refusal}
use Rattle.kind.specs.Kind.{lawful, longest, zero_score}
use Rattle.block.specs.Block.{Row, parts, parts_of, place_of, Inside}
use Rattle.block.specs.declared.Block.{Block}
use Rattle.block.specs.Log.{sectors, used, bytes_of, sound}
use Rattle.block.proofs.Facts.{valid_facts, inside}
use Rattle.block.proofs.Sound.{sound-reads, sound-bytes}
use Rattle.block.proofs.Apart.{sound-used}
use Rattle.reader.specs.Reader.{placed}
use Rattle.reader.proofs.Placed.{placed-some}
use Rattle.sector_log.specs.LookUp.{held, absence, look_up, empty_row}
use Rattle.sector_log.proofs.First.{first-sound}
use Rattle.std.specs.Prelude.{Some, Ok, Err, Option as Optional}

-- a row's bytes are those in the log at its place, in its used part, and no more than the longest block has
pub record Stands (log : Bytes) (r : Row) : Type 0 where
  pub bytes-there : r.bytes ≡ bytes_of log (place_of r)
  pub in_used : r.first + parts r ≤ used log
  pub within : Inside (sectors (length log)) (place_of r)
  pub not_many : length r.bytes ≤ longest

pub sound-stands : (log : Bytes) (r : Row) → sound log r.first ≡ some r → Stands log r
sound-stands log r e =
    let p = sound-reads log r.first r e in
    record {
      bytes-there = sound-bytes log r.first r e;
      in_used = sound-used log r.first r e;
      within = inside r p.0 (sectors (length log)) (omega (arith, p.2));
      not_many =
          (valid_facts r p.0).not_many;
    }

pub empty_stands : (log : Bytes) (t : ℕ) → Stands log (empty_row t)
unfolding parts_of
empty_stands log t = record { bytes-there = refl; in_used = omega arith; within = (omega arith, omega arith); not_many = omega arith }

pub held-stands : (log : Bytes) (t : ℕ) (s : Bytes) (r : Row) → held log t s ≡ some r → Stands log r
unfolding held
held-stands log t s r e = go (lawful t && same s zero_score) refl
  where
    go : (b : Bool) → (lawful t && same s zero_score) ≡ b → Stands log r
    go true q = let y : some (empty_row t) ≡ some r = rw q at e in let z : empty_row t ≡ r = cc in subst (λ (x : Row). Stands log x) z (empty_stands log t)
    go false q = sound-stands log r (first-sound log t s r (rw q at e)).0

-- ---- what was found, by scan, by index or with a count: the row that is held, at its place

pub record FoundAt (log : Bytes) (o : Option Row) (b : Block) : Type 0 where
  pub row : Row
  pub is_held : o ≡ some row
  pub place-of-row : b ≡ place_of row
  pub stands : Stands log row

module _ {log : Bytes} {o : Option Row} {b : Block} (F : FoundAt log o b) where
  pub found_within : (n : ℕ) → sectors (length log) ≡ n → Inside n b
  found_within n h = rw (← h, F.place-of-row) F.stands.within

  pub found-size : b.size ≡ length F.row.bytes
  found-size = ap (λ (x : Block). x.size) F.place-of-row

  pub found-most : b.size ≤ longest
  found-most = omega (arith, found-size, F.stands.not_many)

  pub found-bytes : F.row.bytes ≡ bytes_of log b
  found-bytes = F.stands.bytes-there ∙ ap (bytes_of log) (sym F.place-of-row)

-- by the place that was told
pub placed-found : {log : Bytes} {o : Option Row} {p : Optional Block} {b : Block} → ((r : Row) → o ≡ some r → Stands log r) → p ≡ placed o → p ≡ Some b → FoundAt log o b
placed-found {log} {o} {p} {b} f e z = let q = placed-some o p b e z in record { row = q.0; is_held = q.1; place-of-row = q.2; stands = f q.0 q.1 }

-- a row that is held and not longer than a count
pub record HeldWithin (o : Option Row) (count : ℕ) (r : Row) : Type 0 where
  pub row-held : o ≡ some r
  pub within_count : ltb count (length r.bytes) ≡ false

-- the answer of a look-up, by what is held
module _ (log : Bytes) (o : Option Row) (why : Refusal) where
  pub answer-found : ((r : Row) → o ≡ some r → Stands log r) → (b : Block) → on o (Err why) (λ (r : Row). Ok (place_of r)) ≡ Ok b → FoundAt log o b
  answer-found f b e = go o refl e
    where
      go : (x : Option Row) → o ≡ x → on x (Err why) (λ (r : Row). Ok (place_of r)) ≡ Ok b → FoundAt log o b
      go none q d = let y : ◌≡◌ {A = ℕ} 0 1 = cc in absurd (omega arith)
      go (some r) q d = record { row = r; is_held = q; place-of-row = cc; stands = f r q }

  pub answer-absent : (w : Refusal) → on o (Err why) (λ (r : Row). Ok (place_of r)) ≡ Err w → (o ≡ none) × (why ≡ w)
  answer-absent w e = go o refl e
    where
      go : (x : Option Row) → o ≡ x → on x (Err why) (λ (r : Row). Ok (place_of r)) ≡ Err w → (o ≡ none) × (why ≡ w)
      go none q d = (q, cc)
      go (some r) q d = let y : ◌≡◌ {A = ℕ} 0 1 = cc in absurd (omega arith)

-- by scan
module _ (log : Bytes) (t : ℕ) (s : Bytes) where
  pub look_found : (b : Block) → look_up log t s ≡ Ok b → FoundAt log (held log t s) b
  unfolding look_up
  look_found b e = answer-found log (held log t s) (absence log) (held-stands log t s) b e

  pub look_absent : (w : Refusal) → look_up log t s ≡ Err w → (held log t s ≡ none) × (absence log ≡ w)
  unfolding look_up
  look_absent w e = answer-absent log (held log t s) (absence log) w e
