-- Look-up with a count: what the code's answer says of the definition's.
use mathlib.Core.Path.{◌≡◌, refl, sym, ap}
use mathlib.Core.Logic.{◌⊎◌, inl, inr}
use Prim.Native.Nat.{ℕ, ◌≤◌, ◌<◌}
use native.Mathlib.Omega.{arith}
use borrow.Author.Tests.{le-leb, lt-leb}
use lib.ListN.{length}
use Rattle.buffer.specs.Bytes.{Bytes}
use Rattle.refusal.specs.declared.Refusal.{Refusal}
use Rattle.block.specs.declared.Block.{Block}
use Rattle.block.specs.Block.{Row}
use Rattle.sector_log.specs.LookUp.{held, look_up, counted}
use Rattle.sector_log.proofs.Counted.{counted-found, counted-refused, Over}
use Rattle.lookup.proofs.Held.{FoundAt, found-size, look_found, look_absent}
use Rattle.leaf.specs.declared.Extent.{Extent}
use Rattle.leaf.specs.Leaf.{fetched}
use Rattle.std.specs.Prelude.{Ok, Err, Result}

-- refused
pub fetched-refused : (log : Bytes) (t : ℕ) (s : Bytes) (count : ℕ) (f : Row → (Result Extent Refusal)) (y : Refusal)
    → Err y ≡ counted count (look_up log t s) → Err y ≡ fetched log t s count f
fetched-refused log t s count f y e = go (counted-refused count (look_up log t s) y (sym e))
  where
    go : (look_up log t s ≡ Err y) ⊎ Over count (look_up log t s) y → Err y ≡ fetched log t s count f
    go (inl q) = let a = look_absent log t s y q in rw a.0 (ap Err (sym a.1))
    go (inr O) =
        let S = look_found log t s O.place O.found in
        let over : count < length S.row.bytes = omega (arith, O.long, found-size S) in
        rw (S.is_held, lt-leb (length S.row.bytes) count over) (ap Err O.why)

-- found, and what goes on has the row
pub record Fetched (log : Bytes) (t : ℕ) (s : Bytes) (count : ℕ) (b : Block) : Type 0 where
  pub found : FoundAt log (held log t s) b
  pub goes_on : (f : Row → (Result Extent Refusal)) → f found.row ≡ fetched log t s count f

pub fetched-found : (log : Bytes) (t : ℕ) (s : Bytes) (count : ℕ) (b : Block) → Ok b ≡ counted count (look_up log t s) → Fetched log t s count b
fetched-found log t s count b e =
    let p = counted-found count (look_up log t s) b (sym e) in
    let S = look_found log t s b p.0 in
    let few : length S.row.bytes ≤ count = omega (arith, p.1, found-size S) in
    record { found = S; goes_on = λ f. rw (S.is_held, le-leb (length S.row.bytes) count few) refl }
