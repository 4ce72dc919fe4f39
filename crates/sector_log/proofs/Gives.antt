-- What a look-up gives, in numbers; the sector that 12 carries.
use mathlib.Core.Path.{◌≡◌, refl, sym, ap, ◌∙◌}
use mathlib.Core.Bool.{Bool, true, false}
use Prim.Native.Nat.{ℕ, ◌<◌}
use native.Mathlib.Omega.{arith}
use lib.Dec.{ltb}
use borrow.Author.Tests.{ltb-true, ltb-false}
use Rattle.refusal.specs.Number.{number_of, told_sector}
use Rattle.refusal.specs.declared.Refusal.TheVariants.{NotKnown, NotHeld}
use Rattle.block.specs.Log.{used}
use Rattle.sector_log.specs.LookUp.{blocks, in_block, first_doubtful, look_up}
use Rattle.sector_log.specs.Promises.{LookUpGives, TwelveIsFirst}
use Rattle.sector_log.proofs.FirstDoubt.{outside-at, inside-before, absence-known, absence-held}

pub look_up_gives : LookUpGives
unfolding look_up
look_up_gives log t s = (λ r e. (rw e, rw e), λ e. (rw e, rw e, rw e))

pub twelve_is-first : TwelveIsFirst
unfolding first_doubtful
twelve_is-first log n e = go (ltb (first_doubtful log) (used log)) refl
  where
    go : (b : Bool) → ltb (first_doubtful log) (used log) ≡ b
        → (n.0 < used log) × (in_block (blocks log) n.0 ≡ false) × ((k : ℕ) → k < n.0 → in_block (blocks log) k ≡ true)
    go true q =
        let lt = ltb-true (first_doubtful log) (used log) q in
        let here : n.0 ≡ first_doubtful log = ap told_sector (sym e ∙ absence-known log lt) in (
          omega (arith, here),
          ap (in_block (blocks log)) here ∙ outside-at (blocks log) (used log) 0 (omega arith),
          λ k h. inside-before (blocks log) (used log) 0 k (omega arith) (omega (arith, here)),
        )
    go false q =
        let z : number_of (NotKnown n) ≡ number_of NotHeld = ap number_of (sym e ∙ absence-held log (ltb-false (first_doubtful log) (used log) q)) in
        absurd (omega arith)
