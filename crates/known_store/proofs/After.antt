-- What is known after a store, case by case.
use mathlib.Core.Path.{◌≡◌, sym, ap, ◌∙◌}
use mathlib.Core.Bool.{Bool, ◌&&◌}
use Prim.Native.Nat.{ℕ, ◌+◌}
use Rattle.sector_log.specs.declared.Stored.{Stored}
use Rattle.sector_log.specs.declared.Stored.TheVariants.{New}
use Rattle.sector_number.specs.declared.SectorNumber.{SectorNumber}
use Rattle.known.specs.declared.Known.{Known}
use Rattle.known.specs.Known.{known_after}
use Rattle.std.specs.Prelude.{Ok, Result}
use Rattle.refusal.specs.declared.Refusal.{Refusal}

pub was_new : (k : Known) (s : Result Stored Refusal) (at : SectorNumber) (n : ℕ) (b x : Bool) → s ≡ Ok (New at) → x ≡ (k.exact && b)
    → ◌≡◌ {A = Known} (record { used = k.used; waits = record { 0 = k.waits.0 + n }; doubt = k.doubt; exact = x }) (known_after k s n b)
was_new k s at n b x e f =
    ap (λ (y : Bool). record { used = k.used; waits = record { 0 = k.waits.0 + n }; doubt = k.doubt; exact = y }) f ∙ ap (λ (y : Result Stored Refusal). known_after k y n b) (sym e)
