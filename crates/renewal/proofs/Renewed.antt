-- What is known, or what is learned where that cannot belong, one case for each return of the code.
use mathlib.Core.Path.{◌≡◌, sym, ap, ◌∙◌}
use mathlib.Core.Bool.{Bool, true, false}
use lib.ListN.{length}
use Rattle.buffer.specs.Bytes.{Bytes}
use Rattle.known.specs.declared.Known.{Known}
use Rattle.known.specs.Known.{learned, belongs}
use Rattle.known.proofs.Belongs.{learned-belongs}
use Rattle.known_request.specs.Quick.{renewed}

module _ (k : Known) (log w index : Bytes) (b : Bool) (e : b ≡ belongs k (length log) (length w)) where
  pub stays : b ≡ true → (belongs k (length log) (length w) ≡ true) × (k ≡ renewed k log w index)
  stays q = (sym e ∙ q, rw (sym e ∙ q))

  pub anew : b ≡ false → (x : Known) → x ≡ learned log w index → (belongs x (length log) (length w) ≡ true) × (x ≡ renewed k log w index)
  anew q x h = (ap (λ (y : Known). belongs y (length log) (length w)) h ∙ learned-belongs log w index, rw (sym e ∙ q) h)
