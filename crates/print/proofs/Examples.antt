-- Numbers in decimal, as the definition has them.
use mathlib.Core.Path.{◌≡◌, refl, ap, ◌∙◌}
use mathlib.Core.List.{[], ◌∷◌, ◌++◌}
use native.Mathlib.Omega.{arith}
use Rattle.buffer.specs.Bytes.{Bytes}
use Rattle.sector_log.specs.LookUp.{most_sectors}
use Rattle.print.specs.Text.{digits, decimal}
use Rattle.print.proofs.Decimal.{decimal-more}

zero_digit : decimal 0 ≡ 48 ∷ []
unfolding decimal digits
zero_digit = refl

thousands : decimal 1048 ≡ 49 ∷ 48 ∷ 52 ∷ 56 ∷ []
unfolding decimal digits
thousands = refl

-- 1,048, and three digits more
most-sectors : decimal most_sectors ≡ 49 ∷ 48 ∷ 52 ∷ 56 ∷ 53 ∷ 55 ∷ 54 ∷ []
most-sectors =
    decimal-more most_sectors (omega arith)
    ∙ ap (λ (x : Bytes). x ++ (54 ∷ [])) (decimal-more 104857 (omega arith) ∙ ap (λ (x : Bytes). x ++ (55 ∷ [])) (decimal-more 10485 (omega arith) ∙ ap (λ (x : Bytes). x ++ (53 ∷ [])) thousands))
