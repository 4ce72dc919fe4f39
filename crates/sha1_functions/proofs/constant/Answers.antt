use mathlib.Core.Path.{refl, sym}
use Rattle.sha1_functions.specs.Functions.{k_of}
use Rattle.sha1_functions.proofs.Tops.{from-three}
use Rattle.sha1_functions.proofs.constant.Goals as goal

pub returns-in_default : goal.returns-in_default
returns-in_default c = let m = c.in_default.in_default-own.rest in sym (from-three k_of _ (λ n. refl) _ m.0.0.1 m.0.1 m.1)
