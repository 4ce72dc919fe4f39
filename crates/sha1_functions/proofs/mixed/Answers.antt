use mathlib.Core.Path.{refl, sym, ◌∙◌}
use Rattle.sha1_functions.specs.Functions.{f_of}
use Rattle.sha1_functions.proofs.Tops.{from-three}
use Rattle.sha1_functions.proofs.mixed.Goals as goal

pub returns-in-0 : goal.returns-in-0
returns-in-0 c = rw c.in-0.is c.ch.ensures

pub returns-in-1 : goal.returns-in-1
returns-in-1 c = rw c.in-1.is c.parity.ensures

pub returns-in-2 : goal.returns-in-2
returns-in-2 c = rw c.in-2.is c.maj.ensures

pub returns-in_default : goal.returns-in_default
returns-in_default c =
    let m = c.in_default.in_default-own.rest in
    let a = c.args in
    c.parity-in_default.ensures ∙ sym (from-three (λ q. f_of q a.x a.y a.z) _ (λ n. refl) _ m.0.0.1 m.0.1 m.1)
