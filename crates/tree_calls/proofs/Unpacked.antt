-- What a caller reads back: each claim of specs/Unpacked.antt.
use mathlib.Core.Path.{refl, sym, ap, ◌∙◌}
use mathlib.Core.List.{[], ◌∷◌}
use Prim.Native.Nat.{◌+◌, ◌<◌}
use native.Mathlib.Omega.{arith}
use Rattle.refusal.specs.Number.{number_of}
use Rattle.fill.specs.Fill.{stop_number, fill_of}
use Rattle.fill.proofs.Tests.{zero-page}
use Rattle.file_laws.proofs.Filled.{fill_refusal}
use Rattle.tree_calls.specs.Tree.{run, run_of, stop_sector}
use Rattle.tree_calls.specs.Unpacked as claims
use Rattle.tree_calls.proofs.Packed.{nothing_lost}
use Rattle.results.proofs.Unpacked.{beside, few}
use Rattle.std.specs.Prelude.{Ok, Err, Result, ⊤}
use Rattle.refusal.specs.declared.Refusal.{Refusal}

pub run_unpacks : claims.RunUnpacks
run_unpacks = nothing_lost

stop_few : (s : Result ⊤ Refusal) → stop_number s < 256
stop_few (Ok tt) = omega arith
stop_few (Err w) = few w

pub fill_refusal_unpacks : claims.FillRefusalUnpacks
fill_refusal_unpacks log waiting b offset d w q =
    nothing_lost log waiting (0 ∷ []) b (offset + (fill_of log waiting b offset d).filled.count)
    ∙ ap run_of (fill_refusal log waiting (0 ∷ []) b offset d w zero-page q)
    ∙ sym (ap (λ (s : Result ⊤ Refusal). run (number_of w) 0 (stop_sector s) 0) q)

pub fill_unpacks : claims.FillUnpacks
fill_unpacks log waiting b offset d =
    let f = (fill_of log waiting b offset d).filled in
    let n = beside (stop_number f.stop) f.count (stop_few f.stop) in
    (n.0, n.1, refl, λ w q. ap stop_sector q, λ q. ap stop_sector q)
