-- What a caller reads back: each claim of specs/Unpacked.antt.
use mathlib.Core.Path.{◌≡◌, ap, ◌∙◌}
use Prim.Native.Nat.{ℕ, ◌+◌, ◌*◌, ◌/◌, ◌%◌, ◌≤◌, ◌<◌}
use native.Mathlib.Omega.{arith}
use Rattle.visit.specs.declared.Walked.{Walked}
use Rattle.walk.specs.Walk.{walk_of, most_allowance}
use Rattle.visit.specs.Visit.{end_number}
use Rattle.walk_calls.specs.Walked.{end_sector, walk_result}
use Rattle.walk_calls.specs.Unpacked as claims
use Rattle.results.specs.Unpacked.{number_in}
use Rattle.walk_calls.proofs.Visits.{walk-within}
use Rattle.results.proofs.Unpacked.{few}
use Rattle.std.specs.Prelude.{Ok, Err, Result, ⊤}
use Rattle.refusal.specs.declared.Refusal.{Refusal}

end_few : (e : Result ⊤ Refusal) → end_number e < 256
end_few (Ok tt) = omega arith
end_few (Err w) = few w

-- the answer of a walk, or of a copy, whose visits are few
pub walked_back : (w : Walked) → w.visits ≤ most_allowance
    → (number_in (walk_result w) ≡ end_number w.end) × (claims.visits_in (walk_result w) ≡ w.visits) × (claims.sector_in (walk_result w) ≡ end_sector w.end)
walked_back w short =
    let n = end_number w.end in
    let v = w.visits in
    let s = end_sector w.end in
    let r = n + 256 * (v + 1048576 * s) in
    let few = end_few w.end in
    let u : r / 256 ≡ v + 1048576 * s = omega arith in
    (omega arith, ap (λ (x : ℕ). x % 1048576) u ∙ omega arith, ap (λ (x : ℕ). x / 1048576) u ∙ omega arith)

pub walk_unpacks : claims.WalkUnpacks
walk_unpacks log waiting score allowance = walked_back (walk_of log waiting score allowance) (walk-within log waiting score allowance).1.few
