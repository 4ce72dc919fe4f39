-- A walk: what a caller reads back from the number is what the definition says.
use Rattle.std.specs.Prelude.{◌≡◌, ℕ, ◌/◌, ◌%◌}
use Rattle.buffer.specs.Bytes.{Bytes}
use Rattle.walk.specs.Walk.{walk_of}
use Rattle.visit.specs.Visit.{end_number}
use Rattle.walk_calls.specs.Walked.{walk_result, end_sector}
use Rattle.results.specs.Sizes.{above_visits}
use Rattle.results.specs.Unpacked.{number_in}

-- a walk: the number, the visits, and the sector that it tells of
abbrev pub visits_in : ℕ → ℕ
visits_in r = r / 256 % above_visits

abbrev pub sector_in : ℕ → ℕ
sector_in r = r / 256 / above_visits

abbrev pub WalkUnpacks : Type 0
WalkUnpacks = (log waiting score : Bytes) (allowance : ℕ)
    → let w = walk_of log waiting score allowance in
    (number_in (walk_result w) ≡ end_number w.end) × (visits_in (walk_result w) ≡ w.visits) × (sector_in (walk_result w) ≡ end_sector w.end)
