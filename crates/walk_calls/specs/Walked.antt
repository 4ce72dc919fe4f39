-- The answer of a walk in one number.
use Rattle.std.specs.Prelude.{ℕ, ◌+◌, ◌*◌, Ok, Err, Result, ⊤}
use Rattle.refusal.specs.Number.{told_sector}
use Rattle.visit.specs.declared.Walked.{Walked}
use Rattle.visit.specs.Visit.{end_number}
use Rattle.results.specs.Sizes.{above_visits}
use Rattle.refusal.specs.declared.Refusal.{Refusal}

-- the sector that the end of a walk tells of, 0 where it tells of none
abbrev pub end_sector : Result ⊤ Refusal → ℕ
end_sector (Ok tt) = 0
end_sector (Err w) = told_sector w

-- the number of the refusal, 0 for none; 256 times the visits, which take 20 bits; above them the sector
abbrev pub walk_result : Walked → ℕ
walk_result w = end_number w.end + 256 * (w.visits + above_visits * end_sector w.end)
