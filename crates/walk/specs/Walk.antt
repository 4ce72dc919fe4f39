-- "Walking from a root score", by look-up's definition.
use Rattle.std.specs.Prelude.{Bool, cond, ℕ, ◌+◌, ◌-◌, ltb, length, Err}
use Rattle.buffer.specs.Bytes.{Bytes}
use Rattle.refusal.specs.declared.Refusal.TheVariants.{LogLength, Entry as IllFormed, Allowance}
use Rattle.kind.specs.Kind.{longest}
use Rattle.sector_log.specs.LookUp.{lent_allowed}
use Rattle.sector_log.specs.Parts.{tape}
use Rattle.entry.specs.Root.{root_well_formed, root_score}
use Rattle.visit.specs.declared.Walked.{Walked}
use Rattle.visit.specs.Visit.{walked, visiting}
use Rattle.descent.specs.Descent.{padded_to, visit_directory}

-- "its directory block (type 2, count 57,344, nest 1)"
unfoldable pub walk_top : Bytes → Bytes → ℕ → Walked
walk_top log score left = visiting log 1 left 2 longest score (λ b. visit_directory (left + left + 2) log 1 b (left - 1))

-- "The root (count 300, padded to 300) leads to its directory block"; its own nest is not given: 0
unfoldable pub walk_root : Bytes → Bytes → ℕ → Walked
walk_root log score left =
    visiting log 0 left 1 300 score
    (λ b. cond (root_well_formed (padded_to 300 b)) (walk_top log (root_score (padded_to 300 b)) (left - 1)) (walked 0 (Err IllFormed)))

-- "allowance over 1,000,000" is refused with 23
abbrev pub most_allowance : ℕ
most_allowance = 1000000

-- "Tests: 3, 23", in one log of bytes, where `lent` is what test 3 gave
unfoldable pub walk_in : Bool → Bytes → Bytes → ℕ → Walked
walk_in lent log score allowance =
    cond lent
    (cond (ltb most_allowance allowance) (walked 0 (Err Allowance)) (walk_root log score allowance))
    (walked 0 (Err LogLength))

-- the same in "the log's used part and then the waiting part as one log"
abbrev pub walk_of : Bytes → Bytes → Bytes → ℕ → Walked
walk_of log waiting score allowance = walk_in (lent_allowed (length log) (length waiting)) (tape log waiting) score allowance
