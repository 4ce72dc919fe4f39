-- Two walks that end at once, on any log and waiting part that are allowed.
use mathlib.Core.Path.{◌≡◌}
use mathlib.Core.Bool.{true}
use lib.ListN.{length}
use Rattle.buffer.specs.Bytes.{Bytes}
use Rattle.buffer.proofs.Bytes.{same_refl}
use Rattle.digits.specs.Number.{value_from}
use Rattle.refusal.specs.declared.Refusal.TheVariants.{Spent, Entry as IllFormed}
use Rattle.kind.specs.Kind.{lawful, zero_score}
use Rattle.sector_log.specs.LookUp.{held, lent_allowed}
use Rattle.entry.specs.Root.{root_well_formed}
use Rattle.visit.specs.Visit.{walked, visiting}
use Rattle.walk.specs.Walk.{walk_root, walk_in, walk_of}
use Rattle.std.specs.Prelude.{Err}

-- an allowance of nothing: 21, no visit
pub nothing_left : (log waiting score : Bytes) → lent_allowed (length log) (length waiting) ≡ true → walk_of log waiting score 0 ≡ walked 0 (Err Spent)
unfolding walk_in walk_root visiting
nothing_left log waiting score e = rw e

-- the zero score is the empty block, padded to a root of version 0: 16, one visit
pub zero-root : (log waiting : Bytes) → lent_allowed (length log) (length waiting) ≡ true → walk_of log waiting zero_score 1 ≡ walked 1 (Err IllFormed)
unfolding walk_in walk_root visiting held lawful root_well_formed value_from
zero-root log waiting e = rw (e, same_refl zero_score)
