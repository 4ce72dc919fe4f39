-- What a caller reads back: each claim of specs/Unpacked.antt.
use mathlib.Core.Path.{◌≡◌}
use mathlib.Core.Bool.{Bool, true, false, cond}
use Prim.Native.Nat.{◌*◌}
use lib.ListN.{length}
use Rattle.refusal.specs.Number.{number_of}
use Rattle.refusal.specs.declared.Refusal.TheVariants.{LogLength}
use Rattle.block.specs.Log.{sound}
use Rattle.sector_log.specs.LookUp.{log_allowed}
use Rattle.survey_calls.specs.Survey.{sound_result, size_of}
use Rattle.survey_calls.specs.Unpacked as claims
use Rattle.results.specs.Unpacked.{number_in, answer_in}
use Rattle.results.proofs.Unpacked.{refused-alone, above}
use Rattle.std.specs.Prelude.{Ok, Err}

pub report_unpacks : claims.ReportUnpacks
report_unpacks (Ok n) = above n
report_unpacks (Err w) = refused-alone w

pub sound_unpacks : claims.SoundUnpacks
unfolding sound_result
sound_unpacks log n = go (log_allowed (length log))
  where
    go : (a : Bool) → (number_in (cond a (256 * size_of (sound log n)) (number_of LogLength)) ≡ cond a 0 (number_of LogLength))
        × (answer_in (cond a (256 * size_of (sound log n)) (number_of LogLength)) ≡ cond a (size_of (sound log n)) 0)
    go true = above (size_of (sound log n))
    go false = refused-alone LogLength
