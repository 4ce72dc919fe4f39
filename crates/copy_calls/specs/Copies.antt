-- The answer of a copy, in one number, beside the second log; and what a caller reads back.
use Rattle.std.specs.Prelude.{◌≡◌, ℕ}
use Rattle.buffer.specs.Bytes.{Bytes}
use Rattle.visit.specs.Visit.{end_number}
use Rattle.copying.specs.Copy.{Copied, copy_of}
use Rattle.walk_calls.specs.Walked.{end_sector, walk_result}
use Rattle.results.specs.Unpacked.{number_in}
use Rattle.walk_calls.specs.Unpacked.{visits_in, sector_in}

-- what a copy gives: its result, packed as a walk's, and what the lent second log then holds
pub record Transfer : Type 0 where
  pub result : ℕ
  pub second : Bytes

abbrev pub transfer : ℕ → Bytes → Transfer
transfer r s = record { result = r; second = s }

abbrev pub copy_result : Copied → Transfer
copy_result c = transfer (walk_result c.answer) c.second

-- the number, the visits, the sector that it tells of, and the second log as it then is
abbrev pub CopyUnpacks : Type 0
CopyUnpacks = (log waiting date score second : Bytes) (allowance : ℕ)
    → let c = copy_of log waiting date score second allowance in
    let r = copy_result c in
    (number_in r.result ≡ end_number c.answer.end)
    × (visits_in r.result ≡ c.answer.visits)
    × (sector_in r.result ≡ end_sector c.answer.end)
    × (r.second ≡ c.second)
