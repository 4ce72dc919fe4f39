-- The survey of a log.
use Rattle.std.specs.Prelude.{length}
use Rattle.buffer.specs.Bytes.{Bytes}
use Rattle.sector_log.specs.LookUp.{blocks, doubtful}
use Rattle.survey.specs.declared.Survey.{Survey}

-- "records the sound blocks", and the doubtful sectors
abbrev pub survey_of : Bytes → Survey
survey_of log = record { records = length (blocks log); doubtful = doubtful log }
