-- A session and a request: what a caller reads back from the number is what the definition says.
use Rattle.std.specs.Prelude.{◌≡◌}
use Rattle.std.proofs.Math.Option.{Option}
use Rattle.buffer.specs.Bytes.{Bytes}
use Rattle.sector_log.specs.Parts.{Lent}
use Rattle.indexed.specs.Indexed.{step_by}
use Rattle.request.specs.declared.Session.{Session}
use Rattle.session_numbers.specs.Serve.{session_of, session_number, served_of}
use Rattle.results.specs.Unpacked.{number_in, answer_in}

-- a session handed out as a number and back in is the same: a host that does so runs the theorem's sessions
abbrev pub SessionGoesRound : Type 0
SessionGoesRound = (s : Session) → session_of (session_number s) ≡ s

abbrev pub RequestUnpacks : Type 0
RequestUnpacks = (s : Session) (m : Bytes) (date : Option Bytes) (index : Bytes) (L : Lent) (buffer : Bytes)
    → let x = step_by s m date index L buffer in
    (number_in (served_of x).result ≡ x.outcome.number) × (session_of (answer_in (served_of x).result) ≡ x.outcome.session)
