-- What is promised of a request by what is known.
use Rattle.std.specs.Prelude.{◌≡◌, true, []}
use Rattle.std.proofs.Math.Option.{some}
use Rattle.bedrock.specs.Choice.{on}
use Rattle.digits.specs.Number.{small}
use Rattle.buffer.specs.Bytes.{Bytes}
use Rattle.sector_log.specs.Parts.{Lent, beside}
use Rattle.known.specs.declared.Known.{Known}
use Rattle.known.specs.Known.{learned}
use Rattle.request.specs.declared.Session.{Session}
use Rattle.indexed.specs.Indexed.{step_by}
use Rattle.known_request.specs.Quick.{step_known}

-- what would be learned of what is lent: where no waiting part is, nothing waits
abbrev pub learned_of : Lent → Bytes → Known
learned_of L index = learned L.log (on L.waiting [] (λ w. w)) index

-- "if the `Known` is what `learn` would say of this log, waiting part and index, then number, reply, session, log, waiting part and index are exactly those of
-- `serve`, and the new `Known` is again what `learn` would say": the latter of a message of bytes, since a block of anything else is not sound
abbrev pub QuickIsServe : Type 0
QuickIsServe = (k : Known) (s : Session) (m date index log waiting buffer : Bytes) → k ≡ learned log waiting index
    → let q = step_known k s m date index log waiting buffer in
    (q.indexed ≡ step_by s m (some date) index (beside log waiting) buffer)
    × (small m ≡ true → q.known ≡ learned_of q.indexed.outcome.lent q.indexed.index)
