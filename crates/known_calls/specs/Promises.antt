-- What is promised of what is known, as bytes.
use Rattle.std.specs.Prelude.{◌≡◌, true, ℕ, ◌<◌, ◌^◌, length}
use Rattle.std.proofs.Math.Option.{some}
use Rattle.digits.specs.Number.{small}
use Rattle.buffer.specs.Bytes.{Bytes}
use Rattle.sector_log.specs.Parts.{beside}
use Rattle.known.specs.declared.Known.{Known}
use Rattle.known.specs.Known.{learned}
use Rattle.indexed.specs.Indexed.{step_by}
use Rattle.known_request.specs.Promises.{learned_of}
use Rattle.session_numbers.specs.Serve.{session_of, served_of}
use Rattle.known_bytes.specs.KnownBytes.{doubt_number, known_bytes, known_of}
use Rattle.known_calls.specs.Calls.{serve_asked}

-- numbers that eight bytes hold
abbrev pub Fits : Known → Type 0
Fits k = (k.used.0 < 2 ^ 64) × (k.waits.0 < 2 ^ 64) × (doubt_number k.doubt < 2 ^ 64)

-- written to bytes and read back, it is what it was
abbrev pub ReadsBack : Type 0
ReadsBack = (k : Known) → Fits k → known_of (known_bytes k) ≡ k

-- and it is 25 bytes
abbrev pub HasLength : Type 0
HasLength = (k : Known) → length (known_bytes k) ≡ 25

-- what is learned of any lent log and waiting part fits
abbrev pub LearnedFits : Type 0
LearnedFits = (log waiting index : Bytes) → length log < 2 ^ 64 → length waiting < 2 ^ 64 → Fits (learned log waiting index)

-- "if the `Known` is what `learn` would say of this log, waiting part and index, then number, reply, session, log, waiting part and index are exactly those of
-- `serve`, and the new `Known` is again what `learn` would say" (the latter of a message of bytes), of the call that is lent what is known as bytes
abbrev pub CallIsServe : Type 0
CallIsServe = (session : ℕ) (m date index log waiting reply : Bytes) → length log < 2 ^ 64 → length waiting < 2 ^ 64
    → let a = serve_asked session m date index log waiting reply (known_bytes (learned log waiting index)) in
    let x = step_by (session_of session) m (some date) index (beside log waiting) reply in
    (a.served ≡ served_of x) × (small m ≡ true → a.known ≡ known_bytes (learned_of x.outcome.lent x.index))
