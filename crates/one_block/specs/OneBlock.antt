-- One block of a log, found by an index without the rest of the log.
use Rattle.std.specs.Prelude.{◌≡◌, true, [], ◌⊎◌, ℕ, ◌+◌, ◌≤◌, ◌<◌, length}
use Rattle.std.proofs.Math.Option.{Option, some}
use Rattle.buffer.specs.Bytes.{Bytes}
use Rattle.sector.specs.Sector.{blank}
use Rattle.block.specs.Block.{Row, parts}
use Rattle.block.specs.Log.{sectors, at}
use Rattle.sector_log.specs.LookUp.{log_allowed}
use Rattle.sector_log.specs.Parts.{beside}
use Rattle.hint.specs.Hint.{sound_with, held_by}
use Rattle.hint.specs.Promises.{NoClash}
use Rattle.hint.specs.Tells.{tells}
use Rattle.message.specs.Message.{score_of, request_of}
use Rattle.message.specs.declared.Request.TheVariants.{Read}
use Rattle.request.specs.Step.{Outcome}
use Rattle.request.specs.declared.Session.{Session}
use Rattle.indexed.specs.Indexed.{step_by}

-- the first entry of the bucket that names a type and score tells sector n, and in a log that may have anything elsewhere a sound block of them stands there
abbrev pub LedTo : Bytes → Bytes → ℕ → Bytes → ℕ → Row → Type 0
LedTo other index t s n r = (tells index t s n ≡ true) × (sound_with other n t s ≡ some r)

-- a log has the sectors of that block
abbrev pub AlsoHas : Bytes → Bytes → ℕ → Row → Type 0
AlsoHas log other n r = (n + parts r ≤ sectors (length log)) × ((k : ℕ) → k < parts r → at log (n + k) ≡ at other (n + k))

-- then it finds the same by this index
abbrev pub OneBlockSuffices : Type 0
OneBlockSuffices = (log other index : Bytes) (t : ℕ) (s : Bytes) (n : ℕ) (r : Row) → LedTo other index t s n r → AlsoHas log other n r
    → held_by log index t s ≡ held_by other index t s

-- what is told of a request: number, session and reply buffer
abbrev pub SameAnswer : Outcome → Outcome → Type 0
SameAnswer a b = (a.number ≡ b.number) × (a.session ≡ b.session) × (a.reply ≡ b.reply)

-- and a read message for it, with either log lent and nothing waiting, is answered alike: the two lengths may differ, if both are allowed or neither is
abbrev pub ReadSuffices : Type 0
ReadSuffices = (session : Session) (m : Bytes) (date : Option Bytes) (index log other buffer : Bytes) (t count n : ℕ) (r : Row) → request_of m ≡ Read t count
    → LedTo other index t (score_of m) n r → AlsoHas log other n r → log_allowed (length log) ≡ log_allowed (length other)
    → SameAnswer (step_by session m date index (beside log []) buffer).outcome (step_by session m date index (beside other []) buffer).outcome

-- a log that has some sectors of another and is blank elsewhere
abbrev pub PartOf : Bytes → Bytes → Type 0
PartOf part log = (k : ℕ) → (at part k ≡ at log k) ⊎ (at part k ≡ blank)

-- where a read is answered from a part of a log, wherever in it the block was found, it is answered alike from the whole, if there "sound blocks of one score and
-- type have the same bytes"
abbrev pub PartSuffices : Type 0
PartSuffices = (session : Session) (m : Bytes) (date : Option Bytes) (index log part buffer : Bytes) (t count : ℕ) → request_of m ≡ Read t count
    → NoClash log → PartOf part log → log_allowed (length log) ≡ log_allowed (length part)
    → (step_by session m date index (beside part []) buffer).outcome.number ≡ 0
    → SameAnswer (step_by session m date index (beside log []) buffer).outcome (step_by session m date index (beside part []) buffer).outcome
