-- What is promised of look-up and doubt, for any log.
use Rattle.std.specs.Prelude.{◌≡◌, true, false, cond, [], ◌∷◌, ◌++◌, ℕ, suc, ◌+◌, ◌≤◌, ◌<◌, length, Err}
use Rattle.std.proofs.Math.Option.{none, some}
use Rattle.buffer.specs.Bytes.{Bytes}
use Rattle.sector_number.specs.declared.SectorNumber.{SectorNumber}
use Rattle.refusal.specs.Number.{number_of, told_sector}
use Rattle.refusal.specs.declared.Refusal.TheVariants.{LogLength, BlockType, NotKnown}
use Rattle.kind.specs.Kind.{lawful}
use Rattle.block.specs.Block.{Row, parts, place_of, valid, written}
use Rattle.block.specs.Log.{sectors, Alike, used, sound}
use Rattle.sector_log.specs.Parts.{tape, written_from, moved}
use Rattle.sector_log.specs.LookUp.{blocks, in_block, outside, first_doubtful, held, absence, look_up, look_number, look_place, look_sector, log_allowed, look_up_asked}

-- appending hides nothing: what look-up found it finds again, at the same place
abbrev pub HeldStays : Type 0
HeldStays = (log : Bytes) (r : Row) → valid r ≡ true → r.first ≡ used log → r.first + parts r ≤ sectors (length log)
    → (t : ℕ) (s : Bytes) (x : Row) → held log t s ≡ some x → held (written log r) t s ≡ some x

-- appending adds one sound block, behind all others, and no other
abbrev pub BlocksAppended : Type 0
BlocksAppended = (log : Bytes) (r : Row) → valid r ≡ true → r.first ≡ used log → r.first + parts r ≤ sectors (length log)
    → blocks (written log r) ≡ blocks log ++ (r ∷ [])

-- and what is appended is found, where no block of its type and score was
abbrev pub AppendedIsHeld : Type 0
AppendedIsHeld = (log : Bytes) (r : Row) → valid r ≡ true → r.first ≡ used log → r.first + parts r ≤ sectors (length log)
    → held log r.kind r.score ≡ none → held (written log r) r.kind r.score ≡ some r

-- a row that is written among the waiting sectors is written behind both parts, read as one log
abbrev pub WrittenBehindBoth : Type 0
WrittenBehindBoth = (log waiting : Bytes) (r : Row) → used log ≤ r.first → tape log (written_from (used log) waiting r) ≡ written (tape log waiting) r

-- moving the waiting sectors into the log changes none of them, and its used part is then that of both
abbrev pub MovedAlike : Type 0
MovedAlike = (log waiting : Bytes) → used log + used waiting ≤ sectors (length log)
    → Alike (moved log waiting) (tape log waiting) × (used (moved log waiting) ≡ used (tape log waiting))

-- a pass from the front stands at n: no block that starts before n reaches past it
abbrev pub PassedTo : Bytes → ℕ → Type 0
PassedTo log n = (m : ℕ) (r : Row) → m < n → sound log m ≡ some r → m + parts r ≤ n

-- where no block starts it passes one sector, and that one is doubtful;
abbrev pub DoubtNone : Type 0
DoubtNone = (log : Bytes) (n : ℕ) → PassedTo log n → sound log n ≡ none → outside (blocks log) (n + 1) ≡ suc (outside (blocks log) n)

-- where one starts it passes all of its sectors, and none of them is
abbrev pub DoubtSome : Type 0
DoubtSome = (log : Bytes) (n : ℕ) (r : Row) → sound log n ≡ some r → outside (blocks log) (n + parts r) ≡ outside (blocks log) n

-- one pass from the front finds the first doubtful sector: n, where all sectors before it are in blocks and it is in none;
abbrev pub FirstAt : Type 0
FirstAt = (log : Bytes) (n : ℕ) → outside (blocks log) n ≡ 0 → n < used log → in_block (blocks log) n ≡ false → first_doubtful log ≡ n

-- the end of the used part, where all of it is in blocks
abbrev pub FirstEnd : Type 0
FirstEnd = (log : Bytes) (n : ℕ) → outside (blocks log) n ≡ 0 → used log ≤ n → first_doubtful log ≡ used log

-- "gives this paper's number and values": 0 with the place of the block that is found; else 12 or 11, and no place
abbrev pub LookUpGives : Type 0
LookUpGives = (log : Bytes) (t : ℕ) (s : Bytes)
    → ((r : Row) → held log t s ≡ some r → (look_number (look_up log t s) ≡ 0) × (look_place (look_up log t s) ≡ some (place_of r)))
    × (held log t s ≡ none
    → (look_number (look_up log t s) ≡ number_of (absence log)) × (look_place (look_up log t s) ≡ none) × (look_sector (look_up log t s) ≡ told_sector (absence log)))

-- "the first doubtful sector's number": the one that 12 carries is in the used part and in no sound block, and each before it is in one
abbrev pub TwelveIsFirst : Type 0
TwelveIsFirst = (log : Bytes) (n : SectorNumber) → absence log ≡ NotKnown n
    → (n.0 < used log) × (in_block (blocks log) n.0 ≡ false) × ((k : ℕ) → k < n.0 → in_block (blocks log) k ≡ true)

-- two logs with the same sectors have the same used part, sound blocks, look-up and first doubtful sector
abbrev pub AlikeAnswers : Type 0
AlikeAnswers = (a b : Bytes) → Alike a b
    → (used a ≡ used b) × ((n : ℕ) → sound a n ≡ sound b n) × ((t : ℕ) (s : Bytes) → look_up a t s ≡ look_up b t s) × (first_doubtful a ≡ first_doubtful b)

-- where nothing waits, look-up is the log's alone
abbrev pub LookUpAlone : Type 0
LookUpAlone = (log : Bytes) (t : ℕ) (s : Bytes)
    → (look_up (tape log []) t s ≡ look_up log t s)
    × (look_up_asked log [] t s ≡ cond (log_allowed (length log)) (cond (lawful t) (look_up log t s) (Err BlockType)) (Err LogLength))
