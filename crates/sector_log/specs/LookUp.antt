-- Look-up of a score and type in any log, and what is doubtful there.
use Rattle.std.specs.Prelude.{Bool, false, cond, ◌&&◌, ◌||◌, List, [], ◌∷◌, ℕ, zero, suc, ◌%◌, leb, ltb, eqb, length, Ok, Err, Result}
use Rattle.std.proofs.Math.Option.{Option, none, some}
use Rattle.bedrock.specs.Choice.{on}
use Rattle.bedrock.specs.Places.{found_from, within}
use Rattle.buffer.specs.Bytes.{Bytes, same}
use Rattle.kind.specs.Kind.{lawful, zero_score}
use Rattle.refusal.specs.Number.{number_of, told_sector}
use Rattle.refusal.specs.declared.Refusal.{Refusal}
use Rattle.refusal.specs.declared.Refusal.TheVariants.{LogLength, BlockType, NotHeld, NotKnown, OverCount}
use Rattle.block.specs.Block.{Row, parts, place_of}
use Rattle.block.specs.declared.Block.{Block}
use Rattle.block.specs.Log.{sectors, used, sound}
use Rattle.sector_log.specs.Parts.{tape}
use Rattle.sector.specs.Sector.{sector_length}

-- the sound blocks, in the log's order
unfoldable pub blocks : Bytes → List Row
blocks log = found_from (sound log) (sectors (length log)) 0

-- sector n is in one of the blocks
unfoldable pub in_block : List Row → ℕ → Bool
in_block [] n = false
in_block (r ∷ rows) n = within r.first (parts r) n || in_block rows n

-- "A doubtful sector is in the used part and in no sound block": how many of the first k sectors are in no block of the list
unfoldable pub outside : List Row → ℕ → ℕ
outside rows zero = 0
outside rows (suc k) = cond (in_block rows k) (outside rows k) (suc (outside rows k))

unfoldable pub doubtful : Bytes → ℕ
doubtful log = outside (blocks log) (used log)

-- the first of k sectors from n on that is in no block, else the sector after them; the first doubtful sector, else the end of the used part
unfoldable pub first_outside : List Row → ℕ → ℕ → ℕ
first_outside rows zero n = n
first_outside rows (suc k) n = cond (in_block rows n) (first_outside rows k (suc n)) n

unfoldable pub first_doubtful : Bytes → ℕ
first_doubtful log = first_outside (blocks log) (used log) 0

-- the first block of a type and score
unfoldable pub first_of : ℕ → Bytes → List Row → Option Row
first_of t s [] = none
first_of t s (r ∷ rows) = cond (eqb r.kind t && same r.score s) (some r) (first_of t s rows)

-- "the zero score (SHA-1 of no bytes) is the empty block for each of the ten types, always"
abbrev pub empty_row : ℕ → Row
empty_row t = record { kind = t; score = zero_score; bytes = []; first = 0; date = [] }

-- "Else the first sound block with both"
unfoldable pub held : Bytes → ℕ → Bytes → Option Row
held log t s = cond (lawful t && same s zero_score) (some (empty_row t)) (first_of t s (blocks log))

-- "Else 12 if any sector is doubtful, else 11"; "refusal 12 must also carry the first doubtful sector's number"
unfoldable pub absence : Bytes → Refusal
absence log = cond (eqb (doubtful log) 0) NotHeld (NotKnown (record { 0 = first_doubtful log }))

unfoldable pub look_up : Bytes → ℕ → Bytes → Result Block Refusal
look_up log t s = on (held log t s) (Err (absence log)) (λ r. Ok (place_of r))

-- 13 is "block longer than count"
abbrev pub counted : ℕ → Result Block Refusal → Result Block Refusal
counted count (Ok b) = cond (ltb count b.size) (Err OverCount) (Ok b)
counted count (Err w) = Err w

-- "gives this paper's number and values": a look-up's number, 0 where it finds a block; the values are then its first sector and size, and how long its labels are
abbrev pub look_number : Result Block Refusal → ℕ
look_number (Ok b) = 0
look_number (Err w) = number_of w

-- the block's place, where it finds one
abbrev pub look_place : Result Block Refusal → Option Block
look_place (Ok b) = some b
look_place (Err w) = none

-- the doubtful sector that it tells, 0 where it tells none
abbrev pub look_sector : Result Block Refusal → ℕ
look_sector (Ok b) = 0
look_sector (Err w) = told_sector w

-- "The limit of 131,072 sectors becomes 1,048,576, with refusal 3 beyond it"
abbrev pub most_sectors : ℕ
most_sectors = 1048576

-- "log not whole sectors, or over [most_sectors] of them (none is allowed)": refusal 3 is the contrary
unfoldable pub log_allowed : ℕ → Bool
log_allowed m = cond (eqb (m % sector_length) 0) (leb (sectors m) most_sectors) false

-- "It must be whole sectors, at most 256, or it is 3": of the waiting part
abbrev pub most_waiting : ℕ
most_waiting = 256

unfoldable pub waiting_allowed : ℕ → Bool
waiting_allowed m = cond (eqb (m % sector_length) 0) (leb (sectors m) most_waiting) false

-- test 3 is one over all that is lent as sectors: a log of m bytes and a waiting part of w
unfoldable pub lent_allowed : ℕ → ℕ → Bool
lent_allowed m w = log_allowed m && waiting_allowed w

-- look-up asked outside messages: tests 3, 9, then the look-up in the log and what waits behind its used part
unfoldable pub look_up_asked : Bytes → Bytes → ℕ → Bytes → Result Block Refusal
look_up_asked log waiting t s =
    cond (lent_allowed (length log) (length waiting)) (cond (lawful t) (look_up (tape log waiting) t s) (Err BlockType)) (Err LogLength)
