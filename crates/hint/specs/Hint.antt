-- Look-up by index: "an index entry is a hint, checked against the log". For any bytes in the index and any log.
use Rattle.std.specs.Prelude.{cond, ◌&&◌, ℕ, zero, suc, ◌-◌, eqb, length, take, Ok, Err, Result}
use Rattle.std.proofs.Math.Option.{Option, none, some}
use Rattle.bedrock.specs.Choice.{on}
use Rattle.buffer.specs.Bytes.{Bytes, same}
use Rattle.kind.specs.Kind.{lawful, zero_score}
use Rattle.refusal.specs.declared.Refusal.TheVariants.{LogLength, BlockType}
use Rattle.block.specs.Block.{Row, place_of}
use Rattle.block.specs.Log.{sound}
use Rattle.sector_log.specs.Parts.{tape}
use Rattle.sector_log.specs.LookUp.{blocks, first_of, empty_row, absence, lent_allowed}
use Rattle.index.specs.Index.{named, place_at, sector_at, bucket_of}
use Rattle.block.specs.declared.Block.{Block}
use Rattle.refusal.specs.declared.Refusal.{Refusal}

-- the sound block that starts at sector n, if it has this type and score
unfoldable pub sound_with : Bytes → ℕ → ℕ → Bytes → Option Row
sound_with log n t s = on (sound log n) none (λ r. cond (eqb r.kind t && same r.score s) (some r) none)

-- the block that the entry at place p is true of: its first 21 bytes are this score and type, and at its sector such a block starts
unfoldable pub true_at : Bytes → Bytes → ℕ → Bytes → ℕ → Option Row
true_at log index t s p = cond (same (take 21 (place_at index p)) (named s t)) (sound_with log (sector_at index p) t s) none

-- what is found at the first of k places from n on where anything is
unfoldable pub first_found : {A : Type 0} → (ℕ → Option A) → ℕ → ℕ → Option A
first_found f zero n = none
first_found f (suc k) n = on (f n) (first_found f k (suc n)) some

-- "the first entry of its bucket that holds true for that score and type"
unfoldable pub hint : Bytes → Bytes → ℕ → Bytes → Option Row
hint log index t s = let b = bucket_of index s in first_found (true_at log index t s) (b.to - b.from) b.from

-- the block that look-up by index finds: the empty one for the zero score, else the hint's, "else where the scan finds it"
unfoldable pub held_by : Bytes → Bytes → ℕ → Bytes → Option Row
held_by log index t s = cond (lawful t && same s zero_score) (some (empty_row t)) (on (hint log index t s) (first_of t s (blocks log)) some)

-- "Look-up by index also tells where the stored block it found starts"; a block that isn't found is refused as by the scan
unfoldable pub look_up_by : Bytes → Bytes → ℕ → Bytes → Result Block Refusal
look_up_by log index t s = on (held_by log index t s) (Err (absence log)) (λ r. Ok (place_of r))

-- look-up by index asked outside messages: tests 3 and 9, as for the scan
unfoldable pub look_up_by_asked : Bytes → Bytes → Bytes → ℕ → Bytes → Result Block Refusal
look_up_by_asked log waiting index t s =
    cond (lent_allowed (length log) (length waiting)) (cond (lawful t) (look_up_by (tape log waiting) index t s) (Err BlockType)) (Err LogLength)
