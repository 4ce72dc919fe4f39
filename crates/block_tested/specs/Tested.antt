-- The tests of a block's sectors: the last five of `sound_as`, for a block at a place.
use Rattle.std.specs.Prelude.{Bool, List, [], ◌∷◌, ℕ, drop}
use Rattle.buffer.specs.Bytes.{Bytes, same, zeros}
use Rattle.digits.specs.Number.{small}
use Rattle.sha1_digest.specs.Sha1.{sha1_of}
use Rattle.sector.specs.Sector.{date_field}
use Rattle.block.specs.declared.Block.{Block}
use Rattle.block.specs.Block.{parts_in}
use Rattle.block.specs.Log.{at, payloads, bytes_of, labelled, checked}
unfoldable pub use Rattle.block_tests.specs.Number.{number_of}

-- the labels of all parts, with the date of the first; the checks; zeros behind the block's bytes; the score is their SHA-1
abbrev pub sector_tests : Bytes → Block → ℕ → Bytes → List Bool
sector_tests log b kind score =
    labelled log (date_field (at log b.first.0)) (parts_in b) b.first.0 kind b.size score (parts_in b) 0
    ∷ checked log (parts_in b) b.first.0
    ∷ zeros (drop b.size (payloads b.label log (parts_in b) b.first.0))
    ∷ small (bytes_of log b)
    ∷ same (sha1_of (bytes_of log b)) score
    ∷ []
