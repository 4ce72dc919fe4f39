-- "Reading a file", below its tests: the run in a leaf, and the way down to it, by look-up's definition alone.
use Rattle.std.specs.Prelude.{cond, ℕ, zero, suc, ◌+◌, ◌-◌, ◌*◌, ◌/◌, ◌%◌, ◌^◌, min, leb, ltb, eqb, length, Ok, Err, Result}
use Rattle.bedrock.specs.Choice.{on}
use Rattle.buffer.specs.Bytes.{Bytes, same}
use Rattle.kind.specs.Kind.{zero_score}
use Rattle.refusal.specs.declared.Refusal.TheVariants as why
use Rattle.sector.specs.Sector.{payload_of, sector_length}
use Rattle.block.specs.Block.{Row, place_of}
use Rattle.block.specs.declared.Block.{Block}
use Rattle.sector_log.specs.LookUp.{held, absence}
use Rattle.entry.specs.declared.Entry.{Entry}
use Rattle.entry.specs.Entry.{pointers}
use Rattle.tree.specs.Tree.{pointer_type, type_at, pointer}
use Rattle.leaf.specs.declared.Extent.{Extent}
use Rattle.leaf.specs.declared.Extent.TheVariants.{Stored, Zeros}
use Rattle.refusal.specs.declared.Refusal.{Refusal}

-- "from zeros, the page's front, up to the end of page, dsize or file"; page is the page's length
abbrev pub zero_run : ℕ → Entry → ℕ → Result Extent Refusal
zero_run page e offset = Ok (Zeros (min page (min (e.dsize - offset % e.dsize) (e.size - offset))))

-- how many bytes of the block at a place a sector holds
abbrev pub payload_in : Block → ℕ
payload_in b = payload_of b.label

-- where byte k of the block at a place lies in the log: in one sector, behind its label
abbrev pub place_in : Block → ℕ → ℕ
place_in b k = sector_length * (b.first.0 + k / payload_in b) + (b.label + k % payload_in b)

-- "from stored data, up to the end of payload, block or file", of the leaf at a place; "The file run ends at 389 where the block is dated"
abbrev pub stored_run : Entry → ℕ → Block → Result Extent Refusal
stored_run e offset b =
    Ok (Stored (place_in b (offset % e.dsize))
    (min (payload_in b - offset % e.dsize % payload_in b) (min (b.size - offset % e.dsize) (e.size - offset))))

-- what a leaf lacks up to dsize is zeros
unfoldable pub leaf_run : ℕ → Entry → ℕ → Block → Result Extent Refusal
leaf_run page e offset b = cond (ltb (offset % e.dsize) b.size) (stored_run e offset b) (zero_run page e offset)

-- "A missing block is refused, never zero"; 13 is "block longer than count"
abbrev pub fetched : Bytes → ℕ → Bytes → ℕ → (Row → (Result Extent Refusal)) → Result Extent Refusal
fetched log t s count f =
    on (held log t s) (Err (absence log)) (λ r. cond (leb (length r.bytes) count) (f r) (Err why.OverCount))

-- which pointer of a block of level d + 1 leads to the offset: a digit of the leaf's number, in base p
abbrev pub pointer_index : Entry → ℕ → ℕ → ℕ
pointer_index e offset d = offset / e.dsize / pointers e ^ d % pointers e

-- the run under a score at a level. "Level d is type 2+d, the leaf 13 or 2. Look-up count is psize for pointers, dsize for leaves; then 18";
-- "below a zero score all is zero"
unfoldable pub under : Bytes → ℕ → Entry → ℕ → ℕ → Bytes → Result Extent Refusal
under log page e offset zero s =
    cond (same s zero_score) (zero_run page e offset)
    (fetched log (type_at e 0) s e.dsize (λ r. leaf_run page e offset (place_of r)))
under log page e offset (suc d) s =
    cond (same s zero_score) (zero_run page e offset)
    (fetched log (pointer_type (suc d)) s e.psize
    (λ r. cond (eqb (length r.bytes % 20) 0)
    (under log page e offset d (pointer r.bytes (pointer_index e offset d)))
    (Err why.Pointers)))
