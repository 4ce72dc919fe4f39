-- "Reading a file": where the bytes at an offset lie, by look-up's definition alone.
use Rattle.std.specs.Prelude.{Bool, not, cond, ◌&&◌, ℕ, ◌-◌, ◌*◌, ltb, eqb, length, Ok, Err, Result}
use Rattle.buffer.specs.Bytes.{Bytes, zeros}
use Rattle.refusal.specs.declared.Refusal.{Refusal}
use Rattle.refusal.specs.declared.Refusal.TheVariants as why
use Rattle.refusal.specs.Number.{number_of}
use Rattle.block.specs.Log.{used}
use Rattle.sector_log.specs.LookUp.{lent_allowed}
use Rattle.sector_log.specs.Parts.{tape}
use Rattle.entry.specs.declared.Entry.{Entry}
use Rattle.entry.specs.Entry.{entry_of, entry_allowed, score_of}
use Rattle.leaf.specs.declared.Extent.{Extent}
use Rattle.leaf.specs.declared.Extent.TheVariants.{Stored, Zeros}
use Rattle.file.specs.declared.Located.{Located}
use Rattle.file.specs.declared.Located.TheVariants as part
use Rattle.leaf.specs.Leaf.{under}
use Rattle.sector.specs.Sector.{sector_length}

-- 19 is "blank page empty or not all zeros"
unfoldable pub page_allowed : Bytes → Bool
page_allowed page = not (eqb (length page) 0) && zeros page

-- 16 is "an inactive entry or one not of 40 bytes too"
unfoldable pub entry_readable : Bytes → Bool
entry_readable b = eqb (length b) 40 && ((entry_of b).active && entry_allowed b)

-- a test, which refuses or lets through
abbrev pub test : Bool → Refusal → Result Extent Refusal → Result Extent Refusal
test b w x = cond b x (Err w)

-- "Tests: 3, 19, 16, 17, then the tree": in one log of bytes, where `lent` is what test 3 gave
unfoldable pub extent_at : Bool → Bytes → Bytes → Bytes → ℕ → Result Extent Refusal
extent_at lent log page entry offset =
    test lent why.LogLength
    (test (page_allowed page) why.Page (test (entry_readable entry) why.Entry
    (test (ltb offset (entry_of entry).size) why.Offset
    (under log (length page) (entry_of entry) offset (entry_of entry).depth (score_of entry)))))

-- "a piece of a block is shown where it lies, in the settled log or among the waiting sectors": before byte `border` in the log, from it on in the waiting part
abbrev pub split : ℕ → Result Extent Refusal → Result Located Refusal
split border (Ok (Stored at n)) = cond (ltb at border) (Ok (part.Stored at n)) (Ok (part.Waiting (at - border) n))
split border (Ok (Zeros n)) = Ok (part.Zeros n)
split border (Err w) = Err w

-- where the bytes of a file at an offset lie: in the log's used part and then the waiting part as one log, and from there in either
unfoldable pub located : Bytes → Bytes → Bytes → Bytes → ℕ → Result Located Refusal
located log waiting page entry offset =
    split (sector_length * used log) (extent_at (lent_allowed (length log) (length waiting)) (tape log waiting) page entry offset)

-- "a second answer gives the number, 0 for none"
abbrev pub answer_of : Result Located Refusal → ℕ
answer_of (Ok run) = 0
answer_of (Err w) = number_of w
