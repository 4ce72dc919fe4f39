-- What the blocks of a list are in a log that holds them.
use Rattle.std.specs.Prelude.{◌≡◌, true, List, [], ◌∷◌, ◌++◌, ◌⊎◌, ℕ, ◌*◌, ◌≤◌, length, Ok, Err}
use Rattle.std.proofs.Math.Option.{some}
use Rattle.buffer.specs.Bytes.{Bytes}
use Rattle.digits.specs.Number.{small}
use Rattle.sha1_digest.specs.Sha1.{sha1_of}
use Rattle.refusal.specs.declared.Refusal.{Refusal}
use Rattle.refusal.specs.declared.Refusal.TheVariants.{NoRoom, Clash}
use Rattle.kind.specs.Kind.{lawful, longest}
use Rattle.sector.specs.Sector.{is_date}
use Rattle.block.specs.Block.{Row, parts_of}
use Rattle.sector_log.specs.Parts.{beside, tape, can_settle, settled}
use Rattle.sector_log.specs.LookUp.{held, lent_allowed}
use Rattle.sector_log.specs.Store.{store}
use Rattle.trees.specs.Again.{waiting_of}
use Rattle.writer.specs.Blocks.{Typed, file_blocks}
use Rattle.writer.specs.Depth.{depth_of}
use Rattle.writer.specs.WriteFile.{AfterAll, after_all, store_all, outcome, entry_after, cleared_to, entry_over, score_room, write_file}

-- look-up finds a block with these very bytes
abbrev pub Holds : Bytes → Typed → Type 0
Holds log x = (r : Row) × (held log x.kind (sha1_of x.bytes) ≡ some r) × (r.bytes ≡ x.bytes)

abbrev pub HoldsAll : Bytes → List Typed → Type 0
HoldsAll log [] = Unit {0}
HoldsAll log (x ∷ xs) = Holds log x × HoldsAll log xs

-- a block that a write message may have
abbrev pub Writable : Typed → Type 0
Writable x = (lawful x.kind ≡ true) × (length x.bytes ≤ longest) × (small x.bytes ≡ true)

abbrev pub AllWritable : List Typed → Type 0
AllWritable [] = Unit {0}
AllWritable (x ∷ xs) = Writable x × AllWritable xs

-- where a call ended that left these blocks out: behind the last of the list, or at the first of them, which the log as it is left still refuses with that number
abbrev pub EndedAt : AfterAll → Bytes → List Typed → Type 0
EndedAt a date [] = a.end ≡ Ok tt
EndedAt a date (x ∷ xs) = (y : Refusal) × (a.end ≡ Err y) × ((store a.lent date x.kind x.bytes).receipt.stored ≡ Err y) × ((y ≡ NoRoom) ⊎ (y ≡ Clash))

-- what a call leaves of the blocks of a list, on a log with a waiting part: the log is as those before a place in the list leave it, and holds them all, and what it
-- held before; and the call ended at that place
abbrev pub StaysIn : Bytes → Bytes → Bytes → List Typed → AfterAll → Type 0
StaysIn log w date xs a =
    (w' : Bytes) × (before rest : List Typed)
    × (a.lent ≡ beside log w') × (length w' ≡ length w) × (xs ≡ before ++ rest) × (store_all (beside log w) date before ≡ after_all (Ok tt) a.lent)
    × HoldsAll (tape log w') before × ((t : ℕ) (s : Bytes) (r : Row) → held (tape log w) t s ≡ some r → held (tape log w') t s ≡ some r)
    × EndedAt a date rest

-- "The first block refused with 14 or 15 ends the call; the blocks stored before it stay"
abbrev pub Stays : Type 0
Stays = (log w date : Bytes) (xs : List Typed) → lent_allowed (length log) (length w) ≡ true → is_date date ≡ true → AllWritable xs
    → StaysIn log w date xs (store_all (beside log w) date xs)

-- and so of the call, where its tests let it through
abbrev pub FileStays : Type 0
FileStays = (log w date slice : Bytes) (dsize psize : ℕ) (entry scores : Bytes) (depth : ℕ) → small slice ≡ true
    → length entry ≡ 40 → score_room ≤ length scores → lent_allowed (length log) (length w) ≡ true → is_date date ≡ true → length slice ≤ longest
    → depth_of (length slice) dsize psize ≡ some depth
    → let o = write_file log w date slice dsize psize entry scores in StaysIn log w date (file_blocks slice dsize psize depth) (after_all o.end o.lent)

-- "after a sync the same call finds the first blocks as duplicates and goes on": where all that waits is settled, storing the same blocks again is storing those that
-- were left out
abbrev pub WritesOn : Type 0
WritesOn = (log w date : Bytes) (xs : List Typed) → lent_allowed (length log) (length w) ≡ true → is_date date ≡ true → AllWritable xs
    → let a = store_all (beside log w) date xs in let M = settled a.lent in can_settle a.lent ≡ true
    → (before rest : List Typed) → xs ≡ before ++ rest → store_all (beside log w) date before ≡ after_all (Ok tt) a.lent
    → store_all M date xs ≡ store_all M date rest

-- and so of the call, in any buffers: it leaves and answers what storing the rest does, and the entry over the whole file where that is done
abbrev pub FileWritesOn : Type 0
FileWritesOn = (log w date slice : Bytes) (dsize psize : ℕ) (entry scores : Bytes) (depth : ℕ) → small slice ≡ true
    → length entry ≡ 40 → score_room ≤ length scores → lent_allowed (length log) (length w) ≡ true → is_date date ≡ true → length slice ≤ longest
    → depth_of (length slice) dsize psize ≡ some depth
    → let o = write_file log w date slice dsize psize entry scores in let M = settled o.lent in can_settle o.lent ≡ true
    → (before rest : List Typed) → file_blocks slice dsize psize depth ≡ before ++ rest → store_all (beside log w) date before ≡ after_all (Ok tt) o.lent
    → (entry' scores' : Bytes) → length entry' ≡ 40 → score_room ≤ length scores' → let a = store_all M date rest in
    write_file M.log (waiting_of M) date slice dsize psize entry' scores'
    ≡ outcome a.end a.lent (entry_after a.end entry' (entry_over slice dsize psize depth)) (cleared_to (20 * parts_of dsize (length slice)) scores')
