-- "the walk of a directory that holds the entry finds every block".
use Rattle.std.specs.Prelude.{◌≡◌, true, ◌≢◌, ℕ, suc, ◌+◌, ◌/◌, ◌≤◌, ◌<◌, max, length, Ok}
use mathlib.Core.List.{List, [], Memᴰ}
use Rattle.std.proofs.Math.Option.{some}
use Rattle.buffer.specs.Bytes.{Bytes}
use Rattle.digits.specs.Number.{small}
use Rattle.sha1_digest.specs.Sha1.{sha1_of}
use Rattle.block.specs.Block.{Row}
use Rattle.sector_log.specs.Parts.{Lent, tape}
use Rattle.sector_log.specs.LookUp.{held}
use Rattle.request.specs.declared.Session.{Session}
use Rattle.entry.specs.declared.Entry.{Entry}
use Rattle.entry.specs.Entry.{entry_of, entry_allowed, score_of}
use Rattle.tree.specs.Tree.{piece, pointer_type, type_at}
use Rattle.visit.specs.Visit.{walked}
use Rattle.descent.specs.Descent.{visit_entry}
use Rattle.descent.specs.Parts.{visit_listed}
use Rattle.walk_laws.specs.Found.{Found}
use Rattle.ledger.specs.History.{Item, AllOfBytes}
use Rattle.demands.specs.Instance.{archive}
use Rattle.promises.specs.Histories.{afterwards}
use Rattle.trees.specs.Again.{waiting_of}
use Rattle.writer.specs.Blocks.{Typed, file_blocks}
use Rattle.writer.specs.WriteFile.{write_file}
use Rattle.writer_laws.specs.Held.{Holds}

-- the log and its waiting part, read as one
abbrev pub both : Lent → Bytes
both L = tape L.log (waiting_of L)

-- an entry is active and well-formed, and every block below it is held: all that a walk asks of an entry of a directory
abbrev pub FindsFile : Bytes → Bytes → Type 0
FindsFile log entry = let e = entry_of entry in (e.active ≡ true) × (entry_allowed entry ≡ true) × Found log e e.depth (score_of entry)

-- so it is where the call succeeds
abbrev pub WalkFindsFile : Type 0
WalkFindsFile = (log waiting date slice : Bytes) (dsize psize : ℕ) (entry scores : Bytes) → small slice ≡ true
    → let o = write_file log waiting date slice dsize psize entry scores in
    o.end ≡ Ok tt → FindsFile (both o.lent) o.entry

-- and still after any later requests, such as those that write the directory
abbrev pub WalkFindsFileLater : Type 0
WalkFindsFileLater = (log waiting date slice : Bytes) (dsize psize : ℕ) (entry scores : Bytes) → small slice ≡ true
    → let o = write_file log waiting date slice dsize psize entry scores in
    o.end ≡ Ok tt → (past : List Session) (qs : List (Item archive)) → AllOfBytes archive qs → FindsFile (both (afterwards o.lent past qs)) o.entry

-- the visit of an entry ends: at any nest that is allowed, with calls enough, it spends v of what is left of the allowance and is done, and so does the entry
-- wherever a directory lists it. v is at most a visit for each block of the file, and one where there is none
abbrev pub VisitsFile : Bytes → ℕ → ℕ → Bytes → Bytes → Type 0
VisitsFile slice dsize psize log entry =
    let e = entry_of entry in
    (v : ℕ) × (v ≤ max 1 (length (file_blocks slice dsize psize e.depth)))
    × ((calls nest left : ℕ) → left + left + 1 ≤ calls → nest ≤ 16 → v ≤ left
    → (visit_entry calls log e e.depth nest (score_of entry) left ≡ walked v (Ok tt)) × (visit_listed calls log nest entry left ≡ walked v (Ok tt)))

-- so it is where the call succeeds
abbrev pub WalkVisitsFile : Type 0
WalkVisitsFile = (log waiting date slice : Bytes) (dsize psize : ℕ) (entry scores : Bytes) → small slice ≡ true
    → let o = write_file log waiting date slice dsize psize entry scores in
    o.end ≡ Ok tt → VisitsFile slice dsize psize (both o.lent) o.entry

-- and still after any later requests
abbrev pub WalkVisitsFileLater : Type 0
WalkVisitsFileLater = (log waiting date slice : Bytes) (dsize psize : ℕ) (entry scores : Bytes) → small slice ≡ true
    → let o = write_file log waiting date slice dsize psize entry scores in
    o.end ≡ Ok tt → (past : List Session) (qs : List (Item archive)) → AllOfBytes archive qs
    → VisitsFile slice dsize psize (both (afterwards o.lent past qs)) o.entry

-- the scores that a walk comes to from a score that an entry has, each at its level: that one at the entry's depth, and every score of a pointer block that it came to
pub data ComesTo (log : Bytes) (e : Entry) (top : Bytes) : ℕ → Bytes → Type 0 where
  first : ComesTo log e top e.depth top
  below : {k : ℕ} {s : Bytes} (r : Row) → ComesTo log e top (suc k) s → held log (pointer_type (suc k)) s ≡ some r → (i : ℕ) → i < length r.bytes / 20
      → ComesTo log e top k (piece 20 i r.bytes)

-- and each of them it visits, on any log: where the visit of the entry's score ends, with calls enough, so does that of each, with no more of the allowance
abbrev pub ComesToVisits : Type 0
ComesToVisits = (log : Bytes) (e : Entry) (top : Bytes) (k : ℕ) (s : Bytes) → ComesTo log e top k s → (calls nest left : ℕ) → left + left + 1 ≤ calls
    → (visit_entry calls log e e.depth nest top left).end ≡ Ok tt
    → (c a : ℕ) × (a + a + 1 ≤ c) × (a ≤ left) × ((visit_entry c log e k nest s a).end ≡ Ok tt)

-- each block of the file that is not empty is held, and a walk comes to its score at a level that has its type. An empty one has the zero score, and
-- zero scores at a pointer block's end are cut off
abbrev pub ReachesFile : Bytes → ℕ → ℕ → Bytes → Bytes → Type 0
ReachesFile slice dsize psize log entry =
    let e = entry_of entry in
    (x : Typed) → Memᴰ x (file_blocks slice dsize psize e.depth) → x.bytes ≢ []
    → Holds log x × ((k : ℕ) × (type_at e k ≡ x.kind) × ComesTo log e (score_of entry) k (sha1_of x.bytes))

-- so it is where the call succeeds: "finds every block"
abbrev pub WalkReachesFile : Type 0
WalkReachesFile = (log waiting date slice : Bytes) (dsize psize : ℕ) (entry scores : Bytes) → small slice ≡ true
    → let o = write_file log waiting date slice dsize psize entry scores in
    o.end ≡ Ok tt → ReachesFile slice dsize psize (both o.lent) o.entry

-- and still after any later requests
abbrev pub WalkReachesFileLater : Type 0
WalkReachesFileLater = (log waiting date slice : Bytes) (dsize psize : ℕ) (entry scores : Bytes) → small slice ≡ true
    → let o = write_file log waiting date slice dsize psize entry scores in
    o.end ≡ Ok tt → (past : List Session) (qs : List (Item archive)) → AllOfBytes archive qs
    → ReachesFile slice dsize psize (both (afterwards o.lent past qs)) o.entry
