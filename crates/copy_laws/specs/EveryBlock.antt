-- "The walk of a directory that holds the entry finds every block", where the visits of a walk are a list.
use Rattle.std.specs.Prelude.{◌≡◌, true, ◌≢◌, ℕ, ◌+◌, ◌≤◌, ◌<◌, length, Ok}
use mathlib.Core.List.{List, [], Memᴰ}
use Rattle.buffer.specs.Bytes.{Bytes}
use Rattle.digits.specs.Number.{small}
use Rattle.sha1_digest.specs.Sha1.{sha1_of}
use Rattle.request.specs.declared.Session.{Session}
use Rattle.entry.specs.Entry.{entry_of}
use Rattle.descent.specs.Descent.{entries_of}
use Rattle.descent.specs.Parts.{entry_in}
use Rattle.ledger.specs.History.{Item, AllOfBytes}
use Rattle.demands.specs.Instance.{archive}
use Rattle.promises.specs.Histories.{afterwards}
use Rattle.writer.specs.Blocks.{Typed, file_blocks}
use Rattle.writer.specs.WriteFile.{write_file}
use Rattle.writer_laws.specs.Walk.{both}
use Rattle.copying.specs.PostOrder.{type_of, Visit, directory_last}

-- a block is among the visits of a list: as its type, under its score and with its bytes
abbrev pub VisitedAs : Typed → List Visit → Type 0
VisitedAs x vs = (v : Visit) × Memᴰ v vs × (type_of v.role ≡ x.kind) × (v.score ≡ sha1_of x.bytes) × (v.bytes ≡ x.bytes)

-- after the call and any later requests: where the walk of a directory block's bytes ends, at any nest and with calls enough, and one of its entries is the one that
-- the call handed back, each block of the file that is not empty is among its visits. An empty one has the zero score, and zero scores at a pointer block's end are cut off
abbrev pub WalkVisitsEveryBlock : Type 0
WalkVisitsEveryBlock = (log waiting date slice : Bytes) (dsize psize : ℕ) (entry scores : Bytes) → small slice ≡ true
    → let o = write_file log waiting date slice dsize psize entry scores in
    o.end ≡ Ok tt → (past : List Session) (qs : List (Item archive)) → AllOfBytes archive qs → let L = afterwards o.lent past qs in
    (b : Bytes) (i : ℕ) → i < entries_of (length b) → entry_in b i ≡ o.entry
    → (calls nest left : ℕ) → left + left + 2 ≤ calls → let p = directory_last calls (both L) nest b left in p.answer.end ≡ Ok tt
    → (x : Typed) → Memᴰ x (file_blocks slice dsize psize (entry_of o.entry).depth) → x.bytes ≢ [] → VisitedAs x p.visits
