-- "The writer of files": its tests, its blocks stored one after the other, and the entry.
use Rattle.std.specs.Prelude.{Bool, cond, not, ◌&&◌, List, [], ◌∷◌, ◌++◌, ℕ, ◌*◌, leb, ltb, eqb, length, drop, replicate, Ok, Err, Result, ⊤}
use Rattle.bedrock.specs.Choice.{on}
use Rattle.buffer.specs.Bytes.{Bytes}
use Rattle.refusal.specs.declared.Refusal.{Refusal}
use Rattle.refusal.specs.declared.Refusal.TheVariants as why
use Rattle.refusal.specs.Number.{number_of}
use Rattle.kind.specs.Kind.{longest}
use Rattle.sector.specs.Sector.{is_date}
use Rattle.block.specs.Block.{parts_of}
use Rattle.sector_log.specs.Parts.{Lent, beside}
use Rattle.sector_log.specs.LookUp.{lent_allowed}
use Rattle.sector_log.specs.Store.{store}
use Rattle.sector_log.specs.declared.Stored.{Stored}
use Rattle.sector_log.specs.declared.Stored.TheVariants.{New, Duplicate}
use Rattle.entry.specs.Made.{made_entry}
use Rattle.writer.specs.Blocks.{Typed, file_blocks, top_score}
use Rattle.writer.specs.Depth.{depth_of}

-- how a store goes on: new or there already, or refused
abbrev pub end_of : Result Stored Refusal → Result ⊤ Refusal
end_of (Ok (New at)) = (Ok tt)
end_of (Ok (Duplicate at)) = (Ok tt)
end_of (Err w) = Err w

-- "the number, 0 for none"
abbrev pub end_number : Result ⊤ Refusal → ℕ
end_number (Ok tt) = 0
end_number (Err w) = number_of w

-- what storing blocks leaves
pub record AfterAll : Type 0 where
  pub end : Result ⊤ Refusal
  pub lent : Lent

abbrev pub after_all : Result ⊤ Refusal → Lent → AfterAll
after_all e L = record { end = e; lent = L }

-- "The first block refused with 14 or 15 ends the call; the blocks stored before it stay"
abbrev pub onward : Result ⊤ Refusal → Lent → AfterAll → AfterAll
onward (Ok tt) L rest = rest
onward (Err w) L rest = after_all (Err w) L

-- "every block .. stored as a write of it would be", all with the call's date
unfoldable pub store_all : Lent → Bytes → List Typed → AfterAll
store_all L date [] = after_all (Ok tt) L
store_all L date (x ∷ xs) =
    onward (end_of (store L date x.kind x.bytes).receipt.stored) (store L date x.kind x.bytes).lent
    (store_all (store L date x.kind x.bytes).lent date xs)

-- the whole outcome: how it ended, the log with its waiting part, and the lent buffers of the entry and of the scores to their last byte
pub record WriteOutcome : Type 0 where
  pub end : Result ⊤ Refusal
  pub lent : Lent
  pub entry : Bytes
  pub scores : Bytes

abbrev pub outcome : Result ⊤ Refusal → Lent → Bytes → Bytes → WriteOutcome
outcome e L entry scores = record { end = e; lent = L; entry = entry; scores = scores }

-- "Hands back the entry's 40 bytes": in the lent buffer, which on a refusal "stays unchanged"
abbrev pub entry_after : Result ⊤ Refusal → Bytes → Bytes → Bytes
entry_after (Ok tt) lent made = made
entry_after (Err w) lent made = lent

-- the first n bytes become zeros
abbrev pub cleared_to : ℕ → Bytes → Bytes
cleared_to n s = replicate n 0 ++ drop n s

-- the entry over a file of a depth: "size the length, the top block's score"
abbrev pub entry_over : Bytes → ℕ → ℕ → ℕ → Bytes
entry_over slice dsize psize depth = made_entry psize dsize depth (length slice) (top_score slice dsize psize depth)

-- the blocks stored, and the entry over them; the scores were written to the front of their lent buffer, which is zeros then
abbrev pub wrote : Bytes → Bytes → Bytes → Bytes → ℕ → ℕ → Bytes → Bytes → ℕ → WriteOutcome
wrote log waiting date slice dsize psize entry scores depth =
    let a = store_all (beside log waiting) date (file_blocks slice dsize psize depth) in
    outcome a.end a.lent (entry_after a.end entry (entry_over slice dsize psize depth)) (cleared_to (20 * parts_of dsize (length slice)) scores)

-- room for an entry, and for a score of each of the most leaves; less is refused with 2
abbrev pub score_room : ℕ
score_room = 20 * longest

unfoldable pub buffers_allowed : ℕ → ℕ → Bool
buffers_allowed entry scores = eqb entry 40 && leb score_room scores

-- "Tests 3, 24, 10, 16 .. all before the first block", after that of the lent buffers; a refusal by them changes nothing
unfoldable pub write_file : Bytes → Bytes → Bytes → Bytes → ℕ → ℕ → Bytes → Bytes → WriteOutcome
write_file log waiting date slice dsize psize entry scores =
    let refused : Refusal → WriteOutcome = λ w. outcome (Err w) (beside log waiting) entry scores in
    cond (not (buffers_allowed (length entry) (length scores))) (refused why.Buffer)
    (cond (not (lent_allowed (length log) (length waiting))) (refused why.LogLength)
    (cond (not (is_date date)) (refused why.Date)
    (cond (ltb longest (length slice)) (refused why.DataLength)
    (on (depth_of (length slice) dsize psize) (refused why.Entry) (wrote log waiting date slice dsize psize entry scores)))))
