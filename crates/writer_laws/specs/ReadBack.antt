-- "Gives the slice back": what the writer wrote is read through the entry that it hands back, on any log.
use Rattle.std.specs.Prelude.{◌≡◌, true, List, ◌++◌, ℕ, ◌-◌, ◌≤◌, ◌<◌, min, length, take, drop, get_or, Ok, Err}
use Rattle.std.proofs.Math.Option.{some}
use Rattle.buffer.specs.Bytes.{Bytes}
use Rattle.digits.specs.Number.{small}
use Rattle.refusal.specs.declared.Refusal.TheVariants.{Offset}
use Rattle.sector_log.specs.LookUp.{lent_allowed}
use Rattle.sector_log.specs.Parts.{tape}
use Rattle.request.specs.declared.Session.{Session}
use Rattle.entry.specs.Entry.{entry_of}
use Rattle.file.specs.File.{page_allowed, entry_readable, located}
use Rattle.fill.specs.Fill.{fill_outcome, fill_of}
use Rattle.file_laws.specs.Path.{Answers}
use Rattle.file_laws.specs.Bytes.{file_byte, laid}
use Rattle.ledger.specs.History.{Item, AllOfBytes}
use Rattle.demands.specs.Instance.{archive}
use Rattle.promises.specs.Histories.{afterwards}
use Rattle.trees.specs.Again.{waiting_of}
use Rattle.writer.specs.WriteFile.{write_file}

-- an entry through which a log and its waiting part read as the slice: it is lawful and of the slice's size, and reads at every offset, by the runs laid end to end,
-- and by filling a buffer from any offset on, up to its end or the slice's, with no refusal; where the slice has no byte, 17
pub record Reads (log waiting page entry slice : Bytes) : Type 0 where
  pub allowed : lent_allowed (length log) (length waiting) ≡ true
  pub readable : entry_readable entry ≡ true
  pub size : (entry_of entry).size ≡ length slice
  pub answers : (offset : ℕ) → offset < length slice → Answers (located log waiting page entry offset)
  pub bytes : (offset : ℕ) → offset < length slice → file_byte (tape log waiting) entry offset ≡ some (get_or slice offset 0)
  pub runs : laid (length slice) log waiting page entry 0 ≡ slice
  pub filled : (offset : ℕ) (d : Bytes) → offset < length slice
      → let n = min (length d) (length slice - offset) in
      fill_of log waiting entry offset d ≡ fill_outcome (record { count = n; stop = (Ok tt) }) (take n (drop offset slice) ++ drop n d)
  pub past_end : (offset : ℕ) (d : Bytes) → length slice ≤ offset → fill_of log waiting entry offset d ≡ fill_outcome (record { count = 0; stop = Err Offset }) d

-- "reading every offset through the new entry .. gives the slice": where the call succeeds, with any page of zeros
abbrev pub ReadsBack : Type 0
ReadsBack = (log waiting date slice : Bytes) (dsize psize : ℕ) (entry scores page : Bytes) → small slice ≡ true → page_allowed page ≡ true
    → let o = write_file log waiting date slice dsize psize entry scores in
    o.end ≡ Ok tt → Reads o.lent.log (waiting_of o.lent) page o.entry slice

-- "and still after any later requests"
abbrev pub ReadsBackLater : Type 0
ReadsBackLater = (log waiting date slice : Bytes) (dsize psize : ℕ) (entry scores page : Bytes) → small slice ≡ true → page_allowed page ≡ true
    → let o = write_file log waiting date slice dsize psize entry scores in
    o.end ≡ Ok tt → (past : List Session) (qs : List (Item archive)) → AllOfBytes archive qs
    → let later = afterwards o.lent past qs in Reads later.log (waiting_of later) page o.entry slice
