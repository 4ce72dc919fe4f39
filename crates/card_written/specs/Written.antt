-- A card that was written is judged by its bytes, at once and after any later requests: what is computed of bytes is what the search answers.
use Rattle.std.specs.Prelude.{◌≡◌, true, List, ℕ, leb, length, Result, Ok}
use Rattle.buffer.specs.Bytes.{Bytes}
use Rattle.kleene.specs.declared.Value.{Value}
use Rattle.refusal.specs.declared.Refusal.{Refusal}
use Rattle.digits.specs.Number.{small}
use Rattle.refusal.specs.declared.Refusal.TheVariants as why
use Rattle.request.specs.declared.Session.{Session}
use Rattle.ledger.specs.History.{Item, AllOfBytes}
use Rattle.demands.specs.Instance.{archive}
use Rattle.promises.specs.Histories.{afterwards}
use Rattle.trees.specs.Again.{waiting_of}
use Rattle.file.specs.File.{page_allowed}
use Rattle.writer.specs.WriteFile.{write_file}
use Rattle.card_answer.specs.CardAnswer.{test, judged}
use Rattle.search.specs.Search.{longest_card, search_of}

-- what bytes say to a query: "longer is 25, unread", "Ill-formed cards are 25, ill-formed queries 26", else the value
abbrev pub answer_of : Bytes → Bytes → Result Value Refusal
answer_of slice query = test (leb (length slice) longest_card) why.Card (judged slice query)

-- where the slice was written, on any log, the search through the entry that was handed back answers what the slice says
abbrev pub SearchOfWritten : Type 0
SearchOfWritten = (log waiting date slice : Bytes) (dsize psize : ℕ) (entry scores page query : Bytes) → small slice ≡ true → page_allowed page ≡ true
    → let o = write_file log waiting date slice dsize psize entry scores in
    o.end ≡ Ok tt → search_of o.lent.log (waiting_of o.lent) page o.entry query ≡ answer_of slice query

-- and still after any later requests
abbrev pub SearchOfWrittenLater : Type 0
SearchOfWrittenLater = (log waiting date slice : Bytes) (dsize psize : ℕ) (entry scores page query : Bytes) → small slice ≡ true → page_allowed page ≡ true
    → let o = write_file log waiting date slice dsize psize entry scores in
    o.end ≡ Ok tt → (past : List Session) (qs : List (Item archive)) → AllOfBytes archive qs
    → let later = afterwards o.lent past qs in search_of later.log (waiting_of later) page o.entry query ≡ answer_of slice query
