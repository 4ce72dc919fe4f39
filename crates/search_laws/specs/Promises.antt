-- What the card search promises: a value only of a card that was read whole; an unreadable card is its refusal; no line is not known;
-- lines added leave a yes and a no; a value is given again.
use Rattle.std.specs.Prelude.{◌≡◌, true, List, ◌∷◌, ◌++◌, ◌≢◌, ◌⊎◌, ℕ, ◌≤◌, ◌<◌, length, get_or, Result, Ok, Err}
use Rattle.std.proofs.Math.Option.{some}
use Rattle.buffer.specs.Bytes.{Bytes}
use Rattle.refusal.specs.declared.Refusal.{Refusal}
use Rattle.refusal.specs.declared.Refusal.TheVariants as why
use Rattle.sector_log.specs.LookUp.{absence, lent_allowed}
use Rattle.sector_log.specs.Parts.{tape, Lent}
use Rattle.request.specs.declared.Session.{Session}
use Rattle.ledger.specs.History.{Item, AllOfBytes}
use Rattle.demands.specs.Instance.{archive}
use Rattle.promises.specs.Histories.{afterwards}
use Rattle.entry.specs.Entry.{entry_of, score_of}
use Rattle.file.specs.File.{page_allowed, entry_readable, located}
use Rattle.file.specs.declared.Located.TheVariants as run
use Rattle.file_laws.specs.Path.{Answers, Whole, Lacks}
use Rattle.file_laws.specs.Bytes.{file_byte}
use Rattle.file_laws.specs.Elsewhere.{BlocksHeldBy}
use Rattle.trees.specs.Again.{waiting_of}
use Rattle.kleene.specs.declared.Value.{Value}
use Rattle.kleene.specs.declared.Value.TheVariants.{NotKnown}
use Rattle.antigen.specs.Name.{is_name}
use Rattle.card.specs.Card.{Line, lines_of}
use Rattle.card.specs.Says.{Among}
use Rattle.query.specs.Reading.{not_word}
use Rattle.evaluate.specs.Evaluate.{evaluate_of}
use Rattle.card_answer.specs.CardAnswer.{judged}
use Rattle.search.specs.Search.{longest_card, card_of, search_of}

-- the entry's file is no longer than a card, every offset of it reads, and its bytes are a card with these lines
pub record ReadAs (log waiting page entry : Bytes) (ls : List Line) : Type 0 where
  pub log-allowed : lent_allowed (length log) (length waiting) ≡ true
  pub page-allowed : page_allowed page ≡ true
  pub entry-readable : entry_readable entry ≡ true
  pub short : (entry_of entry).size ≤ longest_card
  pub reads : (o : ℕ) → o < (entry_of entry).size → Answers (located log waiting page entry o)
  pub lines : lines_of (card_of log waiting entry).bytes ≡ some ls

-- yes, no and not known are said only of a card that was read whole and is well-formed
abbrev pub OnlyOfACard : Type 0
OnlyOfACard = (log waiting page entry query : Bytes) (v : Value) → search_of log waiting page entry query ≡ Ok v → (ls : List Line) × ReadAs log waiting page entry ls

-- the bytes that are judged are the file's: as many as its size, each the byte that is the file's there
abbrev pub CardIsTheFile : Type 0
CardIsTheFile = (log waiting page entry : Bytes) (ls : List Line) → ReadAs log waiting page entry ls
    → let b = (card_of log waiting entry).bytes in
    (length b ≡ (entry_of entry).size) × ((i : ℕ) → i < (entry_of entry).size → file_byte (tape log waiting) entry i ≡ some (get_or b i 0))

-- the answer is that of the card's bytes: where every offset reads, and these are the file's bytes, it is what they say
abbrev pub JudgedByItsBytes : Type 0
JudgedByItsBytes = (log waiting page entry card query : Bytes) → lent_allowed (length log) (length waiting) ≡ true → page_allowed page ≡ true → entry_readable entry ≡ true
    → (entry_of entry).size ≡ length card → length card ≤ longest_card
    → ((o : ℕ) → o < length card → Answers (located log waiting page entry o)) → ((o : ℕ) → o < length card → file_byte (tape log waiting) entry o ≡ some (get_or card o 0))
    → search_of log waiting page entry query ≡ judged card query

-- two logs in which every offset of the card reads to the same byte give the same answer
abbrev pub SameBytesSameAnswer : Type 0
SameBytesSameAnswer = (log waiting log' waiting' page entry query : Bytes) → lent_allowed (length log) (length waiting) ≡ true → lent_allowed (length log') (length waiting') ≡ true
    → ((o : ℕ) → o < (entry_of entry).size → Answers (located log waiting page entry o) × Answers (located log' waiting' page entry o)
    × (file_byte (tape log' waiting') entry o ≡ file_byte (tape log waiting) entry o))
    → search_of log' waiting' page entry query ≡ search_of log waiting page entry query

-- an answer that the card's bytes give, and no reading of them: a value, 25 or 26
abbrev pub OfTheCard : Result Value Refusal → Type 0
OfTheCard (Ok v) = Unit {0}
OfTheCard (Err w) = (w ≡ why.Card) ⊎ (w ≡ why.Query)

-- such an answer, given by a log, is given by every log that holds its blocks: a card may be judged in a small log to which its blocks were copied
abbrev pub AnsweredElsewhere : Type 0
AnsweredElsewhere = (log waiting log' waiting' page entry query : Bytes) → lent_allowed (length log') (length waiting') ≡ true → BlocksHeldBy (tape log waiting) (tape log' waiting')
    → OfTheCard (search_of log waiting page entry query) → search_of log' waiting' page entry query ≡ search_of log waiting page entry query

-- "a card the archive can't read keeps the archive's number at the first refused offset"; a reason has its number, and 12 its sector
abbrev pub UnreadableIsRefused : Type 0
UnreadableIsRefused = (log waiting page entry query : Bytes) (o : ℕ) (w : Refusal) → (entry_of entry).size ≤ longest_card → o < (entry_of entry).size
    → ((p : ℕ) → p < o → Answers (located log waiting page entry p)) → located log waiting page entry o ≡ Err w → search_of log waiting page entry query ≡ Err w

-- a card of which a block is missing is refused as look-up refuses that block, with 12 and its sector or with 11: at the first offset that is refused
abbrev pub MissingIsItsNumber : Type 0
MissingIsItsNumber = (log waiting page entry query : Bytes) (o : ℕ) → lent_allowed (length log) (length waiting) ≡ true → page_allowed page ≡ true → entry_readable entry ≡ true
    → (entry_of entry).size ≤ longest_card → o < (entry_of entry).size → ((p : ℕ) → p < o → Answers (located log waiting page entry p))
    → Lacks (tape log waiting) (entry_of entry) o (entry_of entry).depth (score_of entry) → search_of log waiting page entry query ≡ Err (absence (tape log waiting))

-- a refused offset anywhere in the card: no value
abbrev pub UnreadableHasNoValue : Type 0
UnreadableHasNoValue = (log waiting page entry query : Bytes) (o : ℕ) (w : Refusal) (v : Value) → o < (entry_of entry).size → located log waiting page entry o ≡ Err w
    → search_of log waiting page entry query ≢ Ok v

-- a block missing anywhere in the card: no value
abbrev pub MissingHasNoValue : Type 0
MissingHasNoValue = (log waiting page entry query : Bytes) (o : ℕ) (v : Value) → o < (entry_of entry).size
    → Lacks (tape log waiting) (entry_of entry) o (entry_of entry).depth (score_of entry) → search_of log waiting page entry query ≢ Ok v

-- a value comes only where every block of the card is held, down to the leaf of each offset or to a zero score
abbrev pub EveryBlockHeld : Type 0
EveryBlockHeld = (log waiting page entry query : Bytes) (v : Value) → search_of log waiting page entry query ≡ Ok v
    → (o : ℕ) → o < (entry_of entry).size → Whole (tape log waiting) (entry_of entry) o (entry_of entry).depth (score_of entry)

-- "an antigen with no line is not known": what nobody tested is never absent
abbrev pub NeverTestedNeverAbsent : Type 0
NeverTestedNeverAbsent = (log waiting page entry name : Bytes) (ls : List Line) → ReadAs log waiting page entry ls → is_name name ≡ true
    → ((l : Line) → Among l ls → l.name ≢ name) → search_of log waiting page entry name ≡ Ok NotKnown

-- nor is it present where it is asked for with not: "not" of what nobody tested is not known
abbrev pub NeverTestedNeverByNot : Type 0
NeverTestedNeverByNot = (log waiting page entry name : Bytes) (ls : List Line) → ReadAs log waiting page entry ls → is_name name ≡ true
    → ((l : Line) → Among l ls → l.name ≢ name) → search_of log waiting page entry (not_word ++ (0x20 ∷ name)) ≡ Ok NotKnown

-- "lines added to a card that stays well-formed and readable never turn a yes or a no into anything else": of two cards
abbrev pub LinesAddedToACard : Type 0
LinesAddedToACard = (card card' query : Bytes) (ls ms : List Line) (v : Value) → lines_of card ≡ some ls → lines_of card' ≡ some ms
    → ((l : Line) → Among l ls → Among l ms) → v ≢ NotKnown → evaluate_of card query ≡ Ok v → evaluate_of card' query ≡ Ok v

-- and of what entries lead to: the entry and the log may differ
abbrev pub LinesAddedOverLogs : Type 0
LinesAddedOverLogs = (log waiting page entry log' waiting' page' entry' query : Bytes) (ls ms : List Line) (v : Value) → ReadAs log waiting page entry ls → ReadAs log' waiting' page' entry' ms
    → ((l : Line) → Among l ls → Among l ms) → v ≢ NotKnown → search_of log waiting page entry query ≡ Ok v → search_of log' waiting' page' entry' query ≡ Ok v

-- what was said of an entry is said of it again after any requests, with the log and the waiting part as these leave them
abbrev pub AgainAfterAny : Type 0
AgainAfterAny = (L : Lent) (past : List Session) (qs : List (Item archive)) → AllOfBytes archive qs → (page entry query : Bytes) (v : Value)
    → let later = afterwards L past qs in
    search_of L.log (waiting_of L) page entry query ≡ Ok v → search_of later.log (waiting_of later) page entry query ≡ Ok v
