-- Cards that were written, and what a search answers of them: the donor with A and without B whom nobody tested for C; a card of 4,096 bytes.
use Rattle.std.specs.Prelude.{◌≡◌, true, false, List, [], ◌∷◌, ◌++◌, map, ℕ, zero, suc, ◌+◌, ◌/◌, ◌%◌, length, replicate, Result, Ok, Err}
use Rattle.bedrock.specs.Choice.{on}
use Rattle.buffer.specs.Bytes.{Bytes}
use Rattle.kleene.specs.declared.Value.{Value}
use Rattle.refusal.specs.declared.Refusal.{Refusal}
use Rattle.refusal.specs.declared.Refusal.TheVariants as why
use Rattle.request.specs.declared.Session.{Session}
use Rattle.ledger.specs.History.{Item, AllOfBytes}
use Rattle.demands.specs.Instance.{archive}
use Rattle.promises.specs.Histories.{afterwards}
use Rattle.trees.specs.Again.{waiting_of}
use Rattle.file.specs.File.{page_allowed}
use Rattle.writer.specs.WriteFile.{write_file}
use Rattle.kleene.specs.declared.Value.TheVariants.{Yes, No, NotKnown}
use Rattle.card.specs.Card.{Line, line, line_text, text, well_formed}
use Rattle.query.specs.Reading.{not_word}
use Rattle.query.specs.Examples.{Valued, values}
use Rattle.search.specs.Search.{search_of}

-- the card of this slice was written, any requests came since, and now the search answers so, whatever the log, the date, the sizes of its blocks and the page of zeros are
abbrev pub Answers : Bytes → Bytes → Result Value Refusal → Type 0
Answers slice query answer = (log waiting date : Bytes) (dsize psize : ℕ) (entry scores page : Bytes) → page_allowed page ≡ true
    → let o = write_file log waiting date slice dsize psize entry scores in
    o.end ≡ Ok tt → (past : List Session) (qs : List (Item archive)) → AllOfBytes archive qs
    → let later = afterwards o.lent past qs in search_of later.log (waiting_of later) page o.entry query ≡ answer

-- "A=present", "B=absent"
abbrev pub donor : Bytes
donor = line_text (line (0x41 ∷ []) true) ++ line_text (line (0x42 ∷ []) false)

pub record Donor : Type 0 where
  -- A is yes, B is no
  pub present : Answers donor (0x41 ∷ []) (Ok Yes)
  pub absent : Answers donor (0x42 ∷ []) (Ok No)
  -- C is not known, and so is "not C": nobody tested it
  pub untested : Answers donor (0x43 ∷ []) (Ok NotKnown)
  pub not-untested : Answers donor (not_word ++ (0x20 ∷ 0x43 ∷ [])) (Ok NotKnown)
  -- the card with its last line feed lost is 25, and the empty query 26
  pub ill-formed : Answers (line_text (line (0x41 ∷ []) true) ++ (0x42 ∷ 0x3D ∷ 0x61 ∷ 0x62 ∷ 0x73 ∷ 0x65 ∷ 0x6E ∷ 0x74 ∷ [])) (0x41 ∷ []) (Err why.Card)
  pub no_query : Answers donor [] (Err why.Query)

-- the values that are computed where a is present, b is absent, and nothing else was tested: the search answers each of them of such a card that was written
abbrev pub tested : Bytes
tested = line_text (line (0x61 ∷ []) true) ++ line_text (line (0x62 ∷ []) false)

abbrev pub ValuesOfWritten : Type 0
ValuesOfWritten = (log waiting date : Bytes) (dsize psize : ℕ) (entry scores page : Bytes) → page_allowed page ≡ true
    → let o = write_file log waiting date tested dsize psize entry scores in
    o.end ≡ Ok tt
    → map (λ (e : Valued). search_of o.lent.log (waiting_of o.lent) page o.entry e.text) values ≡ map (λ (e : Valued). on e.value (Err why.Query) (λ v. Ok v)) values

-- ---- "at most 4,096 bytes"

-- a name of 8 letters: six A, then two that count by sixteens
abbrev pub counted_name : ℕ → Bytes
counted_name k = replicate 6 0x41 ++ ((0x41 + k / 16) ∷ (0x41 + k % 16) ∷ [])

-- n lines of 16 bytes, of the names from k on: "AAAAAAAA=absent", "AAAAAAAB=absent" and so on
unfoldable pub counted : ℕ → ℕ → List Line
counted zero k = []
counted (suc n) k = line (counted_name k) false ∷ counted n (suc k)

-- a card of 4,096 bytes; the same with "present" for "absent" in its last line, which is one byte more; and with a line more
abbrev pub full : Bytes
full = text (counted 256 0)

abbrev pub byte_over : Bytes
byte_over = text (counted 255 0) ++ line_text (line (counted_name 255) true)

abbrev pub line_more : Bytes
line_more = text (counted 257 0)

pub record Border : Type 0 where
  pub sizes : (length full ≡ 4096) × (length byte_over ≡ 4097) × (length line_more ≡ 4112)
  -- it is read and judged to its last line
  pub first : Answers full (counted_name 0) (Ok No)
  pub last : Answers full (counted_name 255) (Ok No)
  pub untested : Answers full (0x43 ∷ []) (Ok NotKnown)
  -- the longer ones are 25, though they are cards but for their length
  pub lines : (well_formed byte_over ≡ true) × (well_formed line_more ≡ true)
  pub byte_more : Answers byte_over (counted_name 255) (Err why.Card)
  pub line-more : Answers line_more (counted_name 255) (Err why.Card)
