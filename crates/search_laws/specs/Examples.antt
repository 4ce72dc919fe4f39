-- The order of the refusals, each search with all that comes later wrong too; cards of 4,096 and 4,097 bytes.
use Rattle.std.specs.Prelude.{◌≡◌, true, false, List, [], ◌∷◌, ◌++◌, map, ℕ, length, replicate, Result, Ok, Err}
use Rattle.digits.specs.Number.{be_bytes}
use Rattle.buffer.specs.Bytes.{Bytes}
use Rattle.kleene.specs.declared.Value.{Value}
use Rattle.refusal.specs.declared.Refusal.{Refusal}
use Rattle.refusal.specs.declared.Refusal.TheVariants as why
use Rattle.sector_log.specs.LookUp.{lent_allowed}
use Rattle.file.specs.File.{located}
use Rattle.file.specs.declared.Located.TheVariants as run
use Rattle.kleene.specs.declared.Value.TheVariants.{NotKnown}
use Rattle.search.specs.Search.{search_of}

pub record Example : Type 0 where
  pub page : Bytes
  pub entry : Bytes
  pub query : Bytes
  pub answer : Result Value Refusal

abbrev asks : Bytes → Bytes → Bytes → Result Value Refusal → Example
asks page entry query answer = record { page = page; entry = entry; query = query; answer = answer }

-- the entry of a file of `size` bytes in one block, whose score is twenty zero bytes
abbrev pub card_entry : ℕ → Bytes
card_entry size = replicate 4 0 ++ (be_bytes 2 8192 ++ (be_bytes 2 8192 ++ ((1 ∷ replicate 5 0) ++ (be_bytes 6 size ++ replicate 20 0))))

-- a page of one zero
abbrev pub one_page : Bytes
one_page = 0 ∷ []

abbrev pub table : List Example
table =
    -- 19, 16, 25 for a card that is too long, 26; the empty query is ill-formed
    asks [] [] [] (Err why.Page)
    ∷ asks (1 ∷ []) [] [] (Err why.Page)
    ∷ asks one_page [] [] (Err why.Entry)
    ∷ asks one_page (replicate 40 0) [] (Err why.Entry)
    ∷ asks one_page (card_entry 4097) [] (Err why.Card)
    ∷ asks one_page (card_entry 0) [] (Err why.Query)
    -- a card of size 0 has no lines and isn't read: A; not A
    ∷ asks one_page (card_entry 0) (0x41 ∷ []) (Ok NotKnown)
    ∷ asks one_page (card_entry 0) (0x6E ∷ 0x6F ∷ 0x74 ∷ 0x20 ∷ 0x41 ∷ []) (Ok NotKnown)
    ∷ []

pub record Examples : Type 0 where
  -- 3 before all others
  pub bad-log : (log waiting page entry query : Bytes) → lent_allowed (length log) (length waiting) ≡ false → search_of log waiting page entry query ≡ Err why.LogLength
  -- the table, on any log and waiting part of lawful lengths
  pub computed : (log waiting : Bytes) → lent_allowed (length log) (length waiting) ≡ true
      → map (λ (e : Example). search_of log waiting e.page e.entry e.query) table ≡ map (λ (e : Example). e.answer) table
  -- "at most 4,096 bytes": this card is read, and where its first byte is refused that is the answer; one byte more is "25, unread"
  pub longest : (log waiting query : Bytes) (w : Refusal) → located log waiting one_page (card_entry 4096) 0 ≡ Err w → search_of log waiting one_page (card_entry 4096) query ≡ Err w
  pub longer : (log waiting query : Bytes) → lent_allowed (length log) (length waiting) ≡ true → search_of log waiting one_page (card_entry 4097) query ≡ Err why.Card
