-- The answer is that of the card's bytes, in whatever log they are read.
use mathlib.Core.Path.{◌≡◌, refl, sym, ap, subst, ◌∙◌}
use mathlib.Core.Bool.{true, false, true≢false}
use mathlib.Core.Logic.{inl, inr}
use mathlib.Core.Option.{some}
use Prim.Native.Nat.{ℕ, ◌≤◌, ◌<◌}
use native.Mathlib.Omega.{arith}
use lib.ListN.{length, get_or}
use lib.Seq.{ext_get_or}
use Rattle.std.specs.Prelude.{Err, Ok, Result, ⊤}
use Rattle.bedrock.proofs.Choices.{some_same}
use Rattle.buffer.specs.Bytes.{Bytes}
use Rattle.refusal.specs.declared.Refusal.{Refusal}
use Rattle.refusal.specs.declared.Refusal.TheVariants as why
use Rattle.refusal.specs.Number.{number_of}
use Rattle.sector_log.specs.LookUp.{lent_allowed}
use Rattle.sector_log.specs.Parts.{tape}
use Rattle.entry.specs.Entry.{entry_of}
use Rattle.file.specs.File.{page_allowed, entry_readable, located}
use Rattle.file_laws.specs.Path.{Answers}
use Rattle.file_laws.specs.Bytes.{file_byte}
use Rattle.file_laws.proofs.Elsewhere.{reads_elsewhere}
use Rattle.file_laws.proofs.Reasons.{readings_reasons}
use Rattle.card_answer.specs.CardAnswer.{judged, once_read}
use Rattle.search.specs.Search.{longest_card, card_of, search_of}
use Rattle.search.proofs.Tests.{search_page, search_entry, search_long}
use Rattle.search_laws.specs.Promises.{JudgedByItsBytes, SameBytesSameAnswer, OfTheCard, AnsweredElsewhere}
use Rattle.search_laws.proofs.Course.{Open, Course, bad-log, bad-page, bad-entry, long, through, course, opened}
use Rattle.search_laws.proofs.Whole.{stop-refused, done-answers, read_done, read_length, read-bytes}

-- past the tests, with every offset read
module _ (log waiting page entry : Bytes) (p : Open log waiting page entry) (reads : (o : ℕ) → o < (entry_of entry).size → Answers (located log waiting page entry o)) where
  read-judged : (query : Bytes) → search_of log waiting page entry query ≡ judged (card_of log waiting entry).bytes query
  read-judged query =
      opened log waiting page entry query p ∙ ap (λ (s : Result ⊤ Refusal). once_read s (card_of log waiting entry).bytes query) (read_done log waiting page entry p reads)

  -- bytes that are the file's are those that are judged
  read_as : (card : Bytes) → (entry_of entry).size ≡ length card
      → ((o : ℕ) → o < (entry_of entry).size → file_byte (tape log waiting) entry o ≡ some (get_or card o 0)) → (card_of log waiting entry).bytes ≡ card
  read_as card s f =
      let l = read_length log waiting page entry p reads in
      ext_get_or 0 (card_of log waiting entry).bytes card (l ∙ s)
      (λ i h. let g : i < (entry_of entry).size = omega (arith, l) in some_same _ _ (sym (read-bytes log waiting page entry p reads i g) ∙ f i g))

pub judged_by_its_bytes : JudgedByItsBytes
judged_by_its_bytes log waiting page entry card query a g r s short reads bytes =
    let p : Open log waiting page entry = record { log-allowed = a; page-allowed = g; entry-readable = r; short = omega arith } in
    let all : (o : ℕ) → o < (entry_of entry).size → Answers (located log waiting page entry o) = λ o h. reads o (omega arith) in
    read-judged log waiting page entry p all query
    ∙ ap (λ (b : Bytes). judged b query) (read_as log waiting page entry p all card s (λ o h. bytes o (omega arith)))

-- ---- two logs

module _ (log waiting log' waiting' page entry query : Bytes) (a' : lent_allowed (length log') (length waiting') ≡ true) where
  abbrev Alike : Type 0
  Alike = search_of log' waiting' page entry query ≡ search_of log waiting page entry query

  -- the tests before the card is read ask nothing else of a log
  page-alike : page_allowed page ≡ false → search_of log waiting page entry query ≡ Err why.Page → Alike
  page-alike g q = sym (q ∙ search_page log' waiting' page entry query true (sym a') refl false (sym g) refl)

  entry-alike : page_allowed page ≡ true → entry_readable entry ≡ false → search_of log waiting page entry query ≡ Err why.Entry → Alike
  entry-alike g r q = sym (q ∙ search_entry log' waiting' page entry query true (sym a') refl true (sym g) refl false (sym r) refl)

  long-alike : page_allowed page ≡ true → entry_readable entry ≡ true → longest_card < (entry_of entry).size → search_of log waiting page entry query ≡ Err why.Card → Alike
  long-alike g r l q = sym (q ∙ search_long log' waiting' page entry query true (sym a') refl true (sym g) refl true (sym r) refl (entry_of entry) refl l)

  abbrev SameBytes : Type 0
  SameBytes = (o : ℕ) → o < (entry_of entry).size
      → Answers (located log waiting page entry o) × Answers (located log' waiting' page entry o) × (file_byte (tape log' waiting') entry o ≡ file_byte (tape log waiting) entry o)

  read_alike : Open log waiting page entry → SameBytes → Alike
  read_alike p S =
      let p' : Open log' waiting' page entry = record { log-allowed = a'; page-allowed = p.page-allowed; entry-readable = p.entry-readable; short = p.short } in
      let reads : (o : ℕ) → o < (entry_of entry).size → Answers (located log waiting page entry o) = λ o h. (S o h).0 in
      let reads' : (o : ℕ) → o < (entry_of entry).size → Answers (located log' waiting' page entry o) = λ o h. (S o h).1 in
      let card = (card_of log waiting entry).bytes in
      read-judged log' waiting' page entry p' reads' query
      ∙ ap (λ (b : Bytes). judged b query)
      (read_as log' waiting' page entry p' reads' card (sym (read_length log waiting page entry p reads)) (λ o h. (S o h).2 ∙ read-bytes log waiting page entry p reads o h))
      ∙ sym (read-judged log waiting page entry p reads query)

pub same-bytes-same-answer : SameBytesSameAnswer
same-bytes-same-answer log waiting log' waiting' page entry query a a' S = go (course log waiting page entry query)
  where
    go : Course log waiting page entry query → Alike log waiting log' waiting' page entry query a'
    go (bad-log b q) = absurd (true≢false (sym a ∙ b))
    go (bad-page b g q) = page-alike log waiting log' waiting' page entry query a' g q
    go (bad-entry b g r q) = entry-alike log waiting log' waiting' page entry query a' g r q
    go (long b g r l q) = long-alike log waiting log' waiting' page entry query a' g r l q
    go (through p) = read_alike log waiting log' waiting' page entry query a' p S

-- ---- a log that holds the card's blocks

-- the reason for which a card is not read whole is reading's
stop_reason : (log waiting page entry : Bytes) → Open log waiting page entry → (w : Refusal) → (card_of log waiting entry).stop ≡ Err w → number_of w ≤ 19
stop_reason log waiting page entry p w e =
    readings_reasons log waiting page entry (length (card_of log waiting entry).bytes) w (stop-refused log waiting entry page p.page-allowed w e).1

-- and none of a card or a query
no_card : (w : Refusal) → number_of w ≤ 19 → OfTheCard (Err w) → ⊥
no_card w h (inl e) = let z : number_of w ≡ 25 = ap number_of e in omega arith
no_card w h (inr e) = let z : number_of w ≡ 26 = ap number_of e in omega arith

pub answered_elsewhere : AnsweredElsewhere
answered_elsewhere log waiting log' waiting' page entry query a' more c = go (course log waiting page entry query)
  where
    -- a test or a reading refused it
    not_so : (w : Refusal) → search_of log waiting page entry query ≡ Err w → number_of w ≤ 19 → ⊥
    not_so w q h = no_card w h (subst OfTheCard q c)

    read : Open log waiting page entry → (s : Result ⊤ Refusal) → (card_of log waiting entry).stop ≡ s → Alike log waiting log' waiting' page entry query a'
    read p (Ok tt) e =
        read_alike log waiting log' waiting' page entry query a' p
        (λ o h. let here = done-answers log waiting entry page p.page-allowed e o h in
        let there = reads_elsewhere log waiting log' waiting' page entry o a' more here in (here, there.0, there.1))
    read p (Err w) e =
        absurd (not_so w (opened log waiting page entry query p ∙ ap (λ (s : Result ⊤ Refusal). once_read s (card_of log waiting entry).bytes query) e) (stop_reason log waiting page entry p w e))

    go : Course log waiting page entry query → Alike log waiting log' waiting' page entry query a'
    go (bad-log b q) = absurd (not_so why.LogLength q (omega arith))
    go (bad-page b g q) = absurd (not_so why.Page q (omega arith))
    go (bad-entry b g r q) = absurd (not_so why.Entry q (omega arith))
    go (long b g r l q) = long-alike log waiting log' waiting' page entry query a' g r l q
    go (through p) = read p (card_of log waiting entry).stop refl
