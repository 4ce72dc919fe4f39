-- A card that is read whole: its bytes, and what is answered.
use mathlib.Core.Path.{◌≡◌, refl, sym, ap, ◌∙◌}
use mathlib.Core.Bool.{Bool, true, false, cond}
use mathlib.Core.List.{List}
use mathlib.Core.Option.{some}
use Prim.Native.Nat.{ℕ, ◌+◌, ◌≤◌, ◌<◌}
use native.Mathlib.Nat.{zero-add}
use native.Mathlib.Omega.{arith}
use lib.ListN.{length, get_or, drop, replicate, length-replicate, get_or-append}
use Rattle.std.specs.Prelude.{Ok, Err, Result, ⊤}
use Rattle.buffer.specs.Bytes.{Bytes}
use Rattle.refusal.specs.declared.Refusal.{Refusal}
use Rattle.refusal.specs.declared.Refusal.TheVariants as why
use Rattle.sector_log.specs.LookUp.{lent_allowed}
use Rattle.sector_log.specs.Parts.{tape}
use Rattle.entry.specs.Entry.{entry_of}
use Rattle.file.specs.File.{page_allowed, located}
use Rattle.leaf.specs.declared.Extent.TheVariants as extent
use Rattle.file.specs.declared.Located.TheVariants as run
use Rattle.file.proofs.Tests.{shown}
use Rattle.fill.specs.Fill.{Read, byte_at, byte, FillOutcome}
use Rattle.file_laws.specs.Path.{Answers}
use Rattle.file_laws.specs.Bytes.{file_byte}
use Rattle.file_laws.proofs.Extents.{shown-answers}
use Rattle.file_laws.proofs.Gathered.{Gathers, gathers}
use Rattle.file_laws.proofs.Filled.{byte-answers, byte-refused}
use Rattle.file_laws.proofs.Whole.{fill_whole}
use Rattle.kleene.specs.declared.Value.{Value}
use Rattle.card.specs.Card.{Line, front_lines, well_formed, lines_of}
use Rattle.card.proofs.Pinned.{lines_are}
use Rattle.evaluate.specs.Evaluate.{evaluate_of}
use Rattle.card_answer.specs.CardAnswer.{judged, once_read}
use Rattle.search.specs.Search.{card_of, search_of}
use Rattle.search.proofs.Reading.{filled-card}
use Rattle.search_laws.specs.Promises.{ReadAs, OnlyOfACard, CardIsTheFile}
use Rattle.search_laws.proofs.Course.{Open, opened, past-tests}

module _ (log waiting entry : Bytes) where
  abbrev lent : Bool
  lent = lent_allowed (length log) (length waiting)

  -- what is read at an offset
  abbrev read_at : ℕ → Read
  read_at = byte_at lent (tape log waiting) entry

  G : Gathers read_at (entry_of entry).size 0 (card_of log waiting entry)
  G = gathers read_at (entry_of entry).size 0

  -- a byte of what is read
  nth : (o : ℕ) → o < length (card_of log waiting entry).bytes → read_at o ≡ byte (get_or (card_of log waiting entry).bytes o 0)
  nth o h = ap read_at (sym (zero-add o)) ∙ G.each o h

  module _ (page : Bytes) (p : page_allowed page ≡ true) where
    -- offsets that are read answer
    pub front-answers : (o : ℕ) → o < length (card_of log waiting entry).bytes → Answers (located log waiting page entry o)
    front-answers o h = shown-answers log waiting page entry o (byte-answers lent (tape log waiting) entry page p o _ (nth o h))

    -- the offset that stops it is refused
    pub stop-refused : (w : Refusal) → (card_of log waiting entry).stop ≡ Err w
        → (length (card_of log waiting entry).bytes < (entry_of entry).size) × (located log waiting page entry (length (card_of log waiting entry).bytes) ≡ Err w)
    stop-refused w e =
        let n = length (card_of log waiting entry).bytes in
        let q = G.ends w e in
        (q.0, sym (shown log waiting page entry n (Err w) (sym (byte-refused lent (tape log waiting) entry page p n w (ap read_at (sym (zero-add n)) ∙ q.1)))))

    -- read to its end, every offset answers
    pub done-answers : (card_of log waiting entry).stop ≡ Ok tt → (o : ℕ) → o < (entry_of entry).size → Answers (located log waiting page entry o)
    done-answers e o h = front-answers o (omega (arith, G.done e))

    -- and the other way round
    pub answers-done : ((o : ℕ) → o < (entry_of entry).size → Answers (located log waiting page entry o)) → (card_of log waiting entry).stop ≡ Ok tt
    answers-done f = go (card_of log waiting entry).stop refl
      where
        go : (s : Result ⊤ Refusal) → (card_of log waiting entry).stop ≡ s → s ≡ Ok tt
        go (Ok tt) e = refl
        go (Err w) e =
            let q = stop-refused w e in
            absurd (rw q.1 at (f (length (card_of log waiting entry).bytes) q.0))

-- ---- a card

judged-lines : (card query : Bytes) (v : Value) → judged card query ≡ Ok v → lines_of card ≡ some (front_lines card)
unfolding judged
judged-lines card query v = go (well_formed card) refl
  where
    go : (t : Bool) → well_formed card ≡ t → cond t (evaluate_of card query) (Err why.Card) ≡ Ok v → lines_of card ≡ some (front_lines card)
    go true q e = rw q
    go false q e = let z : ◌≡◌ {A = ℕ} 0 1 = cc in absurd (omega arith)

pub only-of-a-card : OnlyOfACard
only-of-a-card log waiting page entry query v e = go (card_of log waiting entry).stop refl (sym (opened log waiting page entry query p) ∙ e)
  where
    p : Open log waiting page entry
    p = past-tests log waiting page entry query v e

    go : (s : Result ⊤ Refusal) → (card_of log waiting entry).stop ≡ s → once_read s (card_of log waiting entry).bytes query ≡ Ok v → (ls : List Line) × ReadAs log waiting page entry ls
    go (Ok tt) q f = (
      front_lines (card_of log waiting entry).bytes,
      record {
        log-allowed = p.log-allowed;
        page-allowed = p.page-allowed;
        entry-readable = p.entry-readable;
        short = p.short;
        reads = done-answers log waiting entry page p.page-allowed q;
        lines = judged-lines (card_of log waiting entry).bytes query v f;
      },
    )
    go (Err w) q f = let z : ◌≡◌ {A = ℕ} 0 1 = cc in absurd (omega arith)

-- what is answered of a card that reads
pub read_as_open : (log waiting page entry : Bytes) (ls : List Line) → ReadAs log waiting page entry ls → Open log waiting page entry
read_as_open log waiting page entry ls r = record { log-allowed = r.log-allowed; page-allowed = r.page-allowed; entry-readable = r.entry-readable; short = r.short }

pub read_answer : (log waiting page entry query : Bytes) (ls : List Line) → ReadAs log waiting page entry ls
    → search_of log waiting page entry query ≡ evaluate_of (card_of log waiting entry).bytes query
unfolding judged
read_answer log waiting page entry query ls r =
    let card = (card_of log waiting entry).bytes in
    opened log waiting page entry query (read_as_open log waiting page entry ls r)
    ∙ ap (λ (s : Result ⊤ Refusal). once_read s card query) (answers-done log waiting entry page r.page-allowed r.reads)
    ∙ rw (lines_are card ls r.lines).0

-- its bytes are the file's
module _ (log waiting page entry : Bytes) (p : Open log waiting page entry) (reads : (o : ℕ) → o < (entry_of entry).size → Answers (located log waiting page entry o)) where
  pub read_done : (card_of log waiting entry).stop ≡ Ok tt
  read_done = answers-done log waiting entry page p.page-allowed reads

  pub read_length : length (card_of log waiting entry).bytes ≡ (entry_of entry).size
  read_length = (G log waiting entry).done read_done

  pub read-bytes : (i : ℕ) → i < (entry_of entry).size → file_byte (tape log waiting) entry i ≡ some (get_or (card_of log waiting entry).bytes i 0)
  read-bytes i h =
      let n = (entry_of entry).size in
      let b = (card_of log waiting entry).bytes in
      let d : Bytes = replicate n 0 in
      let room : n ≤ length d = omega (arith, length-replicate {A = ℕ} n 0) in
      (fill_whole log waiting page entry d reads room).1 i h
      ∙ ap (λ (x : FillOutcome). some (get_or x.buffer i 0)) (filled-card log waiting entry d n p.log-allowed p.entry-readable refl room (λ e. omega (arith, h, e)))
      ∙ ap (λ (x : ℕ). some x) (get_or-append b (drop (0 + length b) d) 0 i (omega (arith, h, read_length)))

pub card-is_the_file : CardIsTheFile
card-is_the_file log waiting page entry ls r =
    let p = read_as_open log waiting page entry ls r in
    (read_length log waiting page entry p r.reads, read-bytes log waiting page entry p r.reads)
