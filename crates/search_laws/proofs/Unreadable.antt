-- A card that can't be read is the refusal at the first refused offset, and no value.
use mathlib.Core.Path.{◌≡◌, refl, sym, ap, ◌∙◌}
use mathlib.Core.Bool.{Bool, true, false}
use Prim.Native.Nat.{ℕ, ◌≤◌, ◌<◌}
use native.Mathlib.Omega.{arith}
use lib.Dec.{ltb}
use borrow.Author.Tests.{ltb-true, ltb-false}
use lib.ListN.{length}
use Rattle.std.specs.Prelude.{Err, Ok, Result, ⊤}
use Rattle.buffer.specs.Bytes.{Bytes}
use Rattle.refusal.specs.declared.Refusal.{Refusal}
use Rattle.refusal.specs.declared.Refusal.TheVariants as why
use Rattle.sector_log.specs.LookUp.{absence, lent_allowed}
use Rattle.sector_log.specs.Parts.{tape}
use Rattle.entry.specs.Entry.{entry_of}
use Rattle.file.specs.File.{extent_at, located}
use Rattle.leaf.specs.declared.Extent.TheVariants as extent
use Rattle.file.specs.declared.Located.{Located}
use Rattle.file.specs.declared.Located.TheVariants as run
use Rattle.file.proofs.Tests.{stops_log, stops_page, stops_entry, shown}
use Rattle.file_laws.specs.Path.{Answers}
use Rattle.file_laws.proofs.Missing.{read_whole, missing-is-refused}
use Rattle.card_answer.specs.CardAnswer.{once_read}
use Rattle.search.specs.Search.{longest_card, card_of, search_of}
use Rattle.search_laws.specs.Promises.{UnreadableIsRefused, MissingIsItsNumber, UnreadableHasNoValue, MissingHasNoValue, EveryBlockHeld}
use Rattle.search_laws.proofs.Course.{Open, Course, bad-log, bad-page, bad-entry, long, through, course, opened}
use Rattle.search_laws.proofs.Whole.{front-answers, stop-refused, done-answers, only-of-a-card}

-- a refused offset doesn't answer
no_answer : (x : Result Located Refusal) (w : Refusal) → x ≡ Err w → Answers x → ⊥
no_answer x w e a = rw e at a

same_reason : (x : Result Located Refusal) (v w : Refusal) → x ≡ Err v → x ≡ Err w → v ≡ w
same_reason x v w e f = cc

-- every offset before o answers
abbrev FirstAt : Bytes → Bytes → Bytes → Bytes → ℕ → Type 0
FirstAt log waiting page entry o = (p : ℕ) → p < o → Answers (located log waiting page entry p)

module _ (log waiting page entry query : Bytes) (o : ℕ) (w : Refusal) (h : o < (entry_of entry).size) (f : FirstAt log waiting page entry o) (e : located log waiting page entry o ≡ Err w) where
  abbrev lent : Bool
  lent = lent_allowed (length log) (length waiting)

  abbrev both : Bytes
  both = tape log waiting

  -- the reason of a test is that of reading, and the search's
  tested : (v : Refusal) → search_of log waiting page entry query ≡ Err v → Err v ≡ extent_at lent both page entry o → search_of log waiting page entry query ≡ Err w
  tested v q l = q ∙ ap (λ (x : Refusal). Err x) (same_reason (located log waiting page entry o) v w (sym (shown log waiting page entry o (Err v) l)) e)

  -- reading stops at this offset
  first : Open log waiting page entry → (card_of log waiting entry).stop ≡ Err w
  first p = go (card_of log waiting entry).stop refl
    where
      n : ℕ
      n = length (card_of log waiting entry).bytes

      at : (v : Refusal) → (n < (entry_of entry).size) × (located log waiting page entry n ≡ Err v) → (a b : Bool) → ltb n o ≡ a → ltb o n ≡ b → ◌≡◌ {A = Result ⊤ Refusal} (Err v) (Err w)
      at v q true b s t = absurd (no_answer (located log waiting page entry n) v q.1 (f n (ltb-true n o s)))
      at v q false true s t = absurd (no_answer (located log waiting page entry o) w e (front-answers log waiting entry page p.page-allowed o (ltb-true o n t)))
      at v q false false s t =
          let z : n ≡ o = omega (arith, ltb-false n o s, ltb-false o n t) in
          ap (λ (x : Refusal). Err x) (same_reason (located log waiting page entry o) v w (ap (located log waiting page entry) (sym z) ∙ q.1) e)

      go : (s : Result ⊤ Refusal) → (card_of log waiting entry).stop ≡ s → s ≡ Err w
      go (Ok tt) q = absurd (no_answer (located log waiting page entry o) w e (done-answers log waiting entry page p.page-allowed q o h))
      go (Err v) q = at v (stop-refused log waiting entry page p.page-allowed v q) (ltb n o) (ltb o n) refl refl

  unreadable : (entry_of entry).size ≤ longest_card → Course log waiting page entry query → search_of log waiting page entry query ≡ Err w
  unreadable s (bad-log a q) = tested why.LogLength q (stops_log lent both page entry o false (sym a) refl)
  unreadable s (bad-page a g q) = tested why.Page q (stops_page lent both page entry o true (sym a) refl false (sym g) refl)
  unreadable s (bad-entry a g r q) = tested why.Entry q (stops_entry lent both page entry o true (sym a) refl true (sym g) refl false (sym r) refl)
  unreadable s (long a g r l q) = absurd (omega arith)
  unreadable s (through p) = opened log waiting page entry query p ∙ ap (λ (x : Result ⊤ Refusal). once_read x (card_of log waiting entry).bytes query) (first p)

pub unreadable_is-refused : UnreadableIsRefused
unreadable_is-refused log waiting page entry query o w s h f e = unreadable log waiting page entry query o w h f e s (course log waiting page entry query)

pub missing-is_its_number : MissingIsItsNumber
missing-is_its_number log waiting page entry query o a g r s h f l =
    unreadable_is-refused log waiting page entry query o (absence (tape log waiting)) s h f (missing-is-refused log waiting page entry o a g r h l)

pub unreadable_has_no_value : UnreadableHasNoValue
unreadable_has_no_value log waiting page entry query o w v h e q = no_answer (located log waiting page entry o) w e ((only-of-a-card log waiting page entry query v q).1.reads o h)

pub missing-has_no_value : MissingHasNoValue
missing-has_no_value log waiting page entry query o v h l q =
    let r = (only-of-a-card log waiting page entry query v q).1 in
    no_answer (located log waiting page entry o) (absence (tape log waiting))
    (missing-is-refused log waiting page entry o r.log-allowed r.page-allowed r.entry-readable h l) (r.reads o h)

pub every_block-held : EveryBlockHeld
every_block-held log waiting page entry query v q o h = read_whole log waiting page entry o ((only-of-a-card log waiting page entry query v q).1.reads o h)
