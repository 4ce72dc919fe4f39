-- What was written is read back, on any log, and after any later requests.
use mathlib.Core.Path.{◌≡◌, refl, sym, ap, ap₂, ◌∙◌, subst}
use mathlib.Core.Bool.{true, cond}
use mathlib.Core.List.{List, [], ◌∷◌, ◌++◌, append-nil}
use mathlib.Core.Option.{Option, none, some}
use Prim.Native.Nat.{ℕ, zero, suc, ◌+◌, ◌-◌, ◌*◌, ◌/◌, ◌^◌, ◌≤◌, ◌<◌, min}
use native.Mathlib.Nat.{div-eq_of_lt, div-lt_iff_lt-mul, mul-zero, mul_comm}
use native.Mathlib.Omega.{arith}
use lib.Dec.{eqb}
use lib.ListN.{length, take, drop, get_or, take-append-drop, length-drop}
use lib.Seq.{ext_get_or, get_or-take, get_or-drop, length-take-le}
use borrow.Author.Tests.{le-leb, le-ltb, ne_eqb, eq-eqb}
use Rattle.bedrock.specs.Choice.{on}
use Rattle.bedrock.proofs.Choices.{some_same}
use Rattle.buffer.specs.Bytes.{Bytes}
use Rattle.digits.specs.Number.{small}
use Rattle.refusal.specs.declared.Refusal.TheVariants.{Offset}
use Rattle.kind.specs.Kind.{longest, zero_score}
use Rattle.kind.proofs.ZeroScore.{length-zero-score}
use Rattle.block.specs.Block.{Row}
use Rattle.sector_log.specs.Parts.{Lent, beside, tape}
use Rattle.sector_log.specs.LookUp.{held, lent_allowed}
use Rattle.entry.specs.declared.Entry.{Entry}
use Rattle.entry.specs.Entry.{entry_of, score_of, well_formed}
use Rattle.entry.proofs.Made.{file_entry, made-length, made-score, made-entry}
use Rattle.tree.specs.Tree.{piece}
use Rattle.leaf.specs.Leaf.{under}
use Rattle.file.specs.File.{page_allowed, entry_readable, located}
use Rattle.file.proofs.Tests.{goes_down}
use Rattle.fill.specs.Fill.{FillOutcome, fill_outcome, fill_in, fill_of}
use Rattle.file_laws.specs.Path.{Answers}
use Rattle.file_laws.specs.Bytes.{byte_under, file_byte, laid}
use Rattle.file_laws.proofs.Extents as extents
use Rattle.file_laws.proofs.Laid.{whole-file}
use Rattle.file_laws.proofs.Filled.{course, fill_files}
use Rattle.file_laws.proofs.Whole.{buffer-long, fill_from}
use Rattle.sha1_digest.specs.Sha1.{sha1_of}
use Rattle.demands.specs.Ledger.{Extent}
use Rattle.promises.specs.Histories.{Keeps, afterwards}
use Rattle.promises.proofs.Keeps.{list_keeps}
use Rattle.trees.specs.Again.{waiting_of}
use Rattle.writer.specs.Blocks.{Typed, leaves, scores_of, scores_at, pointer_blocks, width_of, file_blocks, top_of, top_score}
use Rattle.writer.specs.WriteFile.{WriteOutcome, store_all, entry_after, entry_over, write_file}
use Rattle.writer.proofs.Depth.{depth_lies, least-found}
use Rattle.writer_laws.specs.Held.{HoldsAll}
use Rattle.writer_laws.specs.ReadBack.{Reads, ReadsBack, ReadsBackLater}
use Rattle.writer_laws.proofs.Held.{none_left, stays}
use Rattle.writer_laws.proofs.Back.{count, length_at, read_at_lem}
use Rattle.writer_laws.proofs.Written.{writable_file, holds_both, holds_level, Passed, passed}
use Rattle.std.specs.Prelude.{Ok, Err, Result, ⊤}
use Rattle.refusal.specs.declared.Refusal.{Refusal}

-- the entry that is handed back, and what is read of it
module _ (slice : Bytes) (dsize psize depth : ℕ) (d-from : 1 ≤ dsize) (d-to : dsize ≤ longest) (p-from : 40 ≤ psize) (p-to : psize ≤ longest)
    (few : depth ≤ 7) (short : length slice ≤ longest) (fits : length slice ≤ dsize * (psize / 20) ^ depth) where
  abbrev E : Entry
  E = file_entry psize dsize depth (length slice)

  abbrev made : Bytes
  made = entry_over slice dsize psize depth

  abbrev top : Bytes
  top = scores_at (width_of psize) (scores_of (leaves dsize slice)) depth

  top-long : length top ≡ 20 * count [] slice E 0 refl (omega arith) p-from depth
  top-long = length_at [] slice E 0 refl (omega arith) p-from depth

  top-length : length (top_score slice dsize psize depth) ≡ 20
  unfolding top_score top_of
  top-length = go (count [] slice E 0 refl (omega arith) p-from depth) top-long
    where
      go : (c : ℕ) → length top ≡ 20 * c → length (cond (eqb (length top) 0) zero_score (take 20 top)) ≡ 20
      go zero e = rw (eq-eqb (length top) 0 (omega arith)) length-zero-score
      go (suc c) e = rw (ne_eqb (length top) 0 (λ z. omega arith)) (length-take-le 20 top (omega arith))

  pub entry-is : entry_of made ≡ E
  entry-is = made-entry psize dsize depth (length slice) (top_score slice dsize psize depth) (omega arith) (omega arith) (omega arith) (omega arith)

  pub score-is : score_of made ≡ top_score slice dsize psize depth
  score-is = made-score psize dsize depth (length slice) (top_score slice dsize psize depth) top-length

  pub well_formed_lem : well_formed E ≡ true
  unfolding well_formed
  well_formed_lem = rw (le-leb 40 psize p-from, le-leb psize longest p-to, le-leb 1 dsize d-from, le-leb dsize longest d-to, le-leb (length slice) (dsize * (psize / 20) ^ depth) fits) refl

  pub readable : entry_readable made ≡ true
  unfolding entry_readable
  readable =
      rw (eq-eqb (length made) 40 (made-length psize dsize depth (length slice) (top_score slice dsize psize depth) top-length), entry-is, well_formed_lem) refl

  -- the top leads to every offset
  module _ (o : ℕ) (inside : o < length slice) where
    index-top : o / dsize / (psize / 20) ^ depth ≡ 0
    index-top =
        div-eq_of_lt ((div-lt_iff_lt-mul {k = dsize} d-from).1 (omega (arith, fits, mul_comm dsize ((psize / 20) ^ depth))))

    top-first : (c : ℕ) → 0 < c → length top ≡ 20 * c → piece 20 0 top ≡ top_score slice dsize psize depth
    unfolding top_score top_of
    top-first c h e = rw (ne_eqb (length top) 0 (λ z. omega arith)) (ap (λ (n : ℕ). take 20 (drop n top)) (mul-zero 20))

    module _ (log : Bytes) (page : ℕ) (H : HoldsAll log (file_blocks slice dsize psize depth)) where
      both : HoldsAll log (leaves dsize slice) × HoldsAll log (pointer_blocks (width_of psize) (scores_of (leaves dsize slice)) depth)
      unfolding file_blocks
      both = holds_both log (leaves dsize slice) (pointer_blocks (width_of psize) (scores_of (leaves dsize slice)) depth) H

      read-top : (byte_under log E o depth (top_score slice dsize psize depth) ≡ some (get_or slice o 0)) × extents.Reads (under log page E o depth (top_score slice dsize psize depth))
      read-top =
          let r = read_at_lem log slice E page refl d-from p-from depth few both.0 (holds_level log (width_of psize) (scores_of (leaves dsize slice)) depth both.1) o inside depth (omega arith) in
          let l = length_at log slice E page refl d-from p-from depth in
          let first : piece 20 (o / dsize / (psize / 20) ^ depth) top ≡ top_score slice dsize psize depth =
          ap (λ (i : ℕ). piece 20 i top) index-top ∙ top-first (count log slice E page refl d-from p-from depth) (omega (arith, r.0)) l in
          rw (← first) r.1

      pub read_byte : file_byte log made o ≡ some (get_or slice o 0)
      unfolding file_byte
      read_byte = ap₂ (λ (e : Entry) (s : Bytes). byte_under log e o e.depth s) entry-is score-is ∙ read-top.0

      under-made : under log page (entry_of made) o (entry_of made).depth (score_of made) ≡ under log page E o depth (top_score slice dsize psize depth)
      under-made = ap₂ (λ (e : Entry) (s : Bytes). under log page e o e.depth s) entry-is score-is

      pub read-run : extents.Reads (under log page (entry_of made) o (entry_of made).depth (score_of made))
      read-run = rw under-made read-top.1

  -- a log that holds the file's blocks reads as the slice
  module _ (log w page : Bytes) (allowed : lent_allowed (length log) (length w) ≡ true) (zeros : page_allowed page ≡ true)
      (H : HoldsAll (tape log w) (file_blocks slice dsize psize depth)) where
    size_is : (entry_of made).size ≡ length slice
    size_is = ap (λ (e : Entry). e.size) entry-is

    answer : (o : ℕ) → o < length slice → Answers (located log w page made o)
    answer o h =
        let below : o < (entry_of made).size = omega (arith, size_is) in
        let down = goes_down (lent_allowed (length log) (length w)) (tape log w) page made o true (sym allowed) refl true (sym zeros) refl true (sym readable) refl (entry_of made) refl below in
        extents.shown-answers log w page made o (rw (← down) (read-run o h (tape log w) (length page) H))

    every : (o : ℕ) → o < (entry_of made).size → Answers (located log w page made o)
    every o h = answer o (omega (arith, size_is))

    laid-is : laid (length slice) log w page made 0 ≡ slice
    laid-is =
        let whole = whole-file log w page made every in
        let same-laid = ap (λ (n : ℕ). laid n log w page made 0) size_is in
        let long : length (laid (length slice) log w page made 0) ≡ length slice = sym (ap length same-laid) ∙ whole.0 ∙ size_is in
        ext_get_or 0 (laid (length slice) log w page made 0) slice long
        (λ i h. let inside : i < length slice = omega arith in
        let got = sym (whole.1 i (omega (arith, size_is))) ∙ read_byte i inside (tape log w) 0 H in
        ap (λ (x : Bytes). get_or x i 0) (sym same-laid) ∙ some_same _ _ got)

    -- a buffer filled from an offset on
    module _ (o : ℕ) (d : Bytes) where
      abbrev r : FillOutcome
      r = fill_of log w made o d

      abbrev n : ℕ
      n = min (length d) (length slice - o)

      fill_is : o < length slice → r ≡ fill_outcome (record { count = n; stop = (Ok tt) }) (take n (drop o slice) ++ drop n d)
      fill_is inside =
          let F = fill_from log w page made o d (omega (arith, size_is)) (λ x _ h. every x h) in
          let G = fill_files log w made o d in
          let counted : r.filled.count ≡ n = F.0 ∙ ap (λ (k : ℕ). min (length d) (k - o)) size_is in
          let lent = lent_allowed (length log) (length w) in
          let room : n ≤ length r.buffer = omega (arith, counted, buffer-long lent (tape log w) made o d (course lent (tape log w) made o d)) in
          let front : take n r.buffer ≡ take n (drop o slice) =
          ext_get_or 0 (take n r.buffer) (take n (drop o slice)) (length-take-le n r.buffer room ∙ sym (length-take-le n (drop o slice) (omega (arith, length-drop o slice))))
          (λ i h. let g : i < n = omega (arith, h, length-take-le n r.buffer room) in
          get_or-take n r.buffer i 0 g ∙ some_same _ _ (sym (G.2 i (omega (arith, counted))) ∙ read_byte (o + i) (omega arith) (tape log w) 0 H)
          ∙ sym (get_or-take n (drop o slice) i 0 g ∙ get_or-drop o slice i 0)) in
          let rest : drop n r.buffer ≡ drop n d = ap (λ (k : ℕ). drop k r.buffer) (sym counted) ∙ G.3 ∙ ap (λ (k : ℕ). drop k d) counted in
          let all : r.buffer ≡ take n (drop o slice) ++ drop n d = sym (take-append-drop n r.buffer) ∙ ap₂ ◌++◌ front rest in
          λ i. record { filled = record { count = counted i; stop = F.1 i }; buffer = all i }

      fill_past : length slice ≤ o → r ≡ fill_outcome (record { count = 0; stop = Err Offset }) d
      unfolding fill_in
      fill_past h = rw (allowed, readable, le-ltb o (entry_of made).size (omega (arith, size_is))) refl

    pub reads_made : Reads log w page made slice
    reads_made = record {
      allowed = allowed;
      readable = readable;
      size = size_is;
      answers = answer;
      bytes = λ o h. read_byte o h (tape log w) 0 H;
      runs = laid-is;
      filled = fill_is;
      past_end = fill_past;
    }

-- ---- the call

-- nothing left out
pub all-before : (xs before rest : List Typed) → xs ≡ before ++ rest → rest ≡ [] → xs ≡ before
all-before xs before rest split none_out = split ∙ ap (λ ys. before ++ ys) none_out ∙ append-nil before

-- what a call that succeeds leaves: the entry, in a log that holds the file's blocks
pub record Done-with (log w date slice : Bytes) (dsize psize : ℕ) (entry scores : Bytes) : Type 0 where
  pub tests : Passed log w date slice dsize psize entry scores
  pub part : Bytes
  pub lent : (write_file log w date slice dsize psize entry scores).lent ≡ beside log part
  pub long : length part ≡ length w
  pub handed : (write_file log w date slice dsize psize entry scores).entry ≡ entry_over slice dsize psize tests.depth
  pub holds : HoldsAll (tape log part) (file_blocks slice dsize psize tests.depth)

module _ (log w date slice : Bytes) (dsize psize : ℕ) (entry scores : Bytes) (sm : small slice ≡ true) (done : (write_file log w date slice dsize psize entry scores).end ≡ Ok tt) where
  abbrev T : Passed log w date slice dsize psize entry scores
  T = passed log w date slice dsize psize entry scores done

  pub done_with : Done-with log w date slice dsize psize entry scores
  done_with =
      let d = T.depth in
      let lies = depth_lies (length slice) dsize psize d T.deep in
      let few = (least-found (length slice) dsize (psize / 20) d lies.least).0 in
      let xs = file_blocks slice dsize psize d in
      let S = stays log w date xs T.lent T.dated (writable_file slice dsize psize d lies.dsize-to lies.psize-from lies.psize-to few sm) in
      let ended : (store_all (beside log w) date xs).end ≡ Ok tt = sym (ap (λ (o : WriteOutcome). o.end) T.written_so) ∙ done in
      let before = S.1 in
      let all : xs ≡ before = all-before xs before S.2 S.5 (none_left (store_all (beside log w) date xs) date S.2 S.9 ended) in
      record {
        tests = T;
        part = S.0;
        lent = ap (λ (o : WriteOutcome). o.lent) T.written_so ∙ S.3;
        long = S.4;
        handed = ap (λ (o : WriteOutcome). o.entry) T.written_so ∙ ap (λ (e : Result ⊤ Refusal). entry_after e entry (entry_over slice dsize psize d)) ended;
        holds = subst (HoldsAll (tape log S.0)) (sym all) S.7;
      }

pub reads_back : ReadsBack
reads_back log w date slice dsize psize entry scores page sm zeros done =
    let D = done_with log w date slice dsize psize entry scores sm done in
    let d = D.tests.depth in
    let lies = depth_lies (length slice) dsize psize d D.tests.deep in
    let least = least-found (length slice) dsize (psize / 20) d lies.least in
    let allowed : lent_allowed (length log) (length D.part) ≡ true = ap (lent_allowed (length log)) D.long ∙ D.tests.lent in
    rw (D.lent, D.handed)
    (reads_made slice dsize psize d lies.dsize-from lies.dsize-to lies.psize-from lies.psize-to least.0 D.tests.short least.1 log D.part page allowed zeros D.holds)

-- ---- and later

pub holds_later : (log later : Bytes) (xs : List Typed) → ((t : ℕ) (s : Bytes) (r : Row) → held log t s ≡ some r → held later t s ≡ some r) → HoldsAll log xs → HoldsAll later xs
holds_later log later [] k H = tt
holds_later log later (x ∷ xs) k H =
    let h = H.0 in ((h.0, k x.kind (sha1_of x.bytes) h.0 h.1, h.2), holds_later log later xs k H.1)

pub reads_back_later : ReadsBackLater
reads_back_later log w date slice dsize psize entry scores page sm zeros done past qs small-qs =
    let D = done_with log w date slice dsize psize entry scores sm done in
    let keeps = list_keeps (record { log = (write_file log w date slice dsize psize entry scores).lent; past = past }) qs small-qs in
    rw D.handed (go D (afterwards (write_file log w date slice dsize psize entry scores).lent past qs)
    (subst (λ (L : Lent). Keeps L (afterwards (write_file log w date slice dsize psize entry scores).lent past qs)) D.lent keeps))
  where
    at : (D : Done-with log w date slice dsize psize entry scores) (l : Bytes) (v : Option Bytes) → Keeps (beside log D.part) (record { log = l; waiting = v })
        → let later : Lent = record { log = l; waiting = v } in Reads l (waiting_of later) page (entry_over slice dsize psize D.tests.depth) slice
    at D l none k = let z : ◌≡◌ {A = ℕ} 0 1 = ap (λ (x : Extent). on x.waiting 0 (λ n. 1)) k.0 in absurd (omega arith)
    at D l (some v) k =
        let d = D.tests.depth in
        let lies = depth_lies (length slice) dsize psize d D.tests.deep in
        let least = least-found (length slice) dsize (psize / 20) d lies.least in
        let ll : length l ≡ length log = ap (λ (x : Extent). x.size) k.0 in
        let lv : length v ≡ length D.part = ap (λ (x : Extent). on x.waiting 0 (λ n. n)) k.0 in
        let allowed : lent_allowed (length l) (length v) ≡ true = ap₂ lent_allowed ll (lv ∙ D.long) ∙ D.tests.lent in
        reads_made slice dsize psize d lies.dsize-from lies.dsize-to lies.psize-from lies.psize-to least.0 D.tests.short least.1 l v page allowed zeros
        (holds_later (tape log D.part) (tape l v) (file_blocks slice dsize psize d) k.1 D.holds)

    go : (D : Done-with log w date slice dsize psize entry scores) (later : Lent) → Keeps (beside log D.part) later
        → Reads later.log (waiting_of later) page (entry_over slice dsize psize D.tests.depth) slice
    go D later k = at D later.log later.waiting k
