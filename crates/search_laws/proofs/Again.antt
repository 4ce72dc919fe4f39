-- A value is given again after any requests: every byte of the card reads again.
use mathlib.Core.Path.{◌≡◌, refl, sym, ap, ◌∙◌}
use mathlib.Core.Bool.{Bool}
use mathlib.Core.List.{[], ◌∷◌}
use Prim.Native.Nat.{ℕ, ◌+◌, ◌≤◌, ◌<◌}
use native.Mathlib.Omega.{arith}
use lib.ListN.{length, take, drop, get_or, length-take}
use lib.Seq.{get_or-take, get_or-drop}
use Rattle.buffer.specs.Bytes.{Bytes}
use Rattle.sector_log.specs.LookUp.{lent_allowed}
use Rattle.sector_log.specs.Parts.{tape, Lent}
use Rattle.promises.specs.Histories.{afterwards}
use Rattle.entry.specs.Entry.{entry_of}
use Rattle.file.specs.File.{extent_at, located}
use Rattle.leaf.specs.declared.Extent.{Extent}
use Rattle.leaf.specs.declared.Extent.TheVariants as run
use Rattle.fill.specs.Fill.{byte, byte_of, byte_at, Gathered}
use Rattle.fill.proofs.Gather.{gathered-same}
use Rattle.fill.proofs.Tests.{zero-page}
use Rattle.file_laws.specs.Path.{Answers}
use Rattle.file_laws.proofs.Extents.{Reads, extent_bytes, shown-bytes, shown-reads}
use Rattle.file_laws.proofs.Laid.{run-bytes}
use Rattle.trees.specs.Again.{waiting_of, ReadsAlike}
use Rattle.trees.proofs.Again.{same-lent, after_any}
use Rattle.card_answer.specs.CardAnswer.{once_read}
use Rattle.search.specs.Search.{card_of}
use Rattle.search_laws.specs.Promises.{AgainAfterAny}
use Rattle.search_laws.proofs.Course.{Open, past-tests, opened}
use Rattle.search_laws.proofs.Whole.{done-answers, answers-done, only-of-a-card}
use Rattle.std.specs.Prelude.{Ok, Err, Result}
use Rattle.refusal.specs.declared.Refusal.{Refusal}

-- the first byte of one run in two logs
same_first : (log later : Bytes) (x : Result Extent Refusal) → Reads x → 1 ≤ length (extent_bytes log (0 ∷ []) x) → extent_bytes later (0 ∷ []) x ≡ extent_bytes log (0 ∷ []) x
    → byte_of later x ≡ byte_of log x
same_first log later (Ok (run.Stored at n)) a h e =
    let k : 0 < n = omega (arith, length-take n (drop at log)) in
    let z : at + 0 ≡ at = omega arith in
    let first : (s : Bytes) → get_or s at 0 ≡ get_or (take n (drop at s)) 0 0 =
    λ s. sym (get_or-take n (drop at s) 0 0 k ∙ get_or-drop at s 0 0 ∙ ap (λ (i : ℕ). get_or s i 0) z) in
    ap byte (first later ∙ ap (λ (s : Bytes). get_or s 0 0) e ∙ sym (first log))
same_first log later (Ok (run.Zeros n)) a h e = refl
same_first log later (Err w) a h e = absurd a

module _ (L later : Lent) (entry : Bytes) (alike : ReadsAlike L later) where
  abbrev lent_in : Lent → Bool
  lent_in X = lent_allowed (length X.log) (length (waiting_of X))

  abbrev both_in : Lent → Bytes
  both_in X = tape X.log (waiting_of X)

  module _ (l : lent_in later ≡ lent_in L) where
    byte_again : (o : ℕ) → Answers (located L.log (waiting_of L) (0 ∷ []) entry o) → byte_at (lent_in later) (both_in later) entry o ≡ byte_at (lent_in L) (both_in L) entry o
    byte_again o a =
        let x = extent_at (lent_in L) (both_in L) (0 ∷ []) entry o in
        let R = alike (0 ∷ []) entry o a in
        let bytes : extent_bytes (both_in later) (0 ∷ []) x ≡ extent_bytes (both_in L) (0 ∷ []) x =
        ap (extent_bytes (both_in later) (0 ∷ [])) (sym R.0)
        ∙ ap (λ (b : Bool). extent_bytes (both_in later) (0 ∷ []) (extent_at b (both_in later) (0 ∷ []) entry o)) (sym l)
        ∙ sym (shown-bytes later.log (waiting_of later) (0 ∷ []) entry o) ∙ R.1 ∙ shown-bytes L.log (waiting_of L) (0 ∷ []) entry o in
        let some : 1 ≤ length (extent_bytes (both_in L) (0 ∷ []) x) =
        rw (← shown-bytes L.log (waiting_of L) (0 ∷ []) entry o) (run-bytes L.log (waiting_of L) (0 ∷ []) entry o a).0 in
        ap (λ (b : Bool). byte_at b (both_in later) entry o) l
        ∙ ap (byte_of (both_in later)) R.0
        ∙ same_first (both_in L) (both_in later) x (shown-reads L.log (waiting_of L) (0 ∷ []) entry o a) some bytes

    card_again : ((o : ℕ) → o < (entry_of entry).size → Answers (located L.log (waiting_of L) (0 ∷ []) entry o))
        → card_of later.log (waiting_of later) entry ≡ card_of L.log (waiting_of L) entry
    card_again f =
        gathered-same (byte_at (lent_in later) (both_in later) entry) (byte_at (lent_in L) (both_in L) entry) (entry_of entry).size 0 (λ j h k. byte_again j (f j (omega arith)))

pub again_after_any : AgainAfterAny
again_after_any L past qs b page entry query v e =
    let later = afterwards L past qs in
    let log = L.log in
    let waiting = waiting_of L in
    let A = after_any L past qs b in
    let l = same-lent L later A.keeps in
    let p : Open log waiting page entry = past-tests log waiting page entry query v e in
    let r = (only-of-a-card log waiting page entry query v e).1 in
    let c : card_of later.log (waiting_of later) entry ≡ card_of log waiting entry =
    card_again L later entry A.reads l (done-answers log waiting entry (0 ∷ []) zero-page (answers-done log waiting entry page p.page-allowed r.reads)) in
    let q : Open later.log (waiting_of later) page entry = record {
      log-allowed = l ∙ p.log-allowed;
      page-allowed = p.page-allowed;
      entry-readable = p.entry-readable;
      short = p.short;
    } in
    opened later.log (waiting_of later) page entry query q
    ∙ ap (λ (g : Gathered). once_read g.stop g.bytes query) c ∙ sym (opened log waiting page entry query p) ∙ e
