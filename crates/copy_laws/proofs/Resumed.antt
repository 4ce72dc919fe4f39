-- Blocks stored in a log that is lent with more blank sectors: the same blocks at the same places.
use mathlib.Core.Path.{◌≡◌, refl, sym, ap, ap₂, subst, ◌∙◌}
use mathlib.Core.Bool.{true}
use mathlib.Core.List.{List, [], ◌∷◌, ◌++◌, append_assoc, append-nil}
use mathlib.Core.Logic.{◌⊎◌, inl, inr}
use Prim.Native.Nat.{ℕ, ◌+◌, ◌*◌, ◌%◌, ◌≤◌, ◌^◌}
use native.Mathlib.Omega.{arith}
use lib.Dec.{eqb}
use borrow.Author.Tests.{le-leb, eqb-true}
use lib.ListN.{length, take, drop, replicate}
use lib.Seq.{take-append-le, drop-append-le}
use Rattle.buffer.specs.Bytes.{Bytes}
use Rattle.sha1_digest.specs.Sha1.{sha1_of}
use Rattle.sector.specs.Sector.{is_date}
use Rattle.block.specs.Block.{Row, parts, images, written}
use Rattle.block.specs.Log.{sectors, used}
use Rattle.sector_log.specs.LookUp.{held}
use Rattle.sector_log.specs.Parts.{alone, tape, room_for, append_row}
use Rattle.sector_log.specs.Store.{AfterStore, store, new_row, parts_for}
use Rattle.sector_log.proofs.Alike.{held-alike}
use Rattle.sector_log.proofs.Allowed.{allowed-whole}
use Rattle.visit.specs.declared.Walked.{Walked}
use Rattle.refusal.specs.declared.Refusal.TheVariants.{Spent}
use Rattle.visit.specs.Visit.{walked}
use Rattle.demands.specs.Instance.{grown}
use Rattle.demands.proofs.LogLaws.{length-grown, at-grown, used-grown}
use Rattle.copying.specs.Copy.{Copied, copied, store_end, copy_allowed, copy_of}
use Rattle.copying.specs.PostOrder.{type_of, Visit, PostOrder, post_order_of, stored, store_visits}
use Rattle.copying.specs.Promises.{Holds, Shown, HoldsAll, wrote_all, Writes, none, next, StopsAt, ended}
use Rattle.copying.specs.Promises.{refused as refusedAt}
use Rattle.copying.proofs.Stored.{Stored, new, there, refused, Fits}
use Rattle.copying.proofs.Writes.{not-of-second, refuses_second, there-stored, stored_visit, writes-held, then-done, all_there}
use Rattle.copying.proofs.InPostOrder.{onward, store-append, copy_is_stores}
use Rattle.copying.proofs.Promised.{Tested, failed, passed, tested, fits, stops, holds_along, second-allowed, copied-stays}
use Rattle.copying.proofs.Allowance.{more_allowance}
use Rattle.copy_laws.specs.Resumed.{CopyResumes, CopyInRounds}
use Rattle.copy_laws.proofs.Asked.{as_long}
use Rattle.std.specs.Prelude.{Ok, Err}

abbrev Whole : Bytes → Type 0
Whole s = eqb (length s % 512) 0 ≡ true

module _ (k : ℕ) (s : Bytes) (whole : Whole s) where
  held_grown : (t : ℕ) (x : Bytes) → held (grown k s) t x ≡ held s t x
  held_grown t x = held-alike (grown k s) s (λ n. at-grown k s n whole) t x

  grown_holds : Holds s (grown k s)
  grown_holds t x r q = held_grown t x ∙ q

  -- a row written in front of the new sectors
  written-grown : (r : Row) → r.first + parts r ≤ sectors (length s) → written (grown k s) r ≡ grown k (written s r)
  unfolding written grown
  written-grown r h =
      let z : Bytes = replicate (512 * k) 0 in
      let a = take (512 * r.first) s in
      let m = images r (parts r) 0 in
      let b = drop (512 * (r.first + parts r)) s in
      let whole' = eqb-true (length s % 512) 0 whole in
      ap₂ (λ (x y : Bytes). x ++ (m ++ y)) (take-append-le (512 * r.first) s z (omega (arith, h, whole'))) (drop-append-le (512 * (r.first + parts r)) s z (omega (arith, h, whole')))
      ∙ ap (λ (x : Bytes). a ++ x) (sym (append_assoc m b z)) ∙ sym (append_assoc a (m ++ b) z)

  room-grown : (n : ℕ) → used s + n ≤ sectors (length s) → room_for (alone (grown k s)) n ≡ true
  unfolding room_for
  room-grown n h = le-leb (used (grown k s) + n) (sectors (length (grown k s))) (omega (arith, h, used-grown k s whole, length-grown k s))

  -- a store that is done leaves the same there
  abbrev Leaves : AfterStore → Bytes → Type 0
  Leaves a x = (store_end a.receipt.stored ≡ Ok tt) × (a.lent.log ≡ x)

  stored-grown : (date : Bytes) (t : ℕ) (b : Bytes) (a : AfterStore) → Stored s date t b a → store_end a.receipt.stored ≡ Ok tt
      → Leaves (store (alone (grown k s)) date t b) (grown k a.lent.log)
  unfolding store append_row
  stored-grown date t b a (new r v f room kd sc eb d h e _) q =
      let is : new_row (alone (grown k s)) date t b ≡ r =
      λ i. record { kind = sym kd i; score = sym sc i; bytes = sym eb i; first = (used-grown k s whole ∙ sym f) i; date = sym d i } in
      let n : parts r ≡ parts_for date b = ap₂ parts_for d eb in
      let g = room-grown (parts_for date b) (omega (arith, room, f, n)) in
      let w = written-grown r room in
      rw (held_grown t (sha1_of b) ∙ h, g) (refl, ap (written (grown k s)) is ∙ w ∙ ap (grown k) (sym e))
  stored-grown date t b a (there x h eb e _) q =
      let S : Shown (grown k s) t (sha1_of b) b = record { row = x; row-held = held_grown t (sha1_of b) ∙ h; these = eb } in
      let r = there-stored (grown k s) date t (sha1_of b) b S in
      (r.0, r.1 ∙ ap (grown k) (sym e))
  stored-grown date t b a (refused R e) q = not-of-second (refuses_second R) q

-- ---- a list of writes

module _ (k : ℕ) (first date : Bytes) (d : is_date date ≡ true) where
  writes-grown : {vs : List Visit} {s : Bytes} → Writes first date vs s → Fits s → Whole s → (w : Walked) → store_visits date vs w (grown k s) ≡ copied w (grown k (wrote_all date vs s))
  unfolding store_visits wrote_all
  writes-grown none fit whole w = refl
  writes-grown {s = s} (next {v = v} {vs = vs} h l q W) fit whole w =
      let a = stored date v s in
      let S = stored_visit first date d s v fit h in
      let n = as_long s date (type_of v.role) v.bytes a S in
      let g = stored-grown k s whole date (type_of v.role) v.bytes a S q in
      then-done (store_end (stored date v (grown k s)).receipt.stored) v.spent (grown k a.lent.log) (stored date v (grown k s)).lent.log (λ x. store_visits date vs w x) g.0 g.1
      ∙ writes-grown W (subst (λ (m : ℕ). sectors m ≤ 16 ^ 8) (sym n) fit) (ap (λ (m : ℕ). eqb (m % 512) 0) n ∙ whole) w

  -- the blocks written before go through alike, whether they are there already or not
  resumed : (s s' : Bytes) (before rest : List Visit) (w : Walked) → Writes first date before s → Fits s → Whole s → Whole s' → s' ≡ wrote_all date before s
      → store_visits date (before ++ rest) w (grown k s') ≡ store_visits date (before ++ rest) w (grown k s)
  resumed s s' before rest w W fit whole whole' e =
      let h = subst (λ (x : Bytes). HoldsAll x before) (sym e) (writes-held first date d W fit) in
      let g = holds_along s' (grown k s') (grown_holds k s' whole') before h in
      let go : Copied → Copied = λ x. onward x (λ y. store_visits date rest w y) in
      store-append date before rest 0 w (grown k s')
      ∙ ap go (all_there date before (walked 0 (Ok tt)) (grown k s') g
      ∙ ap (λ (x : Bytes). copied (walked 0 (Ok tt)) (grown k x)) e
      ∙ sym (writes-grown W fit whole (walked 0 (Ok tt))))
      ∙ sym (store-append date before rest 0 w (grown k s))

-- a copy with allowance m, and one with allowance n behind it, whose blocks begin with those that the first one wrote
module _ (log waiting date score second : Bytes) (m n k : ℕ) (l' : copy_allowed (length log) (length waiting) (length (grown k second)) ≡ true) where
  abbrev c : Copied
  c = copy_of log waiting date score second m

  abbrev p : PostOrder
  p = post_order_of log waiting score m

  abbrev q : PostOrder
  q = post_order_of log waiting score n

  long : length c.second ≡ length second
  long = (copied-stays log waiting date score second m).as_long

  module _ (rest : List Visit) (front : q.visits ≡ p.visits ++ rest) where
    behind : (l : copy_allowed (length log) (length waiting) (length second) ≡ true) → is_date date ≡ true → (before after : List Visit) → q.visits ≡ before ++ after
        → Writes (tape log waiting) date before second → c.second ≡ wrote_all date before second
        → store_visits date q.visits q.answer (grown k c.second) ≡ store_visits date q.visits q.answer (grown k second)
    behind l d before after z W e =
        let whole = allowed-whole (length second) (second-allowed (length log) (length waiting) (length second) l) in
        let whole' = ap (λ (j : ℕ). eqb (j % 512) 0) long ∙ whole in
        subst (λ (vs : List Visit). store_visits date vs q.answer (grown k c.second) ≡ store_visits date vs q.answer (grown k second)) (sym z)
        (resumed k (tape log waiting) date d second c.second before after q.answer W (fits log waiting date score second m l) whole whole' e)

    by : copy_allowed (length log) (length waiting) (length second) ≡ true → is_date date ≡ true → StopsAt (tape log waiting) date p second c
        → store_visits date q.visits q.answer (grown k c.second) ≡ store_visits date q.visits q.answer (grown k second)
    by l d (ended W e _) = behind l d p.visits rest front W e
    by l d (refusedAt before after v z W e _ _ _ _ _) =
        behind l d before ((v ∷ after) ++ rest) (front ∙ ap (λ (x : List Visit). x ++ rest) z ∙ append_assoc before (v ∷ after) rest) W e

    resumes : copy_of log waiting date score (grown k c.second) n ≡ copy_of log waiting date score (grown k second) n
    resumes = go (tested (tape log waiting) date score m second (copy_allowed (length log) (length waiting) (length second)))
      where
        go : Tested (copy_allowed (length log) (length waiting) (length second)) (tape log waiting) date score m second c
            → copy_of log waiting date score (grown k c.second) n ≡ copy_of log waiting date score (grown k second) n
        go (failed why _ _ e) = ap (λ (x : Copied). copy_of log waiting date score (grown k x.second) n) e
        go (passed l d a e) =
            let z : length (grown k c.second) ≡ length (grown k second) =
            length-grown k c.second ∙ ap (λ (x : ℕ). x + 512 * k) long ∙ sym (length-grown k second) in
            copy_is_stores log waiting date score (grown k c.second) n (ap (copy_allowed (length log) (length waiting)) z ∙ l') d
            ∙ by l d (stops log waiting date score second m l d)
            ∙ sym (copy_is_stores log waiting date score (grown k second) n l' d)

pub copy_resumes : CopyResumes
copy_resumes log waiting date score second n k l =
    resumes log waiting date score second n n k l [] (sym (append-nil (post_order_of log waiting score n).visits))

pub copy_in_rounds : CopyInRounds
copy_in_rounds log waiting date score second m n k h i l = go (more_allowance log waiting score m n h i)
  where
    go : (post_order_of log waiting score n ≡ post_order_of log waiting score m)
        ⊎ ((rest : List Visit) × ((post_order_of log waiting score m).answer.end ≡ Err Spent)
        × ((post_order_of log waiting score n).visits ≡ (post_order_of log waiting score m).visits ++ rest))
        → copy_of log waiting date score (grown k (copy_of log waiting date score second m).second) n ≡ copy_of log waiting date score (grown k second) n
    go (inl e) = resumes log waiting date score second m n k l [] (ap (λ (x : PostOrder). x.visits) e ∙ sym (append-nil (post_order_of log waiting score m).visits))
    go (inr r) = resumes log waiting date score second m n k l r.0 r.2
