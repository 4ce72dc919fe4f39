-- Copying again into what a copy left answers alike and adds nothing.
use mathlib.Core.Path.{◌≡◌, sym, ap, subst, ◌∙◌}
use mathlib.Core.Bool.{true}
use mathlib.Core.List.{List, ◌∷◌}
use Prim.Native.Nat.{ℕ}
use lib.ListN.{length}
use Rattle.buffer.specs.Bytes.{Bytes}
use Rattle.sector.specs.Sector.{is_date}
use Rattle.sector_log.specs.Parts.{tape}
use Rattle.visit.specs.declared.Walked.{Walked}
use Rattle.visit.specs.Visit.{walked}
use Rattle.copying.specs.Copy.{Copied, copied, copy_allowed, copy_of}
use Rattle.copying.specs.PostOrder.{Visit, PostOrder, post_order_of, store_visits}
use Rattle.copying.specs.Promises.{HoldsAll, StopsAt, ended, refused}
use Rattle.copying.specs.Promises.{CopyAgain, CopyAgainAddsNothing}
use Rattle.copying.proofs.Writes.{writes-held, all_there, refused_again}
use Rattle.copying.proofs.InPostOrder.{onward, store-append, copy_is_stores}
use Rattle.copying.proofs.Promised.{Tested, failed, passed, tested, fits, stops, still-lent, Whole, whole}
use Rattle.std.specs.Prelude.{Ok}

module _ (log waiting date score second : Bytes) (n : ℕ) where
  abbrev result : Copied
  result = copy_of log waiting date score second n

  abbrev order : PostOrder
  order = post_order_of log waiting score n

  -- the blocks stored again in what they left
  stored_again : copy_allowed (length log) (length waiting) (length second) ≡ true → is_date date ≡ true
      → StopsAt (tape log waiting) date order second result → store_visits date order.visits order.answer result.second ≡ result
  stored_again l d (ended W e a) =
      let h = subst (λ (s : Bytes). HoldsAll s order.visits) (sym e) (writes-held (tape log waiting) date d W (fits log waiting date score second n l)) in
      all_there date order.visits order.answer result.second h ∙ ap (λ (w : Walked). copied w result.second) (sym a)
  stored_again l d (refused before after v q W e _ _ R s _) =
      let h = subst (λ (x : Bytes). HoldsAll x before) (sym e) (writes-held (tape log waiting) date d W (fits log waiting date score second n l)) in
      ap (λ (vs : List Visit). store_visits date vs order.answer result.second) q
      ∙ store-append date before (v ∷ after) 0 order.answer result.second
      ∙ ap (λ (c : Copied). onward c (λ x. store_visits date (v ∷ after) order.answer x)) (all_there date before (walked 0 (Ok tt)) result.second h)
      ∙ refused_again date v after order.answer result.second result.answer.end R
      ∙ ap (λ (m : ℕ). copied (walked m result.answer.end) result.second) (sym s)

  again : copy_of log waiting date score result.second n ≡ result
  again = go (tested (tape log waiting) date score n second (copy_allowed (length log) (length waiting) (length second)))
    where
      go : Tested (copy_allowed (length log) (length waiting) (length second)) (tape log waiting) date score n second result → copy_of log waiting date score result.second n ≡ result
      go (failed why _ _ e) = ap (λ (c : Copied). copy_of log waiting date score c.second n) e
      go (passed l d a e) =
          copy_is_stores log waiting date score result.second n (still-lent log waiting date score second n l) d
          ∙ stored_again l d (stops log waiting date score second n l d)

pub copy_again : CopyAgain
copy_again = again

pub copy_again_adds-nothing : CopyAgainAddsNothing
unfolding Whole
copy_again_adds-nothing log waiting date date' score second n v d q =
    let c = copy_of log waiting date score second n in
    let W = whole log waiting date score second n v q in
    let p = post_order_of log waiting score n in
    copy_is_stores log waiting date' score c.second n (still-lent log waiting date score second n W.0) d
    ∙ all_there date' p.visits p.answer c.second W.2
    ∙ ap (λ (w : Walked). copied w c.second) (W.1 ∙ sym q)
