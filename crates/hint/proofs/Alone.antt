-- A rebuilt index depends on the log and its own length alone.
use mathlib.Core.Path.{◌≡◌, refl, sym, ap, ap₂, ◌∙◌}
use mathlib.Core.Bool.{Bool, true, false, cond}
use mathlib.Core.List.Memᴰ
use mathlib.Core.List.{List, [], ◌∷◌}
use Prim.Native.Nat.{ℕ, zero, suc, ◌+◌, ◌-◌, ◌*◌, ◌<◌}
use native.Mathlib.Omega.{arith}
use lib.Dec.{eqb, ltb}
use borrow.Author.Tests.{eqb-true, eqb-false}
use lib.ListN.{length, get_or}
use Rattle.buffer.specs.Bytes.{Bytes, zeros}
use Rattle.block.specs.Block.{Row, valid}
use Rattle.block.proofs.Facts.{score-length}
use Rattle.sector_log.specs.LookUp.{blocks}
use Rattle.index.specs.Index.{places, bucket_of, place_at, first_free, free_place, has_free, cleared}
use Rattle.index.specs.declared.Bucket.{Bucket}
use Rattle.index.proofs.Buckets.{in_bucket}
use Rattle.index.proofs.Entered.{length-entered, entered-place, entered_other, entered-full, length-cleared, cleared-place}
use Rattle.hint.specs.Rebuilt.{entered_row, entered_all, rebuilt}
use Rattle.hint.specs.Promises.{RebuiltFromLog}
use Rattle.hint.proofs.Sound.{head_lt}
use Rattle.hint.proofs.Filled.{Each, Valid}
use Rattle.hint.proofs.Entered.{bucket_alike}
use Rattle.hint.proofs.Rebuilt.{all_valid, rebuilt-keeps}

-- two indices of one length with the same bytes at every place
pub record Same (a b : Bytes) : Type 0 where
  pub long : length a ≡ length b
  pub at_each : (q : ℕ) → q < 256 * places (length a) → place_at a q ≡ place_at b q

free-same : (a b : Bytes) (k p : ℕ) → ((q : ℕ) → q < p + k → place_at a q ≡ place_at b q) → first_free a k p ≡ first_free b k p
unfolding first_free
free-same a b zero p f = refl
free-same a b (suc k) p f =
    ap₂ (λ (t : Bool) (x : ℕ). cond t p x) (ap zeros (f p (omega arith))) (free-same a b k (suc p) (λ q h. f q (omega arith)))

module _ (a b : Bytes) (S : Same a b) (r : Row) (v : valid r ≡ true) where
  l : length r.score ≡ 20
  l = score-length r v

  h : get_or r.score 0 0 < 256
  h = head_lt r v

  one_bucket : bucket_of a r.score ≡ bucket_of b r.score
  one_bucket = bucket_alike b a r.score S.long

  one_place : free_place a r.score ≡ free_place b r.score
  one_place =
      let B = bucket_of a r.score in
      let w = in_bucket a r.score h in
      free-same a b (B.to - B.from) B.from (λ q g. S.at_each q (omega (arith, g, w.0, w.2)))
      ∙ ap (λ (x : Bucket). first_free b (x.to - x.from) x.from) one_bucket

  one-test : has_free a r.score ≡ has_free b r.score
  one-test = ap₂ ltb one_place (ap (λ (x : Bucket). x.to) one_bucket)

  row_same : Same (entered_row a r) (entered_row b r)
  row_same = record {
    long = la ∙ S.long ∙ sym (length-entered b r.score l h r.kind r.first);
    at_each = λ q g. go q (subst_lt q g) (has_free a r.score) (eqb q (free_place a r.score)) refl refl;
  }
    where
      la : length (entered_row a r) ≡ length a
      la = length-entered a r.score l h r.kind r.first

      subst_lt : (q : ℕ) → q < 256 * places (length (entered_row a r)) → q < 256 * places (length a)
      subst_lt q g = let e = ap places la in omega (arith, e, g)

      go : (q : ℕ) → q < 256 * places (length a) → (t c : Bool) → has_free a r.score ≡ t → eqb q (free_place a r.score) ≡ c → place_at (entered_row a r) q ≡ place_at (entered_row b r) q
      go q g false c e d =
          ap (λ (x : Bytes). place_at x q) (entered-full a r.score l h r.kind r.first e) ∙ S.at_each q g
          ∙ sym (ap (λ (x : Bytes). place_at x q) (entered-full b r.score l h r.kind r.first (sym one-test ∙ e)))
      go q g true false e d =
          let n = eqb-false q (free_place a r.score) d in
          entered_other a r.score l h r.kind r.first q n ∙ S.at_each q g
          ∙ sym (entered_other b r.score l h r.kind r.first q (λ z. n (z ∙ sym one_place)))
      go q g true true e d =
          let z = eqb-true q (free_place a r.score) d in
          ap (place_at (entered_row a r)) z ∙ entered-place a r.score l h r.kind r.first e
          ∙ sym (ap (place_at (entered_row b r)) (z ∙ one_place) ∙ entered-place b r.score l h r.kind r.first (sym one-test ∙ e))

all_same : (rows : List Row) (a b : Bytes) → Each Valid rows → Same a b → Same (entered_all a rows) (entered_all b rows)
unfolding entered_all
all_same [] a b all S = S
all_same (r ∷ rows) a b all S =
    all_same rows (entered_row a r) (entered_row b r) (λ x m. all x (Memᴰ.tail m)) (row_same a b S r (all r (Memᴰ.head refl)))

cleared-same : (a b : Bytes) → length a ≡ length b → Same (cleared a) (cleared b)
cleared-same a b e = record {
  long = length-cleared a ∙ e ∙ sym (length-cleared b);
  at_each = λ q g. let m = ap places (length-cleared a) in
      let n = ap places e in
      cleared-place a q (omega (arith, m, g)) ∙ sym (cleared-place b q (omega (arith, m, n, g)));
}

pub rebuilt-from-log : RebuiltFromLog
unfolding rebuilt
rebuilt-from-log log a b e q g =
    let S = all_same (blocks log) (cleared a) (cleared b) (all_valid log a) (cleared-same a b e) in
    let m = ap places (rebuilt-keeps log a).0 in
    S.at_each q (omega (arith, m, g))
