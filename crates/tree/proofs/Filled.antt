-- Bytes filled up with zeros to a length.
use mathlib.Core.Path.{◌≡◌, refl, sym, ap, ◌∙◌}
use mathlib.Core.Bool.{Bool, true, false}
use mathlib.Core.List.{[], ◌++◌}
use Prim.Native.Nat.{ℕ, ◌+◌, ◌-◌, ◌≤◌, ◌<◌}
use native.Mathlib.Omega.{arith}
use lib.Dec.{ltb}
use borrow.Author.Tests.{ltb-true, ltb-false}
use lib.ListN.{length, get_or, take, drop, replicate, length-take, length-drop, length-append, length-replicate, get_or-append}
use lib.Seq.{ext_get_or, get_or-take, get_or-drop, get_or-append-add, take_all}
use Rattle.buffer.specs.Bytes.{Bytes}
use Rattle.sector.specs.Sector.{filled}
use Rattle.sector.proofs.Encode.{length-filled}
use Rattle.block.proofs.Payloads.{filled_get_d}

-- what has the bytes of b from o on, and zeros past its end, one by one
pub filled-all : (d b : Bytes) (w o : ℕ) → length d ≡ w → ((k : ℕ) → k < w → get_or d k 0 ≡ get_or b (o + k) 0) → d ≡ filled w (drop o b)
filled-all d b w o l f =
    ext_get_or 0 d (filled w (drop o b)) (l ∙ sym (length-filled w (drop o b)))
    (λ k h. f k (omega arith) ∙ sym (filled_get_d w (drop o b) k (omega arith) ∙ get_or-drop o b k 0))

-- w bytes from o on, of bytes that are those of b with zeros behind them
pub part_filled : (b c : Bytes) (w o : ℕ) → o + w ≤ length c → ((k : ℕ) → get_or c k 0 ≡ get_or b k 0) → take w (drop o c) ≡ filled w (drop o b)
part_filled b c w o h f =
    filled-all (take w (drop o c)) b w o (simp (length-take, length-drop) (omega arith))
    (λ k q. get_or-take w (drop o c) k 0 q ∙ get_or-drop o c k 0 ∙ f (o + k))

-- nothing filled up is zeros
pub filled_none : (w : ℕ) → filled w [] ≡ replicate w 0
unfolding filled
filled_none w = take_all w (replicate w 0) (omega (arith, length-replicate {A = ℕ} w 0))

-- the front p apart
pub filled-front : (w : ℕ) (p rest : Bytes) → length p ≤ w → filled w (p ++ rest) ≡ p ++ filled (w - length p) rest
filled-front w p rest h =
    let n = w - length p in
    let l : length (p ++ filled n rest) ≡ w = omega (arith, length-append p (filled n rest), length-filled n rest) in
    ext_get_or 0 (filled w (p ++ rest)) (p ++ filled n rest) (length-filled w (p ++ rest) ∙ sym l)
    (λ i g. filled_get_d w (p ++ rest) i (omega (arith, length-filled w (p ++ rest))) ∙ go i (omega (arith, length-filled w (p ++ rest))) (ltb i (length p)) refl)
  where
    go : (i : ℕ) → i < w → (t : Bool) → ltb i (length p) ≡ t → get_or (p ++ rest) i 0 ≡ get_or (p ++ filled (w - length p) rest) i 0
    go i g true q =
        let lt = ltb-true i (length p) q in
        get_or-append p rest 0 i lt ∙ sym (get_or-append p (filled (w - length p) rest) 0 i lt)
    go i g false q =
        let ge = ltb-false i (length p) q in
        let j = i - length p in
        let e : i ≡ length p + j = omega arith in
        ap (λ (x : ℕ). get_or (p ++ rest) x 0) e ∙ get_or-append-add p rest j 0
        ∙ sym (ap (λ (x : ℕ). get_or (p ++ filled (w - length p) rest) x 0) e ∙ get_or-append-add p (filled (w - length p) rest) j 0
        ∙ filled_get_d (w - length p) rest j (omega arith))
