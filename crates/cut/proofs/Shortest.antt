-- What cutting keeps, over every unit u and bytes b that are whole units: the shortest beginning whose rest is all units.
use mathlib.Core.Path.{◌≡◌, refl, sym, ap, ◌∙◌}
use mathlib.Core.List.{◌++◌}
use Prim.Native.Nat.{ℕ, ◌+◌, ◌*◌, ◌-◌, ◌/◌, ◌%◌, ◌≤◌, ◌<◌}
use native.Mathlib.Omega.{arith}
use native.Mathlib.Nat.{mul-add, mul-sub, mul-div-le, mul-le-mul_left}
use lib.ListN.{length, take, drop, length-append, length-drop, take-append-drop}
use lib.Seq.{take_all, length-take-le}
use Rattle.buffer.specs.Bytes.{Bytes}
use Rattle.cut.specs.Cut.{repeat, kept, cut_length}
use Rattle.cut.proofs.Units.{length-repeat, kept_le, kept-repeat, kept-rest}
use Rattle.cut.proofs.Multiples.{times, times_div, times_mod}

-- cutting never lengthens
pub cut_le : (u b : Bytes) → cut_length u b ≤ length b
unfolding cut_length
cut_le u b =
    let k = length b / length u in
    omega (arith, mul-le-mul_left (length u) (kept_le u k b), mul-div-le (length b) (length u))

-- what is kept is whole units
pub cut_units : (u b : Bytes) → cut_length u b % length u ≡ 0
unfolding cut_length
cut_units u b = times_mod (length u) (kept u (length b / length u) b) (cut_length u b) refl

-- units that are appended are cut off again
pub cut_appended : (u b : Bytes) (j : ℕ) → 0 < length u → length b % length u ≡ 0 → cut_length u (b ++ repeat u j) ≡ cut_length u b
unfolding cut_length
cut_appended u b j p h =
    let w = length u in
    let k = length b / w in
    let e : length b ≡ w * k = times w (length b) h in
    let n : length (b ++ repeat u j) ≡ w * (k + j) = length-append b (repeat u j) ∙ omega (arith, e, length-repeat u j, mul-add w k j) in
    ap (λ (i : ℕ). w * i) (ap (λ (i : ℕ). kept u i (b ++ repeat u j)) (times_div w (k + j) (length (b ++ repeat u j)) p n) ∙ kept-repeat u k j b e)

module _ (u b : Bytes) (p : 0 < length u) (h : length b % length u ≡ 0) where
  -- the rest is all units
  pub cut_rest : b ≡ take (cut_length u b) b ++ repeat u ((length b - cut_length u b) / length u)
  unfolding cut_length
  cut_rest =
      let w = length u in
      let k = length b / w in
      let e : length b ≡ w * k = times w (length b) h in
      let r = kept-rest u k b in
      let n : length b - cut_length u b ≡ w * r.count = omega (arith, e, mul-add w (kept u k b) r.count, ap (λ (i : ℕ). w * i) r.sum) in
      sym (take_all (w * k) b (omega arith))
      ∙ r.split
      ∙ ap (λ (i : ℕ). take (cut_length u b) b ++ repeat u i) (sym (times_div w r.count (length b - cut_length u b) p n))

  -- and so it is after no shorter beginning
  pub cut_shortest : (m j : ℕ) → m ≤ length b → drop m b ≡ repeat u j → cut_length u b ≤ m
  cut_shortest m j l s =
      let x = take m b in
      let n : length x ≡ m = length-take-le m b l in
      let e : x ++ repeat u j ≡ b = ap (λ (y : Bytes). x ++ y) (sym s) ∙ take-append-drop m b in
      let d : length b - m ≡ length u * j = sym (length-drop m b) ∙ ap length s ∙ length-repeat u j in
      let f : length x ≡ length u * (length b / length u - j) =
      n ∙ omega (arith, d, times (length u) (length b) h, mul-sub (length u) (length b / length u) j) in
      let c : cut_length u b ≡ cut_length u x =
      ap (cut_length u) (sym e) ∙ cut_appended u x j p (times_mod (length u) (length b / length u - j) (length x) f) in
      omega (arith, c, cut_le u x, n)
