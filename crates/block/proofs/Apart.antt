-- Where sound blocks lie, in any log: in the used part, and none starts inside another.
use mathlib.Core.Path.{◌≡◌, refl, sym, ap, ◌∙◌}
use mathlib.Core.Option.{Option, none, some}
use Prim.Native.Nat.{ℕ, ◌+◌, ◌-◌, ◌≤◌, ◌<◌}
use native.Mathlib.Omega.{arith}
use Rattle.buffer.specs.Bytes.{Bytes, zeros}
use Rattle.block.specs.Block.{Row, parts}
use Rattle.block.specs.Log.{at, used, sound}
use Rattle.block.proofs.Facts.{parts_pos}
use Rattle.block.proofs.Image.{image-used, label}
use Rattle.block.proofs.Used.{lt_used}
use Rattle.block.proofs.Sound.{sound-reads}
use Rattle.block.specs.Promises.{NoneInside}

pub apart : (log : Bytes) (n j : ℕ) (r s : Row) → sound log n ≡ some r → 0 < j → j < parts r → sound log (n + j) ≡ some s → ⊥
apart log n j r s e h g f =
    let p = sound-reads log n r e in
    let q = sound-reads log (n + j) s f in
    let z : n + j + 0 ≡ n + j = omega arith in
    let pos : 0 < parts s = parts_pos s q.0 in
    let t = label r s j 0 p.0 q.0 g pos (sym (p.3 j g) ∙ ap (at log) (sym z) ∙ q.3 0 pos) in
    omega (arith, t.1)

pub none_inside : NoneInside
none_inside log n j r e h g = go (sound log (n + j)) refl
  where
    go : (o : Option Row) → sound log (n + j) ≡ o → sound log (n + j) ≡ none
    go none q = q
    go (some s) q = absurd (apart log n j r s e h g q)

pub sound-used : (log : Bytes) (n : ℕ) (r : Row) → sound log n ≡ some r → n + parts r ≤ used log
sound-used log n r e =
    let p = sound-reads log n r e in
    let pos : 0 < parts r = parts_pos r p.0 in
    let k : parts r - 1 < parts r = omega arith in
    omega (arith, lt_used log (n + (parts r - 1)) (ap zeros (p.3 (parts r - 1) k) ∙ image-used r (parts r - 1)))

pub none-past : (log : Bytes) (n : ℕ) → used log ≤ n → sound log n ≡ none
none-past log n h = go (sound log n) refl
  where
    go : (o : Option Row) → sound log n ≡ o → sound log n ≡ none
    go none q = q
    go (some r) q = let pos : 0 < parts r = parts_pos r (sound-reads log n r q).0 in absurd (omega (arith, sound-used log n r q))
