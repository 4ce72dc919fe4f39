-- An entry as the code reads it: its score, its type, its sector.
use mathlib.Core.Path.{◌≡◌, refl, sym, ap, ap₂, ◌∙◌}
use mathlib.Core.Bool.{Bool, true, false, true≢false}
use mathlib.Core.List.{[], ◌∷◌}
use mathlib.Core.Logic.{◌≢◌}
use Prim.Native.Nat.{ℕ, ◌+◌, ◌-◌, ◌*◌, ◌≤◌}
use native.Mathlib.Omega.{arith}
use lib.ListN.{length, get_or, take, drop, length-drop}
use lib.Seq.{take-suc, take-take, take_at, get_or_at, get_or-drop, drop-drop}
use Rattle.buffer.specs.Bytes.{Bytes, same}
use Rattle.buffer.proofs.Bytes.{same_refl, same_true, same_false}
use Rattle.buffer.proofs.Parts.{part_size, drop-take}
use Rattle.digits.specs.Number.{be_number}
use Rattle.index.specs.Index.{place_at, named, sector_at}

module _ (index : Bytes) (p : ℕ) (h : 25 * p + 25 ≤ length index) where
  length_part : length (take (25 * p + 20 - 25 * p) (drop (25 * p) index)) ≡ 20
  length_part = part_size index (25 * p) 20 (omega arith)

  -- the first 21 bytes: what the code compares with the score, and the type
  front-is : take 21 (place_at index p) ≡ named (take (25 * p + 20 - 25 * p) (drop (25 * p) index)) (get_or index (25 * p + 20) 0)
  unfolding place_at
  front-is =
      let d = drop (25 * p) index in
      let z : 25 * p + 20 - 25 * p ≡ 20 = omega arith in
      take-take 21 25 d (omega arith)
      ∙ take-suc d 20 0 (omega (arith, length-drop (25 * p) index))
      ∙ ap₂ named (ap (λ (n : ℕ). take n d) (sym z)) (get_or-drop (25 * p) index 20 0)

  module _ (score : Bytes) (kind : ℕ) (l : length score ≡ 20) where
    pub names_other : get_or index (25 * p + 20) 0 ≢ kind → false ≡ same (take 21 (place_at index p)) (named score kind)
    names_other n =
        sym (same_false (take 21 (place_at index p)) (named score kind)
        (λ e. n (sym (get_or_at (take (25 * p + 20 - 25 * p) (drop (25 * p) index)) (get_or index (25 * p + 20) 0) [] 0 20 length_part)
        ∙ ap (λ (x : Bytes). get_or x 20 0) (sym front-is ∙ e) ∙ get_or_at score kind [] 0 20 l)))

    pub names_same : (b : Bool) → get_or index (25 * p + 20) 0 ≡ kind → b ≡ same (take (25 * p + 20 - 25 * p) (drop (25 * p) index)) score
        → b ≡ same (take 21 (place_at index p)) (named score kind)
    names_same b e q = q ∙ go (same (take (25 * p + 20 - 25 * p) (drop (25 * p) index)) score) refl
      where
        whole : take 21 (place_at index p) ≡ named (take (25 * p + 20 - 25 * p) (drop (25 * p) index)) kind
        whole = front-is ∙ ap (named (take (25 * p + 20 - 25 * p) (drop (25 * p) index))) e

        go : (c : Bool) → same (take (25 * p + 20 - 25 * p) (drop (25 * p) index)) score ≡ c → c ≡ same (take 21 (place_at index p)) (named score kind)
        go true z =
            let s : take 21 (place_at index p) ≡ named score kind = whole ∙ ap (λ (x : Bytes). named x kind) (same_true (take (25 * p + 20 - 25 * p) (drop (25 * p) index)) score z) in
            sym (ap (λ (x : Bytes). same x (named score kind)) s ∙ same_refl (named score kind))
        go false z =
            sym (same_false (take 21 (place_at index p)) (named score kind)
            (λ s. let x : take (25 * p + 20 - 25 * p) (drop (25 * p) index) ≡ score =
            sym (take_at (take (25 * p + 20 - 25 * p) (drop (25 * p) index)) (kind ∷ []) 20 length_part) ∙ ap (take 20) (sym whole ∙ s) ∙ take_at score (kind ∷ []) 20 l in
            true≢false (sym (ap (λ (y : Bytes). same y score) x ∙ same_refl score) ∙ z)))

  -- the last four
  pub sector_is : be_number (take (25 * p + 21 + 4 - (25 * p + 21)) (drop (25 * p + 21) index)) ≡ sector_at index p
  unfolding sector_at place_at
  sector_is =
      let z : 25 * p + 21 + 4 - (25 * p + 21) ≡ 4 = omega arith in
      ap be_number (ap (λ (n : ℕ). take n (drop (25 * p + 21) index)) z
      ∙ ap (take 4) (sym (drop-drop 21 (25 * p) index))
      ∙ sym (drop-take 21 25 (drop (25 * p) index)))
