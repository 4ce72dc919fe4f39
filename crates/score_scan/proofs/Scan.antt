-- The scan: which sectors it judges, one turn of its loop, and what is found.
use mathlib.Core.Path.{◌≡◌, refl, sym, ap, ◌∙◌}
use mathlib.Core.Bool.{Bool, true, false, ◌&&◌, ◌||◌, true≢false}
use mathlib.Core.Option.{Option, none, some}
use Prim.Native.Nat.{ℕ, suc, ◌+◌, ◌-◌, ◌≤◌, ◌<◌}
use native.Mathlib.Omega.{arith}
use native.Mathlib.Numerals.{add-one}
use lib.ListN.{length, take, drop, length-drop}
use lib.Seq.{drop-drop, drop_at, take-add, take_all, length-take-le}
use Rattle.bedrock.specs.Places.{found_from}
use Rattle.bedrock.proofs.Choices.{and-false, or_right}
use Rattle.buffer.specs.Bytes.{Bytes, same}
use Rattle.hexadecimal.specs.Hex.{hex_bytes}
use Rattle.buffer.proofs.Bytes.{same_true, same_refl}
use Rattle.sector.specs.Sector.{front_of, is_dated, behind, score_digits}
use Rattle.sector.proofs.Dates.{front-some, undated}
use Rattle.block.proofs.At.{length_at}
use Rattle.score_scan.specs.Digits.{may_hold}
use Rattle.block.specs.Block.{Row}
use Rattle.block.specs.declared.Block.{Block}
use Rattle.block.specs.Log.{sectors, at, sound, sound_as}
use Rattle.block.proofs.Sound.{as_digits}
use Rattle.reader.specs.Reader.{placed}
use Rattle.kind.specs.Kind.{lawful, zero_score}
use Rattle.sector_log.specs.LookUp.{blocks, first_of, held}
use Rattle.sector_log.proofs.First.{first-none, first_some}
use Rattle.reader.proofs.Placed.{placed-some}
use Rattle.std.specs.Prelude.{Some, None, Option as Optional}

-- the digits in either edition's place
tail_of : (x : Bytes) → 64 ≤ length x → take 31 (drop 64 x) ≡ drop 9 (score_digits x)
tail_of x h =
    let y = drop 55 x in
    let l : length (take 9 y) ≡ 9 = length-take-le 9 y (omega (arith, length-drop 55 x)) in
    ap (take 31) (sym (drop-drop 9 55 x)) ∙ sym (drop_at (take 9 y) (take 31 (drop 9 y)) 9 l) ∙ ap (drop 9) (sym (take-add 9 31 y))

holds_score : (x d : Bytes) → 64 ≤ length x → score_digits (behind x) ≡ d → may_hold x d ≡ true
unfolding may_hold
holds_score x d h e = go (is_dated x) refl
  where
    go : (b : Bool) → is_dated x ≡ b → (same (take 40 (drop 69 x)) d || same (take 31 (drop 64 x)) (drop 9 d)) ≡ true
    go true q =
        let z : take 40 (drop 69 x) ≡ d =
        ap (take 40) (sym (drop-drop 55 14 x)) ∙ ap (λ (k : ℕ). take 40 (drop 55 (drop k x))) (front-some x q) ∙ e in
        ap (λ (y : Bytes). same y d || same (take 31 (drop 64 x)) (drop 9 d)) z ∙ ap (λ (t : Bool). t || same (take 31 (drop 64 x)) (drop 9 d)) (same_refl d)
    go false q =
        let f : behind x ≡ x = ap (λ (y : Bytes). drop (length (front_of y)) x) (undated x q) in
        let z : take 31 (drop 64 x) ≡ drop 9 d = tail_of x h ∙ ap (λ (y : Bytes). drop 9 (score_digits y)) (sym f) ∙ ap (drop 9) e in
        ap (λ (y : Bytes). same (take 40 (drop 69 x)) d || same y (drop 9 d)) z
        ∙ or_right (same (take 40 (drop 69 x)) d) (same (drop 9 d) (drop 9 d)) (same_refl (drop 9 d))

-- as the code tests them
pub holds_dated : (x d : Bytes) (a : Bool) → a ≡ same (take 40 (drop 69 x)) d → a ≡ true → true ≡ may_hold x d
unfolding may_hold
holds_dated x d a p q = rw (sym p ∙ q) refl

pub holds_plain : (x d : Bytes) (a b : Bool) → a ≡ same (take 40 (drop 69 x)) d → a ≡ false
    → b ≡ same (take 31 (drop 64 x)) (take (length d - 9) (drop 9 d)) → length d ≡ 40 → b ≡ may_hold x d
unfolding may_hold
holds_plain x d a b p q e h =
    let n : length (drop 9 d) ≤ length d - 9 = omega (arith, length-drop 9 d) in
    rw (sym p ∙ q) (e ∙ ap (same (take 31 (drop 64 x))) (take_all (length d - 9) (drop 9 d) n))

-- other digits than the score's in sector n: no such block
pub other_digits : (log : Bytes) (n t : ℕ) (s d x : Bytes) (b : Bool) → x ≡ at log n → d ≡ hex_bytes s → b ≡ may_hold x d → b ≡ false → sound_as log n t s ≡ none
other_digits log n t s d x b e f q z = go (sound_as log n t s) refl
  where
    go : (o : Option Row) → sound_as log n t s ≡ o → sound_as log n t s ≡ none
    go none p = p
    go (some r) p =
        let g : score_digits (behind x) ≡ d = ap (λ (y : Bytes). score_digits (behind y)) e ∙ same_true _ _ (as_digits log n t s r p) ∙ sym f in
        absurd (true≢false (sym (holds_score x d (omega (arith, ap length e, length_at log n)) g) ∙ sym q ∙ z))

-- one turn of the look-up's loop
module _ (log : Bytes) (n t : ℕ) (s : Bytes) (h : n < sectors (length log)) (inv : first_of t s (found_from (sound log) (sectors (length log) - n) n) ≡ first_of t s (blocks log)) where
  more : sectors (length log) - n ≡ suc (sectors (length log) - (n + 1))
  more = omega arith

  pub find_more : sound_as log n t s ≡ none → first_of t s (found_from (sound log) (sectors (length log) - (n + 1)) (n + 1)) ≡ first_of t s (blocks log)
  find_more e =
      ap (λ (x : ℕ). first_of t s (found_from (sound log) (sectors (length log) - (n + 1)) x)) (add-one n)
      ∙ sym (first-none log (sectors (length log) - (n + 1)) n t s e)
      ∙ ap (λ (x : ℕ). first_of t s (found_from (sound log) x n)) (sym more) ∙ inv

  pub find_found : (p : Optional Block) (b : Block) → p ≡ placed (sound_as log n t s) → p ≡ Some b → p ≡ placed (first_of t s (blocks log))
  find_found p b e z =
      let r = placed-some (sound_as log n t s) p b e z in
      let f : first_of t s (blocks log) ≡ some r.0 = sym inv ∙ ap (λ (x : ℕ). first_of t s (found_from (sound log) x n)) more ∙ first_some log (sectors (length log) - (n + 1)) n t s r.0 r.1 in
      e ∙ ap placed (r.1 ∙ sym f)

pub find_nowhere : (log : Bytes) (n t : ℕ) (s : Bytes) → n ≤ sectors (length log) → sectors (length log) ≤ n
    → first_of t s (found_from (sound log) (sectors (length log) - n) n) ≡ first_of t s (blocks log) → None ≡ placed (first_of t s (blocks log))
unfolding found_from first_of
find_nowhere log n t s a b inv =
    let z : sectors (length log) - n ≡ 0 = omega arith in
    ap placed (sym (ap (λ (x : ℕ). first_of t s (found_from (sound log) x n)) z) ∙ inv)

-- what look-up finds
pub held-zero : (log : Bytes) (t : ℕ) (s : Bytes) (a b : Bool) → a ≡ lawful t → a ≡ true → b ≡ same s zero_score → b ≡ true → Some
    (record { first = record { 0 = 0 }; size = 0; label = 96 }) ≡ placed (held log t s)
unfolding held
held-zero log t s a b p q u v = rw (sym p ∙ q, sym u ∙ v)

pub held_scan : (log : Bytes) (t : ℕ) (s : Bytes) (r : Optional Block) → (lawful t && same s zero_score) ≡ false → r ≡ placed (first_of t s (blocks log)) → r ≡ placed (held log t s)
unfolding held
held_scan log t s r e p = rw e p

pub not-lawful : (t : ℕ) (s : Bytes) (a : Bool) → a ≡ lawful t → a ≡ false → (lawful t && same s zero_score) ≡ false
not-lawful t s a p q = rw (sym p ∙ q)

pub not-zero : (t : ℕ) (s : Bytes) (b : Bool) → b ≡ same s zero_score → b ≡ false → (lawful t && same s zero_score) ≡ false
not-zero t s b p q = rw (sym p ∙ q) (and-false (lawful t))
