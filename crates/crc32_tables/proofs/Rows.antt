-- A table of rows: its entries, and its rule by steps, since each row is four bits further than the row behind it. Assumes nothing.
use mathlib.Core.Path.{◌≡◌, refl, sym, ap, ap₂, ◌∙◌}
use mathlib.Core.List.{List, [], ◌∷◌, ◌++◌, map, map-append, append-nil, append_assoc}
use Prim.Native.Nat.{ℕ, zero, suc, ◌+◌, ◌-◌, ◌*◌, ◌<◌}
use native.Mathlib.Nat.{zero-add, add-zero, add-suc, suc-add, le_of_suc-le-suc, not-suc-le-zero}
use native.Mathlib.Omega.{arith}
use lib.ListN.{length, get_or, drop, get_or-append, length-drop, length-map, drop_of_length-le}
use lib.Seq.{drop-append-le, get_or-append-add}
use Rattle.crc32_rule.specs.Crc32.{bits}
use Rattle.crc32_rule.proofs.Pack.{bits_add}
use Rattle.crc32_tables.specs.Digits.{row, rows}

-- ---- its entries

row-length : (b n k : ℕ) → length (row b n k) ≡ n
unfolding row
row-length b zero k = refl
row-length b (suc n) k = ap suc (row-length b n (suc k))

row_at : (b n k i : ℕ) → i < n → get_or (row b n k) i 0 ≡ bits b (k + i)
unfolding row
row_at b zero k i h = absurd (not-suc-le-zero h)
row_at b (suc n) k zero h = ap (bits b) (sym (add-zero k))
row_at b (suc n) k (suc i) h = row_at b n (suc k) i (le_of_suc-le-suc h) ∙ ap (bits b) (suc-add k i ∙ sym (add-suc k i))

-- the entry of the digit d at the place j
pub rows_at : (b n j d : ℕ) → j < n → d < 16 → get_or (rows b n) (16 * j + d) 0 ≡ bits (b + 4 * (n - j)) d
unfolding rows
rows_at b zero j d h g = absurd (not-suc-le-zero h)
rows_at b (suc n) zero d h g =
    let l : length (row (b + 4 * suc n) 16 0) ≡ 16 = row-length (b + 4 * suc n) 16 0 in
    let e : 16 * 0 + d ≡ d = omega arith in
    let f : b + 4 * suc n ≡ b + 4 * (suc n - 0) = omega arith in
    ap (λ (i : ℕ). get_or (row (b + 4 * suc n) 16 0 ++ rows b n) i 0) e
    ∙ get_or-append (row (b + 4 * suc n) 16 0) (rows b n) 0 d (omega (arith, l))
    ∙ row_at (b + 4 * suc n) 16 0 d g
    ∙ ap₂ bits f (zero-add d)
rows_at b (suc n) (suc j) d h g =
    let l : length (row (b + 4 * suc n) 16 0) ≡ 16 = row-length (b + 4 * suc n) 16 0 in
    let e : 16 * suc j + d ≡ length (row (b + 4 * suc n) 16 0) + (16 * j + d) = omega (arith, l) in
    let f : b + 4 * (n - j) ≡ b + 4 * (suc n - suc j) = omega arith in
    ap (λ (i : ℕ). get_or (row (b + 4 * suc n) 16 0 ++ rows b n) i 0) e
    ∙ get_or-append-add (row (b + 4 * suc n) 16 0) (rows b n) (16 * j + d) 0
    ∙ rows_at b n j d (le_of_suc-le-suc h) g
    ∙ ap (λ (k : ℕ). bits k d) f

-- ---- by steps

drop-map : (f : ℕ → ℕ) (n : ℕ) (t : List ℕ) → drop n (map f t) ≡ map f (drop n t)
drop-map f zero t = refl
drop-map f (suc n) [] = refl
drop-map f (suc n) (x ∷ t) = drop-map f n t

row_further : (b n k : ℕ) → map (bits 4) (row b n k) ≡ row (b + 4) n k
unfolding row
row_further b zero k = refl
row_further b (suc n) k = ap₂ {C = List ℕ} (λ (x : ℕ) (r : List ℕ). x ∷ r) (sym (bits_add b 4 k)) (row_further b n (suc k))

rows_further : (b n : ℕ) → rows b (suc n) ≡ map (bits 4) (rows b n) ++ row (b + 4) 16 0
unfolding rows
rows_further b zero = append-nil (row (b + 4) 16 0)
rows_further b (suc n) =
    let r = row (b + 4 * suc n) 16 0 in
    let s = row (b + 4) 16 0 in
    let e : b + 4 * suc (suc n) ≡ b + 4 * suc n + 4 = omega arith in
    ap₂ (λ (x y : List ℕ). x ++ y) (ap (λ (k : ℕ). row k 16 0) e ∙ sym (row_further (b + 4 * suc n) 16 0)) (rows_further b n)
    ∙ sym (append_assoc (map (bits 4) r) (map (bits 4) (rows b n)) s)
    ∙ ap (λ (x : List ℕ). x ++ s) (sym (map-append (bits 4) r (rows b n)))

-- a table whose entries are four bits further than those sixteen places behind, and whose last row is that of its bits
pub by_steps : (b n : ℕ) (t : List ℕ) → length t ≡ 16 * suc n → t ≡ map (bits 4) (drop 16 t) ++ row (b + 4) 16 0 → t ≡ rows b (suc n)
unfolding rows
by_steps b zero t l e =
    let none : drop 16 t ≡ [] = drop_of_length-le t {i = 16} (omega arith) in
    e ∙ ap (λ (x : List ℕ). map (bits 4) x ++ row (b + 4) 16 0) none ∙ sym (append-nil (row (b + 4) 16 0))
by_steps b (suc n) t l e =
    let d = drop 16 t in
    let s = row (b + 4) 16 0 in
    let k : length d ≡ 16 * suc n = length-drop 16 t ∙ omega arith in
    let m : length (map (bits 4) d) ≡ length d = length-map d (bits 4) in
    let f : d ≡ map (bits 4) (drop 16 d) ++ s =
    ap (drop 16) e ∙ drop-append-le 16 (map (bits 4) d) s (omega (arith, k, m)) ∙ ap (λ (x : List ℕ). x ++ s) (drop-map (bits 4) 16 d) in
    e ∙ ap (λ (x : List ℕ). map (bits 4) x ++ s) (by_steps b n d k f) ∙ sym (rows_further b (suc n))
