-- The message schedule in a ring of sixteen words. Assumes nothing.
use mathlib.Core.Path.{◌≡◌, refl, sym, ap, subst, ◌∙◌}
use mathlib.Core.List.{List, [], ◌∷◌}
use Prim.Native.Nat.{ℕ, zero, suc, ◌+◌, ◌-◌, ◌%◌, ◌<◌, ◌≤◌}
use native.Mathlib.Nat.{zero-add, suc-add}
use native.Mathlib.Numerals.{add-one}
use native.Mathlib.Decide.{dec_le}
use native.Mathlib.Omega.{arith}
use lib.Bits.{bit_xor}
use lib.ListN.{length, get_or, take, set, length-set, length-append, get_or-append}
use lib.Seq.{take-suc-set, get_or_at, get_or-set_same, get_or-set_other}
use Rattle.word.specs.Word.{rot_l}
use Rattle.sha1_schedule.specs.Schedule.{word_at, words_of, next_word, snoc_word, schedule_of}
use Rattle.sha1_schedule.specs.Ring.{Ring, ring_word, RingGoesOn}

-- ---- the words of a block

-- one more, stored behind those before it
pub word_more : (b w : List ℕ) (i x : ℕ) → i < length w → x ≡ word_at b i → take i w ≡ words_of i b → take (i + 1) (set w i x) ≡ words_of (i + 1) b
unfolding words_of
word_more b w i x h e p = rw (add-one, take-suc-set, e, p)

words-length : (n : ℕ) (m : List ℕ) → length (words_of n m) ≡ n
unfolding words_of
words-length zero m = refl
words-length (suc n) m = length-append (words_of n m) (word_at m n ∷ []) ∙ omega (arith, words-length n m)

-- ---- the schedule

sched_length : (n : ℕ) (m : List ℕ) → length (schedule_of n m) ≡ n + 16
unfolding schedule_of snoc_word
sched_length zero m = words-length 16 m
sched_length (suc n) m = length-append (schedule_of n m) (next_word (schedule_of n m) n ∷ []) ∙ omega (arith, sched_length n m)

grow : (n k : ℕ) (m : List ℕ) → k < n + 16 → get_or (schedule_of (suc n) m) k 0 ≡ get_or (schedule_of n m) k 0
unfolding schedule_of snoc_word
grow n k m h = get_or-append (schedule_of n m) (next_word (schedule_of n m) n ∷ []) 0 k (omega (arith, sched_length n m))

grown : (d n k : ℕ) (m : List ℕ) → k < n + 16 → get_or (schedule_of (d + n) m) k 0 ≡ get_or (schedule_of n m) k 0
grown zero n k m h = ap (λ (j : ℕ). get_or (schedule_of j m) k 0) (zero-add n)
grown (suc d) n k m h = ap (λ (j : ℕ). get_or (schedule_of j m) k 0) (suc-add d n) ∙ grow (d + n) k m (omega arith) ∙ grown d n k m h

-- a word of the schedule stays as it is
settled : (n k : ℕ) (m : List ℕ) → n ≤ 64 → k < n + 16 → get_or (schedule_of 64 m) k 0 ≡ get_or (schedule_of n m) k 0
settled n k m l h = let e : 64 ≡ 64 - n + n = omega arith in ap (λ (j : ℕ). get_or (schedule_of j m) k 0) e ∙ grown (64 - n) n k m h

-- the word that four words give
abbrev of_four : ℕ → ℕ → ℕ → ℕ → ℕ
of_four a b c d = rot_l 1 (bit_xor (bit_xor (bit_xor a b) c) d)

same_four : {a b c d a' b' c' d' : ℕ} → a ≡ a' → b ≡ b' → c ≡ c' → d ≡ d' → of_four a b c d ≡ of_four a' b' c' d'
same_four p q r s = λ i. of_four (p i) (q i) (r i) (s i)

-- word n + 16 of the whole schedule, from the words of the whole schedule
follows : (n : ℕ) (m : List ℕ) → n < 64 → get_or (schedule_of 64 m) (n + 16) 0 ≡ next_word (schedule_of 64 m) n
unfolding schedule_of snoc_word
follows n m h =
    settled (suc n) (n + 16) m (omega arith) (omega arith)
    ∙ get_or_at (schedule_of n m) (next_word (schedule_of n m) n) [] 0 (n + 16) (sched_length n m)
    ∙ sym (same_four
    (settled n (n + 13) m (omega arith) (omega arith))
    (settled n (n + 8) m (omega arith) (omega arith))
    (settled n (n + 2) m (omega arith) (omega arith))
    (settled n n m (omega arith) (omega arith)))

-- ---- the ring

-- it starts with the words of the block
pub ring_first : (m w : List ℕ) → w ≡ words_of 16 m → Ring m 15 w
unfolding schedule_of Ring
ring_first m w e = rw e (words-length 16 m, λ n g h. first n h)
  where
    first : (n : ℕ) → n ≤ 15 → get_or (words_of 16 m) (n % 16) 0 ≡ get_or (schedule_of 64 m) n 0
    first n h =
        let a : n % 16 ≡ n = omega arith in
        ap (λ (j : ℕ). get_or (words_of 16 m) j 0) a ∙ sym (settled 0 n m (omega arith) (omega arith))

-- what stands in the place i: the word n of the schedule
pub ring_at : (m w : List ℕ) (t n i : ℕ) → t < n + 16 → n ≤ t → i ≡ n % 16 → Ring m t w → get_or w i 0 ≡ get_or (schedule_of 64 m) n 0
unfolding Ring
ring_at m w t n i g h e r = ap (λ (j : ℕ). get_or w j 0) e ∙ r.1 n g h

-- round t's word is made of those 3, 8, 14 and 16 before it, which stand in the places i, j, k and n
pub made : (m w : List ℕ) (t i j k n x : ℕ) → x ≡ of_four (get_or w i 0) (get_or w j 0) (get_or w k 0) (get_or w n 0)
    → i ≡ (t - 3) % 16 → j ≡ (t - 8) % 16 → k ≡ (t - 14) % 16 → n ≡ (t - 16) % 16 → 16 ≤ t → t < 80 → Ring m (t - 1) w → x ≡ get_or (schedule_of 64 m) t 0
made m w t i j k n x p ei ej ek en l u r =
    let z : t - 16 + 16 ≡ t = omega arith in
    p
    ∙ same_four
    (ring_at m w (t - 1) (t - 16 + 13) i (omega arith) (omega arith) (omega arith) r)
    (ring_at m w (t - 1) (t - 16 + 8) j (omega arith) (omega arith) (omega arith) r)
    (ring_at m w (t - 1) (t - 16 + 2) k (omega arith) (omega arith) (omega arith) r)
    (ring_at m w (t - 1) (t - 16) n (omega arith) (omega arith) (omega arith) r)
    ∙ sym (follows (t - 16) m (omega arith))
    ∙ ap (λ (a : ℕ). get_or (schedule_of 64 m) a 0) z

-- it takes the place of the oldest word: the ring holds the latest sixteen
pub ring_next : (m w : List ℕ) (t i x : ℕ) → 16 ≤ t → t < 80 → i ≡ t % 16 → x ≡ get_or (schedule_of 64 m) t 0 → Ring m (t - 1) w → Ring m t (set w i x)
unfolding Ring
ring_next m w t i x l u e p r = (simp length-set r.0, λ n g h. pick n g h (dec_le t n))
  where
    pick : (n : ℕ) → t < n + 16 → n ≤ t → Dec (t ≤ n) → get_or (set w i x) (n % 16) 0 ≡ get_or (schedule_of 64 m) n 0
    pick n g h (yes q) =
        let a : n % 16 ≡ i = omega (arith, e, h, q) in
        let b : t ≡ n = omega (arith, h, q) in
        ap (λ (j : ℕ). get_or (set w i x) j 0) a ∙ get_or-set_same w i x 0 (omega (arith, e, r.0)) ∙ p ∙ ap (λ (j : ℕ). get_or (schedule_of 64 m) j 0) b
    pick n g h (no q) = get_or-set_other w i (n % 16) x 0 (λ z. omega (arith, e, g, h, q, z)) ∙ r.1 n (omega (arith, g, l)) (omega (arith, h, q))

pub ring_move : (m w : List ℕ) (a b : ℕ) → a ≡ b → Ring m a w → Ring m b w
ring_move m w a b e r = subst (λ (t : ℕ). Ring m t w) e r

pub ring_goes_on : RingGoesOn
ring_goes_on m w t l u r =
    let e : ring_word w t ≡ get_or (schedule_of 64 m) t 0 =
    made m w t ((t - 3) % 16) ((t - 8) % 16) ((t - 14) % 16) (t % 16) (ring_word w t) refl refl refl refl (omega arith) l u r in
    (e, ring_next m w t (t % 16) (ring_word w t) l u refl e r)
