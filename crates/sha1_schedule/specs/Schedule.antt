-- The message schedule of a block of SHA-1, as FIPS 180-4 defines it, on lists of bytes: a byte is a number below 256 and a word one below 2 ^ 32.
use Rattle.std.specs.Prelude.{List, [], ◌∷◌, ◌++◌, ℕ, zero, suc, ◌+◌, ◌*◌, get_or}
use Rattle.std.specs.Int.Bits.{bit_xor}
use Rattle.word.specs.Word.{rot_l, be32}

-- 5.2.1: word n of a block of bytes
abbrev pub word_at : List ℕ → ℕ → ℕ
word_at m n = be32 (get_or m (4 * n) 0) (get_or m (4 * n + 1) 0) (get_or m (4 * n + 2) 0) (get_or m (4 * n + 3) 0)

-- 5.2.1: the first n words of a block
unfoldable pub words_of : ℕ → List ℕ → List ℕ
words_of zero m = []
words_of (suc n) m = words_of n m ++ (word_at m n ∷ [])

-- 6.1.2, step 1: W_t for t = n + 16, from the words before it
abbrev pub next_word : List ℕ → ℕ → ℕ
next_word w n = rot_l 1 (bit_xor (bit_xor (bit_xor (get_or w (n + 13) 0) (get_or w (n + 8) 0)) (get_or w (n + 2) 0)) (get_or w n 0))

-- 6.1.2, step 1: W_t behind the words before it
unfoldable pub snoc_word : List ℕ → ℕ → List ℕ
snoc_word w n = w ++ (next_word w n ∷ [])

-- 6.1.2, step 1: the first 16 + n words of the schedule
unfoldable pub schedule_of : ℕ → List ℕ → List ℕ
schedule_of zero m = words_of 16 m
schedule_of (suc n) m = snoc_word (schedule_of n m) n
