-- The words of a text joined are the text, and words without spaces joined have these words.
use mathlib.Core.Path.{◌≡◌, refl, ap, ◌∙◌}
use mathlib.Core.Bool.{Bool, true, false, cond, not, ◌&&◌}
use mathlib.Core.List.{List, [], ◌∷◌, ◌++◌, append-nil}
use Prim.Native.Nat.{ℕ, ◌+◌, ◌≤◌}
use native.Mathlib.Omega.{arith}
use lib.Dec.{eqb}
use borrow.Author.Tests.{eqb-true, not-true}
use lib.ListN.{length, length-append}
use Rattle.bedrock.proofs.Choices.{cond_ind, and-true}
use Rattle.buffer.specs.Bytes.{Bytes}
use Rattle.query.specs.Reading.{spaced, joined}
use Rattle.query.specs.Grammar.{onto, words}

-- ---- words joined

joined-onto : (b : ℕ) (ws : List Bytes) → joined (onto b ws) ≡ b ∷ joined ws
unfolding joined spaced
joined-onto b [] = refl
joined-onto b (w ∷ ws) = refl

spaced-onto : (b : ℕ) (ws : List Bytes) → spaced (onto b ws) ≡ 0x20 ∷ joined (onto b ws)
unfolding joined spaced
spaced-onto b [] = refl
spaced-onto b (w ∷ ws) = refl

-- there is a word
spaced-words : (s : Bytes) → spaced (words s) ≡ 0x20 ∷ joined (words s)
unfolding words joined spaced
spaced-words [] = refl
spaced-words (b ∷ s) =
    cond_ind (λ ws. spaced ws ≡ 0x20 ∷ joined ws) (eqb b 0x20) ([] ∷ words s) (onto b (words s)) (λ _. refl) (λ _. spaced-onto b (words s))

pub joined_words : (s : Bytes) → joined (words s) ≡ s
unfolding words joined spaced
joined_words [] = refl
joined_words (b ∷ s) = go (eqb b 0x20) refl (joined_words s)
  where
    go : (t : Bool) → eqb b 0x20 ≡ t → joined (words s) ≡ s → joined (cond t ([] ∷ words s) (onto b (words s))) ≡ b ∷ s
    go true q h = spaced-words s ∙ rw (h, ← eqb-true b 0x20 q)
    go false q h = joined-onto b (words s) ∙ rw h

-- ---- the words of what is joined

-- no byte is a space
abbrev pub unspaced : Bytes → Bool
unspaced [] = true
unspaced (b ∷ w) = not (eqb b 0x20) && unspaced w

abbrev pub all_unspaced : List Bytes → Bool
all_unspaced [] = true
all_unspaced (w ∷ ws) = unspaced w && all_unspaced ws

pub unspaced-append : (vs ws : List Bytes) → all_unspaced vs ≡ true → all_unspaced ws ≡ true → all_unspaced (vs ++ ws) ≡ true
unspaced-append [] ws p q = q
unspaced-append (v ∷ vs) ws p q = let h = and-true (unspaced v) (all_unspaced vs) p in rw h.0 (unspaced-append vs ws h.1 q)

word_alone : (w : Bytes) → unspaced w ≡ true → words w ≡ w ∷ []
unfolding words
word_alone [] u = refl
word_alone (b ∷ w) u = let h = and-true (not (eqb b 0x20)) (unspaced w) u in rw (not-true (eqb b 0x20) h.0, word_alone w h.1)

word_first : (w s : Bytes) → unspaced w ≡ true → words (w ++ (0x20 ∷ s)) ≡ w ∷ words s
unfolding words
word_first [] s u = refl
word_first (b ∷ w) s u = let h = and-true (not (eqb b 0x20)) (unspaced w) u in rw (not-true (eqb b 0x20) h.0, word_first w s h.1)

pub words-joined : (w : Bytes) (ws : List Bytes) → all_unspaced (w ∷ ws) ≡ true → words (joined (w ∷ ws)) ≡ w ∷ ws
unfolding joined spaced
words-joined w [] u = rw append-nil (word_alone w (and-true (unspaced w) true u).0)
words-joined w (v ∷ ws) u =
    let h = and-true (unspaced w) (all_unspaced (v ∷ ws)) u in
    word_first w (v ++ spaced ws) h.0 ∙ ap (λ (l : List Bytes). w ∷ l) (words-joined v ws h.1)

-- no more words than bytes and one
spaced-length : (ws : List Bytes) → length ws ≤ length (spaced ws)
unfolding spaced
spaced-length [] = omega arith
spaced-length (w ∷ ws) = omega (arith, spaced-length ws, length-append w (spaced ws))

pub joined_length : (ws : List Bytes) → length ws ≤ length (joined ws) + 1
unfolding joined
joined_length [] = omega arith
joined_length (w ∷ ws) = omega (arith, spaced-length ws, length-append w (spaced ws))
