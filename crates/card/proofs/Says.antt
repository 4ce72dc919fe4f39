-- What a card says is what its lines say; lines added leave it.
use mathlib.Core.Path.{◌≡◌, refl, sym, ap, ◌∙◌}
use mathlib.Core.Bool.{Bool, true, false}
use mathlib.Core.List.Memᴰ
use mathlib.Core.List.{List, [], ◌∷◌}
use mathlib.Core.Logic.{◌⊎◌, inl, inr, ◌≢◌}
use mathlib.Core.Option.{some}
use Prim.Native.Nat.{ℕ}
use native.Mathlib.Omega.{arith}
use Rattle.buffer.specs.Bytes.{Bytes, same}
use Rattle.buffer.proofs.Bytes.{same_true, same_false, same_refl}
use Rattle.kleene.specs.declared.Value.TheVariants.{NotKnown}
use Rattle.card.specs.Card.{Line, line, good_from, told, say, lines_of, value_in}
use Rattle.card.specs.Says.{Among, Says, LinesAdded}
use Rattle.card.proofs.Order.{good-first, good_other}
use Rattle.card.proofs.Pinned.{pinned, lines_are}

-- ---- lists of lines

-- nothing is said, or what a line of the name says
pub data Said (ls : List Line) (n : Bytes) : Type 0 where
  nothing : say ls n ≡ NotKnown → Said ls n
  by : (l : Line) → Among l ls → l.name ≡ n → say ls n ≡ told l.present → Said ls n

pub said : (ls : List Line) (n : Bytes) → Said ls n
unfolding say
said [] n = nothing refl
said (l ∷ ls) n = go (same l.name n) refl (said ls n)
  where
    go : (t : Bool) → same l.name n ≡ t → Said ls n → Said (l ∷ ls) n
    go true q d = by l (Memᴰ.head refl) (same_true l.name n q) (rw q)
    go false q (nothing e) = nothing (rw q e)
    go false q (by m a f e) = by m (Memᴰ.tail a) f (rw q e)

-- of good lines each is heard
pub heard : (n : Bytes) (ls : List Line) → good_from n ls ≡ true → (l : Line) → Among l ls → say ls l.name ≡ told l.present
unfolding say
heard n [] e l h = absurd (Memᴰ.not-nil h)
heard n (m ∷ ls) e l h = go (Memᴰ.cases_cons h) (heard m.name ls)
  where
    go : (l ≡ m) ⊎ Among l ls → (good_from m.name ls ≡ true → (l : Line) → Among l ls → say ls l.name ≡ told l.present) → say (m ∷ ls) l.name ≡ told l.present
    go (inl q) f = rw q (rw (same_refl m.name))
    go (inr g) f = rw (same_false m.name l.name (good_other n m ls e l g)) (f (good-first n m ls e).2 l g)

told-one : (a b : Bool) → told a ≡ told b → a ≡ b
told-one true true e = refl
told-one true false e = let z : ◌≡◌ {A = ℕ} 0 1 = cc in absurd (omega arith)
told-one false true e = let z : ◌≡◌ {A = ℕ} 0 1 = cc in absurd (omega arith)
told-one false false e = refl

-- ---- cards

module _ (s : Bytes) (ls : List Line) (e : lines_of s ≡ some ls) where
  says-lines : (n : Bytes) → value_in s n ≡ say ls n
  unfolding value_in
  says-lines n = ap (λ (x : List Line). say x n) (lines_are s ls e).1

  its_line : (l : Line) → Among l ls → value_in s l.name ≡ told l.present
  its_line l h = says-lines l.name ∙ heard [] ls (pinned.written s ls e).1 l h

  no_line : (n : Bytes) → ((l : Line) → Among l ls → l.name ≢ n) → value_in s n ≡ NotKnown
  no_line n f = says-lines n ∙ go (said ls n)
    where
      go : Said ls n → say ls n ≡ NotKnown
      go (nothing q) = q
      go (by l a q r) = absurd (f l a q)

  has-line : (n : Bytes) (p : Bool) → value_in s n ≡ told p → Among (line n p) ls
  has-line n p q = go (said ls n) p (sym (says-lines n) ∙ q)
    where
      go : Said ls n → (p : Bool) → say ls n ≡ told p → Among (line n p) ls
      go (nothing r) true h = let z : ◌≡◌ {A = ℕ} 0 1 = cc in absurd (omega arith)
      go (nothing r) false h = let z : ◌≡◌ {A = ℕ} 0 1 = cc in absurd (omega arith)
      go (by l a f r) p h = let q : p ≡ l.present = sym (told-one l.present p (sym r ∙ h)) in Memᴰ.cast (λ i. line (sym f i) (q i)) a

pub says : Says
says s ls e = record {
  says = its_line s ls e;
  silent = no_line s ls e;
  present = λ n q. has-line s ls e n true q;
  absent = λ n q. has-line s ls e n false q;
}

pub lines-added : LinesAdded
lines-added s t ls ms e f h n = go (said ls n)
  where
    go : Said ls n → (value_in s n ≡ NotKnown) ⊎ (value_in s n ≡ value_in t n)
    go (nothing q) = inl (says-lines s ls e n ∙ q)
    go (by l a q r) = inr (says-lines s ls e n ∙ r ∙ sym (its_line t ms f l (h l a)) ∙ ap (value_in t) q)
