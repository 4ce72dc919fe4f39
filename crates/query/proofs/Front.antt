-- Whether the first word is a given one.
use mathlib.Core.Path.{◌≡◌, refl}
use mathlib.Core.Bool.{Bool, true, false}
use mathlib.Core.List.{List, [], ◌∷◌}
use Rattle.buffer.specs.Bytes.{Bytes, same}
use Rattle.buffer.proofs.Bytes.{same_refl, same_true}
use Rattle.query.specs.Grammar.{choose, after}

pub after_ind {κ} : {A : Type 0} (P : A → Type κ) (t : Bytes) (ws : List Bytes) (x : A) (k : List Bytes → A)
    → P x → ((vs : List Bytes) → ws ≡ t ∷ vs → P (k vs)) → P (after t ws x k)
unfolding after
after_ind P t [] x k p g = p
after_ind {A} P t (w ∷ ws) x k p g = go (same w t) refl
  where
    go : (b : Bool) → same w t ≡ b → P (choose b k ws x)
    go true q = g ws (rw (same_true w t q))
    go false q = p

-- the first word is another, or there is none
abbrev pub NotNext : Bytes → List Bytes → Type 0
NotNext t [] = Unit {0}
NotNext t (w ∷ ws) = same w t ≡ false

pub after_other : {A : Type 0} (t : Bytes) (ws : List Bytes) (x : A) (k : List Bytes → A) → NotNext t ws → after t ws x k ≡ x
unfolding after
after_other t [] x k n = refl
after_other t (w ∷ ws) x k n = rw n

pub after_word : {A : Type 0} (t : Bytes) (ws : List Bytes) (x : A) (k : List Bytes → A) → after t (t ∷ ws) x k ≡ k ws
unfolding after
after_word t ws x k = rw (same_refl t)
