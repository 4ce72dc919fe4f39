-- Rounds one after another. Assumes nothing.
use mathlib.Core.Path.{◌≡◌, subst}
use mathlib.Core.List.{List}
use Prim.Native.Nat.{ℕ, ◌+◌, ◌/◌}
use native.Mathlib.Numerals.{add-one}
use lib.ListN.{get_or}
use Rattle.sha1_block.specs.declared.Hash.{Hash}
use Rattle.sha1_block.specs.Block.{round_of, rounds_of}
use Rattle.sha1_block.specs.Rounds.{RoundsDone}

pub round_more : (w : List ℕ) (h s r : Hash) (t q x : ℕ) → t / 20 ≡ q → x ≡ get_or w t 0 → s ≡ rounds_of t w h → r ≡ round_of s q x → r ≡ rounds_of (t + 1) w h
unfolding rounds_of
round_more w h s r t q x e f p z = rw (add-one, e, ← f, ← p) z

pub after_move : (m : List ℕ) (h : Hash) (a b : ℕ) (w : List ℕ) (s : Hash) → a ≡ b → RoundsDone m h a w s → RoundsDone m h b w s
after_move m h a b w s e p = subst (λ (t : ℕ). RoundsDone m h t w s) e p
