-- The pieces of a copy, in order: each may change the second log.
use Prim.Native.Nat.{ℕ}
use native.Mathlib.Numerals.{add-one}
use Rattle.buffer.specs.Bytes.{Bytes}
use Rattle.tree.specs.Tree.{piece}
use Rattle.descent.proofs.InOrder.{Pieces, InOrder}
use Rattle.copying.specs.Copy.{Copied, copied, copy_in_order}

abbrev pub copy_pieces : (ℕ → Bytes → ℕ → Bytes → Copied) → ℕ → Bytes → ℕ → Pieces Bytes Copied
copy_pieces go w b left = record { left = left; told = copied; one = λ f i a s. go f (piece w i b) a s; all = λ f k i n s. copy_in_order (go f) w b left k i n s }

pub copy_in_order_lem : (go : ℕ → Bytes → ℕ → Bytes → Copied) (w : ℕ) (b : Bytes) (left : ℕ) → InOrder (copy_pieces go w b left)
unfolding copy_in_order
copy_in_order_lem go w b left = record {
  first_done = λ f i k n s j r t e d h. rw (h, add-one i, ← e, d);
  first-refused = λ f i k n s j r t x e d h. rw (h, ← e, d);
  none_left = λ f i k n s e. rw e;
}
