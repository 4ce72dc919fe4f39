-- The scores of a pointer block.
use mathlib.Core.Path.{◌≡◌, refl, sym, ap, ◌∙◌}
use mathlib.Core.List.{[]}
use Prim.Native.Nat.{ℕ, ◌+◌, ◌*◌, ◌%◌, ◌≤◌, ◌<◌}
use native.Mathlib.Omega.{arith}
use lib.Dec.{leb}
use borrow.Author.Tests.{le-leb, lt-leb, leb-false}
use lib.ListN.{length, drop, length-take, length-drop}
use Rattle.bedrock.proofs.Choices.{cond_ind}
use Rattle.buffer.specs.Bytes.{Bytes}
use Rattle.sha1_digest.proofs.Digest.{digest_length}
use Rattle.kind.specs.Kind.{zero_score}
use Rattle.sector.specs.Sector.{filled}
use Rattle.tree.specs.Tree.{piece, pointer}
use Rattle.tree.proofs.Filled.{part_filled}
pub use Rattle.reader.proofs.Pieces.{length-bytes}

pub pointer-past : (b : Bytes) (i : ℕ) → length b ≤ 20 * i → zero_score ≡ pointer b i
unfolding pointer
pointer-past b i h = rw (le-leb (length b) (20 * i) h)

-- before the end it is a piece of the block
pub pointer-piece : (b : Bytes) (i : ℕ) → 20 * i < length b → piece 20 i b ≡ pointer b i
unfolding pointer
pointer-piece b i h = rw (lt-leb (length b) (20 * i) h)

-- a whole piece is read by filling
pub piece-filled : (b : Bytes) (w i : ℕ) → w * i + w ≤ length b → piece w i b ≡ filled w (drop (w * i) b)
piece-filled b w i h = part_filled b b w (w * i) h (λ k. refl)

pub pointer-filled : (b : Bytes) (i : ℕ) → length b % 20 ≡ 0 → 20 * i < length b → filled 20 (drop (20 * i) b) ≡ pointer b i
pointer-filled b i m h = sym (piece-filled b 20 i (omega arith)) ∙ pointer-piece b i h

-- a pointer is a score
pub length-pointer : (b : Bytes) (i : ℕ) (s : Bytes) → s ≡ pointer b i → length b % 20 ≡ 0 → length s ≡ 20
unfolding pointer zero_score
length-pointer b i s e w =
    ap length e
    ∙ cond_ind (λ (x : Bytes). length x ≡ 20) (leb (length b) (20 * i)) _ _ (λ _. digest_length [])
    (λ q. simp (length-take, length-drop) (omega (arith, leb-false (length b) (20 * i) q)))
