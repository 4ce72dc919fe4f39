-- Bytes padded with zeros: their pieces, and a root.
use mathlib.Core.Path.{◌≡◌, sym, ap, ◌∙◌}
use Prim.Native.Nat.{ℕ, ◌+◌, ◌-◌, ◌*◌, ◌≤◌, ◌<◌}
use native.Mathlib.Omega.{arith}
use lib.ListN.{length, get_or, drop, replicate, length-append, length-replicate}
use Rattle.buffer.specs.Bytes.{Bytes}
use Rattle.buffer.proofs.Bytes.{zeros-replicate}
use Rattle.sector.specs.Sector.{filled}
use Rattle.block.proofs.Payloads.{zero-tail}
use Rattle.tree.specs.Tree.{piece}
use Rattle.tree.proofs.Filled.{filled-all, part_filled}
use Rattle.descent.specs.Descent.{padded_to, entries_of}

pub length-padded : (n : ℕ) (b : Bytes) → length b ≤ n → length (padded_to n b) ≡ n
length-padded n b h = simp (length-append, length-replicate) (omega arith)

pub padded_get_d : (n : ℕ) (b : Bytes) (k : ℕ) → get_or (padded_to n b) k 0 ≡ get_or b k 0
padded_get_d n b k = zero-tail b (replicate (n - length b) 0) k (zeros-replicate (n - length b))

-- entry i of a directory block
pub entry-piece : (b : Bytes) (i : ℕ) → i < entries_of (length b) → piece 40 i (padded_to (40 * entries_of (length b)) b) ≡ filled 40 (drop (40 * i) b)
entry-piece b i h =
    part_filled b (padded_to (40 * entries_of (length b)) b) 40 (40 * i)
    (omega (arith, length-padded (40 * entries_of (length b)) b (omega arith)))
    (padded_get_d (40 * entries_of (length b)) b)

-- the root
pub root-padded : (b : Bytes) → length b ≤ 300 → padded_to 300 b ≡ filled 300 (drop 0 b)
root-padded b h =
    filled-all (padded_to 300 b) b 300 0 (length-padded 300 b h)
    (λ k q. let z : 0 + k ≡ k = omega arith in padded_get_d 300 b k ∙ ap (λ (x : ℕ). get_or b x 0) (sym z))
