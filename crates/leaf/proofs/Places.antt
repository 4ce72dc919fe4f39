-- Where a byte of a block lies in the log.
use mathlib.Core.Path.{◌≡◌, refl, ap, ◌∙◌}
use Prim.Native.Nat.{ℕ, ◌+◌, ◌-◌, ◌*◌, ◌/◌, ◌%◌, ◌^◌, ◌≤◌, ◌<◌}
use native.Mathlib.Nat.{mod-lt}
use native.Mathlib.Omega.{arith}
use lib.ListN.{length, drop, get_or}
use lib.Seq.{get_or-take, get_or-drop}
use Rattle.buffer.specs.Bytes.{Bytes}
use Rattle.block.specs.declared.Block.{Block}
use Rattle.block.specs.Block.{Inside}
use Rattle.block.specs.Log.{addressable, sectors, bytes_of}
use Rattle.block.proofs.At.{at_piece}
use Rattle.block.proofs.Facts.{part_of}
use Rattle.sector_log.specs.LookUp.{most_sectors, most_waiting}
use Rattle.tree.proofs.Pieces.{byte_in}
use Rattle.leaf.specs.Leaf.{payload_in, place_in}
use Rattle.leaf.specs.Fetch.{LiesIn}
use Rattle.std.specs.Prelude.{Ok, Err, Result}
use Rattle.refusal.specs.declared.Refusal.{Refusal}

-- a byte of the block at a place among n sectors: up to the end of its payload
module _ (n : ℕ) (b : Block) (h : Inside n b) (j : ℕ) (g : j < b.size) where
  pos : 0 < payload_in b
  pos = omega (arith, h.1)

  pub place_end : place_in b j + (payload_in b - j % payload_in b) ≤ 512 * n
  place_end = omega (arith, part_of (payload_in b) pos j b.size g, mod-lt j pos, h.0, h.1)

  -- in one sector
  pub place_rest : place_in b j % 512 ≡ b.label + j % payload_in b
  place_rest = omega (arith, mod-lt j pos, h.1)

  pub place-before : place_in b j < 512 * n
  place-before = omega (arith, place_end, mod-lt j pos)

module _ (log : Bytes) (b : Block) (h : Inside (sectors (length log)) b) where
  pub place-within : (j : ℕ) → j < b.size → place_in b j < length log
  place-within j g = omega (arith, place-before (sectors (length log)) b h j g)

  pub byte-place : (j : ℕ) → j < b.size → get_or (bytes_of log b) j 0 ≡ get_or log (place_in b j) 0
  byte-place j g =
      let p = payload_in b in
      let m = b.first.0 + j / p in
      let i = b.label + j % p in
      let pos : 0 < p = omega (arith, h.1) in
      let w : i < 512 = omega (arith, mod-lt j pos, h.1) in
      let s : m < sectors (length log) = omega (arith, part_of p pos j b.size g, h.0) in
      byte_in log b h.1 p refl j g
      ∙ ap (λ (x : Bytes). get_or x i 0) (at_piece log m s)
      ∙ get_or-take 512 (drop (512 * m) log) i 0 w
      ∙ get_or-drop (512 * m) log i 0

-- its place by the payload's length
pub place_by : (b : Block) (k p : ℕ) → p ≡ payload_in b → 512 * (b.first.0 + k / p) + (b.label + k % p) ≡ place_in b k
place_by b k p e = ap (λ (x : ℕ). 512 * (b.first.0 + k / x) + (b.label + k % x)) e

-- among more sectors
pub lies_more : (n m : ℕ) (l : Result Block Refusal) → n ≤ m → LiesIn n l → LiesIn m l
lies_more n m (Ok b) e h = (omega (arith, h.0), h.1)
lies_more n m (Err w) e h = tt

-- a log and a waiting part that are allowed have few sectors
pub few_sectors : (u m w : ℕ) → u ≤ sectors m → sectors m ≤ most_sectors → sectors w ≤ most_waiting → u + sectors w ≤ 2 ^ 54
few_sectors u m w b c d = omega arith

pub few_addressable : (u m w : ℕ) → u ≤ sectors m → sectors m ≤ most_sectors → sectors w ≤ most_waiting → u + sectors w ≤ addressable
few_addressable u m w b c d = omega (arith, few_sectors u m w b c d)
