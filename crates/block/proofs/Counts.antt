-- The table of sector counts is what the definitions say.
use mathlib.Core.Path.{◌≡◌, refl}
use Prim.Native.Nat.{ℕ, ◌-◌, ◌*◌}
use lib.ListN.{length, drop, length-drop}
use Rattle.buffer.specs.Bytes.{Bytes}
use Rattle.hexadecimal.specs.Hex.{digit_char, hex}
use Rattle.block.specs.Block.{parts_of}
use Rattle.block.specs.Counts.{count_of, Counts}

pub counts : Counts
unfolding parts_of hex digit_char
counts = refl

-- the bytes that the last sector's payload holds
pub last-payload : (p : ℕ) (b : Bytes) → length (drop (p * (parts_of p (length b) - 1)) b) ≡ (count_of p (length b)).last
last-payload p b = length-drop (p * (parts_of p (length b) - 1)) b
