use mathlib.Core.Path.{◌≡◌}
use mathlib.Core.List.{◌++◌}
use Prim.Native.Nat.{◌*◌}
use lib.ListN.{take, drop}
use Rattle.hexadecimal.specs.Hex.{hex_bytes}
use Rattle.hexadecimal.proofs.put_hex_bytes.Given as goal

-- `hexadecimal::put_hex_bytes` meets its contract: the digits written, before those of the bytes that are left, are those of all. Assumes nothing.
abbrev pub invariant-loop-i : goal.invariant-loop-i
invariant-loop-i l = take (2 * l.i) l.d ++ hex_bytes (drop l.i l.b) ≡ hex_bytes l.b
