use mathlib.Core.Path.{◌≡◌}
use mathlib.Core.List.{◌++◌}
use Prim.Native.Nat.{◌*◌}
use lib.ListN.{take, drop}
use Rattle.hexadecimal.specs.Hex.{read_bytes}
use Rattle.hexadecimal.proofs.fill_bytes.Given as goal

-- `hexadecimal::fill_bytes` meets its contract: the bytes written, before those of the digits that are left, are those of all. Assumes nothing.
abbrev pub invariant-loop-i : goal.invariant-loop-i
invariant-loop-i l = take l.i l.d ++ read_bytes (drop (2 * l.i) l.s) ≡ read_bytes l.s
