use mathlib.Core.Path.{◌≡◌}
use Prim.Native.Nat.{ℕ, ◌+◌, ◌-◌, ◌*◌, ◌/◌, ◌^◌}
use lib.Bits.{bit_xor}
use Rattle.crc32_rule.specs.Crc32.{bits}
use Rattle.crc32_tables.specs.Digits.{rows}
use Rattle.crc32_steps.proofs.divide.Given as goal

-- `crc32_steps::divide` meets its contract. The loop's invariant: the digits from j on are divided, beside the register. Assumes nothing.
abbrev pub invariant-loop-j : goal.invariant-loop-j
invariant-loop-j l = (b : ℕ) → l.t ≡ rows b 16 → l.r ≡ bit_xor l.c (bits (b + 64 - 4 * l.j) (l.x / 2 ^ (4 * l.j)))
