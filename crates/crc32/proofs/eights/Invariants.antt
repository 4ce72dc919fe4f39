use mathlib.Core.Path.{◌≡◌}
use Prim.Native.Nat.{◌*◌}
use lib.ListN.{drop}
use Rattle.crc32_rule.specs.Crc32.{feed}
use Rattle.crc32.proofs.eights.Given as goal

-- `crc32::eights` meets its contract. The loop's invariant: the bytes that are left, fed to the register, give what all of them give from the start.
-- Assumes nothing.
abbrev pub invariant-loop-k : goal.invariant-loop-k
invariant-loop-k l = feed l.r (drop (8 * l.k) l.s) ≡ feed l.c l.s
