-- A number below 256 beside 256 times another: both are read back.
use mathlib.Core.Path.{◌≡◌}
use Prim.Native.Nat.{ℕ, ◌+◌, ◌*◌, ◌<◌}
use native.Mathlib.Omega.{arith}
use Rattle.refusal.specs.Number.{number_of}
use Rattle.refusal.specs.declared.Refusal.{Refusal}
use Rattle.results.specs.Unpacked.{number_in, answer_in}
use Rattle.results.proofs.Numbers.{number-bounds}

-- a number below 256 beside 256 times another
pub beside : (n a : ℕ) → n < 256 → (number_in (n + 256 * a) ≡ n) × (answer_in (n + 256 * a) ≡ a)
beside n a h = (omega arith, omega arith)

pub refused-alone : (w : Refusal) → (number_in (number_of w) ≡ number_of w) × (answer_in (number_of w) ≡ 0)
refused-alone w = (omega (arith, (number-bounds w).1), omega (arith, (number-bounds w).1))

pub above : (a : ℕ) → (number_in (256 * a) ≡ 0) × (answer_in (256 * a) ≡ a)
above a = (omega arith, omega arith)

pub few : (w : Refusal) → number_of w < 256
few w = omega (arith, (number-bounds w).1)
