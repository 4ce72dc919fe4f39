-- The bytes that are filled are few: a file's size has six bytes.
use mathlib.Core.Path.{◌≡◌, ap, ap₂, ◌∙◌}
use Prim.Native.Nat.{ℕ, ◌+◌, ◌*◌, ◌-◌, ◌^◌, ◌≤◌, ◌<◌}
use native.Mathlib.Nat.{pow-le-pow_right, zero-lt-suc}
use native.Mathlib.Omega.{arith}
use lib.ListN.{length, take, drop, length-take}
use Rattle.buffer.specs.Bytes.{Bytes}
use Rattle.buffer.proofs.Bytes.{small_all, small_get_d, small-take, small-drop}
use Rattle.digits.specs.Number.{Below}
use Rattle.digits.proofs.NumberLaws.{value_lt}
use Rattle.entry.specs.Entry.{entry_of}
use Rattle.fill.specs.declared.Filled.{Filled}
use Rattle.fill.specs.Fill.{stop_number, FillOutcome, fill_outcome, fill_of}
use Rattle.file_laws.proofs.Filled.{fill_files}
use Rattle.tree_calls.specs.Tree.{stop_sector, filled_up, fill_result}

size_few : (b : Bytes) → Below 256 b → (entry_of b).size < 2 ^ 48
unfolding entry_of
size_few b h =
    let s = take 6 (drop 14 b) in
    let few : Below 256 s = λ k. small_get_d s k (small-take 6 (drop 14 b) (small-drop 14 b (small_all b h))) in
    let short : length s ≤ 6 = omega (arith, length-take 6 (drop 14 b)) in
    let room : 256 ^ length s ≤ 256 ^ 6 = pow-le-pow_right (zero-lt-suc 255) short in
    omega (arith, value_lt 256 s few, room)

-- of the code's answer
pub fills_few : (log waiting b : Bytes) (offset : ℕ) (d d' : Bytes) (f : Filled) → Below 256 b → fill_outcome f d' ≡ fill_of log waiting b offset d → f.count < 2 ^ 48
fills_few log waiting b offset d d' f h e =
    let c : f.count ≡ (fill_of log waiting b offset d).filled.count = ap (λ (o : FillOutcome). o.filled.count) e in
    omega (arith, c, (fill_files log waiting b offset d).1, size_few b h)

pub filled_so : (f : Filled) (d : Bytes) (o : FillOutcome) (k s : ℕ) → fill_outcome f d ≡ o → k ≡ stop_number f.stop → s ≡ stop_sector f.stop
    → filled_up (k + 256 * f.count) d s ≡ fill_result o
filled_so f d o k s e g h = ap₂ (λ (x y : ℕ). filled_up (x + 256 * f.count) d y) g h ∙ ap fill_result e
