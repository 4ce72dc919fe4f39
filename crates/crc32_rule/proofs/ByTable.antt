-- A byte's step by a table: the table holds eight bit steps of each byte, and what stands above the byte is only shifted.
-- Assumes nothing.
use mathlib.Core.Path.{◌≡◌, sym, ap, ◌∙◌}
use Prim.Native.Nat.{ℕ, zero, suc, ◌+◌, ◌/◌, ◌%◌, ◌<◌}
use native.Mathlib.Nat.{mod-lt, zero-add, add-zero, add-suc, suc-add, le_of_suc-le-suc, not-suc-le-zero}
use lib.Bits.{bit_xor, bit_and, xor_shifted, and_mask}
use lib.Pow.{split}
use lib.Dec.{lit<}
use lib.ListN.{get_or}
use Rattle.crc32_rule.specs.Crc32.{bits, byte, entries, table}
use Rattle.crc32_rule.proofs.Step.{bits_above}

entry : (n k i : ℕ) → i < n → get_or (entries n k) i 0 ≡ bits 8 (k + i)
unfolding entries
entry zero k i h = absurd (not-suc-le-zero h)
entry (suc n) k zero h = ap (bits 8) (sym (add-zero k))
entry (suc n) k (suc i) h = entry n (suc k) i (le_of_suc-le-suc h) ∙ ap (bits 8) (suc-add k i ∙ sym (add-suc k i))

split-bits : (x : ℕ) → bits 8 x ≡ bit_xor (x / 256) (bits 8 (x % 256))
split-bits x =
    ap (bits 8) (sym (xor_shifted (x / 256) 8 (x % 256) (mod-lt x (lit< tt)) ∙ split x 8))
    ∙ bits_above 8 (x / 256) (x % 256)

pub by_table : (c b : ℕ) → bit_xor (bit_xor c b / 256) (get_or (table) (bit_and (bit_xor c b) 255) 0) ≡ byte c b
unfolding byte table
by_table c b =
    let x = bit_xor c b in
    ap (λ (i : ℕ). bit_xor (x / 256) (get_or (table) i 0)) (and_mask x 8)
    ∙ ap (bit_xor (x / 256)) (entry 256 0 (x % 256) (mod-lt x (lit< tt)) ∙ ap (bits 8) (zero-add (x % 256)))
    ∙ sym (split-bits x)
