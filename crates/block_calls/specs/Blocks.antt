-- A block's type, its cutting and its padding, in numbers and byte strings.
use Rattle.std.specs.Prelude.{Result, Ok, Err, ℕ, ◌+◌, ◌*◌, ⊤}
use Rattle.buffer.specs.Bytes.{Bytes}
use Rattle.refusal.specs.declared.Refusal.{Refusal}
use Rattle.refusal.specs.Number.{number_of}
use Rattle.cut.specs.Pad.{AfterPad}

-- 256 times the block type, or the number of the refusal, which is below 256
abbrev pub type_result : Result ℕ Refusal → ℕ
type_result (Ok t) = 256 * t
type_result (Err w) = number_of w

-- the length that is kept of a block of m bytes, at most m; a refusal is m and its number, which is more than m
abbrev pub cut_result : ℕ → Result ℕ Refusal → ℕ
cut_result m (Ok n) = n
cut_result m (Err w) = m + number_of w

-- the number of a padding, 0 for none
abbrev pub pad_number : Result ⊤ Refusal → ℕ
pad_number (Ok tt) = 0
pad_number (Err w) = number_of w

-- what a padding gives: its result, and what the lent buffer then holds
pub record Padding : Type 0 where
  pub result : ℕ
  pub buffer : Bytes

abbrev pub padded_buffer : ℕ → Bytes → Padding
padded_buffer r b = record { result = r; buffer = b }

abbrev pub pad_result : AfterPad → Padding
pad_result a = padded_buffer (pad_number a.answer) a.buffer
