-- What is promised of numbers: what is written is read back, and what is read is exactly what writing makes. Once over base and width.
use Rattle.std.specs.Prelude.{◌≡◌, List, ℕ, ◌^◌, ◌<◌, length}
use Rattle.digits.specs.Number.{Below, digits, value_from}

-- a number that w digits hold is read back from them
abbrev pub ValueOfDigits : Type 0
ValueOfDigits = (b w n : ℕ) → n < b ^ w → value_from b 0 (digits b w n) ≡ n

-- digits are those of the number that they make
abbrev pub DigitsOfValue : Type 0
DigitsOfValue = (b : ℕ) (s : List ℕ) → Below b s → digits b (length s) (value_from b 0 s) ≡ s
