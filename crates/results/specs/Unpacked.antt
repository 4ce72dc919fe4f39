-- The two parts of the number that a call answers with.
use Rattle.std.specs.Prelude.{ℕ, ◌/◌, ◌%◌}

-- in the lowest 8 bits the number of the refusal, 0 for none; above them the answer
abbrev pub number_in : ℕ → ℕ
number_in r = r % 256

abbrev pub answer_in : ℕ → ℕ
answer_in r = r / 256
