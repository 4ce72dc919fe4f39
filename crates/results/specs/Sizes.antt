-- How many sectors there are at most, and what is left to a part of a number.
use Rattle.std.specs.Prelude.{ℕ, ◌+◌}
use Rattle.sector_log.specs.LookUp.{most_sectors, most_waiting}

-- the sectors of the longest log and of the longest waiting part
abbrev pub most_both : ℕ
most_both = most_sectors + most_waiting

-- the length of a run or of a block takes 16 bits: what stands above it is so many times itself
abbrev pub above_length : ℕ
above_length = 65536

-- visits or units take 20 bits: what stands above them is so many times itself
abbrev pub above_visits : ℕ
above_visits = 1048576
