-- How far the rounds of a block are. Assumes nothing: this is a definition.
use Rattle.std.specs.Prelude.{◌≡◌, List, ℕ, ◌-◌}
use Rattle.sha1_block.specs.declared.Hash.{Hash}
use Rattle.sha1_block.specs.Block.{schedule_of, rounds_of}
use Rattle.sha1_schedule.specs.Ring.{Ring}

-- t rounds are done, from 16 on: the ring w is as round t - 1 left it, and s is the standard's working variables for the
-- block m and the hash value h before it
unfoldable pub RoundsDone : List ℕ → Hash → ℕ → List ℕ → Hash → Type 0
RoundsDone m h t w s = Ring m (t - 1) w × (s ≡ rounds_of t (schedule_of 64 m) h)
