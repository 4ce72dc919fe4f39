-- Sixteen words of the message schedule in a ring, as FIPS 180-4 has it in section 6.1.3. Assumes nothing: these are definitions.
use Rattle.std.specs.Prelude.{◌≡◌, List, ℕ, ◌+◌, ◌-◌, ◌%◌, ◌<◌, ◌≤◌, length, get_or, set}
use Rattle.std.specs.Int.Bits.{bit_xor}
use Rattle.word.specs.Word.{rot_l}
use Rattle.sha1_schedule.specs.Schedule.{schedule_of}

-- #103: "Keep sixteen words of the message schedule in a ring [..] and prove that from round 16 on they are the latest sixteen
-- of the standard's schedule". In round t the ring w holds the words t - 15 to t of the schedule of the block m, word n in
-- the place n % 16. In round 15 these are the words of the block.
unfoldable pub Ring : List ℕ → ℕ → List ℕ → Type 0
Ring m t w = (length w ≡ 16) × ((n : ℕ) → t < n + 16 → n ≤ t → get_or w (n % 16) 0 ≡ get_or (schedule_of 64 m) n 0)

-- round t's word, of those 3, 8, 14 and 16 before it, which stand in these places
abbrev pub ring_word : List ℕ → ℕ → ℕ
ring_word w t =
    rot_l 1 (bit_xor (bit_xor (bit_xor (get_or w ((t - 3) % 16) 0) (get_or w ((t - 8) % 16) 0)) (get_or w ((t - 14) % 16) 0)) (get_or w (t % 16) 0))

-- the law: at every round t from 16 on, where the ring held the latest sixteen words in the round before, that word is word t of the
-- standard's schedule, and put into the place t % 16 it leaves the ring with the words t - 15 to t
abbrev pub RingGoesOn : Type 0
RingGoesOn = (m w : List ℕ) (t : ℕ) → 16 ≤ t → t < 80 → Ring m (t - 1) w
    → (ring_word w t ≡ get_or (schedule_of 64 m) t 0) × Ring m t (set w (t % 16) (ring_word w t))
