-- What is read of an entry that was written.
use mathlib.Core.Path.{◌≡◌}
use mathlib.Core.Bool.{true, false}
use Prim.Native.Nat.{ℕ, ◌+◌, ◌*◌, ◌/◌, ◌%◌, ◌^◌, ◌<◌}
use native.Mathlib.Omega.{arith}
use lib.Dec.{eqb}
use lib.ListN.{length}
use lib.Seq.{take_all}
use Rattle.buffer.specs.Bytes.{Bytes}
use Rattle.digits.specs.Number.{digits, value_from}
use Rattle.digits.proofs.NumberLaws.{value-digits}
use Rattle.entry.specs.declared.Entry.{Entry}
use Rattle.entry.specs.Entry.{field, flags_of, score_of, entry_of}
use Rattle.entry.specs.Made.{made_entry}

flags_read : (n depth : ℕ) → n ≡ 1 + 4 * depth → depth < 8 → (n % 2 ≡ 1) × (n / 2 % 2 ≡ 0) × (n / 4 % 8 ≡ depth) × (n / 32 % 8 ≡ 0)
flags_read n depth e h = (omega arith, omega arith, omega arith, omega arith)

-- the entry of a file with these sizes
abbrev pub file_entry : ℕ → ℕ → ℕ → ℕ → Entry
file_entry psize dsize depth size = record { active = true; directory = false; depth = depth; plain = true; clean = true; psize = psize; dsize = dsize; size = size }

module _ (psize dsize depth size : ℕ) (score : Bytes) where
  abbrev b : Bytes
  b = made_entry psize dsize depth size score

  pub made-length : length score ≡ 20 → length b ≡ 40
  unfolding digits
  made-length l = omega (arith, l)

  pub made-score : length score ≡ 20 → score_of b ≡ score
  unfolding digits
  made-score l = take_all 20 score (omega (arith, l))

  made-psize : psize < 256 ^ 2 → field 4 2 b ≡ psize
  unfolding digits
  made-psize h = value-digits 256 2 psize h

  made-dsize : dsize < 256 ^ 2 → field 6 2 b ≡ dsize
  unfolding digits
  made-dsize h = value-digits 256 2 dsize h

  made-size : size < 256 ^ 6 → field 14 6 b ≡ size
  unfolding digits
  made-size h = value-digits 256 6 size h

  made_flags : flags_of b ≡ 1 + 4 * depth
  unfolding digits value_from
  made_flags = omega arith

  pub made-entry : psize < 256 ^ 2 → dsize < 256 ^ 2 → depth < 8 → size < 256 ^ 6 → entry_of b ≡ file_entry psize dsize depth size
  unfolding entry_of digits
  made-entry hp hd h hs =
      let f = flags_read (flags_of b) depth made_flags h in
      λ i. record {
        active = eqb (f.0 i) 1;
        directory = eqb (f.1 i) 1;
        depth = f.2 i;
        plain = eqb (f.3 i) 0;
        clean = true;
        psize = made-psize hp i;
        dsize = made-dsize hd i;
        size = made-size hs i;
      }
