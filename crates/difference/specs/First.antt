-- What pins the first difference: it is one, there is none before it, and it is the same from either side.
use Rattle.std.specs.Prelude.{◌≡◌, true, false, ◌&&◌, ℕ, ◌*◌, ◌<◌, length, Ok, Err, Result}
use Rattle.std.proofs.Math.Option.{Option, none, some}
use Rattle.buffer.specs.Bytes.{Bytes}
use Rattle.refusal.specs.declared.Refusal.TheVariants.{Entry as IllFormed}
use Rattle.difference.specs.declared.Difference.{Difference}
use Rattle.difference.specs.declared.Difference.TheVariants.{First, Second, Nowhere}
use Rattle.difference.specs.Difference.{entry_at, active, block_allowed, difference_of, answer_of}
use Rattle.refusal.specs.declared.Refusal.{Refusal}

-- no difference at a position: both entries are inactive, or both are active and the same 40 bytes
pub record Agree (a b : Bytes) (i : ℕ) : Type 0 where
  pub alike : active (entry_at a i) ≡ active (entry_at b i)
  pub equal : active (entry_at a i) ≡ true → entry_at a i ≡ entry_at b i

-- the entry of a at position i, which is byte `at`, is active and whole, and i is the first position at which a and b don't agree
pub record FirstAt (a b : Bytes) (at : ℕ) : Type 0 where
  pub position : ℕ
  pub byte : at ≡ 40 * position
  pub is-active : active (entry_at a position) ≡ true
  pub full-length : length (entry_at a position) ≡ 40
  pub before : (j : ℕ) → j < position → Agree a b j
  pub differ : Agree a b position → ⊥

-- the second's entry is the first difference, and the first's is inactive there
pub record OnlySecondAt (a b : Bytes) (at : ℕ) : Type 0 where
  pub first : FirstAt b a at
  pub inactive : active (entry_at a first.position) ≡ false

-- what each answer says of the two blocks
abbrev pub Says : Bytes → Bytes → Result Difference Refusal → Type 0
Says a b (Ok (First at)) = FirstAt a b at
Says a b (Ok (Second at)) = OnlySecondAt a b at
Says a b (Ok Nowhere) = (i : ℕ) → Agree a b i
Says a b (Err w) = (w ≡ IllFormed) × ((block_allowed a && block_allowed b) ≡ false)

abbrev pub SaysTheFirst : Type 0
SaysTheFirst = (a b : Bytes) → Says a b (difference_of a b)

-- equal blocks have no difference
abbrev pub NoneInEqual : Type 0
NoneInEqual = (a : Bytes) → block_allowed a ≡ true → difference_of a a ≡ Ok Nowhere

-- where the difference is, of whichever block
abbrev pub place_of : Result Difference Refusal → Option ℕ
place_of (Ok (First at)) = some at
place_of (Ok (Second at)) = some at
place_of (Ok Nowhere) = none
place_of (Err w) = none

-- the same place and number, whichever block comes first
abbrev pub SwappedAlike : Type 0
SwappedAlike = (a b : Bytes) → (place_of (difference_of b a) ≡ place_of (difference_of a b)) × (answer_of (difference_of b a) ≡ answer_of (difference_of a b))
