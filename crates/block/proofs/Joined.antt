-- Two runs of sectors read as one: how many they are, what stands in each, and where the used part ends.
use mathlib.Core.Path.{◌≡◌, refl, sym, ap, ◌∙◌}
use mathlib.Core.Bool.{Bool, true, false}
use mathlib.Core.List.{[], ◌++◌}
use Prim.Native.Nat.{ℕ, zero, suc, ◌+◌, ◌-◌, ◌*◌, ◌≤◌, ◌<◌}
use native.Mathlib.Nat.{le_antisymm}
use native.Mathlib.Omega.{arith}
use lib.Dec.{ltb}
use borrow.Author.Tests.{ltb-true, ltb-false}
use lib.ListN.{length, take, drop, length-append, take-append-drop}
use lib.Seq.{length-take-le}
use Rattle.buffer.specs.Bytes.{Bytes, zeros}
use Rattle.buffer.proofs.Bytes.{small-append, small-take}
use Rattle.digits.specs.Number.{small}
use Rattle.block.specs.Log.{sectors, at, Alike, joined, used_of, used}
use Rattle.block.proofs.At.{piece, piece-front, piece_skip, at_piece, at-past}
use Rattle.block.proofs.Used.{lt_used, used_le, used_le_sectors, at-used, blank-past, at-beyond}

module _ (u : ℕ) (log waiting : Bytes) (h : u ≤ sectors (length log)) where
  length_front : length (take (512 * u) log) ≡ 512 * u
  length_front = length-take-le (512 * u) log (omega arith)

  pub length-joined : length (joined u log waiting) ≡ 512 * u + length waiting
  unfolding joined
  length-joined = omega (arith, length-append (take (512 * u) log) waiting, length_front)

  pub sectors-joined : sectors (length (joined u log waiting)) ≡ u + sectors (length waiting)
  sectors-joined = omega (arith, length-joined)

  -- before u the log's sector
  pub at-log : (n : ℕ) → n < u → at (joined u log waiting) n ≡ at log n
  unfolding joined
  at-log n g =
      at_piece (take (512 * u) log ++ waiting) n (omega (arith, length-append (take (512 * u) log) waiting, length_front))
      ∙ piece-front (take (512 * u) log) waiting u n length_front g
      ∙ sym (piece-front (take (512 * u) log) (drop (512 * u) log) u n length_front g)
      ∙ ap (λ (x : Bytes). piece x n) (take-append-drop (512 * u) log)
      ∙ sym (at_piece log n (omega arith))

  -- from u on the second run's
  pub at-waiting : (n : ℕ) → u ≤ n → at (joined u log waiting) n ≡ at waiting (n - u)
  unfolding joined
  at-waiting n g = go (ltb (n - u) (sectors (length waiting))) refl
    where
      size : length (take (512 * u) log ++ waiting) ≡ 512 * u + length waiting
      size = omega (arith, length-append (take (512 * u) log) waiting, length_front)

      go : (b : Bool) → ltb (n - u) (sectors (length waiting)) ≡ b → at (take (512 * u) log ++ waiting) n ≡ at waiting (n - u)
      go true q =
          let lt = ltb-true (n - u) (sectors (length waiting)) q in
          at_piece (take (512 * u) log ++ waiting) n (omega (arith, size))
          ∙ piece_skip (take (512 * u) log) waiting u n length_front g
          ∙ sym (at_piece waiting (n - u) lt)
      go false q =
          let ge = ltb-false (n - u) (sectors (length waiting)) q in
          at-past (take (512 * u) log ++ waiting) n (omega (arith, size))
          ∙ sym (at-past waiting (n - u) ge)

  pub small-joined : small log ≡ true → small waiting ≡ true → small (joined u log waiting) ≡ true
  unfolding joined
  small-joined a b = small-append (take (512 * u) log) waiting (small-take (512 * u) log a) b

  -- a border anywhere behind the used part, and a second run all blank: the sectors are the log's
  pub at-alone : used log ≤ u → used waiting ≡ 0 → (n : ℕ) → at (joined u log waiting) n ≡ at log n
  at-alone g e n = go (ltb n u) refl
    where
      go : (b : Bool) → ltb n u ≡ b → at (joined u log waiting) n ≡ at log n
      go true q = at-log n (ltb-true n u q)
      go false q =
          let ge = ltb-false n u q in
          at-waiting n ge ∙ at-beyond waiting (n - u) (omega arith) ∙ sym (at-beyond log n (omega arith))

-- a log read to its end, with nothing behind it
pub alike-whole : (log : Bytes) → Alike (joined (sectors (length log)) log []) log
unfolding used used_of
alike-whole log = at-alone (sectors (length log)) log [] (omega arith) (used_le_sectors log) refl

-- behind the used part the second run's used part goes on
module _ (log waiting : Bytes) where
  both : Bytes
  both = joined (used log) log waiting

  used-least : used both ≤ used log + used waiting
  unfolding both
  used-least = used_le both (used log + used waiting) (λ n h.
      ap zeros (at-waiting (used log) log waiting (used_le_sectors log) n (omega arith)) ∙ blank-past waiting (n - used log) (omega arith))

  used-most : (u w : ℕ) → used log ≡ u → used waiting ≡ w → u + w ≤ used both
  unfolding both
  used-most u (suc w) p q =
      let e : used log + w - used log ≡ w = omega arith in
      let s : zeros (at both (used log + w)) ≡ false =
      ap zeros (at-waiting (used log) log waiting (used_le_sectors log) (used log + w) (omega arith) ∙ ap (at waiting) e) ∙ at-used waiting w q in
      omega (arith, lt_used both (used log + w) s)
  used-most (suc u) zero p q =
      let s : zeros (at both u) ≡ false = ap zeros (at-log (used log) log waiting (used_le_sectors log) u (omega arith)) ∙ at-used log u p in
      omega (arith, lt_used both u s)
  used-most zero zero p q = omega arith

  pub used-joined : used (joined (used log) log waiting) ≡ used log + used waiting
  unfolding both
  used-joined = le_antisymm used-least (used-most (used log) (used waiting) refl refl)
