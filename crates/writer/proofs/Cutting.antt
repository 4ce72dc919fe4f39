-- A block once it is cut.
use mathlib.Core.Path.{◌≡◌, refl, sym, ap, ◌∙◌}
use mathlib.Core.Bool.{true}
use Prim.Native.Nat.{ℕ, ◌%◌, ◌≤◌}
use native.Mathlib.Omega.{arith}
use lib.ListN.{length, take}
use borrow.Author.Tests.{eq-eqb}
use Rattle.std.specs.Prelude.{Result, Ok, Err}
use Rattle.buffer.specs.Bytes.{Bytes}
use Rattle.refusal.specs.declared.Refusal.{Refusal}
use Rattle.kind.specs.Kind.{lawful, is_pointer}
use Rattle.cut.specs.Cut.{unit_of, cut_length, whole_units, cut_of}
use Rattle.cut.proofs.Tests.{cut_done, whole-scores, whole-bytes}
use Rattle.cut.proofs.Shortest.{cut_le}
use Rattle.cut.proofs.CutAndPad.{is_cut}
use Rattle.writer.specs.Blocks.{cut_block}

-- what `cut` answers for a lawful type and whole units
module _ (kind : ℕ) (b : Bytes) (l : lawful kind ≡ true) (u : whole_units (unit_of kind) (length b) ≡ true) (k : Result ℕ Refusal) (e : k ≡ cut_of kind b) where
  pub cut_is : (n : ℕ) → k ≡ Ok n → n ≡ cut_length (unit_of kind) b
  cut_is n q = (is_cut kind b n (sym e ∙ q)).size

  pub cut_never_refused : (w : Refusal) (n : ℕ) → k ≡ Err w → n ≡ cut_length (unit_of kind) b
  cut_never_refused w n q =
      let r = cut_done kind b (cut_length (unit_of kind) b) l u refl in
      let z : ◌≡◌ {A = ℕ} 0 1 = cc in absurd (omega arith)

-- the bytes that are stored
pub cut_bytes : (kind : ℕ) (b : Bytes) (n : ℕ) → n ≡ cut_length (unit_of kind) b → take n b ≡ cut_block kind b
unfolding cut_block
cut_bytes kind b n e = ap (λ (k : ℕ). take k b) e

pub cut_fits : (kind : ℕ) (b : Bytes) (n : ℕ) → n ≡ cut_length (unit_of kind) b → n ≤ length b
cut_fits kind b n e = omega (arith, e, cut_le (unit_of kind) b)

pub data_lawful : lawful 13 ≡ true
unfolding lawful
data_lawful = refl

-- data may have any length, pointer blocks whole scores
pub data_whole : (n : ℕ) → whole_units (unit_of 13) n ≡ true
unfolding is_pointer
data_whole n = sym (whole-bytes 13 n refl)

pub pointers-whole : (kind n : ℕ) → is_pointer kind ≡ true → n % 20 ≡ 0 → whole_units (unit_of kind) n ≡ true
pointers-whole kind n p h = sym (whole-scores kind n p) ∙ eq-eqb (n % 20) 0 h
