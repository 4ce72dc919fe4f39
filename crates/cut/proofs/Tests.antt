-- Each case of the tests of `cut` and `pad`, and what leads to it.
use mathlib.Core.Path.{◌≡◌, refl, sym, ap, ap₂, ◌∙◌}
use mathlib.Core.Bool.{Bool, true, false, ◌&&◌}
use mathlib.Core.List.{◌++◌}
use Prim.Native.Nat.{ℕ, ◌-◌, ◌/◌, ◌%◌, ◌≤◌, ◌<◌}
use native.Mathlib.Omega.{arith}
use native.Mathlib.Nat.{mod-one, div-one}
use lib.Dec.{eqb, leb}
use borrow.Author.Tests.{le-leb, lt-leb, leb-true, eq-eqb}
use borrow.Rule.Slice.PartMut.{put_mid, Post-is}
use lib.ListN.{length, take, drop, replicate, length-take, length-drop}
use Rattle.std.specs.Prelude.{Ok, Err}
use Rattle.bedrock.proofs.Choices.{and-true}
use Rattle.buffer.specs.Bytes.{Bytes}
use Rattle.kind.specs.Kind.{lawful, is_pointer, zero_score}
use Rattle.kind.proofs.ZeroScore.{length-zero-score}
use Rattle.refusal.specs.declared.Refusal.TheVariants.{BlockType, Pad}
use Rattle.cut.specs.Cut.{zero_byte, unit_of, repeat, cut_length, whole_units, cut_of}
use Rattle.cut.specs.Pad.{padded, pad_allowed, after_pad, pad_of}
use Rattle.cut.proofs.Units.{repeat-zeros}
use Rattle.cut.proofs.Multiples.{difference}
use Rattle.cut.proofs.Turns.{whole_units_lem}

-- ---- the unit of a type

pub unit_pointer : (kind : ℕ) → is_pointer kind ≡ true → unit_of kind ≡ zero_score
unfolding unit_of
unit_pointer kind e = rw e

pub unit_other : (kind : ℕ) → is_pointer kind ≡ false → unit_of kind ≡ zero_byte
unfolding unit_of
unit_other kind e = rw e

-- is never empty
pub unit_positive : (kind : ℕ) → 0 < length (unit_of kind)
unit_positive kind = go (is_pointer kind) refl
  where
    go : (t : Bool) → is_pointer kind ≡ t → 0 < length (unit_of kind)
    go true e = omega (arith, ap length (unit_pointer kind e), length-zero-score)
    go false e = omega (arith, ap length (unit_other kind e))

-- whole units: multiples of 20, and every number
pub whole-scores : (kind n : ℕ) → is_pointer kind ≡ true → eqb (n % 20) 0 ≡ whole_units (unit_of kind) n
unfolding whole_units
whole-scores kind n e = ap (λ (w : ℕ). eqb (n % w) 0) (sym (ap length (unit_pointer kind e) ∙ length-zero-score))

pub whole-bytes : (kind n : ℕ) → is_pointer kind ≡ false → true ≡ whole_units (unit_of kind) n
unfolding whole_units
whole-bytes kind n e = sym (ap (λ (u : Bytes). eqb (n % length u) 0) (unit_other kind e) ∙ ap (λ (r : ℕ). eqb r 0) (mod-one n))

-- ---- cutting

pub cut_unlawful : (kind : ℕ) (b : Bytes) → lawful kind ≡ false → Err BlockType ≡ cut_of kind b
unfolding cut_of
cut_unlawful kind b e = rw e

pub cut_ragged : (kind : ℕ) (b : Bytes) → lawful kind ≡ true → whole_units (unit_of kind) (length b) ≡ false → Err Pad ≡ cut_of kind b
unfolding cut_of
cut_ragged kind b e f = rw (e, f)

pub cut_done : (kind : ℕ) (b : Bytes) (n : ℕ) → lawful kind ≡ true → whole_units (unit_of kind) (length b) ≡ true → n ≡ cut_length (unit_of kind) b → Ok n ≡ cut_of kind b
unfolding cut_of
cut_done kind b n e f g = rw (e, f, g)

-- ---- padding

module _ (u : Bytes) (size len target : ℕ) where
  pub pad_short : target < len → false ≡ pad_allowed u size len target
  unfolding pad_allowed
  pad_short h = rw (lt-leb len target h)

  pub pad_past : len ≤ target → size < target → false ≡ pad_allowed u size len target
  unfolding pad_allowed
  pad_past h k = rw (le-leb len target h, lt-leb target size k)

  pub pad_units : len ≤ target → target ≤ size → whole_units u len ≡ true → whole_units u target ≡ pad_allowed u size len target
  unfolding pad_allowed
  pad_units h k e = rw (le-leb len target h, le-leb target size k, e)

  pub pad_ragged : len ≤ target → target ≤ size → whole_units u len ≡ false → false ≡ pad_allowed u size len target
  unfolding pad_allowed
  pad_ragged h k e = rw (le-leb len target h, le-leb target size k, e)

-- all zero bytes, or all zero scores
pub filled-scores : (kind n : ℕ) (x : Bytes) → is_pointer kind ≡ true → x ≡ repeat zero_score (n / length zero_score) → x ≡ repeat (unit_of kind) (n / length (unit_of kind))
filled-scores kind n x e f = f ∙ ap (λ (u : Bytes). repeat u (n / length u)) (sym (unit_pointer kind e))

pub filled-bytes : (kind n : ℕ) (x : Bytes) → is_pointer kind ≡ false → x ≡ replicate n 0 → x ≡ repeat (unit_of kind) (n / length (unit_of kind))
filled-bytes kind n x e f =
    f ∙ sym (repeat-zeros n) ∙ ap (repeat zero_byte) (sym (div-one n)) ∙ ap (λ (u : Bytes). repeat u (n / length u)) (sym (unit_other kind e))

module _ (kind : ℕ) (d : Bytes) (len target : ℕ) where
  pub pad_unlawful : lawful kind ≡ false → after_pad (Err BlockType) d ≡ pad_of kind d len target
  unfolding pad_of
  pad_unlawful e = rw e

  pub pad_refused : lawful kind ≡ true → pad_allowed (unit_of kind) (length d) len target ≡ false → after_pad (Err Pad) d ≡ pad_of kind d len target
  unfolding pad_of
  pad_refused e f = rw (e, f)

  pub pad_done : lawful kind ≡ true → pad_allowed (unit_of kind) (length d) len target ≡ true → after_pad (Ok tt) (padded (unit_of kind) d len target) ≡ pad_of kind d len target
  unfolding pad_of
  pad_done e f = rw (e, f)

-- what it takes that padding is allowed
pub record Allowed (u : Bytes) (size len target : ℕ) : Type 0 where
  pub longer : len ≤ target
  pub within : target ≤ size
  pub from : len % length u ≡ 0
  pub to : target % length u ≡ 0

pub allowed : (u : Bytes) (size len target : ℕ) → pad_allowed u size len target ≡ true → Allowed u size len target
unfolding pad_allowed
allowed u size len target e =
    let p = and-true (leb len target && leb target size) (whole_units u len && whole_units u target) e in
    let q = and-true (leb len target) (leb target size) p.0 in
    let r = and-true (whole_units u len) (whole_units u target) p.1 in
    record {
      longer = leb-true len target q.0;
      within = leb-true target size q.1;
      from = whole_units_lem u len r.0;
      to = whole_units_lem u target r.1;
    }

module _ (u d : Bytes) (len target : ℕ) (a : Allowed u (length d) len target) where
  pub part_length : length (take (target - len) (drop len d)) ≡ target - len
  part_length = simp (length-take, length-drop) (omega (arith, a.longer, a.within))

  -- the part that is filled is whole units
  pub part_whole : whole_units u (length (take (target - len) (drop len d))) ≡ true
  unfolding whole_units
  part_whole =
      eq-eqb (length (take (target - len) (drop len d)) % length u) 0
      (ap (λ (n : ℕ). n % length u) part_length ∙ difference (length u) target len a.to a.from)

  -- the buffer with that part filled is the padded one
  pub part_filled : (ys : Bytes) → ys ≡ repeat u (length (take (target - len) (drop len d)) / length u) → put_mid len (target - len) d ys ≡ padded u d len target
  unfolding padded
  part_filled ys e =
      ap₂ (λ (y z : Bytes). take len d ++ (y ++ z))
      (e ∙ ap (λ (n : ℕ). repeat u (n / length u)) part_length)
      (Post-is len target d a.longer)
