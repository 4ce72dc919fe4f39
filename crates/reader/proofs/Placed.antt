-- What a place says of the block that stands there.
use mathlib.Core.Path.{◌≡◌, refl, sym, ap, ◌∙◌}
use mathlib.Core.Option.{Option, none, some}
use Prim.Native.Nat.{ℕ, ◌≤◌, ◌<◌}
use native.Mathlib.Omega.{arith}
use Rattle.buffer.specs.Bytes.{Bytes}
use Rattle.block.specs.Block.{Row, place_of}
use Rattle.block.specs.declared.Block.{Block}
use Rattle.block.specs.Log.{sound}
use Rattle.block.proofs.Facts.{valid_facts, label-bounds}
use Rattle.block.proofs.Sound.{sound-reads}
use Rattle.reader.specs.Reader.{placed}
use Rattle.kind.specs.Kind.{longest}
use Rattle.std.specs.Prelude.{Some, None, Option as Optional}

-- where a block stands
pub placed-some : (o : Option Row) (p : Optional Block) (b : Block) → p ≡ placed o → p ≡ Some b → (r : Row) × (o ≡ some r) × (b ≡ place_of r)
placed-some none p b e z = let q : None ≡ Some b = sym e ∙ z in let y : ◌≡◌ {A = ℕ} 0 1 = cc in absurd (omega arith)
placed-some (some r) p b e z = let q : Some (place_of r) ≡ Some b = sym e ∙ z in (r, refl, cc)

pub placed-none : (o : Option Row) (p : Optional Block) → p ≡ placed o → p ≡ None → o ≡ none
placed-none none p e z = refl
placed-none (some r) p e z = let q : Some (place_of r) ≡ None = sym e ∙ z in let y : ◌≡◌ {A = ℕ} 0 1 = cc in absurd (omega arith)

-- the label of a sound block leaves room for a payload, and the block is not longer than the longest
pub block-bounds : (log : Bytes) (n : ℕ) (p : Optional Block) (b : Block) → p ≡ placed (sound log n) → p ≡ Some b → (b.label < 499) × (b.size ≤ longest)
block-bounds log n p b e z =
    let r = placed-some (sound log n) p b e z in
    let v = (sound-reads log n r.0 r.1).0 in
    (omega (arith, label-bounds r.0 v, ap (λ (x : Block). x.label) r.2), omega (arith, (valid_facts r.0 v).not_many, ap (λ (x : Block). x.size) r.2))
