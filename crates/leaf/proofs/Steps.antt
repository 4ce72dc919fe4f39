-- The run in a leaf, stored and past its end; below a zero score all is zero.
use mathlib.Core.Path.{◌≡◌, sym, ◌∙◌}
use mathlib.Core.Bool.{Bool, true}
use Prim.Native.Nat.{ℕ, zero, suc, ◌%◌, ◌≤◌, ◌<◌}
use borrow.Author.Tests.{lt-ltb, le-ltb}
use Rattle.buffer.specs.Bytes.{Bytes, same}
use Rattle.kind.specs.Kind.{zero_score}
use Rattle.block.specs.declared.Block.{Block}
use Rattle.entry.specs.declared.Entry.{Entry}
use Rattle.leaf.specs.Leaf.{zero_run, stored_run, leaf_run, under}

pub leaf-past : (page : ℕ) (e : Entry) (offset : ℕ) (b : Block) → b.size ≤ offset % e.dsize → zero_run page e offset ≡ leaf_run page e offset b
unfolding leaf_run
leaf-past page e offset b h = rw (le-ltb (offset % e.dsize) b.size h)

pub leaf_in : (page : ℕ) (e : Entry) (offset : ℕ) (b : Block) → offset % e.dsize < b.size → stored_run e offset b ≡ leaf_run page e offset b
unfolding leaf_run
leaf_in page e offset b h = rw (lt-ltb (offset % e.dsize) b.size h)

module _ (log : Bytes) (page : ℕ) (e : Entry) (offset : ℕ) where
  -- below a zero score all is zero
  pub under-zero : (level : ℕ) (s : Bytes) (b : Bool) → b ≡ same s zero_score → b ≡ true → zero_run page e offset ≡ under log page e offset level s
  unfolding under
  under-zero zero s b p q = rw (sym p ∙ q)
  under-zero (suc d) s b p q = rw (sym p ∙ q)
