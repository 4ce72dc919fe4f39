-- "Depth 2, offset 4,096: second pointer, then second": where that leads.
use mathlib.Core.Path.{◌≡◌, refl}
use mathlib.Core.Bool.{true, false}
use mathlib.Core.Option.{some}
use Prim.Native.Nat.{ℕ, ◌%◌}
use lib.Dec.{leb, eqb}
use lib.ListN.{length}
use Rattle.buffer.specs.Bytes.{Bytes, same}
use Rattle.digits.specs.Number.{digits, value_from}
use Rattle.kind.specs.Kind.{zero_score}
use Rattle.block.specs.Block.{Row, place_of}
use Rattle.sector_log.specs.LookUp.{held}
use Rattle.entry.specs.declared.Entry.{Entry}
use Rattle.entry.specs.Entry.{entry_of}
use Rattle.entry.specs.Examples.{entry_bytes}
use Rattle.tree.specs.Tree.{type_at, pointer}
use Rattle.leaf.specs.Leaf.{leaf_run, under}

-- the entry: psize 60, which makes p 3, dsize 1,024, depth 2, size 9,216
abbrev pub entry : Entry
entry = entry_of (entry_bytes 60 1024 2 9216)

-- the run is that of the leaf to which the second pointer of the second pointer's block leads
module _ (log : Bytes) (page : ℕ) (s : Bytes) (two one leaf : Row)
    (a : held log 4 s ≡ some two) (b : held log 3 (pointer two.bytes 1) ≡ some one) (c : held log 13 (pointer one.bytes 1) ≡ some leaf)
    (za : same s zero_score ≡ false) (zb : same (pointer two.bytes 1) zero_score ≡ false) (zc : same (pointer one.bytes 1) zero_score ≡ false)
    (la : leb (length two.bytes) 60 ≡ true) (lb : leb (length one.bytes) 60 ≡ true) (lc : leb (length leaf.bytes) 1024 ≡ true)
    (ma : eqb (length two.bytes % 20) 0 ≡ true) (mb : eqb (length one.bytes % 20) 0 ≡ true) where
  pub second-then-second : under log page entry 4096 2 s ≡ leaf_run page entry 4096 (place_of leaf)
  unfolding under digits value_from entry_of type_at
  second-then-second = rw (za, a, la, ma, zb, b, lb, mb, zc, c, lc) refl
