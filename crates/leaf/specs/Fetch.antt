-- What the steps below the tests stand on: the run in the leaf that look-up finds, and what the tests have shown.
use Rattle.std.specs.Prelude.{ℕ, ◌≤◌, ◌<◌, Ok, Err, Result}
use Rattle.kind.specs.Kind.{longest}
use Rattle.block.specs.Block.{Inside}
use Rattle.entry.specs.declared.Entry.{Entry}
use Rattle.leaf.specs.Leaf.{leaf_run}
use Rattle.leaf.specs.declared.Extent.{Extent}
use Rattle.block.specs.declared.Block.{Block}
use Rattle.refusal.specs.declared.Refusal.{Refusal}

-- the leaf that was found lies among n sectors
abbrev pub LiesIn : ℕ → Result Block Refusal → Type 0
LiesIn n (Ok b) = Inside n b
LiesIn n (Err w) = Unit {0}

-- the run in the leaf that was found; "A missing block is refused, never zero"
abbrev pub run_in : ℕ → Entry → ℕ → Result Block Refusal → Result Extent Refusal
run_in page e offset (Ok b) = leaf_run page e offset b
run_in page e offset (Err w) = Err w

-- an entry and an offset that the tests let through
pub record Open (e : Entry) (offset : ℕ) : Type 0 where
  pub psize-from : 40 ≤ e.psize
  pub psize-to : e.psize ≤ longest
  pub dsize-from : 1 ≤ e.dsize
  pub dsize-to : e.dsize ≤ longest
  pub depth : e.depth < 8
  pub inside : offset < e.size
