-- What follows of a log that holds a file's blocks is so after the call that wrote it, and after any later requests.
use mathlib.Core.Path.{◌≡◌, ap, subst}
use mathlib.Core.Bool.{true}
use mathlib.Core.List.{List}
use mathlib.Core.Option.{Option, none, some}
use Prim.Native.Nat.{ℕ, ◌≤◌}
use native.Mathlib.Omega.{arith}
use lib.ListN.{length}
use Rattle.bedrock.specs.Choice.{on}
use Rattle.buffer.specs.Bytes.{Bytes}
use Rattle.digits.specs.Number.{small}
use Rattle.kind.specs.Kind.{longest}
use Rattle.sector_log.specs.Parts.{Lent, beside, tape}
use Rattle.request.specs.declared.Session.{Session}
use Rattle.ledger.specs.History.{Item, AllOfBytes}
use Rattle.demands.specs.Ledger.{Extent}
use Rattle.demands.specs.Instance.{archive}
use Rattle.promises.specs.Histories.{Keeps, afterwards}
use Rattle.promises.proofs.Keeps.{list_keeps}
use Rattle.writer.specs.Blocks.{file_blocks}
use Rattle.writer.specs.WriteFile.{WriteOutcome, entry_over, write_file}
use Rattle.writer.proofs.Depth.{Lies, depth_lies}
use Rattle.writer_laws.specs.Held.{HoldsAll}
use Rattle.writer_laws.specs.Walk.{both}
use Rattle.writer_laws.proofs.ReadBack.{Done-with, done_with, holds_later}
use Rattle.std.specs.Prelude.{Ok}

-- what is so of the entry over a file in every log that holds its blocks
unfoldable pub Ever : Bytes → ℕ → ℕ → (Bytes → Bytes → Type 0) → Type 0
Ever slice dsize psize P = (log : Bytes) (depth : ℕ) → Lies (length slice) dsize psize depth → length slice ≤ longest → HoldsAll log (file_blocks slice dsize psize depth)
    → P log (entry_over slice dsize psize depth)

module _ (P : Bytes → Bytes → Type 0) (log w date slice : Bytes) (dsize psize : ℕ) (entry scores : Bytes) (ever : Ever slice dsize psize P) (sm : small slice ≡ true)
    (done : (write_file log w date slice dsize psize entry scores).end ≡ Ok tt) where
  abbrev o : WriteOutcome
  o = write_file log w date slice dsize psize entry scores

  abbrev D : Done-with log w date slice dsize psize entry scores
  D = done_with log w date slice dsize psize entry scores sm done

  at : (l : Bytes) → HoldsAll l (file_blocks slice dsize psize D.tests.depth) → P l o.entry
  unfolding Ever
  at l H = rw D.handed (ever l D.tests.depth (depth_lies (length slice) dsize psize D.tests.depth D.tests.deep) D.tests.short H)

  pub after_call : P (both o.lent) o.entry
  after_call = at (both o.lent) (rw D.lent D.holds)

  holds_then : (l : Bytes) (v : Option Bytes) → Keeps (beside log D.part) (record { log = l; waiting = v })
      → HoldsAll (both (record { log = l; waiting = v })) (file_blocks slice dsize psize D.tests.depth)
  holds_then l none k = let z : ◌≡◌ {A = ℕ} 0 1 = ap (λ (x : Extent). on x.waiting 0 (λ n. 1)) k.0 in absurd (omega arith)
  holds_then l (some v) k = holds_later (tape log D.part) (tape l v) (file_blocks slice dsize psize D.tests.depth) k.1 D.holds

  pub after-requests : (past : List Session) (qs : List (Item archive)) → AllOfBytes archive qs → P (both (afterwards o.lent past qs)) o.entry
  after-requests past qs bytes =
      let later = afterwards o.lent past qs in
      let keeps = list_keeps (record { log = o.lent; past = past }) qs bytes in
      at (both later) (holds_then later.log later.waiting (subst (λ (L : Lent). Keeps L later) D.lent keeps))
