-- A read: the archive answers it as the ledger does.
use mathlib.Core.Path.{◌≡◌, refl}
use mathlib.Core.Bool.{Bool, true, false, cond, not}
use mathlib.Core.List.{List}
use mathlib.Core.Option.{Option, none, some}
use Prim.Native.Nat.{ℕ}
use native.Mathlib.Omega.{arith}
use lib.Dec.{leb, ltb}
use lib.ListN.{length}
use borrow.Author.Tests.{le-ltb}
use Rattle.bedrock.specs.Choice.{on}
use Rattle.buffer.specs.Bytes.{Bytes, same}
use Rattle.refusal.specs.declared.Refusal.TheVariants.{BlockType, OverCount}
use Rattle.message.specs.Message.{tag_of}
use Rattle.message.specs.Reply.{read_reply}
use Rattle.kind.specs.Kind.{lawful, zero_score}
use Rattle.block.specs.Block.{Row}
use Rattle.sector_log.specs.LookUp as look
use Rattle.sector_log.specs.Parts.{Lent, one_log}
use Rattle.request.specs.Step as steps
use Rattle.request.specs.declared.Session.TheVariants.{Greeted}
use Rattle.ledger.specs.Archive.{stays}
use Rattle.demands.specs.Ledger.{Decision, refusal, reply, absent, first_row, read_row}
use Rattle.demands.specs.Instance.{extent_of}
use Rattle.demands.proofs.Tests.{contrary, ltb-not}
use Rattle.demands.proofs.Seen.{given, seen, view, Mirrors, held-zero, held_other, absence-is}

module _ (L : Lent) (rows : List Row) (end start : ℕ) (M : Mirrors (one_log L) rows end) (date m buffer : Bytes) (t count : ℕ) (score : Bytes) where
  -- what the ledger decides, by its first row
  abbrev decided : Option Row → Decision
  decided o =
      on o (refusal (absent rows end))
      (λ r. cond (leb (length r.bytes) count) (reply (read_reply (tag_of m) r.bytes) Greeted stays) (refusal OverCount))

  by_row : (o : Option Row) → seen (given L m buffer count o) ≡ view L Greeted m buffer (decided o)
  by_row none = rw (absence-is (one_log L) rows end M)
  by_row (some r) =
      contrary seen (view L Greeted m buffer) (ltb count (length r.bytes)) (leb (length r.bytes) count) (ltb-not count (length r.bytes)) (λ _. refl) (λ _. refl)

  found : lawful t ≡ true
      → seen (given L m buffer count (look.held (one_log L) t score)) ≡ view L Greeted m buffer (read_row rows end start (extent_of L) date t count score (tag_of m))
  found l = go (same score zero_score) refl
    where
      go : (b : Bool) → same score zero_score ≡ b
          → seen (given L m buffer count (look.held (one_log L) t score)) ≡ view L Greeted m buffer (read_row rows end start (extent_of L) date t count score (tag_of m))
      go true q = rw (held-zero (one_log L) t score l q, q, le-ltb count 0 (omega arith))
      go false q = rw (held_other (one_log L) rows end M t score q, q) (by_row (first_row t score rows))

  pub read-agrees : seen (steps.read t count (tag_of m) score L buffer)
      ≡ view L Greeted m buffer (cond (lawful t) (read_row rows end start (extent_of L) date t count score (tag_of m)) (refusal BlockType))
  unfolding steps.read
  read-agrees = contrary seen (view L Greeted m buffer) (not (lawful t)) (lawful t) refl found (λ _. refl)
