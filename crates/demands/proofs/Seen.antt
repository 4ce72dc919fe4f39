-- A request as the archive answers it and as the ledger does, in the same terms; and when the two can be compared.
use mathlib.Core.Path.{◌≡◌, ap, ◌∙◌}
use mathlib.Core.Bool.{Bool, true, false, cond, ◌&&◌}
use mathlib.Core.List.{List, []}
use mathlib.Core.Option.{Option, none, some}
use Prim.Native.Nat.{ℕ}
use lib.Dec.{ltb}
use lib.ListN.{length}
use Rattle.bedrock.specs.Choice.{on}
use Rattle.buffer.specs.Bytes.{Bytes, same}
use Rattle.buffer.proofs.Bytes.{same_refl}
use Rattle.sha1_digest.specs.Sha1.{sha1_of}
use Rattle.refusal.specs.declared.Refusal.TheVariants.{OverCount}
use Rattle.message.specs.Message.{tag_of}
use Rattle.message.specs.Reply.{read_reply}
use Rattle.kind.specs.Kind.{lawful, zero_score}
use Rattle.block.specs.Block.{Row}
use Rattle.block.specs.Log.{used}
use Rattle.sector_log.specs.LookUp as look
use Rattle.sector_log.specs.Parts.{Lent, one_log}
use Rattle.sector_log.specs.Store as stores
use Rattle.request.specs.Step as steps
use Rattle.request.specs.declared.Session.{Session}
use Rattle.request.specs.declared.Session.TheVariants.{Greeted}
use Rattle.ledger.specs.Archive.{Seen}
use Rattle.ledger.specs.Ledger.{shown}
use Rattle.demands.specs.Ledger.{Answer, Decision, ruling_of, absent, first_row}
use Rattle.demands.specs.Instance.{archive}
use Rattle.demands.proofs.LookUp.{first-same, absence-same}

-- what the archive answers of a read, by what is held
abbrev pub given : Lent → Bytes → Bytes → ℕ → Option Row → steps.Outcome
given L m buffer count o =
    on o (steps.refused (look.absence (one_log L)) (tag_of m) Greeted L buffer)
    (λ r. cond (ltb count (length r.bytes)) (steps.refused OverCount (tag_of m) Greeted L buffer) (steps.granted (read_reply (tag_of m) r.bytes) Greeted L buffer))

-- what a store gives, by what is held
abbrev pub stored_as : Lent → Bytes → ℕ → Bytes → Option Row → stores.AfterStore
stored_as L date t d o = on o (stores.appended L date t d) (λ r. stores.compared L r.bytes r.first d)

-- what the archive answers of a store
abbrev pub kept : Bytes → Bytes → stores.AfterStore → steps.Outcome
kept m buffer a = steps.written a.receipt.stored (tag_of m) a.receipt.score a.lent buffer

-- what is seen of the archive's outcome
abbrev pub seen : steps.Outcome → Seen Answer Session Lent
seen o = record { answer = record { number = o.number; buffer = o.reply }; session = o.session; log = o.lent }

-- what is seen of the ledger's decision
abbrev pub view : Lent → Session → Bytes → Bytes → Decision → Seen Answer Session Lent
view L s m buffer d = shown archive L (ruling_of s m buffer d)

-- a log's sound blocks are these rows, none of them of the zero score, and its used part ends here
pub record Mirrors (log : Bytes) (rows : List Row) (end : ℕ) : Type 0 where
  pub blocks : look.blocks log ≡ rows
  pub ends : used log ≡ end
  pub no_zero : (t : ℕ) → first_row t zero_score rows ≡ none

pub held-zero : (log : Bytes) (t : ℕ) (s : Bytes) → lawful t ≡ true → same s zero_score ≡ true → look.held log t s ≡ some (look.empty_row t)
unfolding look.held
held-zero log t s l z = rw (l, z)

-- the score of no bytes is the zero score
pub empty-score : same (sha1_of []) zero_score ≡ true
unfolding zero_score
empty-score = same_refl (sha1_of [])

module _ (log : Bytes) (rows : List Row) (end : ℕ) (M : Mirrors log rows end) where
  pub held_other : (t : ℕ) (s : Bytes) → same s zero_score ≡ false → look.held log t s ≡ first_row t s rows
  unfolding look.held
  held_other t s z = rw z (go (lawful t))
    where
      go : (b : Bool) → cond (b && false) (some (look.empty_row t)) (look.first_of t s (look.blocks log)) ≡ first_row t s rows
      go true = first-same t s (look.blocks log) ∙ ap (first_row t s) M.blocks
      go false = first-same t s (look.blocks log) ∙ ap (first_row t s) M.blocks

  pub absence-is : look.absence log ≡ absent rows end
  absence-is = rw (← M.blocks, ← M.ends) (absence-same log)
