-- On a log that reflects a ledger: look-up is by the ledger's rows, and what the ledger knows is read and not stored again.
use mathlib.Core.Path.{◌≡◌, sym, ap, ◌∙◌}
use mathlib.Core.Bool.{true, false}
use mathlib.Core.Logic.{inl, inr}
use mathlib.Core.Option.{Option, some}
use Prim.Native.Nat.{ℕ, ◌≤◌}
use lib.ListN.{length}
use borrow.Author.Tests.{le-ltb}
use Rattle.bedrock.proofs.Choices.{false_unless, some-not-none}
use Rattle.buffer.specs.Bytes.{Bytes, same}
use Rattle.buffer.proofs.Bytes.{same_true}
use Rattle.sha1_digest.specs.Sha1.{sha1_of}
use Rattle.message.specs.Message.{tag_of}
use Rattle.message.specs.Reply.{read_reply, write_reply}
use Rattle.kind.specs.Kind.{lawful, zero_score}
use Rattle.block.specs.Block.{Row}
use Rattle.sector_log.specs.LookUp as look
use Rattle.sector_log.specs.Parts.{Lent, one_log}
use Rattle.request.specs.Step as steps
use Rattle.request.specs.declared.Session.TheVariants.{Greeted}
use Rattle.ledger.specs.Ledger.{Ledger, intact, end}
use Rattle.ledger.specs.Reflects.{Reflects}
use Rattle.ledger.proofs.Reflects.{used-end, blocks-intact}
use Rattle.demands.specs.Ledger.{first_row}
use Rattle.demands.specs.Instance.{archive}
use Rattle.promises.specs.Requests.{Writes, Reads}
use Rattle.demands.proofs.Seen.{given, Mirrors, held-zero, empty-score, held_other}
use Rattle.demands.proofs.Step.{mirrors}
use Rattle.demands.proofs.Lawful.{lawful as laws}
use Rattle.promises.proofs.Greeted.{read_step}
use Rattle.promises.proofs.Dates.{date-is_no_identity}
use Rattle.promises.proofs.Known.{Known}

module _ (log : Lent) (L : Ledger archive) (R : Reflects archive log L) where
  pub mirrored : Mirrors (one_log log) (intact archive L) (end archive L)
  mirrored = mirrors log L R.owneds (blocks-intact archive laws log L R) (used-end archive laws log L R)

  -- what is found of data that the ledger knows
  known-held : (t : ℕ) (d : Bytes) → lawful t ≡ true → Known t d L → (r : Row) × (look.held (one_log log) t (sha1_of d) ≡ some r) × (r.bytes ≡ d)
  known-held t d l (inl e) = (look.empty_row t, held-zero (one_log log) t (sha1_of d) l (rw e empty-score), sym e)
  known-held t d l (inr k) = (k.0, held_other (one_log log) (intact archive L) (end archive L) mirrored t (sha1_of d) other ∙ k.1, k.2)
    where
      other : same (sha1_of d) zero_score ≡ false
      other = false_unless (same (sha1_of d) zero_score) (λ q.
          some-not-none k.0 (sym k.1 ∙ ap (λ (s : Bytes). first_row t s (intact archive L)) (same_true (sha1_of d) zero_score q) ∙ mirrored.no_zero t))

  pub known-reads : (t count : ℕ) (d m : Bytes) (date : Option Bytes) (buffer : Bytes) → Known t d L → Reads m date buffer log t count (sha1_of d) → length d ≤ count
      → steps.step Greeted m date log buffer ≡ steps.granted (read_reply (tag_of m) d) Greeted log buffer
  known-reads t count d m date buffer k Q h =
      let f = known-held t d Q.lawful_type k in
      read_step m date buffer log t count (sha1_of d) Q ∙ ap (given log m buffer count) f.1 ∙ rw (f.2, le-ltb count (length d) h)

  pub known-writes : (t : ℕ) (d m : Bytes) (date : Option Bytes) (buffer : Bytes) → Known t d L → Writes m date buffer log t d
      → steps.step Greeted m date log buffer ≡ steps.granted (write_reply (tag_of m) (sha1_of d)) Greeted log buffer
  known-writes t d m date buffer k W = let f = known-held t d W.lawful_type k in date-is_no_identity t d m date log buffer f.0 f.1 f.2 W
