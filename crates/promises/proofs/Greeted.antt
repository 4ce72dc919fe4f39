-- A well-formed read or write after hello, in any log: past the tests, what is left is look-up or store.
use mathlib.Core.Path.{◌≡◌, ◌∙◌}
use mathlib.Core.Option.{Option}
use Prim.Native.Nat.{ℕ}
use lib.ListN.{length}
use borrow.Author.Tests.{le-ltb}
use Rattle.buffer.specs.Bytes.{Bytes}
use Rattle.message.specs.Message.{tag_of}
use Rattle.message.specs.declared.Request.{Request}
use Rattle.message.specs.declared.Request.TheVariants.{Read, Write}
use Rattle.kind.specs.Kind.{longest}
use Rattle.sector_log.specs.LookUp as look
use Rattle.sector_log.specs.Parts.{Lent, one_log}
use Rattle.sector_log.specs.Store as stores
use Rattle.request.specs.Step as steps
use Rattle.request.specs.declared.Session.TheVariants.{Greeted}
use Rattle.promises.specs.Requests.{Asks, Writes, Reads}
use Rattle.demands.proofs.Seen.{given, kept}

module _ (m : Bytes) (date : Option Bytes) (buffer : Bytes) (L : Lent) where
  pub asked : (q : Request) → Asks m date buffer L q → steps.step Greeted m date L buffer ≡ steps.greeted (steps.date_of date) q (tag_of m) m L buffer
  unfolding steps.step steps.in_session
  asked q A = rw (A.frame, le-ltb (length buffer) steps.reply_room A.buffer-room, A.lent-allowed, A.date-allowed, A.request)

  pub write_step : (t : ℕ) (d : Bytes) → Writes m date buffer L t d → steps.step Greeted m date L buffer ≡ kept m buffer (stores.store L (steps.date_of date) t d)
  unfolding steps.greeted steps.write
  write_step t d W = asked (Write t) W.asks ∙ rw (W.content, W.lawful_type, le-ltb longest (length d) W.not-long)

  pub read_step : (t count : ℕ) (s : Bytes) → Reads m date buffer L t count s
      → steps.step Greeted m date L buffer ≡ given L m buffer count (look.held (one_log L) t s)
  unfolding steps.greeted steps.read
  read_step t count s Q = asked (Read t count) Q.asks ∙ rw (Q.score, Q.lawful_type)
