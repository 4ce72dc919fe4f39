-- One write message, and a hello, to any log that is lent.
use mathlib.Core.Path.{◌≡◌, refl, sym, ap, subst, ◌∙◌}
use mathlib.Core.Bool.{true}
use mathlib.Core.List.{◌∷◌}
use mathlib.Core.Option.{some}
use Prim.Native.Nat.{◌+◌, ◌-◌, ◌≤◌}
use native.Mathlib.Omega.{arith}
use lib.ListN.{length, take}
use lib.Seq.{take_at}
use borrow.Author.Tests.{le-leb, eq-eqb, le-ltb, lt-ltb}
use Rattle.buffer.specs.Bytes.{Bytes}
use Rattle.buffer.proofs.Bytes.{small-append}
use Rattle.digits.specs.Number.{small, digits, value_from, be_number}
use Rattle.digits.proofs.NumberLaws.{length_digits, value-digits, below-digits}
use Rattle.kind.proofs.Types.{lawful_lt}
use Rattle.sector.specs.Sector.{is_date}
use Rattle.sector_log.specs.Parts.{Lent}
use Rattle.sector_log.specs.Store.{AfterStore, after_store, receipt, store}
use Rattle.sector_log.specs.declared.Stored.{Stored}
use Rattle.sector_log.specs.declared.Stored.TheVariants.{New, Duplicate}
use Rattle.utf8.specs.Grammar.{follows}
use Rattle.field.specs.Field.{text_end, counted_end, bytes_end}
use Rattle.message.specs.Message.{framed, exactly, write_of, request_of, tag_of, data_of}
use Rattle.message.specs.Reply.{hello_reply}
use Rattle.message.specs.declared.Request.TheVariants.{Write}
use Rattle.request.specs.Step as steps
use Rattle.request.specs.declared.Session.{Session}
use Rattle.request.specs.declared.Session.TheVariants.{Fresh, Greeted}
use Rattle.demands.proofs.Seen.{kept}
use Rattle.promises.proofs.Greeted.{write_step}
use Rattle.promises.proofs.Hurt.{allowed_with}
use Rattle.promises.proofs.Keeps.{step_keeps}
use Rattle.writer.specs.Blocks.{Typed}
use Rattle.writer.specs.WriteFile.{end_of, end_number}
use Rattle.writer_laws.specs.Held.{Writable}
use Rattle.writer_laws.specs.Asking.{hello_message, write_message}
use Rattle.std.specs.Prelude.{Ok, Err, Result}
use Rattle.refusal.specs.declared.Refusal.{Refusal}

-- ---- the message of a block that may be written

module _ (x : Typed) (W : Writable x) where
  message-length : length (write_message x) ≡ 8 + length x.bytes
  unfolding digits
  message-length = omega arith

  message-size : be_number (take 2 (write_message x)) ≡ 6 + length x.bytes
  message-size =
      ap be_number (take_at (digits 256 2 (6 + length x.bytes)) (14 ∷ 0 ∷ x.kind ∷ 0 ∷ 0 ∷ 0 ∷ x.bytes) 2 (length_digits 256 2 (6 + length x.bytes)))
      ∙ value-digits 256 2 (6 + length x.bytes) (omega (arith, W.1))

  frame_is : framed (write_message x) ≡ true
  unfolding framed
  frame_is =
      rw (le-leb 4 (length (write_message x)) (omega (arith, message-length)))
      (eq-eqb (be_number (take 2 (write_message x))) (length (write_message x) - 2) (omega (arith, message-length, message-size)))

  request-is : request_of (write_message x) ≡ Write x.kind
  unfolding digits request_of write_of
  request-is = rw (le-leb 8 (length (write_message x)) (omega arith)) refl

  data_is : data_of (write_message x) ≡ x.bytes
  unfolding digits
  data_is = refl

  small-kind : small (14 ∷ 0 ∷ x.kind ∷ 0 ∷ 0 ∷ 0 ∷ x.bytes) ≡ true
  small-kind = rw (lt-ltb x.kind 256 (lawful_lt x.kind W.0)) W.2

  pub small-message : small (write_message x) ≡ true
  small-message =
      let n = 6 + length x.bytes in
      small-append (digits 256 2 n) (14 ∷ 0 ∷ x.kind ∷ 0 ∷ 0 ∷ 0 ∷ x.bytes) (below-digits 256 2 n (omega arith)) small-kind

-- ---- its answer

-- what a write message is answered in a session in which a hello was accepted: what the store did
pub record OneWrite (o : steps.Outcome) (a : AfterStore) : Type 0 where
  pub lent : o.lent ≡ a.lent
  pub number : o.number ≡ end_number (end_of a.receipt.stored)
  pub session : o.session ≡ Greeted

kept-is : (m buffer : Bytes) (a : AfterStore) → OneWrite (kept m buffer a) a
kept-is m buffer a = go a.receipt.stored
  where
    go : (s : Result Stored Refusal) → OneWrite (steps.written s (tag_of m) a.receipt.score a.lent buffer) (after_store (receipt a.receipt.score s) a.lent)
    go (Ok (New at)) = record { lent = refl; number = refl; session = refl }
    go (Ok (Duplicate at)) = record { lent = refl; number = refl; session = refl }
    go (Err y) = record { lent = refl; number = refl; session = refl }

module _ (L : Lent) (date buffer : Bytes) (al : steps.allowed L ≡ true) (dated : is_date date ≡ true) (room : steps.reply_room ≤ length buffer) where
  pub greets : steps.step Fresh hello_message (some date) L buffer ≡ steps.granted (hello_reply 0) Greeted L buffer
  unfolding steps.step steps.in_session steps.fresh framed digits value_from follows text_end counted_end bytes_end exactly request_of
  greets = rw (le-ltb (length buffer) steps.reply_room room, al, dated) refl

  -- of any message that asks for the block
  pub any_write : (m : Bytes) (x : Typed) → Writable x → framed m ≡ true → request_of m ≡ Write x.kind → data_of m ≡ x.bytes → (s : Session) → s ≡ Greeted
      → OneWrite (steps.step s m (some date) L buffer) (store L date x.kind x.bytes)
  any_write m x W f r d s g =
      let a = store L date x.kind x.bytes in
      let is : steps.step Greeted m (some date) L buffer ≡ kept m buffer a = write_step m (some date) buffer L x.kind x.bytes (record {
        asks = record { frame = f; buffer-room = room; lent-allowed = al; date-allowed = dated; request = r };
        content = d;
        lawful_type = W.0;
        not-long = W.1;
      }) in
      subst (λ (o : steps.Outcome). OneWrite o a) (sym (ap (λ (y : Session). steps.step y m (some date) L buffer) g ∙ is)) (kept-is m buffer a)

  -- and there is one
  pub one-write : (x : Typed) → Writable x → (s : Session) → s ≡ Greeted → OneWrite (steps.step s (write_message x) (some date) L buffer) (store L date x.kind x.bytes)
  one-write x W = any_write (write_message x) x W (frame_is x W) (request-is x W) (data_is x W)

  -- what it leaves may be lent
  pub still-allowed : (x : Typed) → Writable x → steps.allowed (store L date x.kind x.bytes).lent ≡ true
  still-allowed x W =
      let m = write_message x in
      subst (λ (M : Lent). steps.allowed M ≡ true) (one-write x W Greeted refl).lent
      (allowed_with L (steps.step Greeted m (some date) L buffer).lent (step_keeps Greeted m (some date) L buffer (small-message x W)).0 al)
