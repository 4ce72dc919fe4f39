-- A read by what is known, one case for each return of the code.
use mathlib.Core.Path.{◌≡◌, sym, ap, ap₂, ◌∙◌}
use mathlib.Core.Bool.{Bool, true, false}
use mathlib.Core.Option.{Option, none, some}
use Prim.Native.Nat.{ℕ, ◌≤◌, ◌<◌}
use native.Mathlib.Omega.{arith}
use lib.Dec.{ltb}
use lib.ListN.{length}
use borrow.Author.Tests.{lt-ltb, le-ltb}
use Rattle.buffer.specs.Bytes.{Bytes}
use Rattle.refusal.specs.declared.Refusal.{Refusal}
use Rattle.refusal.specs.declared.Refusal.TheVariants.{BlockType, OverCount}
use Rattle.kind.specs.Kind.{lawful}
use Rattle.block.specs.Block.{Row}
use Rattle.block.specs.declared.Block.{Block}
use Rattle.block.specs.Log.{bytes_of}
use Rattle.reader.specs.Reader.{placed}
use Rattle.lookup.proofs.Held.{FoundAt, found-size, found-bytes}
use Rattle.lookup.proofs.Outcomes.{placed-none}
use Rattle.sector_log.specs.Parts.{Lent, beside}
use Rattle.known.specs.declared.Known.{Known}
use Rattle.known.specs.Known.{missing, known_log, held_known}
use Rattle.known_store.proofs.Found.{known-found}
use Rattle.message.specs.Message.{tag_of, score_of}
use Rattle.message.specs.Reply.{read_reply}
use Rattle.request.specs.Step.{Outcome, refused, granted}
use Rattle.request.specs.declared.Session.TheVariants.{Greeted}
use Rattle.indexed.specs.Indexed.{keeping}
use Rattle.known_request.specs.Quick.{Quick, knowing, read_found, read_known}
use Rattle.std.specs.Prelude.{Some, None, Option as Optional}

module _ (k : Known) (kind count tag : ℕ) (score index log w buffer : Bytes) (o : Outcome) (b : Bool) (e : b ≡ lawful kind) where
  abbrev L : Lent
  L = beside log w

  -- the outcome is that of the read
  abbrev Answers : Type 0
  Answers = knowing k (keeping index o) ≡ read_known k kind count tag score index log w buffer

  pub read-kind : b ≡ false → o ≡ refused BlockType tag Greeted L buffer → Answers
  unfolding read_known
  read-kind q z = rw (sym e ∙ q) (ap (λ (x : Outcome). knowing k (keeping index x)) z)

  module _ (q : b ≡ true) where
    by_found : (f : Option Row) → held_known k log w index kind score ≡ f → o ≡ read_found k.doubt f count tag L buffer → Answers
    unfolding read_known
    by_found f h z = rw (sym e ∙ q, h) (ap (λ (x : Outcome). knowing k (keeping index x)) z)

    module _ (p : Optional Block) (f : p ≡ placed (held_known k log w index kind score)) where
      pub read-missing : (why : Refusal) → p ≡ None → why ≡ missing k.doubt → o ≡ refused why tag Greeted L buffer → Answers
      read-missing why z u h =
          by_found none (placed-none (held_known k log w index kind score) p f z) (h ∙ ap (λ (x : Refusal). refused x tag Greeted L buffer) u)

      module _ (x : Block) (z : p ≡ Some x) where
        abbrev found : FoundAt (known_log k log w) (held_known k log w index kind score) x
        found = known-found k log w index kind score f z

        pub read-over : count < x.size → o ≡ refused OverCount tag Greeted L buffer → Answers
        read-over h u =
            let t : ltb count (length found.row.bytes) ≡ true = lt-ltb count (length found.row.bytes) (omega (arith, h, found-size found)) in
            by_found (some found.row) found.is_held (u ∙ rw t)

        pub read-granted : x.size ≤ count → o ≡ granted (read_reply tag (bytes_of (known_log k log w) x)) Greeted L buffer → Answers
        read-granted h u =
            let t : ltb count (length found.row.bytes) ≡ false = le-ltb count (length found.row.bytes) (omega (arith, h, found-size found)) in
            by_found (some found.row) found.is_held (u ∙ rw t (ap (λ (y : Bytes). granted (read_reply tag y) Greeted L buffer) (sym (found-bytes found))))

-- with the tag and the score as they were taken from the message
pub read_as : (k : Known) (m index log w buffer : Bytes) (tag : ℕ) (kind count : ℕ) (score : Bytes) (x : Quick) → tag ≡ tag_of m → score ≡ score_of m
    → x ≡ read_known k kind count tag score index log w buffer → x ≡ read_known k kind count (tag_of m) (score_of m) index log w buffer
read_as k m index log w buffer tag kind count score x t s h = h ∙ ap₂ (λ (y : ℕ) (z : Bytes). read_known k kind count y z index log w buffer) t s
