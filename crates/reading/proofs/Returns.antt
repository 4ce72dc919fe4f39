-- The cases of a read, one for each return of the code.
use mathlib.Core.Path.{◌≡◌, sym, ap, ap₂, ◌∙◌}
use mathlib.Core.Bool.{Bool, true, false, cond}
use mathlib.Core.List.{[]}
use mathlib.Core.Logic.{⊎_elim}
use Prim.Native.Nat.{ℕ, ◌+◌, ◌≤◌, ◌<◌}
use native.Mathlib.Omega.{arith}
use lib.Dec.{ltb}
use borrow.Author.Tests.{lt-ltb, le-ltb}
use lib.ListN.{length}
use Rattle.buffer.specs.Bytes.{Bytes}
use Rattle.refusal.specs.declared.Refusal.{Refusal}
use Rattle.refusal.specs.declared.Refusal.TheVariants.{BlockType, OverCount}
use Rattle.kind.specs.Kind.{lawful, longest}
use Rattle.block.specs.Block.{Inside}
use Rattle.block.specs.declared.Block.{Block}
use Rattle.block.specs.Log.{sectors, Alike, joined, used, bytes_of}
use Rattle.block.proofs.Alike.{bytes-alike}
use Rattle.block.proofs.Joined.{sectors-joined}
use Rattle.block.proofs.Used.{used_le_sectors}
use Rattle.sector_log.specs.LookUp.{counted}
use Rattle.sector_log.specs.Parts.{Lent, tape, beside, one_log}
use Rattle.sector_log.proofs.Counted.{Over, counted-found, counted-refused}
use Rattle.hint.specs.Hint.{look_up_by}
use Rattle.hint.proofs.Alike.{look_up_by_alike}
use Rattle.settled_lookup.specs.Settled.{FoundSettled}
use Rattle.lookup.proofs.Held.{found_within, found-size, found-most, found-bytes}
use Rattle.index_lookup.proofs.Held.{look_by_absent, look_by_found}
use Rattle.message.specs.Message.{tag_of, score_of}
use Rattle.message.specs.Reply.{read_reply}
use Rattle.request.specs.declared.Answer.{Answer}
use Rattle.request.specs.declared.Session.TheVariants.{Greeted}
use Rattle.request.specs.Step.{Outcome, outcome_of, refused, granted}
use Rattle.indexed.specs.Indexed.{keeping, read_by}
use Rattle.reading.specs.Settled.{settled_read}
use Rattle.std.specs.Prelude.{Ok, Err, Result}

-- ---- a read, by index

module _ (kind count tag : ℕ) (score index : Bytes) (L : Lent) (buffer : Bytes) (b : Bool) (e : b ≡ lawful kind) where
  pub read-kind : b ≡ false → refused BlockType tag Greeted L buffer ≡ (read_by kind count tag score index L buffer).outcome
  unfolding read_by
  read-kind q = rw (sym e ∙ q)

  module _ (q : b ≡ true) where
    read-absent : (w : Refusal) → look_up_by (one_log L) index kind score ≡ Err w → refused w tag Greeted L buffer ≡ (read_by kind count tag score index L buffer).outcome
    unfolding read_by
    read-absent w d =
        let a = look_by_absent (one_log L) index kind score w d in
        rw (sym e ∙ q, a.0, a.1)

    read-over : (w : Refusal) → Over count (look_up_by (one_log L) index kind score) w → refused w tag Greeted L buffer ≡ (read_by kind count tag score index L buffer).outcome
    unfolding read_by
    read-over w o =
        let s = look_by_found (one_log L) index kind score o.place o.found in
        let z : ltb count (length s.row.bytes) ≡ true = lt-ltb count (length s.row.bytes) (omega (arith, o.long, found-size s)) in
        ap (λ (x : Refusal). refused x tag Greeted L buffer) o.why ∙ rw (sym e ∙ q, s.is_held, z)

    -- J is a log with the same sectors, in which the code looks
    module _ (J : Bytes) (f : Alike J (one_log L)) (l : Result Block Refusal) (g : l ≡ counted count (look_up_by J index kind score)) where
      same_look : l ≡ counted count (look_up_by (one_log L) index kind score)
      same_look = g ∙ ap (counted count) (look_up_by_alike J (one_log L) f index kind score)

      pub read-refused : (w : Refusal) → l ≡ Err w → refused w tag Greeted L buffer ≡ (read_by kind count tag score index L buffer).outcome
      read-refused w d = ⊎_elim (read-absent w) (read-over w) (counted-refused count (look_up_by (one_log L) index kind score) w (sym same_look ∙ d))

      pub read_found_lem : (b : Block) → l ≡ Ok b → granted (read_reply tag (bytes_of J b)) Greeted L buffer ≡ (read_by kind count tag score index L buffer).outcome
      unfolding read_by
      read_found_lem b d =
          let c = counted-found count (look_up_by (one_log L) index kind score) b (sym same_look ∙ d) in
          let s = look_by_found (one_log L) index kind score b c.0 in
          let z : ltb count (length s.row.bytes) ≡ false = le-ltb count (length s.row.bytes) (omega (arith, c.1, found-size s)) in
          let x : bytes_of J b ≡ s.row.bytes = bytes-alike J (one_log L) f b ∙ sym (found-bytes s) in
          rw (sym e ∙ q, s.is_held, z) (ap (λ (y : Bytes). granted (read_reply tag y) Greeted L buffer) x)

-- ---- by what a message asks and its fields, as they were taken from it

module _ (m index : Bytes) (L : Lent) (buffer : Bytes) (tag : ℕ) (t : tag ≡ tag_of m) where
  pub read_as : (kind count : ℕ) (score : Bytes) (o : Outcome) → score ≡ score_of m → o ≡ (read_by kind count tag score index L buffer).outcome
      → keeping index o ≡ read_by kind count (tag_of m) (score_of m) index L buffer
  unfolding read_by
  read_as kind count score o s h = ap (keeping index) (h ∙ ap₂ (λ (x : ℕ) (y : Bytes). (read_by kind count x y index L buffer).outcome) t s)

-- ---- a block among the log's own sectors

-- what is told of a request does not say what waits
whatever_waits : (r : Answer) (log buffer x y : Bytes) → outcome_of r log [] x ≡ granted y Greeted (beside log []) buffer
    → (waiting : Bytes) → outcome_of r log waiting x ≡ granted y Greeted (beside log waiting) buffer
whatever_waits r log buffer x y e waiting =
    ap (λ (o : Outcome). record { number = o.number; session = o.session; lent = beside log waiting; reply = o.reply }) e

module _ (log : Bytes) (b : Block) (count tag : ℕ) (buffer : Bytes) (r : Answer) (x : Bytes) where
  pub settled-over : count < b.size → ((waiting : Bytes) → outcome_of r log waiting x ≡ refused OverCount tag Greeted (beside log waiting) buffer)
      → (waiting : Bytes) → outcome_of r log waiting x ≡ settled_read log b count tag (beside log waiting) buffer
  settled-over h e waiting = e waiting ∙ sym (rw (lt-ltb count b.size h))

  pub settled-told : b.size ≤ count → outcome_of r log [] x ≡ granted (read_reply tag (bytes_of (joined (sectors (length log)) log []) b)) Greeted (beside log []) buffer
      → (waiting : Bytes) → outcome_of r log waiting x ≡ settled_read log b count tag (beside log waiting) buffer
  settled-told h e waiting = whatever_waits r log buffer x (read_reply tag (bytes_of (joined (sectors (length log)) log []) b)) e waiting ∙ sym (rw (le-ltb count b.size h))

module _ (kind : ℕ) (score index log : Bytes) (b : Block) (found : FoundSettled log index kind score b) where
  pub settled-within : Inside (sectors (length log)) b × (b.size ≤ longest)
  settled-within =
      let e = (found []).0 in
      let h = used_le_sectors log in
      let s = look_by_found (tape log []) index kind score b e in
      let w = found_within s (used log + 0) (sectors-joined (used log) log [] h) in
      ((omega (arith, w.0, h), w.1), found-most s)

  pub read-settled : (count tag : ℕ) (waiting buffer : Bytes) (a : Bool) → a ≡ lawful kind → a ≡ true → (o : Outcome) → o ≡ settled_read log b count tag (beside log waiting) buffer
      → o ≡ (read_by kind count tag score index (beside log waiting) buffer).outcome
  unfolding read_by
  read-settled count tag waiting buffer a e q o h =
      let f = found waiting in
      let s = look_by_found (tape log waiting) index kind score b f.0 in
      let bytes : bytes_of (joined (sectors (length log)) log []) b ≡ s.row.bytes = sym f.1 ∙ sym (found-bytes s) in
      let L = beside log waiting in
      rw (sym e ∙ q, s.is_held)
      (h ∙ ap₂ (λ (n : ℕ) (x : Bytes). cond (ltb count n) (refused OverCount tag Greeted L buffer) (granted (read_reply tag x) Greeted L buffer)) (found-size s) bytes)
