-- A write: the archive answers it and stores as the ledger does.
use mathlib.Core.Path.{◌≡◌, refl, ap₂, ◌∙◌}
use mathlib.Core.Bool.{Bool, true, false, cond, not}
use mathlib.Core.List.{List, [], ◌∷◌}
use mathlib.Core.Option.{Option, none, some}
use Prim.Native.Nat.{ℕ, suc}
use native.Mathlib.Omega.{arith}
use lib.Dec.{leb, ltb}
use lib.ListN.{length}
use borrow.Author.Tests.{ne_eqb}
use Rattle.bedrock.specs.Choice.{on}
use Rattle.buffer.specs.Bytes.{Bytes, same}
use Rattle.buffer.proofs.Bytes.{same_refl, same_true}
use Rattle.sha1_digest.specs.Sha1.{sha1_of}
use Rattle.refusal.specs.declared.Refusal.TheVariants.{BlockType, DataLength, Clash}
use Rattle.message.specs.Message.{tag_of}
use Rattle.message.specs.Reply.{write_reply}
use Rattle.kind.specs.Kind.{lawful, longest, zero_score}
use Rattle.block.specs.Block.{Row}
use Rattle.block.specs.Log.{used}
use Rattle.sector_log.specs.LookUp as look
use Rattle.sector_log.specs.Parts.{Lent, one_log, room_for}
use Rattle.sector_log.specs.Store as stores
use Rattle.request.specs.Step as steps
use Rattle.request.specs.declared.Session.{Session}
use Rattle.request.specs.declared.Session.TheVariants.{Greeted}
use Rattle.ledger.specs.Archive.{stays, Seen}
use Rattle.demands.specs.Ledger.{Answer, Decision, refusal, reply, room_from, first_row, new_row, write_row}
use Rattle.demands.specs.Instance.{extent_of}
use Rattle.demands.proofs.Tests.{alike, contrary, ltb-not}
use Rattle.demands.proofs.LentLaws.{room-same}
use Rattle.demands.proofs.Seen.{stored_as, kept, seen, view, Mirrors, held-zero, empty-score, held_other}

module _ (L : Lent) (rows : List Row) (end start : ℕ) (M : Mirrors (one_log L) rows end) (from : used L.log ≡ start) (date m buffer : Bytes) (t : ℕ) where
  -- what is seen of a store
  abbrev view-kept : stores.AfterStore → Seen Answer Session Lent
  view-kept a = seen (kept m buffer a)

  -- what the ledger decides of data that is not empty, by its first row
  abbrev decided : Bytes → Option Row → Decision
  decided d o =
      on o (new_row rows end start (extent_of L) date t d (tag_of m))
      (λ r. cond (same r.bytes d) (reply (write_reply (tag_of m) (sha1_of d)) Greeted stays) (refusal Clash))

  room-is : (k : ℕ) → room_for L k ≡ room_from (extent_of L) start end k
  room-is k = room-same L.log L.waiting k ∙ ap₂ (λ (a b : ℕ). room_from (extent_of L) a b k) from M.ends

  by_row : (d : Bytes) (o : Option Row) → same (sha1_of d) zero_score ≡ false → view-kept (stored_as L date t d o) ≡ view L Greeted m buffer (decided d o)
  by_row d none z = rw (z, M.ends, room-is (stores.parts_for date d))
      (alike view-kept (view L Greeted m buffer) (room_from (extent_of L) start end (stores.parts_for date d)) (λ _. refl) (λ _. refl))
  by_row d (some r) z = alike view-kept (view L Greeted m buffer) (same r.bytes d) (λ _. refl) (λ _. refl)

  -- data of the zero score that is not empty: the empty block is found, of other bytes
  clash : (a : ℕ) (x : Bytes) → same (sha1_of (a ∷ x)) zero_score ≡ true
      → view-kept (stored_as L date t (a ∷ x) (some (look.empty_row t))) ≡ view L Greeted m buffer (decided (a ∷ x) (first_row t (sha1_of (a ∷ x)) rows))
  clash a x z = rw (same_true (sha1_of (a ∷ x)) zero_score z, M.no_zero t, same_refl zero_score)

  stored : (d : Bytes) → lawful t ≡ true → view-kept (stores.store L date t d) ≡ view L Greeted m buffer (write_row rows end start (extent_of L) date t d (tag_of m))
  unfolding stores.store
  stored [] l = rw (held-zero (one_log L) t (sha1_of []) l empty-score)
  stored (a ∷ x) l = rw (ne_eqb (suc (length x)) 0 (λ z. omega arith)) (go (same (sha1_of (a ∷ x)) zero_score) refl)
    where
      go : (b : Bool) → same (sha1_of (a ∷ x)) zero_score ≡ b
          → view-kept (stored_as L date t (a ∷ x) (look.held (one_log L) t (sha1_of (a ∷ x)))) ≡ view L Greeted m buffer (decided (a ∷ x) (first_row t (sha1_of (a ∷ x)) rows))
      go true q = rw (held-zero (one_log L) t (sha1_of (a ∷ x)) l q) (clash a x q)
      go false q = rw (held_other (one_log L) rows end M t (sha1_of (a ∷ x)) q) (by_row (a ∷ x) (first_row t (sha1_of (a ∷ x)) rows) q)

  pub write-agrees : (d : Bytes) → seen (steps.write date t (tag_of m) d L buffer)
      ≡ view L Greeted m buffer (cond (lawful t) (cond (leb (length d) longest) (write_row rows end start (extent_of L) date t d (tag_of m)) (refusal DataLength)) (refusal BlockType))
  unfolding steps.write
  write-agrees d = contrary seen (view L Greeted m buffer) (not (lawful t)) (lawful t) refl
      (λ l. contrary seen (view L Greeted m buffer) (ltb longest (length d)) (leb (length d) longest) (ltb-not longest (length d)) (λ _. stored d l) (λ _. refl))
      (λ _. refl)
