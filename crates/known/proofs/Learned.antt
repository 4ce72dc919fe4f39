-- Look-up, store and sync by what was learned, and what is known afterwards.
use mathlib.Core.Path.{◌≡◌, refl, sym, ap, ap₂, ◌∙◌}
use mathlib.Core.Bool.{Bool, true, false, cond, ◌&&◌}
use mathlib.Core.Option.{Option, none, some}
use Prim.Native.Nat.{ℕ, ◌+◌, ◌≤◌}
use native.Mathlib.Omega.{arith}
use lib.Dec.{leb}
use lib.ListN.{length, replicate}
use Rattle.bedrock.specs.Choice.{on}
use Rattle.buffer.specs.Bytes.{Bytes, same}
use Rattle.kind.specs.Kind.{lawful, zero_score}
use Rattle.sha1_digest.specs.Sha1.{sha1_of}
use Rattle.block.specs.Block.{Row, written}
use Rattle.block.specs.Log.{sectors, Alike, used}
use Rattle.block.proofs.Used.{used-void, used_le_sectors}
use Rattle.block.proofs.Joined.{sectors-joined, used-joined}
use Rattle.sector_log.specs.LookUp.{blocks, first_of, empty_row, held}
use Rattle.sector_log.specs.Parts.{tape, beside, written_from, moved, can_settle, settled}
use Rattle.sector_log.specs.Store.{AfterStore, store, new_row, parts_for, compared}
use Rattle.sector_log.proofs.Alike.{blocks-alike, absence-alike}
use Rattle.sector_log.proofs.Parts.{tape-written, tape-alone, at_moved, used-moved}
use Rattle.sector_log.proofs.Room.{room-reads, settle-reads, appended-behind}
use Rattle.hint.specs.Hint.{hint, held_by}
use Rattle.hint.specs.Rebuilt.{entered_row}
use Rattle.hint.specs.Promises.{Appends}
use Rattle.hint.proofs.Alike.{hint-alike}
use Rattle.known.specs.declared.Known.{Known}
use Rattle.known.specs.Known.{doubt_of, all_lead, exactly, learned, held_known, owner, store_known, listed, can_settle_known, settled_known}
use Rattle.known.specs.Promises.{LearnedFinds, LearnedStores, LearnedSettles, KnownAfterNew, KnownAfterSync}
use Rattle.known.proofs.Exact.{exactly-exact}
use Rattle.known.proofs.Written.{all_same, exactly-written}
use Rattle.known.proofs.Doubts.{used-written, doubt-written, doubt_by_absence}
use Rattle.std.specs.Prelude.{Option as Optional}
use Rattle.sector_number.specs.declared.SectorNumber.{SectorNumber}

module _ (log waiting index : Bytes) where
  abbrev one : Bytes
  one = tape log waiting

  -- where the index has every block the scan finds nothing that the index does not lead to
  found : (b : Bool) → exactly one index ≡ b → (t : ℕ) (s : Bytes) (o : Option Row) → hint one index t s ≡ o
      → on o (cond b none (first_of t s (blocks one))) some ≡ on o (first_of t s (blocks one)) some
  found b e t s (some r) p = refl
  found false e t s none p = refl
  found true e t s none p = sym p ∙ (exactly-exact one index).0 e t s

  exact-owner : exactly one index ≡ true → (t : ℕ) (s : Bytes) (o : Option Row) → hint one index t s ≡ o → on o none some ≡ first_of t s (blocks one)
  exact-owner e t s (some r) p = sym p ∙ (exactly-exact one index).0 e t s
  exact-owner e t s none p = sym p ∙ (exactly-exact one index).0 e t s

  finds : (t : ℕ) (s : Bytes) → held_known (learned log waiting index) log waiting index t s ≡ held_by one index t s
  unfolding learned held_known held_by
  finds t s = ap (cond (lawful t && same s zero_score) (some (empty_row t))) (found (exactly one index) refl t s (hint one index t s) refl)

  owns : (t : ℕ) (s : Bytes) → owner (learned log waiting index) log waiting index t s ≡ held one t s
  unfolding learned held_known owner held
  owns t s = go (exactly one index) refl
    where
      go : (b : Bool) → exactly one index ≡ b
          → cond b (cond (lawful t && same s zero_score) (some (empty_row t)) (on (hint one index t s) (cond b none (first_of t s (blocks one))) some))
          (cond (lawful t && same s zero_score) (some (empty_row t)) (first_of t s (blocks one)))
          ≡ cond (lawful t && same s zero_score) (some (empty_row t)) (first_of t s (blocks one))
      go false e = refl
      go true e = ap (cond (lawful t && same s zero_score) (some (empty_row t))) (exact-owner e t s (hint one index t s) refl)

pub learned_finds : LearnedFinds
learned_finds log waiting index t s = (finds log waiting index t s, owns log waiting index t s)

pub learned_stores : LearnedStores
unfolding store_known store learned
learned_stores log waiting index date t d =
    ap₂ (λ (o : Option Row) (a : AfterStore). on o a (λ (r : Row). compared (beside log waiting) r.bytes r.first d))
    (owns log waiting index t (sha1_of d)) (appended-behind log waiting date t d)

pub learned-settles : LearnedSettles
unfolding learned can_settle_known can_settle settled_known settled moved
learned-settles log waiting index = (refl, refl)

-- four facts are one
known_is : (u v w x : ℕ) (a b : Optional SectorNumber) (p q : Bool) → u ≡ v → w ≡ x → a ≡ b → p ≡ q
    → ◌≡◌ {A = Known} (record { used = record { 0 = u }; waits = record { 0 = w }; doubt = a; exact = p }) (record { used = record { 0 = v }; waits = record { 0 = x }; doubt = b; exact = q })
known_is u v w x a b p q e f g h = λ i. record { used = record { 0 = e i }; waits = record { 0 = f i }; doubt = g i; exact = h i }

-- ---- after a block was stored

pub known-after-new : KnownAfterNew
unfolding learned
known-after-new log w index date t d ok room alone =
    known_is (used log) (used log) (used after) (used w + parts_for date d) (doubt_of (tape log after)) (doubt_of (tape log w))
    (exactly (tape log after) (entered_row index r)) (exactly (tape log w) index && listed (entered_row index r) (sha1_of d) t r.first)
    refl more (ap doubt_of together ∙ doubt-written (tape log w) r appends)
    (ap (λ (x : Bytes). exactly x (entered_row index r)) together ∙ exactly-written (tape log w) index r appends alone)
  where
    r : Row
    r = new_row (beside log w) date t d

    after : Bytes
    after = written_from (used log) w r

    there : (used log + used w + parts_for date d ≤ sectors (length log)) × (used w + parts_for date d ≤ sectors (length w))
    there = room-reads log w (parts_for date d) room

    appends : Appends (tape log w) r
    appends = (ok, refl, omega (arith, there.1, used-joined log w, sectors-joined (used log) log w (used_le_sectors log)))

    together : tape log after ≡ written (tape log w) r
    together = tape-written log w r (omega (arith, used-joined log w))

    more : used after ≡ used w + parts_for date d
    more = omega (arith, used-joined log after, ap used together, used-written (tape log w) r appends, used-joined log w)

-- ---- after a sync

exactly-alike : (a b index : Bytes) → Alike a b → exactly a index ≡ exactly b index
exactly-alike a b index f =
    ap (all_lead a index) (blocks-alike a b f)
    ∙ all_same a b index index (blocks b) (λ r _. ap (λ (o : Option Row). on o false (λ (h : Row). leb h.first r.first)) (hint-alike a b f index r.kind r.score))

pub known-after-sync : KnownAfterSync
unfolding learned
known-after-sync log w index fits =
    known_is (used (moved log w)) (used log + used w) (used blanks) 0 (doubt_of (tape (moved log w) blanks)) (doubt_of (tape log w))
    (exactly (tape (moved log w) blanks) index) (exactly (tape log w) index)
    (used-moved log w room ∙ used-joined log w) (used-void (length w))
    (doubt_by_absence (tape (moved log w) blanks) (tape log w) (absence-alike (tape (moved log w) blanks) (tape log w) same-sectors))
    (exactly-alike (tape (moved log w) blanks) (tape log w) index same-sectors)
  where
    blanks : Bytes
    blanks = replicate (length w) 0

    room : used log + used w ≤ sectors (length log)
    room = settle-reads log w fits

    same-sectors : Alike (tape (moved log w) blanks) (tape log w)
    same-sectors n = tape-alone (moved log w) blanks (used-void (length w)) n ∙ at_moved log w room n
