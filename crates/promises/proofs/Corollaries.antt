-- What the demands say in plain terms: each claim of specs/Corollaries.antt.
use mathlib.Core.Path.{◌≡◌, refl, sym, ap, ap₂, ◌∙◌}
use mathlib.Core.Bool.{Bool, true, false, true≢false}
use mathlib.Core.List.{[], Memᴰ}
use mathlib.Core.Logic.{◌⊎◌, inl, inr, ◌≢◌}
use mathlib.Core.Option.{Option, none, some}
use Prim.Native.Nat.{ℕ, ◌+◌, ◌<◌}
use native.Mathlib.Omega.{arith}
use lib.Dec.{leb}
use lib.ListN.{length}
use borrow.Author.Tests.{lt-leb, le-ltb, leb-true, leb-false}
use Rattle.bedrock.proofs.Choices.{cond_ind, some_same}
use Rattle.buffer.specs.Bytes.{Bytes, same}
use Rattle.buffer.proofs.Bytes.{same_false, same_true, same_refl}
use Rattle.sha1_digest.specs.Sha1.{sha1_of}
use Rattle.kind.specs.Kind.{zero_score}
use Rattle.message.specs.declared.Request.TheVariants.{Sync}
use Rattle.block.specs.Block.{Row, parts}
use Rattle.block.specs.Log.{sectors, at, used}
use Rattle.block.proofs.Written.{at-written}
use Rattle.sector_log.specs.LookUp as look
use Rattle.sector_log.specs.Parts.{Lent, beside, one_log, room_for, settled}
use Rattle.sector_log.specs.Store as stores
use Rattle.sector_log.proofs.Room.{room-there, room-reads, can_settle_lem, cannot_settle}
use Rattle.sector_log.proofs.Parts.{at_moved}
use Rattle.sector_log.proofs.Named.{held-named}
use Rattle.request.specs.Step as steps
use Rattle.request.specs.Step.{Outcome, step}
use Rattle.request.specs.declared.Session.TheVariants.{Greeted}
use Rattle.ledger.specs.Ledger.{has, hit, intact, end}
use Rattle.ledger.proofs.Covers.{hit-has}
use Rattle.ledger.proofs.Intact.{intact_out}
use Rattle.demands.specs.Ledger.{room_from, any_uncovered, first_row}
use Rattle.demands.specs.Instance.{extent_of, archive}
use Rattle.promises.specs.Histories.{History, clean_log, at_damage, log_of, told_ledger, ledger_of, NoneIntact}
use Rattle.promises.specs.Corollaries as claims
use Rattle.promises.specs.Corollaries.{AtMostOne, alike, adds, settles}
use Rattle.demands.proofs.First.{first_in_lem, first-none}
use Rattle.demands.proofs.Seen.{given, stored_as, kept, held-zero, held_other}
use Rattle.promises.proofs.Greeted.{asked, write_step, read_step}
use Rattle.demands.proofs.LentLaws.{room-one, room-same, one-appended, front-appended, settle-fits, at-settled, front-settled}
use Rattle.promises.proofs.Keeps.{step_keeps}
use Rattle.promises.proofs.Outcomes.{appends_at-most-one}
use Rattle.promises.proofs.Uncovered.{changed_uncovered}
use Rattle.promises.proofs.Reflected.{mirrored}
use Rattle.promises.proofs.Moment.{read_found_lem, then-reads, then-writes, answers-stored, twelve_first, eleven_covered, read-unknown}
use Rattle.promises.proofs.Lost.{lost_after}
use Rattle.promises.proofs.Histories.{reflected, waiting_none, told_books, stands-told, changed-of, clean_ledger, clean_single}
use Rattle.promises.proofs.Dates.{date-is_no_identity}
use Rattle.promises.proofs.Hurt.{given-same, reads_with, clean_first, length-later, held-later}

differ : (x y : Bytes) → same x y ≡ false → x ≢ y
differ x y q e = true≢false (sym (same_refl y) ∙ ap (λ (z : Bytes). same z y) (sym e) ∙ q)

-- ---- any log

pub nothing-stored_changes : claims.NothingStoredChanges
nothing-stored_changes s m date L buffer sm =
    let o = appends_at-most-one s m date L buffer sm in ((step_keeps s m date L buffer sm).0, go (step s m date L buffer) o, settled-stays (step s m date L buffer) o)
  where
    go : (o : Outcome) → AtMostOne L o → (k : ℕ) → k < used (one_log L) → at (one_log o.lent) k ≡ at (one_log L) k
    go o (alike e n) k h = ap (λ (l : Lent). at (one_log l) k) e
    go o (adds r e n v f room) k h =
        let inside = (room-one L.log L.waiting (parts r) room).0 in
        ap (λ (l : Lent). at (one_log l) k) e ∙ ap (λ (b : Bytes). at b k) (one-appended L.log L.waiting r f)
        ∙ at-written (one_log L) r v (omega (arith, f, inside)) k ∙ rw (lt-leb r.first k (omega arith))
    go o (settles e n q) k h = ap (λ (l : Lent). at (one_log l) k) e ∙ at-settled L.log L.waiting k (settle-fits L.log L.waiting q)

    settled-stays : (o : Outcome) → AtMostOne L o → (k : ℕ) → k < used L.log → at o.lent.log k ≡ at L.log k
    settled-stays o (alike e n) k h = ap (λ (l : Lent). at l.log k) e
    settled-stays o (adds r e n v f room) k h = ap (λ (l : Lent). at l.log k) e ∙ front-appended L.log L.waiting r k v f (room-one L.log L.waiting (parts r) room).0 h
    settled-stays o (settles e n q) k h = ap (λ (l : Lent). at l.log k) e ∙ front-settled L.log L.waiting k (settle-fits L.log L.waiting q) h

-- why a write is answered n
abbrev Why : Lent → Option Bytes → ℕ → Bytes → ℕ → Type 0
Why L date t d n =
    (n ≡ 0)
    ⊎ (((n ≡ 14) × (room_for L (stores.parts_for (steps.date_of date) d) ≡ false))
    ⊎ ((n ≡ 15) × ((r : Row) × (look.held (one_log L) t (sha1_of d) ≡ some r) × (r.bytes ≢ d))))

pub write_fails_only_so : claims.WriteFailsOnlySo
unfolding stores.store
write_fails_only_so t d m date L buffer W = rw (write_step m date buffer L t d W) (go (look.held (one_log L) t (sha1_of d)) refl)
  where
    go : (o : Option Row) → look.held (one_log L) t (sha1_of d) ≡ o → Why L date t d (kept m buffer (stored_as L (steps.date_of date) t d o)).number
    go none e = cond_ind (λ a. Why L date t d (kept m buffer a).number) (room_for L (stores.parts_for (steps.date_of date) d)) _ _ (λ _. inl refl) (λ q. inr (inl (refl, q)))
    go (some r) e =
        cond_ind (λ a. Why L date t d (kept m buffer a).number) (same r.bytes d) _ _ (λ _. inl refl)
        (λ q. inr (inr (refl, (r, e, differ r.bytes d q))))

-- room is lacking in one of the parts
module _ (log w : Bytes) (k : ℕ) where
  abbrev Lacks : Type 0
  Lacks = (sectors (length log) < used log + used w + k) ⊎ (sectors (length w) < used w + k)

  lacking : room_for (beside log w) k ≡ false → Lacks
  lacking q = go (leb (used log + used w + k) (sectors (length log))) (leb (used w + k) (sectors (length w))) refl refl
    where
      go : (a b : Bool) → leb (used log + used w + k) (sectors (length log)) ≡ a → leb (used w + k) (sectors (length w)) ≡ b → Lacks
      go true true p r = absurd (true≢false (sym (room-there log w k (leb-true (used log + used w + k) (sectors (length log)) p) (leb-true (used w + k) (sectors (length w)) r)) ∙ q))
      go true false p r = inr (leb-false (used w + k) (sectors (length w)) r)
      go false b p r = inl (leb-false (used log + used w + k) (sectors (length log)) p)

  not_lacking : room_for (beside log w) k ≡ true → Lacks → ⊥
  not_lacking q (inl h) = omega (arith, (room-reads log w k q).0, h)
  not_lacking q (inr h) = omega (arith, (room-reads log w k q).1, h)

pub fourteen_exactly : claims.FourteenExactly
unfolding stores.store
fourteen_exactly t d m date log w buffer W e =
    let k = stores.parts_for (steps.date_of date) d in
    rw (write_step m date buffer (beside log w) t d W, e)
    (cond_ind (λ a. let n = (kept m buffer a).number in (n ≡ 14 → Lacks log w k) × (Lacks log w k → n ≡ 14)) (room_for (beside log w) k) _ _
    (λ q. (λ z. absurd (omega arith), λ h. absurd (not_lacking log w k q h))) (λ q. (λ _. lacking log w k q, λ _. refl)))

pub sync-settles : claims.SyncSettles
unfolding steps.greeted steps.sync settled
sync-settles m date log w buffer A h = (asked m date buffer (beside log w) Sync A ∙ rw (can_settle_lem log w h), at_moved log w h)

pub sync_lacks_room : claims.SyncLacksRoom
unfolding steps.greeted steps.sync
sync_lacks_room m date log w buffer A h = asked m date buffer (beside log w) Sync A ∙ rw (cannot_settle log w h)

pub empty-stays-known : claims.EmptyStaysKnown
empty-stays-known t count m date L buffer Q =
    read_step m date buffer L t count zero_score Q ∙ rw (held-zero (one_log L) t zero_score Q.lawful_type (same_refl zero_score), le-ltb count 0 (omega arith))

pub answers_have_the_score : claims.AnswersHaveTheScore
answers_have_the_score t count s m date L buffer Q n =
    let f = read_found_lem t count s m date L buffer Q n in
    (f.0.bytes, (held-named (one_log L) t s f.0 f.1).scored, f.2, f.3)

-- ---- histories

-- the ledger's row that owns the score
abbrev Owned : History → ℕ → Bytes → Type 0
Owned h t d = ((sha1_of d ≡ zero_score) × (d ≢ [])) ⊎ ((r : Row) × Memᴰ r (intact archive (ledger_of h)) × (r.kind ≡ t) × (r.score ≡ sha1_of d) × (r.bytes ≢ d))

pub write_fails_by_the_ledger : claims.WriteFailsByTheLedger
write_fails_by_the_ledger h t d m date buffer W = go (write_fails_only_so t d m date (log_of h) buffer W)
  where
    owner : (r : Row) → look.held (one_log (log_of h)) t (sha1_of d) ≡ some r → r.bytes ≢ d → (b : Bool) → same (sha1_of d) zero_score ≡ b → Owned h t d
    owner r e n true q =
        let empty : look.empty_row t ≡ r = some_same (look.empty_row t) r (sym (held-zero (one_log (log_of h)) t (sha1_of d) W.lawful_type q) ∙ e) in
        inl (same_true (sha1_of d) zero_score q, λ z. n (ap (λ (x : Row). x.bytes) (sym empty) ∙ sym z))
    owner r e n false q =
        let M = mirrored (log_of h) (ledger_of h) (reflected h) in
        let f = first_in_lem t (sha1_of d) (intact archive (ledger_of h)) r (sym (held_other (one_log (log_of h)) (intact archive (ledger_of h)) (end archive (ledger_of h)) M t (sha1_of d) q) ∙ e) in
        inr (r, f.0, f.1, f.2, n)

    go : {n : ℕ} → Why (log_of h) date t d n
        → (n ≡ 0) ⊎ (((n ≡ 14) × (room_from (extent_of (log_of h)) (ledger_of h).start (end archive (ledger_of h)) (stores.parts_for (steps.date_of date) d) ≡ false)) ⊎ ((n ≡ 15) × Owned h t d))
    go (inl z) = inl z
    go (inr (inl p)) =
        let L = log_of h in
        let k = stores.parts_for (steps.date_of date) d in
        let e = room-same L.log L.waiting k in
        inr (inl (p.0, ap₂ (λ (a b : ℕ). room_from (extent_of L) a b k) (sym (waiting_none h).starts) (sym (mirrored L (ledger_of h) (reflected h)).ends) ∙ sym e ∙ p.1))
    go (inr (inr p)) = inr (inr (p.0, owner p.1.0 p.1.1 p.1.2 (same (sha1_of d) zero_score) refl))

pub intact-reads_as_before : claims.IntactReadsAsBefore
intact-reads_as_before h t count s m date buffer r Q e n =
    let clean = clean_log h in
    let log = log_of h in
    let was : step Greeted m date clean buffer ≡ given clean m buffer count (some r) = read_step m date buffer clean t count s Q ∙ ap (given clean m buffer count) e in
    let Q' = reads_with clean log m date buffer t count s (length-later h) Q in
    let is : step Greeted m date log buffer ≡ given log m buffer count (some r) =
    read_step m date buffer log t count s Q' ∙ ap (given log m buffer count) (held-later h t s r Q.lawful_type e n) in
    rw was (is ∙ given-same clean log m buffer count r)

pub intact-is_duplicate : claims.IntactIsDuplicate
intact-is_duplicate h t d m date buffer r e b n W = date-is_no_identity t d m date (log_of h) buffer r (held-later h t (sha1_of d) r W.lawful_type e n) b W

pub stored-reads_back : claims.StoredReadsBack
stored-reads_back h t d m date buffer sm W answered past qs b = then-reads (log_of h) (ledger_of h) (reflected h) (waiting_none h) t d m date buffer sm W answered past qs b

pub duplicate_adds-nothing : claims.DuplicateAddsNothing
duplicate_adds-nothing h t d m date buffer sm W answered past qs b = then-writes (log_of h) (ledger_of h) (reflected h) (waiting_none h) t d m date buffer sm W answered past qs b

pub answers_are_stored : claims.AnswersAreStored
answers_are_stored h = answers-stored (log_of h) (ledger_of h) (reflected h)

pub twelve_tells : claims.TwelveTells
twelve_tells h = twelve_first (log_of h) (ledger_of h) (reflected h)

-- a changed sector stays uncovered to the end of the history
still_uncovered : (h : History) (k : ℕ) → has k h.changed ≡ true → any_uncovered (intact archive (ledger_of h)) (end archive (ledger_of h)) ≡ true
still_uncovered h k e = changed_uncovered (ledger_of h) k (ap (has k) (changed-of h) ∙ e)

pub never_not-held_uncovered : claims.NeverNotHeldUncovered
never_not-held_uncovered h s m date buffer sm u n = true≢false (sym u ∙ eleven_covered (log_of h) (ledger_of h) (reflected h) s m date buffer sm n)

pub never_not-held : claims.NeverNotHeld
never_not-held h s m date buffer k sm e = never_not-held_uncovered h s m date buffer sm (still_uncovered h k e)

pub not-known_until_stored : claims.NotKnownUntilStored
not-known_until_stored h t count s m date buffer k z e l n Q =
    let L = ledger_of h in
    let lost : NoneIntact t s L = lost_after t s (at_damage h) (told_books h) h.later h.later-of-bytes (stands-told h) n l in
    let none_left : first_row t s (intact archive L) ≡ none = first-none t s (intact archive L)
    (λ r i kind score. let p = intact_out archive L.changed L.rows r i in true≢false (sym (lost r p.0 kind score) ∙ p.1)) in
    read-unknown (log_of h) L (reflected h) t count s m date buffer z Q none_left (still_uncovered h k e)

-- rows of one type and score are one row before the damage
module _ (h : History) (t : ℕ) (s : Bytes) (z : s ≢ zero_score) where
  first_clean : (x : Row) → Memᴰ x (clean_ledger h).rows → x.kind ≡ t → x.score ≡ s → look.held (one_log (clean_log h)) t s ≡ some x
  first_clean x m k e = clean_first h t s (same_false s zero_score z) ∙ ap₂ (λ (a : ℕ) (b : Bytes). first_row a b (clean_ledger h).rows) (sym k) (sym e) ∙ (clean_single h).1 x m

  lost_one : (r : Row) → look.held (one_log (clean_log h)) t s ≡ some r → hit archive h.changed r ≡ true → NoneIntact t s (told_ledger h)
  lost_one r found lost x m k e = let same_row : x ≡ r = some_same x r (sym (first_clean x m k e) ∙ found) in ap (hit archive h.changed) same_row ∙ lost

  never_one : look.held (one_log (clean_log h)) t s ≡ none → NoneIntact t s (told_ledger h)
  never_one absent x m k e = let c : none ≡ some x = sym absent ∙ first_clean x m k e in let n : ◌≡◌ {A = ℕ} 0 1 = cc in absurd (omega arith)

pub damaged_not-known : claims.DamagedNotKnown
damaged_not-known h t count s m date buffer r z found lost n Q =
    let k = hit-has archive h.changed r lost in
    not-known_until_stored h t count s m date buffer k.0 z k.1 (lost_one h t s z r found lost) n Q

pub never_stored-not-known : claims.NeverStoredNotKnown
never_stored-not-known h t count s m date buffer k z e absent n Q = not-known_until_stored h t count s m date buffer k z e (never_one h t s z absent) n Q
