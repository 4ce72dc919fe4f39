-- What a write was answered for is known to the ledger from then on.
use mathlib.Core.Path.{◌≡◌, refl, ap, ◌∙◌}
use mathlib.Core.Bool.{Bool, true, false}
use mathlib.Core.List.{List, [], ◌∷◌}
use mathlib.Core.Logic.{◌⊎◌, inl, inr}
use mathlib.Core.Option.{Option, none, some}
use Prim.Native.Nat.{ℕ}
use native.Mathlib.Omega.{arith}
use lib.Dec.{eqb}
use lib.ListN.{length}
use borrow.Author.Tests.{eqb-true, eq-eqb, le-leb}
use Rattle.bedrock.proofs.Choices.{cond_ind, on_ind, false_unless}
use Rattle.buffer.specs.Bytes.{Bytes, same}
use Rattle.buffer.proofs.Bytes.{same_refl, same_true, no_bytes}
use Rattle.sha1_digest.specs.Sha1.{sha1_of}
use Rattle.message.specs.Message.{tag_of}
use Rattle.kind.specs.Kind.{longest, zero_score}
use Rattle.block.specs.Block.{Row}
use Rattle.sector_log.specs.Parts.{Lent}
use Rattle.sector_log.specs.Store.{parts_for}
use Rattle.request.specs.Step as steps
use Rattle.request.specs.Step.{reply_room, date_of}
use Rattle.request.specs.declared.Session.{Session}
use Rattle.request.specs.declared.Session.TheVariants.{Greeted}
use Rattle.ledger.specs.Archive.{Effect, stays, adds, settles, Ruling}
use Rattle.ledger.specs.Ledger.{Ledger, has, hit, intact_of, intact, enter, end, note, next}
use Rattle.ledger.specs.Trace.{trace}
use Rattle.ledger.specs.History.{Item, AllOfBytes, Books, ruling, recount}
use Rattle.ledger.proofs.Trace.{trace-keeps}
use Rattle.ledger.proofs.Covers.{covers-reads, hit-not}
use Rattle.ledger.proofs.Ends.{end-changed}
use Rattle.demands.specs.Ledger.{Answer, Extent, allowed, room_from, Decision, ruling_of, first_row, write_row, decision, tell}
use Rattle.demands.specs.Instance.{extent_of, archive}
use Rattle.promises.specs.Requests.{Writes}
use Rattle.demands.proofs.First.{first-front, first-behind, intact-append}
use Rattle.demands.proofs.TellAdds.{row_of}

-- a row at the end has no changed sector
hit-end : (L : Ledger archive) (r : Row) → r.first ≡ end archive L → hit archive L.changed r ≡ false
hit-end L r e = hit-not archive L.changed r (λ n c.
    false_unless (has n L.changed) (λ q. omega (arith, (covers-reads archive r n c).0, end-changed archive L.changed n q)))

-- whether a waiting part is lent
abbrev waiting : Extent → Bool
waiting = archive.waits

pub same-allowed : (log : Bytes) (o : Option Bytes) → let L : Lent = record { log = log; waiting = o } in steps.allowed L ≡ true → allowed (extent_of L) ≡ true
same-allowed log none q = q
same-allowed log (some w) q = q

module _ (t : ℕ) (d : Bytes) where
  -- the ledger has this data under this type: it is empty, or the first intact row of the type and score has it
  abbrev pub Known : Ledger archive → Type 0
  Known L = (d ≡ []) ⊎ ((r : Row) × (first_row t (sha1_of d) (intact archive L) ≡ some r) × (r.bytes ≡ d))

  known-enter : (L : Ledger archive) (r : Row) → Known L → Known (enter archive r L)
  known-enter L r (inl e) = inl e
  known-enter L r (inr k) = inr (k.0, rw (intact-append L.changed L.rows (r ∷ [])) (first-front t (sha1_of d) (intact archive L) (intact_of archive L.changed (r ∷ [])) k.0 k.1), k.2)

  known_next : (x : Extent) (L : Ledger archive) (o : Ruling Answer Session Row) → Known L → Known (next archive x L o)
  known_next x L o k = go o.effect
    where
      go : (a : Effect Row) → Known (note archive x a L)
      go stays = k
      go (adds r) = cond_ind Known (waiting x) _ _ (λ _. known-enter L r k) (λ _. known-enter L r k)
      go settles = k

  -- requests leave it so
  pub known-after : (b : Books archive) (qs : List (Item archive)) → AllOfBytes archive qs → Known b.ledger → Known (trace (recount archive) b qs).left.ledger
  known-after =
      trace-keeps (recount archive) (λ b. Known b.ledger) (λ q. archive.OfBytes q.request)
      (λ b q _. known_next (extent_of b.begin) b.ledger (ruling archive b q))

  known-new : (date : Bytes) (L : Ledger archive) → first_row t (sha1_of d) (intact archive L) ≡ none → Known (enter archive (row_of date t d (end archive L)) L)
  unfolding first_row
  known-new date L e =
      let r = row_of date t d (end archive L) in
      let found : first_row t (sha1_of d) (intact_of archive L.changed (r ∷ [])) ≡ some r = rw (hit-end L r refl, eq-eqb t t refl, same_refl (sha1_of d)) in
      inr (r, ap (first_row t (sha1_of d)) (intact-append L.changed L.rows (r ∷ [])) ∙ first-behind t (sha1_of d) (intact archive L) (intact_of archive L.changed (r ∷ [])) e ∙ found, refl)

  -- a write that is answered leaves it so
  module _ (L : Ledger archive) (x : Extent) (m : Bytes) (date : Option Bytes) (buffer : Bytes) where
    -- if a decision is answered, the ledger has the data afterwards
    abbrev Kept : Decision → Type 0
    Kept w = (ruling_of Greeted m buffer w).answer.number ≡ 0 → Known (next archive x L (ruling_of Greeted m buffer w))

    write_kept : Kept (write_row (intact archive L) (end archive L) L.start x (date_of date) t d (tag_of m))
    write_kept =
        cond_ind Kept (eqb (length d) 0) _ _ (λ q _. inl (no_bytes d (eqb-true (length d) 0 q))) (λ _.
        on_ind Kept (first_row t (sha1_of d) (intact archive L)) _ _
        (λ e. cond_ind Kept (same (sha1_of d) zero_score) _ _ (λ _ n. absurd (omega arith)) (λ _.
        cond_ind Kept (room_from x L.start (end archive L) (parts_for (date_of date) d)) _ _
        (λ _ n. cond_ind Known (waiting x) _ _ (λ _. known-new (date_of date) L e) (λ _. known-new (date_of date) L e)) (λ _ n. absurd (omega arith))))
        (λ r e. cond_ind Kept (same r.bytes d) _ _ (λ q n. inr (r, e, same_true r.bytes d q)) (λ _ n. absurd (omega arith))))

  pub write-decision : (rows : List Row) (e st : ℕ) (m : Bytes) (date : Option Bytes) (buffer : Bytes) (log : Lent) → Writes m date buffer log t d
      → decision rows e st (extent_of log) Greeted (record { message = m; buffer = buffer; date = date }) ≡ write_row rows e st (extent_of log) (date_of date) t d (tag_of m)
  unfolding decision
  write-decision rows e st m date buffer log W =
      let A = W.asks in
      rw (
        A.frame,
        le-leb reply_room (length buffer) A.buffer-room,
        same-allowed log.log log.waiting A.lent-allowed,
        A.date-allowed,
        A.request,
        W.content,
        W.lawful_type,
        le-leb (length d) longest W.not-long,
      )

  pub known-told : (L : Ledger archive) (m : Bytes) (date : Option Bytes) (buffer : Bytes) (log : Lent) → Writes m date buffer log t d
      → (tell L.rows L.changed L.start (extent_of log) Greeted (record { message = m; buffer = buffer; date = date })).answer.number ≡ 0
      → Known (next archive (extent_of log) L (tell L.rows L.changed L.start (extent_of log) Greeted (record { message = m; buffer = buffer; date = date })))
  known-told L m date buffer log W = rw (write-decision (intact archive L) (end archive L) L.start m date buffer log W) (write_kept L (extent_of log) m date buffer)
