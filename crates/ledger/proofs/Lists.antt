-- Requests on a log that reflects a ledger: the archive's account is the ledger's, and the invariant holds after them.
use mathlib.Core.Path.{◌≡◌, refl, ap, ap₂, subst, ◌∙◌}
use mathlib.Core.Bool.{Bool, true, false, cond}
use mathlib.Core.List.{List, [], ◌∷◌, ◌++◌}
use Rattle.ledger.specs.Archive.{Effect, stays, adds, settles, Ruling, Seen, Archive}
use Rattle.ledger.specs.Ledger.{Ledger, act, enter, settle, note, shown, next}
use Rattle.ledger.specs.Lawful.{Lawful}
use Rattle.ledger.specs.Trace.{trace}
use Rattle.ledger.specs.History.{Item, AllOfBytes, given, Standing, answer, overlaid, plus, Books, ruling, recount}
use Rattle.ledger.specs.Reflects.{Reflects, Waits}
use Rattle.ledger.proofs.Trace.{trace-keeps, Agree, trace-agrees}
use Rattle.ledger.proofs.Steps.{serve-tell, reflects_serve, waits-serve, extent-serve}

module _ (A : Archive) where
  open A use {Log, Extent, extent, waits, Row, Answer, Session, OfBytes, tell}

  overlaid-last : (log : Log) (es : List (Effect Row)) (e : Effect Row) → overlaid A log (es ++ (e ∷ [])) ≡ act A e (overlaid A log es)
  overlaid-last log [] e = refl
  overlaid-last log (d ∷ es) e = overlaid-last (act A d log) es e

  overlaid-shown : (begin log : Log) (done : List (Effect Row)) (o : Ruling Answer Session Row) → log ≡ overlaid A begin done → (shown A log o).log ≡ overlaid A begin (plus A done o)
  overlaid-shown begin log done o e = rw (overlaid-last begin done o.effect) (ap (act A o.effect) e)

  -- what holds between two requests: the log reflects the ledger, and is the one that the list started on with what was done since
  pub record Stands (s : Standing A) (b : Books A) : Type 0 where
    pub mirrors : Reflects A s.log b.ledger
    pub waiting : Waits A s.log b.ledger
    pub since : s.log ≡ overlaid A b.begin b.done
    pub size : extent s.log ≡ extent b.begin
    pub sessions : s.past ≡ b.past

  pub begins : (log : Log) (L : Ledger A) (past : List Session) → Reflects A log L → Waits A log L
      → Stands (record { log = log; past = past }) (record { begin = log; done = []; ledger = L; past = past })
  begins log L past R S = record { mirrors = R; waiting = S; since = refl; size = refl; sessions = refl }

  pub changed-next : (x : Extent) (L : Ledger A) (o : Ruling Answer Session Row) → (next A x L o).changed ≡ L.changed
  changed-next x L o = go o.effect
    where
      either : (r : Row) (b : Bool) → (cond b (enter A r L) (settle A (enter A r L))).changed ≡ L.changed
      either r true = refl
      either r false = refl

      go : (a : Effect Row) → (note A x a L).changed ≡ L.changed
      go stays = refl
      go (adds r) = either r (waits x)
      go settles = refl

  -- requests leave the changed sectors as they were told, and the log that the list started on
  pub changed-after : (b : Books A) (qs : List (Item A)) → AllOfBytes A qs → ((trace (recount A) b qs).left.ledger.changed ≡ b.ledger.changed) × ((trace (recount A) b qs).left.begin ≡ b.begin)
  changed-after b qs ok =
      trace-keeps (recount A) (λ x. (x.ledger.changed ≡ b.ledger.changed) × (x.begin ≡ b.begin)) (λ q. OfBytes q.request)
      (λ x q _ e. (changed-next (extent x.begin) x.ledger (ruling A x q) ∙ e.0, e.1)) b qs ok (refl, refl)

module _ (A : Archive) (W : Lawful A) where
  open A use {Log, Extent, extent, Row, Answer, Session, OfBytes, serve, tell}

  -- one request: seen alike, and what holds goes on
  module _ (s : Standing A) (b : Books A) (q : Item A) (ok : OfBytes q.request) (S : Stands A s b) where
    own_ruling : Extent → List Session → Ruling Answer Session Row
    own_ruling x past = tell b.ledger.rows b.ledger.changed b.ledger.start x (given A past q) q.request

    same-ruling : own_ruling (extent s.log) s.past ≡ ruling A b q
    unfolding own_ruling
    same-ruling = ap₂ own_ruling S.size S.sessions

    told_so : serve s.log (given A s.past q) q.request ≡ shown A s.log (ruling A b q)
    unfolding own_ruling
    told_so =
        serve-tell A W s.log b.ledger S.mirrors S.waiting (given A s.past q) q.request ok
        ∙ ap (shown A s.log) same-ruling

    same_log : (serve s.log (given A s.past q) q.request).log ≡ overlaid A b.begin (plus A b.done (ruling A b q))
    same_log = ap (λ (o : Seen Answer Session Log). o.log) told_so ∙ overlaid-shown A b.begin s.log b.done (ruling A b q) S.since

    pub seen_alike : (answer A s q).shown ≡ (recount A b q).shown
    seen_alike =
        told_so
        ∙ (λ i. record { answer = (ruling A b q).answer; session = (ruling A b q).session; log = overlaid-shown A b.begin s.log b.done (ruling A b q) S.since i })

    -- a property of the ledger that is left by what the archive asked of it
    left_so : (P : Ledger A → Type 0) → P (next A (extent s.log) b.ledger (own_ruling (extent s.log) s.past)) → P (next A (extent b.begin) b.ledger (ruling A b q))
    unfolding own_ruling
    left_so P p = subst P (ap₂ (λ (x : Extent) (o : Ruling Answer Session Row). next A x b.ledger o) S.size same-ruling) p

    pub goes_on_lem : Stands A (answer A s q).state (recount A b q).state
    unfolding own_ruling
    goes_on_lem = record {
      mirrors = left_so (λ L. Reflects A (serve s.log (given A s.past q) q.request).log L)
          (reflects_serve A W s.log b.ledger S.mirrors S.waiting (given A s.past q) q.request ok);
      waiting = left_so (λ L. Waits A (serve s.log (given A s.past q) q.request).log L)
          (waits-serve A W s.log b.ledger S.mirrors S.waiting (given A s.past q) q.request ok);
      since = same_log;
      size = extent-serve A W s.log b.ledger S.mirrors S.waiting (given A s.past q) q.request ok ∙ S.size;
      sessions = ap₂ (λ (p : List Session) (x : Session). p ++ (x ∷ [])) S.sessions (ap (λ (o : Seen Answer Session Log). o.session) told_so);
    }

  -- a list
  pub follows : (s : Standing A) (b : Books A) (qs : List (Item A)) → AllOfBytes A qs → Stands A s b → Agree (Stands A) (trace (answer A) s qs) (trace (recount A) b qs)
  follows = trace-agrees (answer A) (recount A) (Stands A) (λ q. OfBytes q.request) (λ s b q ok S. (seen_alike s b q ok S, goes_on_lem s b q ok S))
