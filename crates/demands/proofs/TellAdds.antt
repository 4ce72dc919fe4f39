-- A row that the ledger adds can be written, stands at the end, has room, is not of the zero score, and is what a write asked for.
use mathlib.Core.Path.{◌≡◌, refl, ap, ◌∙◌, sym, subst}
use mathlib.Core.Bool.{Bool, true, false, not}
use mathlib.Core.List.{List, [], ◌∷◌}
use mathlib.Core.Option.{Option, none, some}
use Prim.Native.Nat.{ℕ}
use native.Mathlib.Omega.{arith}
use lib.Dec.{leb, eqb}
use lib.ListN.{length}
use borrow.Author.Tests.{leb-true, eqb-false}
use Rattle.bedrock.specs.Choice.{on}
use Rattle.bedrock.proofs.Choices.{on_ind, and-true, cond_ind}
use Rattle.buffer.specs.Bytes.{Bytes, same}
use Rattle.buffer.proofs.Bytes.{small-drop}
use Rattle.digits.specs.Number.{small}
use Rattle.sha1_digest.specs.Sha1.{sha1_of}
use Rattle.refusal.specs.declared.Refusal.TheVariants.{Closed}
use Rattle.message.specs.Message.{framed, tag_of, version_of, score_of, data_of, request_of}
use Rattle.message.specs.declared.Request.{Request}
use Rattle.message.specs.declared.Request.TheVariants.{Ping, Hello, Goodbye, Read, Write, Sync, Unknown, Ill}
use Rattle.kind.specs.Kind.{lawful, longest, zero_score}
use Rattle.sector.specs.Sector.{is_date_or_none}
use Rattle.block.specs.Block.{Row, parts, valid}
use Rattle.sector_log.specs.LookUp.{log_allowed, waiting_allowed, lent_allowed}
use Rattle.sector_log.specs.Store.{parts_for}
use Rattle.sector_log.proofs.Allowed.{row-valid}
use Rattle.request.specs.Step as steps
use Rattle.request.specs.Step.{reply_room, version, date_allowed, date_of}
use Rattle.request.specs.declared.Session.{Session}
use Rattle.request.specs.declared.Session.TheVariants.{Fresh, Greeted, Closed as Shut}
use Rattle.ledger.specs.Archive.{Effect, stays, adds, settles}
use Rattle.ledger.specs.Ledger.{Ledger, intact, end}
use Rattle.demands.specs.Ledger.{Asked, Extent, allowed, room_from, Decision, silence, refusal, reply, close, ruling_of, first_row, write_row, read_row, decide, by_session, decision, tell}
use Rattle.demands.specs.Instance.{archive}
use Rattle.demands.proofs.LentLaws.{room-inside}

-- test 3 of all that is lent is that of the log, too
allowed-log : (x : Extent) → allowed x ≡ true → log_allowed x.size ≡ true
unfolding lent_allowed
allowed-log x a = go x.waiting a
  where
    go : (o : Option ℕ) → on o (log_allowed x.size) (lent_allowed x.size) ≡ true → log_allowed x.size ≡ true
    go none q = q
    go (some k) q = (and-true (log_allowed x.size) (waiting_allowed k) q).0

pub log-allowed-of : (log : Bytes) (o : Option Bytes) → steps.allowed (record { log = log; waiting = o }) ≡ true → log_allowed (length log) ≡ true
unfolding lent_allowed
log-allowed-of log none q = q
log-allowed-of log (some w) q = (and-true (log_allowed (length log)) (waiting_allowed (length w)) q).0

-- the row that a write with a date, of type t and data d makes, where the end is e
abbrev pub row_of : Bytes → ℕ → Bytes → ℕ → Row
row_of date t d e = record { kind = t; score = sha1_of d; bytes = d; first = e; date = date }

-- a date that passes test 24 is one of eight digits, or none
pub date_or_none : (date : Option Bytes) → date_allowed date ≡ true → is_date_or_none (date_of date) ≡ true
date_or_none none a = refl
date_or_none (some []) a = refl
date_or_none (some (b ∷ d)) a = a

-- what holds of a row that is added: rows are the intact ones, e is the end, the rows wait from st on, x is what is lent, q and m the request
pub record Fits (rows : List Row) (e st : ℕ) (x : Extent) (date : Bytes) (q : Request) (m : Bytes) (r : Row) : Type 0 where
  pub ok : valid r ≡ true
  pub here : r.first ≡ e
  pub room : room_from x st r.first (parts r) ≡ true
  pub owned : not (same r.score zero_score) ≡ true
  pub asked : q ≡ Write r.kind
  pub scored : r.score ≡ sha1_of (data_of m)
  pub dated : r.date ≡ date
  pub alone : first_row r.kind r.score rows ≡ none

-- what a decision does
abbrev added : Decision → Effect Row
added (silence w) = stays
added (refusal w) = stays
added (reply b s a) = a
added close = stays

-- no row is added
abbrev Quiet : Effect Row → Type 0
Quiet stays = Unit {0}
Quiet (adds r) = ⊥
Quiet settles = Unit {0}

outcome-added : (s : Session) (m buffer : Bytes) (d : Decision) → (ruling_of s m buffer d).effect ≡ added d
outcome-added s m buffer (silence w) = refl
outcome-added s m buffer (refusal w) = refl
outcome-added s m buffer (reply b s' a) = refl
outcome-added s m buffer close = refl

-- if a decision adds a row, it fits
record Good (rows : List Row) (e st : ℕ) (x : Extent) (date : Bytes) (q : Request) (m : Bytes) (d : Decision) : Type 0 where
  fits : (r : Row) → added d ≡ adds r → Fits rows e st x date q m r

module _ {rows : List Row} {e st : ℕ} {x : Extent} {date : Bytes} {q : Request} {m : Bytes} where
  nothing : {d : Decision} → Quiet (added d) → Good rows e st x date q m d
  nothing n = record { fits = λ r g. absurd (subst Quiet g n) }

module _ (rows : List Row) (e st : ℕ) (x : Extent) (date : Bytes) where
  write-good : (t : ℕ) (m : Bytes) → is_date_or_none date ≡ true → allowed x ≡ true → lawful t ≡ true → leb (length (data_of m)) longest ≡ true → small (data_of m) ≡ true
      → Good rows e st x date (Write t) m (write_row rows e st x date t (data_of m) (tag_of m))
  write-good t m w a l le sm =
      cond_ind (Good rows e st x date (Write t) m) (eqb (length (data_of m)) 0) _ _ (λ _. nothing tt) (λ n.
      on_ind (Good rows e st x date (Write t) m) (first_row t (sha1_of (data_of m)) rows) _ _
      (λ f. cond_ind (Good rows e st x date (Write t) m) (same (sha1_of (data_of m)) zero_score) _ _ (λ _. nothing tt) (λ z.
      cond_ind (Good rows e st x date (Write t) m) (room_from x st e (parts_for date (data_of m))) _ _
      (λ room. record { fits = λ r q. let eq : row_of date t (data_of m) e ≡ r = cc in rw (← eq) (new f n z room) })
      (λ _. nothing tt)))
      (λ r _. cond_ind (Good rows e st x date (Write t) m) (same r.bytes (data_of m)) _ _ (λ _. nothing tt) (λ _. nothing tt)))
    where
      new : first_row t (sha1_of (data_of m)) rows ≡ none → eqb (length (data_of m)) 0 ≡ false → same (sha1_of (data_of m)) zero_score ≡ false
          → room_from x st e (parts_for date (data_of m)) ≡ true → Fits rows e st x date (Write t) m (row_of date t (data_of m) e)
      new f n z room = record {
        ok = row-valid date t (data_of m) e x.size w (allowed-log x a) l (leb-true (length (data_of m)) longest le) (omega (arith, eqb-false (length (data_of m)) 0 n)) sm
            (room-inside x st e (parts_for date (data_of m)) room);
        here = refl;
        room = room;
        owned = ap not z;
        asked = refl;
        scored = refl;
        dated = refl;
        alone = f;
      }

  read-good : (q : Request) (m : Bytes) (t count : ℕ) (s : Bytes) (tag : ℕ) → Good rows e st x date q m (read_row rows e st x date t count s tag)
  read-good q m t count s tag =
      cond_ind (Good rows e st x date q m) (same s zero_score) _ _ (λ _. nothing tt) (λ _.
      on_ind (Good rows e st x date q m) (first_row t s rows) _ _
      (λ _. nothing tt)
      (λ r _. cond_ind (Good rows e st x date q m) (leb (length r.bytes) count) _ _ (λ _. nothing tt) (λ _. nothing tt)))

  decide-good : (g : Bool) (q : Request) (m : Bytes) → is_date_or_none date ≡ true → allowed x ≡ true
      → small m ≡ true → Good rows e st x date q m (decide rows e st x date g q m)
  decide-good g Unknown m w a sm = nothing tt
  decide-good g Ill m w a sm = nothing tt
  decide-good g Goodbye m w a sm = nothing tt
  decide-good false Hello m w a sm = cond_ind (Good rows e st x date Hello m) (same (version_of m) version) _ _ (λ _. nothing tt) (λ _. nothing tt)
  decide-good false Ping m w a sm = nothing tt
  decide-good false Sync m w a sm = nothing tt
  decide-good false (Read t c) m w a sm = nothing tt
  decide-good false (Write t) m w a sm = nothing tt
  decide-good true Hello m w a sm = nothing tt
  decide-good true Ping m w a sm = nothing tt
  decide-good true Sync m w a sm = nothing tt
  decide-good true (Read t c) m w a sm = cond_ind (Good rows e st x date (Read t c) m) (lawful t) _ _ (λ _. read-good (Read t c) m t c (score_of m) (tag_of m)) (λ _. nothing tt)
  decide-good true (Write t) m w a sm =
      cond_ind (Good rows e st x date (Write t) m) (lawful t) _ _ (λ l.
      cond_ind (Good rows e st x date (Write t) m) (leb (length (data_of m)) longest) _ _ (λ le. write-good t m w a l le (small-drop 8 m sm)) (λ _. nothing tt))
      (λ _. nothing tt)

  by_session_lem : {q : Request} {m : Bytes} (s : Session) {f : Bool → Decision} → ((g : Bool) → Good rows e st x date q m (f g))
      → Good rows e st x date q m (by_session s (silence Closed) f)
  by_session_lem Fresh h = h false
  by_session_lem Greeted h = h true
  by_session_lem Shut h = nothing tt

decision-good : (rows : List Row) (e st : ℕ) (x : Extent) (s : Session) (q : Asked) → small q.message ≡ true
    → Good rows e st x (date_of q.date) (request_of q.message) q.message (decision rows e st x s q)
unfolding decision
decision-good rows e st x s q sm =
    let G : Decision → Type 0 = Good rows e st x (date_of q.date) (request_of q.message) q.message in
    cond_ind G (framed q.message) _ _ (λ _.
    cond_ind G (leb reply_room (length q.buffer)) _ _ (λ _.
    cond_ind G (allowed x) _ _ (λ a.
    by_session_lem rows e st x (date_of q.date) s (λ g.
    cond_ind G (date_allowed q.date) _ _ (λ w.
    decide-good rows e st x (date_of q.date) g (request_of q.message) q.message (date_or_none q.date w) a sm)
    (λ _. nothing tt)))
    (λ _. nothing tt)) (λ _. nothing tt)) (λ _. nothing tt)

pub tell-fits : (L : Ledger archive) (x : Extent) (s : Session) (q : Asked) (r : Row) → small q.message ≡ true → (tell L.rows L.changed L.start x s q).effect ≡ adds r
    → Fits (intact archive L) (end archive L) L.start x (date_of q.date) (request_of q.message) q.message r
tell-fits L x s q r sm g =
    let d = decision (intact archive L) (end archive L) L.start x s q in
    (decision-good (intact archive L) (end archive L) L.start x s q sm).fits r (sym (outcome-added s q.message q.buffer d) ∙ g)

pub tell-adds : (L : Ledger archive) (x : Extent) (s : Session) (q : Asked) (r : Row) → small q.message ≡ true → (tell L.rows L.changed L.start x s q).effect ≡ adds r
    → (valid r ≡ true) × (r.first ≡ end archive L) × (room_from x L.start r.first (parts r) ≡ true) × (not (same r.score zero_score) ≡ true)
tell-adds L x s q r sm g = let f = tell-fits L x s q r sm g in (f.ok, f.here, f.room, f.owned)

-- a row is added only with the answer 0
pub added-answered : (s : Session) (m buffer : Bytes) (d : Decision) (r : Row) → (ruling_of s m buffer d).effect ≡ adds r → (ruling_of s m buffer d).answer.number ≡ 0
added-answered s m buffer (silence w) r e = let z : ◌≡◌ {A = ℕ} 0 1 = cc in absurd (omega arith)
added-answered s m buffer (refusal w) r e = let z : ◌≡◌ {A = ℕ} 0 1 = cc in absurd (omega arith)
added-answered s m buffer (reply b s' a) r e = refl
added-answered s m buffer close r e = refl
