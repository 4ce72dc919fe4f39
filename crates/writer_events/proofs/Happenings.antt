-- Whatever happens to a log, with writing calls at any place, is seen as the ledger has it, and is a history of events.
use mathlib.Core.Path.{◌≡◌, refl, sym, ap, ◌∙◌, subst}
use mathlib.Core.Bool.{Bool, true, false, cond}
use mathlib.Core.List.{List, [], ◌∷◌, ◌++◌}
use mathlib.Core.Option.{Option, none, some}
use Prim.Native.Nat.{ℕ}
use native.Mathlib.Omega.{arith}
use lib.Dec.{eqb}
use lib.ListN.{length, get_or, replicate}
use Rattle.bedrock.specs.Choice.{on}
use Rattle.buffer.specs.Bytes.{Bytes}
use Rattle.digits.specs.Number.{small}
use Rattle.sector_log.specs.Parts.{Lent, beside}
use Rattle.request.specs.Step.{reply_room}
use Rattle.request.specs.declared.Session.{Session}
use Rattle.ledger.specs.Trace.{trace, Along}
use Rattle.ledger.specs.History.{Item, AllOfBytes, Standing, overlaid, Books, recount, blank-log, blank_books}
use Rattle.ledger.specs.Events.{Shown, stands, Event, recount_event, Possible, log-then, books_then}
use Rattle.ledger.proofs.Trace.{Agree, along_agrees, along_append, left-append}
use Rattle.ledger.proofs.Asks.{recount-left, possible-asks}
use Rattle.ledger.proofs.Lists.{Stands}
use Rattle.ledger.proofs.Happens.{begins-blank, follows-all, stands-then}
use Rattle.demands.specs.Ledger.{Answer, Extent}
use Rattle.demands.specs.Instance.{extent_of, archive}
use Rattle.demands.proofs.Lawful.{lawful}
use Rattle.events.specs.Events.{Past}
use Rattle.writer_laws.proofs.Asking.{requests-of-bytes}
use Rattle.writer_events.specs.Happenings.{Call, Happening, event, call, happened, Verdict, refused_by, passes_at, verdict, blocks_dated, happen_or_write, up_to_refused, messages_by}
use Rattle.writer_events.specs.Happenings.{recount_call, verdict_in, recount_or_write, May, WritingAmongEvents, WritingFrom, call_events, expanded, WrittenIsPast}
use Rattle.writer_events.proofs.Verdicts.{passes}
use Rattle.writer_events.proofs.Calls.{writable_call, call-alike}

-- ---- seen alike

Goes : Standing archive → Books archive → Happening → Type 0
Goes s b h = ((happen_or_write s h).shown ≡ (recount_or_write b h).shown) × Stands archive (happen_or_write s h).state (recount_or_write b h).state

event-alike : (s : Standing archive) (b : Books archive) (e : Event archive) → Possible archive b e → Stands archive s b → Goes s b (event e)
unfolding Goes
event-alike s b e ok S =
    let F = follows-all archive lawful s b (e ∷ []) (ok, tt) S in
    (ap (λ (l : List (Shown Answer Session Lent)). happened (get_or l 0 (stands s.log))) F.seen, F.left)

-- a call is made where a waiting part is lent
lent_alike : (log : Bytes) (o : Option Bytes) (past : List Session) (b : Books archive) (c : Call) → May b (call c)
    → Stands archive (record { log = record { log = log; waiting = o }; past = past }) b → Goes (record { log = record { log = log; waiting = o }; past = past }) b (call c)
unfolding Goes
lent_alike log none past b c ok S =
    let z : ◌≡◌ {A = Bool} false true = ap (λ (x : Extent). archive.waits x) S.size ∙ ok.1 in
    let f : ◌≡◌ {A = ℕ} 0 1 = cc in absurd (omega arith)
lent_alike log (some w) past b c ok S =
    let told : verdict (length log) (length w) c ≡ verdict_in (extent_of b.begin) c = ap (λ (x : Extent). verdict_in x c) S.size in
    let s : Standing archive = record { log = beside log w; past = past } in
    let t = happen_or_write s (call c) in
    subst (λ (v : Verdict). (t.shown ≡ (recount_call v b c).shown) × Stands archive t.state (recount_call v b c).state) told
    (call-alike log w past b c ok.0 S (verdict (length log) (length w) c) refl)

pub alike : (s : Standing archive) (b : Books archive) (h : Happening) → May b h → Stands archive s b
    → ((happen_or_write s h).shown ≡ (recount_or_write b h).shown) × Stands archive (happen_or_write s h).state (recount_or_write b h).state
unfolding Goes
alike s b (event e) ok S = event-alike s b e ok S
alike s b (call c) ok S = lent_alike s.log.log s.log.waiting s.past b c ok S

agree_on : (s : Standing archive) (b : Books archive) (hs : List Happening) → Along May recount_or_write b hs → Stands archive s b
    → Agree (Stands archive) (trace happen_or_write s hs) (trace recount_or_write b hs)
agree_on = along_agrees happen_or_write recount_or_write (Stands archive) May alike

agree : (x : Extent) (hs : List Happening) → Along May recount_or_write (blank_books archive x) hs
    → Agree (Stands archive) (trace happen_or_write (blank-log archive x) hs) (trace recount_or_write (blank_books archive x) hs)
agree x hs ok = agree_on (blank-log archive x) (blank_books archive x) hs ok (begins-blank archive lawful x)

pub writing_among_events : WritingAmongEvents
writing_among_events x hs ok = (agree x hs ok).seen

pub writing_from : WritingFrom
writing_from h hs ok = (agree_on (log-then archive h) (books_then archive h) hs ok (stands-then archive lawful h)).seen

-- ---- a history of events

cut_of-bytes : (b : Books archive) (qs : List (Item archive)) → AllOfBytes archive qs → AllOfBytes archive (up_to_refused b qs)
unfolding up_to_refused
cut_of-bytes b [] A = tt
cut_of-bytes b (q ∷ qs) A = let t = recount archive b q in (A.0, go (eqb t.shown.answer.number 0) (up_to_refused t.state qs) (cut_of-bytes t.state qs A.1))
  where
    go : (k : Bool) (ys : List (Item archive)) → AllOfBytes archive ys → AllOfBytes archive (cond k ys [])
    go true ys h = h
    go false ys h = tt

pub messages_of-bytes : (b : Books archive) (c : Call) → small c.slice ≡ true → (d : ℕ) → verdict_in (extent_of b.begin) c ≡ passes_at d → AllOfBytes archive (messages_by b c d)
messages_of-bytes b c sm d e =
    let x = extent_of b.begin in
    let w = on x.waiting 0 (λ m. m) in
    let P = passes x.size w c d e in
    cut_of-bytes b _ (requests-of-bytes c.date (replicate reply_room 0) (length b.past) (blocks_dated d c) (writable_call x.size w c d sm P))

-- what a list of events followed by others is to the ledger
Becomes : Books archive → List (Event archive) → Books archive → Type 0
Becomes b es m = Along (Possible archive) (recount_event archive) b es × ((trace (recount_event archive) b es).left ≡ m)

becomes_both : (b : Books archive) (es more : List (Event archive)) (m n : Books archive) → Becomes b es m → Becomes m more n → Becomes b (es ++ more) n
unfolding Becomes
becomes_both b es more m n B C = (
  along_append (recount_event archive) (Possible archive) b es more B.0 (subst (λ (x : Books archive). Along (Possible archive) (recount_event archive) x more) (sym B.1) C.0),
  left-append (recount_event archive) b es more ∙ ap (λ (x : Books archive). (trace (recount_event archive) x more).left) B.1 ∙ C.1,
)

call_becomes : (b : Books archive) (c : Call) → small c.slice ≡ true → (v : Verdict) → verdict_in (extent_of b.begin) c ≡ v → Becomes b (call_events v b c) (recount_call v b c).state
unfolding Becomes
call_becomes b c sm (refused_by y) e = (tt, refl)
call_becomes b c sm (passes_at d) e = (possible-asks archive b (messages_by b c d) (messages_of-bytes b c sm d e), recount-left archive b (messages_by b c d))

becomes : (b : Books archive) (hs : List Happening) → Along May recount_or_write b hs → Becomes b (expanded b hs) (trace recount_or_write b hs).left
unfolding Becomes expanded
becomes b [] ok = (tt, refl)
becomes b (event e ∷ hs) ok = let rest = becomes (recount_event archive b e).state hs ok.1 in ((ok.0, rest.0), rest.1)
becomes b (call c ∷ hs) ok =
    let v = verdict_in (extent_of b.begin) c in
    let next = (recount_call v b c).state in
    becomes_both b (call_events v b c) (expanded next hs) next (trace recount_or_write next hs).left (call_becomes b c ok.0.0 v refl) (becomes next hs ok.1)

pub written-is-past : WrittenIsPast
unfolding Becomes
written-is-past x hs ok =
    let B = becomes (blank_books archive x) hs ok in
    let h : Past = record { size = x; events = expanded (blank_books archive x) hs; possible = B.0 } in
    let S = stands-then archive lawful h in
    let A = (agree x hs ok).left in
    let log = S.since ∙ ap (λ (b : Books archive). overlaid archive b.begin b.done) B.1 ∙ sym A.since in
    let past = S.sessions ∙ ap (λ (b : Books archive). b.past) B.1 ∙ sym A.sessions in
    (h, refl, refl, λ i. record { log = log i; past = past i }, B.1)
