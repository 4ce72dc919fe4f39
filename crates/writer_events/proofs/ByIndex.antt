-- Writing calls among events by any index: each request is answered as by the scan.
use mathlib.Core.Path.{◌≡◌, refl, ap, ◌∙◌}
use mathlib.Core.Bool.{true}
use Rattle.buffer.specs.Bytes.{Bytes}
use Rattle.digits.specs.Number.{small}
use Rattle.sector_log.specs.Parts.{Lent}
use Rattle.request.specs.declared.Session.{Session}
use Rattle.ledger.specs.Trace.{Turn, Trace}
use Rattle.ledger.specs.History.{Standing, Books, recount, blank-log, blank_books}
use Rattle.ledger.specs.Events.{Shown}
use Rattle.ledger.proofs.Trace.{along_gives, trace-keeps}
use Rattle.ledger.proofs.Lists.{Stands}
use Rattle.ledger.proofs.Happens.{begins-blank}
use Rattle.demands.specs.Ledger.{Answer}
use Rattle.demands.specs.Instance.{extent_of, archive}
use Rattle.demands.proofs.Lawful.{lawful}
use Rattle.every_index.proofs.Names.{OneOfAName, one-empty, one-request}
use Rattle.demands.proofs.NewNames.{name_of, adds-new-names}
use Rattle.every_index.proofs.Traces.{same-trace}
use Rattle.every_index.proofs.EveryIndex.{event-same, one-event, agreed_at}
use Rattle.writer_events.specs.Happenings.{Call, Happening, event, call, Noted, happened, Verdict, refused_by, passes_at, happen_or_write, messages_by, recount_call, verdict_in, recount_or_write, May}
use Rattle.writer_events.specs.ByIndex.{HappeningBy, happenings_of, happens_or_writes, happen_or_write_by, AgreeingOrWriting, WritingByIndex, UnhealedOrWriting, WritingByIndexUnhealed}
use Rattle.writer_events.proofs.Happenings.{alike, writing_among_events, messages_of-bytes}

-- the premises without those of the index
may : (b : Books archive) (h : Happening) → AgreeingOrWriting b h → May b h
may b (event e) ok = ok.0
may b (call c) ok = ok

same : (index : Bytes) (s : Standing archive) (b : Books archive) (h : Happening) → AgreeingOrWriting b h → Stands archive s b → happens_or_writes index s h ≡ happen_or_write s h
same index s b (event e) ok S =
    ap (λ (t : Turn (Shown Answer Session Lent) (Standing archive)). record { shown = happened t.shown; state = t.state }) (event-same index s b e S ok.1)
same index s b (call c) ok S = refl

step : (s : Standing archive) (b : Books archive) (h : HappeningBy) → AgreeingOrWriting b h.happening → Stands archive s b
    → (happen_or_write_by s h ≡ happen_or_write s h.happening) × Stands archive (happen_or_write s h.happening).state (recount_or_write b h.happening).state
step s b h ok S = (same h.index s b h.happening ok S, (alike s b h.happening (may b h.happening ok) S).1)

pub writing_by_index : WritingByIndex
writing_by_index x hs ok =
    ap (λ (t : Trace Noted (Standing archive)). t.seen)
    (same-trace happen_or_write_by happen_or_write (λ (h : HappeningBy). h.happening) recount_or_write (Stands archive) AgreeingOrWriting step (blank-log archive x) (blank_books archive x) hs ok
    (begins-blank archive lawful x))
    ∙ writing_among_events x (happenings_of hs)
    (along_gives recount_or_write (λ _. Unit {0}) AgreeingOrWriting May (λ b h _ m. may b h m) (λ _ _ _ _. tt) (blank_books archive x) (happenings_of hs) tt ok)

-- ---- where nothing is healed

abbrev One : Books archive → Type 0
One b = OneOfAName archive name_of b.ledger

one-call : (b : Books archive) (c : Call) → small c.slice ≡ true → (v : Verdict) → verdict_in (extent_of b.begin) c ≡ v → One b → One (recount_call v b c).state
one-call b c sm (refused_by y) e O = O
one-call b c sm (passes_at d) e O =
    trace-keeps (recount archive) One (λ q. archive.OfBytes q.request) (λ s q ok n. one-request archive name_of adds-new-names s q ok n) b (messages_by b c d)
    (messages_of-bytes b c sm d e) O

one_kept : (b : Books archive) (h : Happening) → One b → UnhealedOrWriting b h → One (recount_or_write b h).state
one_kept b (event e) O ok = one-event b e ok O
one_kept b (call c) O ok = one-call b c ok.0 (verdict_in (extent_of b.begin) c) refl O

agreed : (b : Books archive) (h : Happening) → One b → UnhealedOrWriting b h → AgreeingOrWriting b h
agreed b (event e) O ok = (ok.0, agreed_at b e O)
agreed b (call c) O ok = ok

pub writing_by_index_unhealed : WritingByIndexUnhealed
writing_by_index_unhealed x hs ok =
    writing_by_index x hs
    (along_gives recount_or_write One UnhealedOrWriting AgreeingOrWriting agreed one_kept (blank_books archive x) (happenings_of hs) (one-empty archive name_of) ok)
