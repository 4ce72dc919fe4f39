-- The same with an index lent to each request, of its own and of any bytes; a writing call looks at none.
use Rattle.std.specs.Prelude.{◌≡◌, List, map}
use Rattle.buffer.specs.Bytes.{Bytes}
use Rattle.ledger.specs.Trace.{Turn, trace, Along}
use Rattle.ledger.specs.History.{Standing, Books, blank-log, blank_books}
use Rattle.demands.specs.Ledger.{Extent}
use Rattle.demands.specs.Instance.{archive}
use Rattle.every_index.specs.EveryIndex.{happens_by, Agreeing, Unhealed}
use Rattle.writer_events.specs.Happenings.{Happening, event, call, Noted, happened, happen_or_write, recount_or_write, May}

-- what happens, and the index that is lent with it; only a request looks at one
pub record HappeningBy : Type 0 where
  pub happening : Happening
  pub index : Bytes

abbrev pub happenings_of : List HappeningBy → List Happening
happenings_of = map (λ (h : HappeningBy). h.happening)

abbrev pub happens_or_writes : Bytes → Standing archive → Happening → Turn Noted (Standing archive)
happens_or_writes index s (event e) = let t = happens_by index s e in record { shown = happened t.shown; state = t.state }
happens_or_writes index s (call c) = happen_or_write s (call c)

abbrev pub happen_or_write_by : Standing archive → HappeningBy → Turn Noted (Standing archive)
happen_or_write_by s h = happens_or_writes h.index s h.happening

-- from a blank log on, whatever happens of such a kind, by any index, with writing calls at any place: what is seen is the ledger's
abbrev pub EverySuchWriting : (Books archive → Happening → Type 0) → Type 0
EverySuchWriting Such = (x : Extent) (hs : List HappeningBy) → Along Such recount_or_write (blank_books archive x) (happenings_of hs)
    → (trace happen_or_write_by (blank-log archive x) hs).seen ≡ (trace recount_or_write (blank_books archive x) (happenings_of hs)).seen

-- where a request is asked, intact rows of one type and score have the same bytes
abbrev pub AgreeingOrWriting : Books archive → Happening → Type 0
AgreeingOrWriting b (event e) = Agreeing b e
AgreeingOrWriting b (call c) = May b (call c)

abbrev pub WritingByIndex : Type 0
WritingByIndex = EverySuchWriting AgreeingOrWriting

-- so it is where no sector is healed
abbrev pub UnhealedOrWriting : Books archive → Happening → Type 0
UnhealedOrWriting b (event e) = Unhealed b e
UnhealedOrWriting b (call c) = May b (call c)

abbrev pub WritingByIndexUnhealed : Type 0
WritingByIndexUnhealed = EverySuchWriting UnhealedOrWriting
