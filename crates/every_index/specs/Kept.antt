-- What the index is for: one that is kept by the requests leads to every stored block, as long as no bucket is full when a block is to be entered.
use Rattle.std.specs.Prelude.{◌≡◌, true, List, ℕ}
use Rattle.std.proofs.Math.Option.{Option}
use Rattle.sector_number.specs.declared.SectorNumber.{SectorNumber}
use Rattle.digits.specs.Number.{small}
use Rattle.buffer.specs.Bytes.{Bytes}
use Rattle.sha1_digest.specs.Sha1.{sha1_of}
use Rattle.message.specs.Message.{data_of}
use Rattle.sector_log.specs.Parts.{Lent, one_log}
use Rattle.index.specs.Index.{has_free}
use Rattle.hint.specs.Promises.{Complete}
use Rattle.request.specs.declared.Session.{Session}
use Rattle.indexed.specs.Indexed.{step_by}
use Rattle.indexed.specs.Promises.{Stores}
use Rattle.ledger.specs.Archive.{Seen}
use Rattle.ledger.specs.Trace.{Turn, trace, Along}
use Rattle.ledger.specs.History.{Item, given, Standing, blank-log}
use Rattle.demands.specs.Ledger.{Answer, Extent}
use Rattle.demands.specs.Instance.{archive}
use Rattle.every_index.specs.EveryIndex.{seen_of, answer_by}

-- where the request stores a block, the bucket of its score has a free place
abbrev pub HasPlace : Bytes → Option Bytes → Bytes → Lent → Type 0
HasPlace m date index L = (kind : ℕ) (at : SectorNumber) → Stores m date L kind at → has_free index (sha1_of (data_of m)) ≡ true

-- then any request, on any log, keeps an index complete: a read, a write, a sync
abbrev pub KeepsComplete : Type 0
KeepsComplete = (s : Session) (m : Bytes) (date : Option Bytes) (index : Bytes) (L : Lent) (buffer : Bytes) → small m ≡ true → HasPlace m date index L
    → Complete (one_log L) index → let x = step_by s m date index L buffer in Complete (one_log x.outcome.lent) x.index

-- the archive and the index between two requests: each gets the index that the last one left
pub record Kept : Type 0 where
  pub standing : Standing archive
  pub index : Bytes

abbrev pub keep : Kept → Item archive → Turn (Seen Answer Session Lent) Kept
keep k q =
    let a = q.request in
    let s = k.standing in
    let x = step_by (given archive s.past q) a.message a.date k.index s.log a.buffer in
    record { shown = seen_of x.outcome; state = record { standing = (answer_by s (record { item = q; index = k.index })).state; index = x.index } }

abbrev pub NeverFull : Kept → Item archive → Type 0
NeverFull k q = (small q.request.message ≡ true) × HasPlace q.request.message q.request.date k.index k.standing.log

-- "kept by writes from empty on, with buckets that never overflowed": every stored block is found without the scan. Whatever the index held at first
abbrev pub KeptIndexHits : Type 0
KeptIndexHits = (x : Extent) (index : Bytes) (qs : List (Item archive)) → let k : Kept = record { standing = blank-log archive x; index = index } in
    Along NeverFull keep k qs → let after = (trace keep k qs).left in Complete (one_log after.standing.log) after.index
