-- An index kept by requests is the one that rebuilding makes: a store appends a block and enters it, a sync leaves every sector, all else leaves both.
use mathlib.Core.Path.{◌≡◌, refl, sym, ap, subst, ◌∙◌}
use mathlib.Core.Bool.{Bool, true, false, cond, not}
use mathlib.Core.List.{[], ◌∷◌}
use mathlib.Core.Logic.{◌⊎◌, inl, inr}
use mathlib.Core.Option.{Option, none, some}
use Prim.Native.Nat.{ℕ, ◌≤◌}
use native.Mathlib.Omega.{arith}
use lib.Dec.{ltb}
use lib.ListN.{length}
use borrow.Author.Tests.{ltb-false, not-false}
use Rattle.bedrock.specs.Choice.{on}
use Rattle.bedrock.specs.Places.{found_from}
use Rattle.buffer.specs.Bytes.{Bytes, same}
use Rattle.buffer.proofs.Bytes.{small-drop}
use Rattle.digits.specs.Number.{small}
use Rattle.sha1_digest.specs.Sha1.{sha1_of}
use Rattle.refusal.specs.declared.Refusal.TheVariants.{BlockType, DataLength, Clash}
use Rattle.message.specs.Message.{tag_of, data_of}
use Rattle.kind.specs.Kind.{lawful, longest}
use Rattle.block.specs.Block.{Row, parts, valid}
use Rattle.block.specs.Log.{Alike, used}
use Rattle.block.proofs.At.{at-void}
use Rattle.block.proofs.Joined.{used-joined}
use Rattle.sector_log.specs.LookUp.{blocks, held, empty_row}
use Rattle.sector_log.specs.Parts.{Lent, one_log, room_for, append_row, can_settle, settled}
use Rattle.sector_log.proofs.Parts.{tape-alone}
use Rattle.sector_log.specs.Store.{AfterStore, after_store, receipt, parts_for, new_row, appended, compared, store}
use Rattle.sector_log.specs.declared.Stored.TheVariants.{Duplicate}
use Rattle.sector_log.proofs.Allowed.{row-valid}
use Rattle.index.specs.Index.{cleared}
use Rattle.hint.specs.Rebuilt.{entered_row, entered_all, rebuilt}
use Rattle.hint.specs.Promises.{RoomForAll, Exact}
use Rattle.hint.proofs.Alike.{rebuilt-alike}
use Rattle.hint.proofs.Rebuilt.{rebuilt_appends, rebuilt_hits, rebuilt-keeps}
use Rattle.hint.proofs.Scan.{exact-is_scan}
use Rattle.request.specs.Step.{Outcome, allowed, date_allowed, date_of, refused, written, write}
use Rattle.request.specs.declared.Session.TheVariants.{Greeted}
use Rattle.indexed.specs.Indexed.{read_by, entered_by, index_after, write_by, step_by}
use Rattle.indexed.proofs.Ways.{Quiet, step_ways}
use Rattle.indexed.proofs.OfScore.{read-leaves, any_log_by_index}
use Rattle.ledger.specs.History.{Item, given, blank-log}
use Rattle.ledger.proofs.Trace.{trace-keeps}
use Rattle.demands.specs.Ledger.{Extent}
use Rattle.demands.specs.Instance.{archive}
use Rattle.demands.proofs.LentLaws.{at-blank, room-one, one-appended, settle-fits, at-settled}
use Rattle.demands.proofs.Seen.{held-zero, empty-score}
use Rattle.demands.proofs.TellAdds.{date_or_none, log-allowed-of}
use Rattle.every_index.specs.AsRebuilt.{KeptIsRebuilt, SettledRebuilt, Keeping, answer_keeping, kept_by, Leads, KeptByRequests, KeptHits}
use Rattle.every_index.proofs.Free.{free-cleared}
use Rattle.std.specs.Prelude.{Ok, Err}

module _ (index : Bytes) (L : Lent) where
  -- rebuilt before
  abbrev before : Bytes
  before = rebuilt (one_log L) index

  appended-kept : (r : Row) → valid r ≡ true → r.first ≡ used (one_log L) → room_for L (parts r) ≡ true → entered_row before r ≡ rebuilt (one_log (append_row L r)) index
  appended-kept r v f q =
      let room = room-one L.log L.waiting (parts r) q in
      sym (ap (λ (x : Bytes). rebuilt x index) (one-appended L.log L.waiting r f) ∙ rebuilt_appends (one_log L) index r (v, f, omega (arith, f, room.0)))

  settled-kept : can_settle L ≡ true → before ≡ rebuilt (one_log (settled L)) index
  settled-kept q =
      sym (rebuilt-alike (one_log (settled L)) (one_log L) (λ n. at-settled L.log L.waiting n (settle-fits L.log L.waiting q)) index)

  quiet_kept : (m : Bytes) (o : Outcome) → Quiet m L o → before ≡ rebuilt (one_log o.lent) index
  quiet_kept m o Q = go Q.left
    where
      go : (o.lent ≡ L) ⊎ ((o.lent ≡ settled L) × (can_settle L ≡ true)) → before ≡ rebuilt (one_log o.lent) index
      go (inl e) = ap (λ (K : Lent). rebuilt (one_log K) index) (sym e)
      go (inr e) = settled-kept e.1 ∙ ap (λ (K : Lent). rebuilt (one_log K) index) (sym e.0)

  module _ (date : Option Bytes) (w : date_allowed date ≡ true) (a : allowed L ≡ true) (tag : ℕ) (buffer : Bytes) (t : ℕ) (l : lawful t ≡ true) where
    -- what a store did is what the index shows
    abbrev Shows : AfterStore → Type 0
    Shows x = entered_by x.receipt.stored x.receipt.score t before
        ≡ rebuilt (one_log (written x.receipt.stored tag x.receipt.score x.lent buffer).lent) index

    new-shows : (d : Bytes) → length d ≤ longest → small d ≡ true → (length d ≡ 0 → ⊥) → Shows (appended L (date_of date) t d)
    new-shows d le sm n = go (room_for L (parts_for (date_of date) d)) refl
      where
        go : (b : Bool) → room_for L (parts_for (date_of date) d) ≡ b → Shows (appended L (date_of date) t d)
        go true q =
            let room = room-one L.log L.waiting (parts_for (date_of date) d) q in
            rw q (appended-kept (new_row L (date_of date) t d)
            (row-valid (date_of date) t d (used (one_log L)) (length L.log) (date_or_none date w) (log-allowed-of L.log L.waiting a) l le (omega (arith, n)) sm room.1) refl q)
        go false q = rw q refl

    old_shows : (d : Bytes) (r : Row) → Shows (compared L r.bytes r.first d)
    old_shows d r = go (same r.bytes d)
      where
        go : (b : Bool) → Shows (cond b (after_store (receipt (sha1_of d) (Ok (Duplicate (record { 0 = r.first })))) L) (after_store (receipt (sha1_of d) (Err Clash)) L))
        go true = refl
        go false = refl

    store-shows : (d : Bytes) → length d ≤ longest → small d ≡ true → Shows (store L (date_of date) t d)
    unfolding store
    store-shows [] le sm = rw (held-zero (one_log L) t (sha1_of []) l empty-score) (old_shows [] (empty_row t))
    store-shows (c ∷ x) le sm = go (held (one_log L) t (sha1_of (c ∷ x)))
      where
        go : (o : Option Row) → Shows (on o (appended L (date_of date) t (c ∷ x)) (λ r. compared L r.bytes r.first (c ∷ x)))
        go none = new-shows (c ∷ x) le sm (λ e. omega arith)
        go (some r) = old_shows (c ∷ x) r

  write_kept : (m : Bytes) (date : Option Bytes) (buffer : Bytes) (t : ℕ) → small m ≡ true → allowed L ≡ true → date_allowed date ≡ true
      → index_after (date_of date) t (data_of m) before L ≡ rebuilt (one_log (write (date_of date) t (tag_of m) (data_of m) L buffer).lent) index
  unfolding index_after write
  write_kept m date buffer t sm a w = go (not (lawful t)) (ltb longest (length (data_of m))) refl refl
    where
      go : (b c : Bool) → not (lawful t) ≡ b → ltb longest (length (data_of m)) ≡ c → let x = store L (date_of date) t (data_of m) in
          cond b before (cond c before (entered_by x.receipt.stored x.receipt.score t before))
          ≡ rebuilt (one_log (cond b (refused BlockType (tag_of m) Greeted L buffer)
          (cond c (refused DataLength (tag_of m) Greeted L buffer) (written x.receipt.stored (tag_of m) x.receipt.score x.lent buffer))).lent) index
      go true c p q = refl
      go false true p q = refl
      go false false p q = store-shows date w a (tag_of m) buffer t (not-false (lawful t) p) (data_of m) (ltb-false longest (length (data_of m)) q) (small-drop 8 m sm)

pub kept-is-rebuilt : KeptIsRebuilt
unfolding read_by write_by
kept-is-rebuilt s m date index L buffer sm =
    let i = rebuilt (one_log L) index in
    step_ways m date i L buffer (λ _ x o. x.index ≡ rebuilt (one_log o.lent) index) (λ _ o Q. quiet_kept index L m o Q)
    (λ kind count _. ap (λ (K : Lent). rebuilt (one_log K) index) (sym (read-leaves m count L buffer kind).1))
    (λ kind _ a w. write_kept index L m date buffer kind sm a w) s
    ∙ ap (λ (K : Lent). rebuilt (one_log K) index) (sym (any_log_by_index s m date i L buffer).1)

alone-alike : (log : Bytes) (o : Option Bytes) → used log ≡ used (one_log (record { log = log; waiting = o })) → Alike (one_log (record { log = log; waiting = o })) log
alone-alike log none e n = refl
alone-alike log (some w) e n = tape-alone log w (omega (arith, e, used-joined log w)) n

pub settled-rebuilt : SettledRebuilt
settled-rebuilt L index idle = rebuilt-alike (one_log L) L.log (alone-alike L.log L.waiting idle) index

-- ---- lists

-- the index is as rebuilding makes it from this one
record Rebuilt (index : Bytes) (k : Keeping) : Type 0 where
  as_rebuilt : k.index ≡ rebuilt (one_log k.standing.log) index

request-keeps : (index : Bytes) (k : Keeping) (q : Item archive) → archive.OfBytes q.request → Rebuilt index k → Rebuilt index (answer_keeping k q).state
request-keeps index k q sm R =
    let r = q.request in
    let s = given archive k.standing.past q in
    record {
      as_rebuilt = subst (λ (i : Bytes). let x = step_by s r.message r.date i k.standing.log r.buffer in x.index ≡ rebuilt (one_log x.outcome.lent) index)
          (sym R.as_rebuilt) (kept-is-rebuilt s r.message r.date index k.standing.log r.buffer sm);
    }

leads : (index : Bytes) (k : Keeping) → k.index ≡ rebuilt (one_log k.standing.log) index → Leads k
leads index k e room =
    let log = one_log k.standing.log in
    let x : Exact log k.index =
    subst (Exact log) (sym e) (rebuilt_hits log index (subst (RoomForAll log) (ap (length {A = ℕ}) e ∙ (rebuilt-keeps log index).0) room)) in
    (x, exact-is_scan log k.index x)

pub kept_by_requests : KeptByRequests
kept_by_requests s index qs ok =
    let from : Keeping = record { standing = s; index = rebuilt (one_log s.log) index } in
    let R = trace-keeps answer_keeping (Rebuilt index) (λ q. archive.OfBytes q.request) (request-keeps index) from qs ok (record { as_rebuilt = refl }) in
    (R.as_rebuilt, leads index (kept_by s (rebuilt (one_log s.log) index) qs) R.as_rebuilt)

-- from a blank log rebuilding only clears
blank_clears : (x : Extent) (index : Bytes) → rebuilt (one_log (archive.void x)) index ≡ cleared index
unfolding rebuilt entered_all blocks found_from
blank_clears x index = rebuilt-alike (one_log (archive.void x)) [] (λ n. at-blank x n ∙ sym (at-void 0 n)) index

pub kept_hits : KeptHits
kept_hits x index qs free ok =
    subst (λ (i : Bytes). let after = kept_by (blank-log archive x) i qs in (after.index ≡ rebuilt (one_log after.standing.log) index) × Leads after)
    (blank_clears x index ∙ free-cleared index free) (kept_by_requests (blank-log archive x) index qs ok)
