-- One writing call: what is seen of it, and where it leaves things, are the ledger's.
use mathlib.Core.Path.{◌≡◌, sym, ap, ap₂, ◌∙◌, subst}
use mathlib.Core.Bool.{true}
use mathlib.Core.List.{List, ◌++◌, map, append-nil}
use Prim.Native.Nat.{ℕ, suc, ◌/◌, ◌≤◌}
use native.Mathlib.Omega.{arith}
use lib.ListN.{length, replicate, length-replicate}
use Rattle.buffer.specs.Bytes.{Bytes}
use Rattle.digits.specs.Number.{small}
use Rattle.refusal.specs.declared.Refusal.{Refusal}
use Rattle.sector_log.specs.Parts.{Lent, beside}
use Rattle.request.specs.Step.{reply_room}
use Rattle.request.specs.declared.Session.{Session}
use Rattle.request.specs.declared.Session.TheVariants.{Greeted}
use Rattle.ledger.specs.Archive.{Seen}
use Rattle.ledger.specs.Trace.{trace}
use Rattle.ledger.specs.History.{Item, Standing, Books, recount}
use Rattle.ledger.proofs.Lists.{Stands, follows}
use Rattle.demands.specs.Ledger.{Answer}
use Rattle.demands.specs.Instance.{archive}
use Rattle.demands.proofs.Lawful.{lawful}
use Rattle.writer.specs.Blocks.{Typed}
use Rattle.writer.specs.WriteFile.{end_number, WriteOutcome}
use Rattle.writer.proofs.Depth.{depth_lies, least-found}
use Rattle.writer_laws.specs.Held.{AllWritable}
use Rattle.writer_laws.specs.Asking.{asked, requests, last_or}
use Rattle.writer_laws.proofs.Written.{writable_file}
use Rattle.writer_laws.proofs.Asking.{writing_is_asking}
use Rattle.writer_events.specs.Happenings.{Call, wrote, Verdict, refused_by, passes_at, verdict, blocks_dated, called, sessions_by, up_to_refused, messages_by, recount_writes, recount_call}
use Rattle.writer_events.proofs.Verdicts.{Passes, passes, refused-call}
use Rattle.writer_events.proofs.Messages.{messages_cut}

-- the blocks of a call that passes its tests may be written
pub writable_call : (m w : ℕ) (c : Call) (d : ℕ) → small c.slice ≡ true → Passes m w c d → AllWritable (blocks_dated d c)
writable_call m w c d sm P =
    let lies = depth_lies (length c.slice) c.dsize c.psize d P.deep in
    writable_file c.slice c.dsize c.psize d lies.dsize-to lies.psize-from lies.psize-to
    (least-found (length c.slice) c.dsize (c.psize / 20) d lies.least).0 sm

module _ (log w : Bytes) (past : List Session) (b : Books archive) (c : Call) (sm : small c.slice ≡ true)
    (S : Stands archive (record { log = beside log w; past = past }) b) where
  abbrev L : Lent
  L = beside log w

  abbrev o : WriteOutcome
  o = called L c

  -- what is seen of the call by a verdict is the ledger's, and so is what it leaves
  Alike : Verdict → Type 0
  Alike v = (wrote (end_number o.end) o.lent ≡ (recount_call v b c).shown) × Stands archive (record { log = o.lent; past = past ++ sessions_by v L c }) (recount_call v b c).state

  refused-alike : (y : Refusal) → verdict (length log) (length w) c ≡ refused_by y → Alike (refused_by y)
  unfolding Alike
  refused-alike y e =
      let is = refused-call log w c y e in
      let lent = ap (λ (x : WriteOutcome). x.lent) is in (
        ap₂ wrote (ap (λ (x : WriteOutcome). end_number x.end) is) (lent ∙ S.since),
        subst (λ (s : Standing archive). Stands archive s b) (λ i. record { log = sym lent i; past = sym (append-nil past) i }) S,
      )

  module _ (d : ℕ) (e : verdict (length log) (length w) c ≡ passes_at d) where
    abbrev xs : List Typed
    xs = blocks_dated d c

    abbrev buffer : Bytes
    buffer = replicate reply_room 0

    abbrev qs : List (Item archive)
    qs = requests c.date buffer (length past) (asked L c.date xs)

    abbrev s : Standing archive
    s = record { log = L; past = past }

    room : reply_room ≤ length buffer
    room = let n : length buffer ≡ reply_room = length-replicate {A = ℕ} reply_room 0 in omega (arith, n)

    P : Passes (length log) (length w) c d
    P = passes (length log) (length w) c d e

    messages_are : messages_by b c d ≡ qs
    messages_are =
        ap (λ (p : List Session). up_to_refused b (requests c.date buffer (length p) xs)) (sym S.sessions)
        ∙ messages_cut log w c.date buffer past b xs S P.lent P.dated room (writable_call (length log) (length w) c d sm P)

    passed_alike : Alike (passes_at d)
    unfolding Alike
    passed_alike =
        let A = writing_is_asking log w c.date c.slice c.dsize c.psize c.entry c.scores buffer past d sm room
        P.entry P.scores P.lent P.dated P.short P.deep in
        let F = follows archive lawful s b qs A.0 S in
        let number = A.3 ∙ ap (last_or 0) (sym A.2) ∙ ap (λ (l : List (Seen Answer Session Lent)). last_or 0 (map (λ v. v.answer.number) l)) F.seen in
        let lent = ap (λ (x : Standing archive). x.log) (sym A.1) ∙ F.left.since in
        subst (λ (ys : List (Item archive)). (wrote (end_number o.end) o.lent ≡ (recount_writes b ys).shown)
        × Stands archive (record { log = o.lent; past = past ++ replicate (suc (length (asked L c.date xs))) Greeted }) (recount_writes b ys).state) (sym messages_are)
        (ap₂ wrote number lent, subst (λ (x : Standing archive). Stands archive x (trace (recount archive) b qs).left) A.1 F.left)

  pub call-alike : (v : Verdict) → verdict (length log) (length w) c ≡ v
      → (wrote (end_number o.end) o.lent ≡ (recount_call v b c).shown) × Stands archive (record { log = o.lent; past = past ++ sessions_by v L c }) (recount_call v b c).state
  unfolding Alike
  call-alike (refused_by y) e = refused-alike y e
  call-alike (passes_at d) e = passed_alike d e
