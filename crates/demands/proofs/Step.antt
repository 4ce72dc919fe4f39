-- Any request: the archive answers it from the log's bytes as the ledger does from its rows.
use mathlib.Core.Path.{◌≡◌, refl, sym, ◌∙◌}
use mathlib.Core.Bool.{true, false, cond, not, true≢false}
use mathlib.Core.List.{List, Memᴰ}
use mathlib.Core.Option.{Option, none, some}
use Prim.Native.Nat.{ℕ, ◌≤◌}
use native.Mathlib.Omega.{arith}
use lib.Dec.{leb, ltb}
use lib.ListN.{length}
use borrow.Author.Tests.{not-true}
use Rattle.buffer.specs.Bytes.{Bytes, same}
use Rattle.buffer.proofs.Bytes.{same_refl}
use Rattle.refusal.specs.declared.Refusal.TheVariants.{Closed, Date}
use Rattle.message.specs.Message.{framed, tag_of, version_of, score_of, data_of, request_of}
use Rattle.message.specs.declared.Request.{Request}
use Rattle.message.specs.declared.Request.TheVariants.{Ping, Hello, Goodbye, Read, Write, Sync, Unknown, Ill}
use Rattle.kind.specs.Kind.{zero_score}
use Rattle.block.specs.Block.{Row}
use Rattle.block.specs.Log.{sectors, used}
use Rattle.block.proofs.Joined.{used-joined}
use Rattle.sector_log.specs.Parts.{Lent, one_log, can_settle}
use Rattle.sector_log.proofs.Room.{can_settle_lem}
use Rattle.request.specs.Step as steps
use Rattle.request.specs.declared.Session.{Session}
use Rattle.request.specs.declared.Session.TheVariants.{Fresh, Greeted, Closed as Shut}
use Rattle.ledger.specs.Ledger.{Ledger, intact, end, blocks, shown}
use Rattle.ledger.proofs.Intact.{intact_out}
use Rattle.demands.specs.Ledger.{Asked, allowed, silence, decide, by_session, decision, tell}
use Rattle.demands.specs.Instance.{served, extent_of, archive}
use Rattle.demands.proofs.Tests.{alike, contrary, ltb-not}
use Rattle.demands.proofs.LookUp.{blocks-same}
use Rattle.demands.proofs.First.{first-none}
use Rattle.demands.proofs.Seen.{seen, view, Mirrors}
use Rattle.demands.proofs.Read.{read-agrees}
use Rattle.demands.proofs.Write.{write-agrees}

-- test 3, of what is lent and of its lengths
same_test : (log : Bytes) (o : Option Bytes) → let L : Lent = record { log = log; waiting = o } in not (steps.allowed L) ≡ not (allowed (extent_of L))
same_test log none = refl
same_test log (some w) = refl

module _ (L : Lent) (rows : List Row) (last start : ℕ) (M : Mirrors (one_log L) rows last) (from : used L.log ≡ start)
    (fits : last ≤ sectors (length L.log)) (m : Bytes) (date : Option Bytes) (buffer : Bytes) where
  -- what waits has room: a row was added only where it had
  sync-agrees : (log : Bytes) (o : Option Bytes) → used (one_log (record { log = log; waiting = o })) ≤ sectors (length log) → can_settle (record { log = log; waiting = o }) ≡ true
  unfolding can_settle
  sync-agrees log none h = refl
  sync-agrees log (some w) h = can_settle_lem log w (omega (arith, h, used-joined log w))

  fresh-agrees : (r : Request)
      → seen (steps.fresh r (tag_of m) m L buffer) ≡ view L Fresh m buffer (decide rows last start (extent_of L) (steps.date_of date) false r m)
  unfolding steps.fresh
  fresh-agrees Unknown = refl
  fresh-agrees Ill = refl
  fresh-agrees Goodbye = refl
  fresh-agrees Hello = alike seen (view L Fresh m buffer) (same (version_of m) steps.version) (λ _. refl) (λ _. refl)
  fresh-agrees Ping = refl
  fresh-agrees Sync = refl
  fresh-agrees (Read t c) = refl
  fresh-agrees (Write t) = refl

  greeted-agrees : (r : Request)
      → seen (steps.greeted (steps.date_of date) r (tag_of m) m L buffer) ≡ view L Greeted m buffer (decide rows last start (extent_of L) (steps.date_of date) true r m)
  unfolding steps.greeted steps.sync
  greeted-agrees Unknown = refl
  greeted-agrees Ill = refl
  greeted-agrees Goodbye = refl
  greeted-agrees Hello = refl
  greeted-agrees Ping = refl
  greeted-agrees Sync = rw (sync-agrees L.log L.waiting (omega (arith, M.ends, fits)))
  greeted-agrees (Read t c) = read-agrees L rows last start M (steps.date_of date) m buffer t c (score_of m)
  greeted-agrees (Write t) = write-agrees L rows last start M from (steps.date_of date) m buffer t (data_of m)

  session-agrees : (s : Session) → seen (steps.in_session s m date L buffer)
      ≡ view L s m buffer (by_session s (silence Closed) (λ g. cond (steps.date_allowed date) (decide rows last start (extent_of L) (steps.date_of date) g (request_of m) m) (silence Date)))
  unfolding steps.in_session
  session-agrees Fresh = alike seen (view L Fresh m buffer) (steps.date_allowed date) (λ _. fresh-agrees (request_of m)) (λ _. refl)
  session-agrees Greeted = alike seen (view L Greeted m buffer) (steps.date_allowed date) (λ _. greeted-agrees (request_of m)) (λ _. refl)
  session-agrees Shut = refl

  step-agrees : (s : Session)
      → seen (steps.step s m date L buffer) ≡ view L s m buffer (decision rows last start (extent_of L) s (record { message = m; buffer = buffer; date = date }))
  unfolding steps.step decision
  step-agrees s =
      contrary seen (view L s m buffer) (not (framed m)) (framed m) refl
      (λ _. contrary seen (view L s m buffer) (ltb (length buffer) steps.reply_room) (leb steps.reply_room (length buffer)) (ltb-not (length buffer) steps.reply_room)
      (λ _. contrary seen (view L s m buffer) (not (steps.allowed L)) (allowed (extent_of L)) (same_test L.log L.waiting) (λ _. session-agrees s) (λ _. refl))
      (λ _. refl))
      (λ _. refl)

module _ (log : Lent) (L : Ledger archive) (owned : (r : Row) → Memᴰ r L.rows → not (same r.score zero_score) ≡ true)
    (b : blocks archive log ≡ intact archive L) (u : used (one_log log) ≡ end archive L) where
  pub mirrors : Mirrors (one_log log) (intact archive L) (end archive L)
  mirrors = record {
    blocks = blocks-same log ∙ b;
    ends = u;
    no_zero = λ t. first-none t zero_score (intact archive L) (λ r m _ e.
        let z : same zero_score zero_score ≡ false = rw e at (not-true (same r.score zero_score) (owned r (intact_out archive L.changed L.rows r m).0)) in
        true≢false (sym (same_refl zero_score) ∙ z));
  }

  pub agrees : used log.log ≡ L.start → end archive L ≤ sectors (length log.log) → (s : Session) (q : Asked)
      → served log s q ≡ shown archive log (tell L.rows L.changed L.start (extent_of log) s q)
  agrees from fits s q = step-agrees log (intact archive L) (end archive L) L.start mirrors from fits q.message q.date q.buffer s
