-- A stop: what was settled is there; of what waited what arrived whole is too, what did not is not known or as if never written. And growth.
use mathlib.Core.Path.{◌≡◌, refl, sym, ap, subst, ◌∙◌}
use mathlib.Core.Bool.{Bool, true, false, true≢false}
use mathlib.Core.List.{List, [], ◌∷◌, ◌++◌, Memᴰ}
use mathlib.Core.Logic.{◌≢◌}
use mathlib.Core.Option.{Option, none, some}
use Prim.Native.Nat.{ℕ, ◌<◌}
use native.Mathlib.Omega.{arith}
use lib.Dec.{ltb}
use borrow.Author.Tests.{ltb-true, ltb-false, lt-ltb, not-true}
use Rattle.bedrock.proofs.Choices.{false_unless}
use Rattle.buffer.specs.Bytes.{Bytes, same}
use Rattle.buffer.proofs.Bytes.{same_refl}
use Rattle.kind.specs.Kind.{zero_score}
use Rattle.block.specs.Block.{Row, parts}
use Rattle.block.specs.Log.{at, used, sound}
use Rattle.block.proofs.Used.{at-beyond}
use Rattle.sector_log.specs.Parts.{Lent, one_log}
use Rattle.ledger.specs.Archive.{Effect}
use Rattle.ledger.specs.Ledger.{Ledger, has_all, intact, end, at_settling, Doubtful}
use Rattle.ledger.specs.Reflects.{Reflects}
use Rattle.ledger.specs.History.{Item, given}
use Rattle.ledger.specs.Events.{crash, begun, beginning, log-then, books_then}
use Rattle.ledger.proofs.Covers.{covers_in, hit-not}
use Rattle.ledger.proofs.Intact.{intact_out}
use Rattle.ledger.proofs.Kept.{keep_in}
use Rattle.ledger.proofs.Doubt.{alone_early}
use Rattle.ledger.proofs.Reflects.{used-end, row-sound}
use Rattle.ledger.proofs.Crash.{Pending}
use Rattle.ledger.proofs.Stop.{reflects_stop}
use Rattle.ledger.proofs.Happens.{pending, follows-all}
use Rattle.ledger.proofs.Named.{waiting-is-only as only, torn_is_gone}
use Rattle.ledger.proofs.Aftermath.{stopped, same_start, settled-stays, whole-is-there, torn_is-doubtful, nothing-behind}
use Rattle.demands.specs.Ledger.{covered_by}
use Rattle.demands.specs.Instance.{extent_of, relent, archive}
use Rattle.events.specs.Events as claims
use Rattle.events.specs.Events.{Past, log_then, ledger_then, Unchanged, OnItsWay, torn_ledger, Torn}
use Rattle.demands.proofs.Lawful.{lawful}
use Rattle.demands.proofs.LogLaws.{length-grown, at-grown}
use Rattle.demands.proofs.LentLaws.{blank-behind}
use Rattle.demands.proofs.First.{first-none}
use Rattle.demands.proofs.NewNames.{name_of, adds-new-names}
use Rattle.promises.proofs.Uncovered.{uncovered_at}
use Rattle.promises.proofs.Doubt.{covering}
use Rattle.promises.proofs.Moment.{read-unknown}
use Rattle.events.proofs.Events.{stands, mirrors, to-intact, from-intact}

pub growth_adds-blanks : claims.GrowthAddsBlanks
growth_adds-blanks k log w = (length-grown k log, λ n. at-grown k log n w)

-- ---- what was settled

start-used : (h : Past) → used (log_then h).log ≡ (ledger_then h).start
start-used h = (stands h).waiting.starts

-- an unchanged copy is sound in the log as it stands
stands-sound : (h : Past) (t : ℕ) (s : Bytes) (r : Row) → Unchanged h t s r → sound (one_log (log_then h)) r.first ≡ some r
stands-sound h t s r u = row-sound archive lawful (log_then h) (ledger_then h) (mirrors h) r u.stored (hit-not archive (ledger_then h).changed r u.wholly)

pub torn_keeps-settled : claims.TornKeepsSettled
torn_keeps-settled h q arrived torn lend hurt t s r ok u early = settled-stays archive lawful h q arrived torn lend hurt ok r (stands-sound h t s r u) early

pub stop-keeps-settled : claims.StopKeepsSettled
stop-keeps-settled h lend t s r u early =
    let L = ledger_then h in
    row-sound archive lawful (relent lend (log_then h)) (at_settling archive L) (reflects_stop archive lawful lend (log_then h) L (mirrors h) (stands h).waiting) r
    (keep_in archive (λ x. ltb x.first L.start) L.rows r u.stored (lt-ltb r.first L.start early))
    (hit-not archive L.changed r u.wholly)

pub stop_drops_waiting : claims.StopDropsWaiting
stop_drops_waiting h lend = (blank-behind (log_then h).log lend, start-used h)

pub torn_leaves-nothing : claims.TornLeavesNothing
torn_leaves-nothing h q arrived torn lend hurt ok le n = go (ltb n (used (log_then h).log)) refl
  where
    go : (b : Bool) → ltb n (used (log_then h).log) ≡ b → at (one_log hurt) n ≡ at (log_then h).log n
    go true p =
        let lt = ltb-true n (used (log_then h).log) p in
        (stopped archive lawful h q arrived torn lend hurt ok).settled n (omega (arith, lt, start-used h, same_start archive lawful h q arrived torn lend hurt))
        ∙ sym (alone_early archive lawful lend (log_then h) n lt)
        ∙ blank-behind (log_then h).log lend n
    go false p =
        let ge = ltb-false n (used (log_then h).log) p in
        nothing-behind archive lawful h q arrived torn lend hurt ok n (omega (arith, ge, le)) ∙ sym (at-beyond (log_then h).log n ge)

-- ---- what was on its way

pub whole-is-read : claims.WholeIsThere
whole-is-read h q arrived torn lend hurt r ok way all = whole-is-there archive lawful h q arrived torn lend hurt ok r way all

module _ (h : Past) (q : Option (Item archive)) (arrived torn : List ℕ) (lend : Option ℕ) (hurt : Lent) (ok : Torn h q arrived torn lend hurt) where
  abbrev after : Ledger archive
  after = torn_ledger h q arrived torn

  reflects_after : Reflects archive hurt after
  reflects_after = (follows-all archive lawful (log-then archive h) (books_then archive h) (crash q arrived torn lend hurt ∷ []) (ok, tt) (stands h)).left.mirrors

  under_way : Pending archive (log_then h) (beginning archive (books_then archive h) q)
  under_way = pending archive lawful (log-then archive h) (books_then archive h) (stands h) q ok.0

  module _ (r : Row) (way : OnItsWay h q r) where
    not-zero : r.score ≢ zero_score
    not-zero z = true≢false (sym (same_refl zero_score) ∙ ap (λ (s : Bytes). same s zero_score) (sym z) ∙ not-true (same r.score zero_score) (under_way.owneds r way.0))

    -- the first sector of one that did not arrive whole is in no intact row
    bare : has_all arrived r.first (parts r) ≡ false → r.first < used (one_log hurt) → covered_by (intact archive after) r.first ≡ false
    bare out u = false_unless (covered_by (intact archive after) r.first) (λ c.
        let x = covering (intact archive after) r.first c in
        let p = intact_out archive after.changed after.rows x.0 x.1 in
        true≢false (sym x.2 ∙ doubt.1 x.0.first x.0 (row-sound archive lawful hurt after reflects_after x.0 p.0 p.1)))
      where
        doubt : Doubtful archive hurt r.first
        doubt = torn_is-doubtful archive lawful h q arrived torn lend hurt ok r way out r.first
            (covers_in archive r r.first (omega arith) (omega (arith, lawful.parts_pos r (under_way.valids r way.0)))) u

-- the row that a request adds which was never answered
pub added-is-on_its_way : claims.AddedIsOnItsWay
added-is-on_its_way h q r small-so e =
    let x = extent_of (books_then archive h).begin in
    let new = lawful.tell-adds (ledger_then h) x (given archive (books_then archive h).past q) q.request r small-so e in (
      subst (λ (L : Ledger archive). Memᴰ r L.rows) (sym (ap (λ (a : Effect Row). begun archive a (ledger_then h)) e)) (last_in (ledger_then h).rows),
      omega (arith, (stands h).waiting.before, new.1),
    )
  where
    last_in : (rows : List Row) → Memᴰ r (rows ++ (r ∷ []))
    last_in [] = Memᴰ.head refl
    last_in (x ∷ rows) = Memᴰ.tail (last_in rows)

-- ---- rows by their names: type and score

pub waiting-is-only : claims.WaitingIsOnly
waiting-is-only h r m late =
    let o = only archive lawful name_of adds-new-names h none tt r m late in (
      from-intact h r.kind r.score r o.0 refl refl,
      λ x u. o.1 x (to-intact h r.kind r.score x u) (λ i. (u.of_type i, u.of-score i)),
    )

pub torn_not-known : claims.TornNotKnown
torn_not-known h q arrived torn lend hurt r count m date buffer ok way out u Q =
    let L = torn_ledger h q arrived torn in
    let R = reflects_after h q arrived torn lend hurt ok in
    read-unknown hurt L R r.kind count r.score m date buffer (not-zero h q arrived torn lend hurt ok r way) Q
    (first-none r.kind r.score (intact archive L) (λ x i k s. torn_is_gone archive lawful name_of adds-new-names h q arrived torn lend hurt ok r way out x i (λ j. (k j, s j))))
    (uncovered_at (intact archive L) (end archive L) r.first (omega (arith, u, used-end archive lawful hurt L R)) (bare h q arrived torn lend hurt ok r way out u))
