-- Whatever happens to a log: what it means at each moment. The claims of specs/Events.antt but those of what is torn, stopped and grown.
use mathlib.Core.Path.{◌≡◌, refl, sym, ap, ◌∙◌}
use mathlib.Core.List.{Memᴰ}
use mathlib.Core.Option.{Option, none, some}
use Prim.Native.Nat.{ℕ, ◌+◌, ◌-◌, ◌≤◌, ◌<◌}
use native.Mathlib.Omega.{arith}
use Rattle.buffer.specs.Bytes.{Bytes, zeros}
use Rattle.sha1_digest.specs.Sha1.{sha1_of}
use Rattle.block.specs.Block.{Row}
use Rattle.block.specs.Log.{at, used}
use Rattle.block.proofs.At.{blank-is}
use Rattle.block.proofs.Used.{used_le_sectors}
use Rattle.block.proofs.Joined.{at-log, at-waiting}
use Rattle.sector_log.specs.Parts.{one_log}
use Rattle.ledger.specs.Ledger.{intact, end, told}
use Rattle.ledger.specs.Events.{log-then, books_then}
use Rattle.ledger.proofs.Covers.{hit-none, hit-not}
use Rattle.ledger.proofs.Intact.{intact_in, intact_out, intact_ascends}
use Rattle.ledger.proofs.Steps.{reflects_told}
use Rattle.ledger.proofs.Reflects.{row-sound}
use Rattle.ledger.proofs.Lists.{Stands}
use Rattle.ledger.proofs.Happens.{stands-then}
use Rattle.ledger.proofs.Aftermath.{settled_for_good, as_if_never_written}
use Rattle.demands.specs.Ledger.{first_row}
use Rattle.demands.specs.Instance.{archive}
use Rattle.events.specs.Events as claims
use Rattle.events.specs.Events.{Past, log_then, ledger_then, Unchanged}
use Rattle.demands.proofs.Lawful.{lawful}
use Rattle.demands.proofs.First.{first_in_lem, first-none, first-least}
use Rattle.promises.proofs.Uncovered.{uncovered_at, changed_uncovered}
use Rattle.promises.proofs.Doubt.{cell-none, uncovered_intact}
use Rattle.promises.proofs.Corollaries.{nothing-stored_changes}
use Rattle.promises.proofs.Moment.{read-row, write-row, read-unknown, answers-stored, eleven_covered, twelve_first, then-reads, then-writes}
use Rattle.bedrock.proofs.Choices.{some_same}

pub never_written-over : claims.NeverWrittenOver
never_written-over s m date log buffer k sm D = (nothing-stored_changes s m date log buffer sm).1 k D.0

pub stands : (h : Past) → Stands archive (log-then archive h) (books_then archive h)
stands h = stands-then archive lawful h

pub mirrors : claims.ReflectedThen
mirrors h = (stands h).mirrors

module _ (h : Past) where
  -- an unchanged copy is an intact row, and the other way round
  pub to-intact : (t : ℕ) (s : Bytes) (r : Row) → Unchanged h t s r → Memᴰ r (intact archive (ledger_then h))
  to-intact t s r u = intact_in archive (ledger_then h).changed (ledger_then h).rows r u.stored (hit-not archive (ledger_then h).changed r u.wholly)

  pub from-intact : (t : ℕ) (s : Bytes) (r : Row) → Memᴰ r (intact archive (ledger_then h)) → r.kind ≡ t → r.score ≡ s → Unchanged h t s r
  from-intact t s r m k e =
      let p = intact_out archive (ledger_then h).changed (ledger_then h).rows r m in
      record { stored = p.0; of_type = k; of-score = e; wholly = λ n c. hit-none archive (ledger_then h).changed r n p.1 c }

  pub least : (t : ℕ) (s : Bytes) (y : Row) → Unchanged h t s y → (r : Row) × (first_row t s (intact archive (ledger_then h)) ≡ some r) × (r.first ≤ y.first)
  least t s y u = first-least t s 0 (intact archive (ledger_then h)) y
      (intact_ascends archive (ledger_then h).changed 0 (ledger_then h).rows (λ r m. lawful.parts_pos r ((mirrors h).valids r m)) (mirrors h).apart)
      (to-intact t s y u) u.of_type u.of-score

  none_first : (t : ℕ) (s : Bytes) → ((r : Row) → Unchanged h t s r → ⊥) → first_row t s (intact archive (ledger_then h)) ≡ none
  none_first t s n = first-none t s (intact archive (ledger_then h)) (λ r m k e. n r (from-intact t s r m k e))

-- the first copy of several
module _ (h : Past) (t : ℕ) (s : Bytes) (x : Row) (u : Unchanged h t s x) where
  pub copy : Row
  copy = (least h t s x u).0

  pub copy_first : first_row t s (intact archive (ledger_then h)) ≡ some copy
  unfolding copy
  copy_first = (least h t s x u).1

  pub copy_unchanged : Unchanged h t s copy
  copy_unchanged = let i = first_in_lem t s (intact archive (ledger_then h)) copy copy_first in from-intact h t s copy i.0 i.1 i.2

  pub copy_least : (y : Row) → Unchanged h t s y → copy.first ≤ y.first
  copy_least y v =
      let g = least h t s y v in
      let same_row : copy ≡ g.0 = some_same copy g.0 (sym copy_first ∙ g.1) in
      rw same_row g.2

pub unchanged-is-answered : claims.UnchangedIsAnswered
unchanged-is-answered h t count s m date buffer x z u Q =
    let o = read-row (log_then h) (ledger_then h) (mirrors h) t count s m date buffer (copy h t s x u) z Q (copy_first h t s x u) in
    (copy h t s x u, copy_unchanged h t s x u, copy_least h t s x u, o.0, o.1)

pub unchanged-is-met : claims.UnchangedIsMet
unchanged-is-met h t d m date buffer x z u W =
    let s = sha1_of d in
    let o = write-row (log_then h) (ledger_then h) (mirrors h) t d m date buffer (copy h t s x u) z W (copy_first h t s x u) in
    (copy h t s x u, copy_unchanged h t s x u, copy_least h t s x u, o.0, o.1)

pub others-not-known : claims.OthersNotKnown
others-not-known h t count s m date buffer k z e n Q =
    read-unknown (log_then h) (ledger_then h) (mirrors h) t count s m date buffer z Q (none_first h t s n) (changed_uncovered (ledger_then h) k e)

pub gap_not-known : claims.GapNotKnown
gap_not-known h t count s m date buffer k z e l c n Q = (
  ap zeros ((mirrors h).plain k e ∙ cell-none (ledger_then h).rows k c) ∙ blank-is,
  read-unknown (log_then h) (ledger_then h) (mirrors h) t count s m date buffer z Q (none_first h t s n)
      (uncovered_at (intact archive (ledger_then h)) (end archive (ledger_then h)) k l (uncovered_intact (ledger_then h).changed (ledger_then h).rows k c)),
)

pub healed_is-intact : claims.HealedIsIntact
healed_is-intact h cs hurt r ok m f =
    let L = ledger_then h in
    let D = rw (← (stands h).size) at ok.1 in
    row-sound archive lawful hurt (told archive cs L) (reflects_told archive lawful (log_then h) L cs hurt (mirrors h) D) r m (hit-not archive cs r f)

pub answers_are_unchanged : claims.AnswersAreUnchanged
answers_are_unchanged h t count s m date buffer Q z n =
    let a = answers-stored (log_then h) (ledger_then h) (mirrors h) t count s m date buffer Q z n in
    (a.0, from-intact h t s a.0 a.1 a.2 a.3, a.4)

pub stored-then-reads_back : claims.StoredThenReadsBack
stored-then-reads_back h t d m date buffer sm W answered past qs b = then-reads (log_then h) (ledger_then h) (mirrors h) (stands h).waiting t d m date buffer sm W answered past qs b

pub duplicate_then-adds-nothing : claims.DuplicateThenAddsNothing
duplicate_then-adds-nothing h t d m date buffer sm W answered past qs b = then-writes (log_then h) (ledger_then h) (mirrors h) (stands h).waiting t d m date buffer sm W answered past qs b

pub twelve_then-tells : claims.TwelveThenTells
twelve_then-tells h = twelve_first (log_then h) (ledger_then h) (mirrors h)

pub eleven_then-covered : claims.ElevenThenCovered
eleven_then-covered h = eleven_covered (log_then h) (ledger_then h) (mirrors h)

pub settled-is_for_good : claims.SettledIsForGood
settled-is_for_good = settled_for_good archive lawful

pub torn_leaves_no_row : claims.TornLeavesNoRow
torn_leaves_no_row = as_if_never_written archive lawful

-- a sector of the log alone, and one of the waiting part, in both read as one
front : (log : Bytes) (o : Option Bytes) (n : ℕ) → n < used log → at log n ≡ at (one_log (record { log = log; waiting = o })) n
front log none n h = refl
front log (some w) n h = sym (at-log (used log) log w (used_le_sectors log) n h)

behind : (log : Bytes) (o : Option Bytes) (w : Bytes) (n : ℕ) → o ≡ some w → at w n ≡ at (one_log (record { log = log; waiting = o })) (used log + n)
behind log o w n e =
    let k : used log + n - used log ≡ n = omega arith in
    ap (at w) (sym k) ∙ sym (at-waiting (used log) log w (used_le_sectors log) (used log + n) (omega arith))
    ∙ ap (λ (x : Option Bytes). at (one_log (record { log = log; waiting = x })) (used log + n)) (sym e)

pub parts_hold : claims.PartsHold
parts_hold h n =
    let L = log_then h in
    let starts = (stands h).waiting.starts in (
      λ before same. front L.log L.waiting n (omega (arith, starts, before)) ∙ (mirrors h).plain n same,
      λ w e same. behind L.log L.waiting w n e ∙ ap (λ (k : ℕ). at (one_log L) (k + n)) starts ∙ (mirrors h).plain ((ledger_then h).start + n) same,
    )
