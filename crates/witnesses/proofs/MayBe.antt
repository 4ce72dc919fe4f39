-- What may happen: at any moment of any history any sector may be damaged or zeroed, any write torn; and damage may come again.
use mathlib.Core.Path.{◌≡◌, refl, sym, ap, ◌∙◌}
use mathlib.Core.Bool.{Bool, true, false, cond, true≢false}
use mathlib.Core.List.{List, [], ◌∷◌, ◌++◌, map}
use mathlib.Core.Option.{Option, none}
use Prim.Native.Nat.{ℕ, zero, suc, ◌-◌, ◌≤◌, ◌<◌}
use native.Mathlib.Omega.{arith}
use lib.Dec.{eqb}
use lib.ListN.{length}
use borrow.Author.Tests.{eqb-true, eq-eqb, ne_eqb}
use Rattle.bedrock.proofs.Choices.{false_unless}
use Rattle.buffer.specs.Bytes.{Bytes, zeros}
use Rattle.sector.specs.Sector.{fits, blank}
use Rattle.sector.proofs.Unfit.{zeros-unfit}
use Rattle.block.specs.Block.{Row, image}
use Rattle.block.specs.Log.{sectors, at, used}
use Rattle.block.proofs.At.{length-blank, blank-is}
use Rattle.block.proofs.Used.{lt_used, used_le_sectors, at-used}
use Rattle.sector_log.specs.Parts.{Lent, one_log}
use Rattle.ledger.specs.Ledger.{Ledger, has, covers, NoneWaits}
use Rattle.ledger.specs.Reflects.{cell}
use Rattle.ledger.specs.Trace.{trace, Along}
use Rattle.ledger.specs.History.{Item, AllOfBytes, Damage, Standing, Books, recount, blank-log, blank_books}
use Rattle.ledger.specs.Events.{Event, ask, harm, crash, happen, recount_event, beginning, SomeOfBytes, Possible, Damaging, Writing, Crash, log-then, books_then}
use Rattle.ledger.specs.Aftermath.{Hits}
use Rattle.ledger.proofs.Covers.{covers-reads}
use Rattle.ledger.proofs.Ends.{end_row, end-changed}
use Rattle.ledger.proofs.Cells.{cell_in}
use Rattle.ledger.proofs.Trace.{along_append}
use Rattle.ledger.proofs.Doubt.{used-within, alone_early, alone_late}
use Rattle.ledger.proofs.Steps.{none-waits}
use Rattle.ledger.proofs.Harm.{damage_zeroing, zeroing_harm}
use Rattle.ledger.proofs.Crash.{Pending}
use Rattle.ledger.proofs.Lists.{Stands, changed-after}
use Rattle.ledger.proofs.Happens.{pending, begins-blank, follows-all}
use Rattle.ledger.proofs.Asks.{recount-left, possible-asks}
use Rattle.ledger.proofs.Aftermath.{hits_may_happen, same_start}
use Rattle.demands.specs.Ledger.{Extent}
use Rattle.demands.specs.Instance.{extent_of, blank_part, relent, archive}
use Rattle.promises.specs.Histories.{NothingWaits}
use Rattle.witnesses.specs.CanBe as claims
use Rattle.events.specs.Events.{Past, log_then, ledger_then, OnItsWay}
use Rattle.demands.proofs.LentLaws.{length-blank as length-blank-part, blank-behind, start-alone, start_none}
use Rattle.demands.proofs.Lawful.{lawful}
use Rattle.witnesses.proofs.Splice.{splice, length_splice, spread, length_spread, at_spread, with_log, rests_with, extent_with, at_spliced, at_spread_with}
use Rattle.witnesses.proofs.Hurts.{marred, length_marred, marred_unfit, marred_used, only, not-only, damage-none, damage-one, length-cell, cell-sound}
use Rattle.events.proofs.Events.{stands, mirrors}

-- where nothing waits in the log nothing does in the ledger
pub idle : (s : Standing archive) (b : Books archive) → Stands archive s b → NothingWaits s.log → NoneWaits archive b.ledger
idle s b S e = none-waits archive lawful s.log b.ledger S.mirrors S.waiting e

-- ---- one sector

module _ (h : Past) (rests : NothingWaits (log_then h)) (n : ℕ) (bytes : Bytes) (l : length bytes ≡ 512) (bad : fits bytes ≡ false)
    (inside : n < sectors (length (log_then h).log)) where
  abbrev spoilt : Lent
  spoilt = with_log (splice n bytes (log_then h).log) (log_then h)

  here : (k : ℕ) → at (one_log spoilt) k ≡ cond (eqb k n) bytes (at (one_log (log_then h)) k)
  here k = at_spliced (log_then h) rests n bytes inside l k

  this : (k : ℕ) → eqb k n ≡ true → at (one_log spoilt) k ≡ bytes
  this k e = here k ∙ rw e

  other : (k : ℕ) → eqb k n ≡ false → at (one_log spoilt) k ≡ at (one_log (log_then h)) k
  other k e = here k ∙ rw e

  -- if the used part reaches as far as it did, and over that sector, it may happen
  spoils : n < used (one_log spoilt) → used (one_log (log_then h)) ≤ used (one_log spoilt) → Possible archive (books_then archive h) (harm (n ∷ (ledger_then h).changed) spoilt)
  spoils u v = hits_may_happen archive lawful h (n ∷ []) spoilt (idle (log-then archive h) (books_then archive h) (stands h) rests) hits
    where
      either : (k : ℕ) → (b : Bool) → eqb k n ≡ b → has k (n ∷ (ledger_then h).changed) ≡ true → k < used (one_log spoilt)
      either k true q e = rw (eqb-true k n q) u
      either k false q e = omega (arith, v, ((mirrors h).doubt k (rw q at e)).0)

      hits : Hits archive (log_then h) (ledger_then h) (n ∷ []) spoilt
      hits = record {
        size = extent_with (log_then h) rests (splice n bytes (log_then h).log) (length_splice n bytes (log_then h).log inside l);
        inside = λ k e. rw (only n k e) inside;
        others = λ k e. other k (not-only n k e);
        unfit = λ k e. ap fits (this k (eq-eqb k n (only n k e))) ∙ bad;
        within-used = λ k e. either k (eqb k n) refl e;
        none-waits = rests_with (log_then h) rests (splice n bytes (log_then h).log);
      }

pub any_sector_may_be_hurt : claims.AnySectorMayBeHurt
any_sector_may_be_hurt h n rests inside =
    let hurt = spoilt h rests n marred length_marred marred_unfit inside in
    let m : zeros (at (one_log hurt) n) ≡ false = ap zeros (this h rests n marred length_marred marred_unfit inside n (eq-eqb n n refl)) ∙ marred_used in
    (hurt, m, spoils h rests n marred length_marred marred_unfit inside (lt_used (one_log hurt) n m) (used-within archive lawful (log_then h) hurt (λ k q. stays k q (eqb k n) refl)))
  where
    stays : (k : ℕ) → zeros (at (one_log (log_then h)) k) ≡ false → (b : Bool) → eqb k n ≡ b
        → zeros (at (one_log (spoilt h rests n marred length_marred marred_unfit inside)) k) ≡ false
    stays k q true e = ap zeros (this h rests n marred length_marred marred_unfit inside k e) ∙ marred_used
    stays k q false e = ap zeros (other h rests n marred length_marred marred_unfit inside k e) ∙ q

pub any_sector_may_be_zeroed : claims.AnySectorMayBeZeroed
any_sector_may_be_zeroed h n rests lt =
    let far = reach (used (one_log (log_then h))) refl in
    (left, ap zeros (this h rests n blank length-blank bad inside n (eq-eqb n n refl)) ∙ blank-is, spoils h rests n blank length-blank bad inside (omega (arith, lt, far)) far)
  where
    inside : n < sectors (length (log_then h).log)
    inside = omega (arith, lt, rests, used_le_sectors (log_then h).log)

    bad : fits blank ≡ false
    bad = zeros-unfit blank blank-is

    left : Lent
    left = spoilt h rests n blank length-blank bad inside

    -- the last sector of the used part stays
    reach : (u : ℕ) → used (one_log (log_then h)) ≡ u → used (one_log (log_then h)) ≤ used (one_log left)
    reach zero e = omega (arith, e)
    reach (suc k) e =
        let kept = other h rests n blank length-blank bad inside k (ne_eqb k n (λ z. omega (arith, e, lt, z))) in
        omega (arith, e, lt_used (one_log left) k (ap zeros kept ∙ at-used (one_log (log_then h)) k e))

-- ---- a write or a sync that is torn

module _ (h : Past) (q : Option (Item archive)) (arrived torn : List ℕ) (lend : Option ℕ) (ok : SomeOfBytes archive q)
    (a : (n : ℕ) → has n arrived ≡ true → (r : Row) × OnItsWay h q r × (covers archive r n ≡ true))
    (b : (n : ℕ) → has n torn ≡ true → (r : Row) × OnItsWay h q r × (covers archive r n ≡ true))
    (apart : (n : ℕ) → has n torn ≡ true → has n arrived ≡ false) where
  -- the ledger with what was on its way
  abbrev begun_so : Ledger archive
  begun_so = beginning archive (books_then archive h) q

  fits_so : Pending archive (log_then h) begun_so
  fits_so = pending archive lawful (log-then archive h) (books_then archive h) (stands h) q ok

  same_place : begun_so.start ≡ (ledger_then h).start
  same_place = same_start archive lawful h q arrived torn lend (log_then h)

  -- a sector on its way stands behind what was settled, and inside the log
  on_way : (cs : List ℕ) → ((n : ℕ) → has n cs ≡ true → (r : Row) × OnItsWay h q r × (covers archive r n ≡ true))
      → (n : ℕ) → has n cs ≡ true → (begun_so.start ≤ n) × (n < sectors (length (log_then h).log))
  on_way cs f n c =
      let w = f n c in
      let p = covers-reads archive w.0 n w.2 in
      (omega (arith, w.1.1, p.0, same_place), omega (arith, p.1, fits_so.room, end_row archive begun_so.rows w.0 w.1.0))

  -- the sectors that arrived, and over them the torn ones
  part : ℕ → Bytes
  part n = cell archive begun_so.rows n

  length_part : (n : ℕ) → length (part n) ≡ 512
  unfolding part
  length_part n = length-cell begun_so.rows fits_so.valids n

  with_arrived : Bytes
  with_arrived = spread part arrived (log_then h).log

  same_length : length with_arrived ≡ length (log_then h).log
  unfolding with_arrived
  same_length = length_spread part length_part (log_then h).log arrived (λ n c. (on_way arrived a n c).1)

  torn_inside : (n : ℕ) → has n torn ≡ true → n < sectors (length with_arrived)
  torn_inside n c = omega (arith, (on_way torn b n c).1, same_length)

  pub disk : Lent
  disk = record { log = spread (λ _. marred) torn with_arrived; waiting = blank_part lend }

  at_disk : (n : ℕ) → at (one_log disk) n ≡ cond (has n torn) marred (cond (has n arrived) (part n) (at (one_log (relent lend (log_then h))) n))
  unfolding disk with_arrived
  at_disk n =
      blank-behind (spread (λ _. marred) torn with_arrived) lend n
      ∙ at_spread (λ _. marred) (λ _. length_marred) with_arrived torn torn_inside n
      ∙ ap (λ (s : Bytes). cond (has n torn) marred s) (at_spread part length_part (log_then h).log arrived (λ k c. (on_way arrived a k c).1) n
      ∙ ap (λ (s : Bytes). cond (has n arrived) (part n) s) (sym (blank-behind (log_then h).log lend n)))

  is_torn : (n : ℕ) → has n torn ≡ true → at (one_log disk) n ≡ marred
  is_torn n t = at_disk n ∙ rw t

  has_arrived : (n : ℕ) → has n torn ≡ false → has n arrived ≡ true → at (one_log disk) n ≡ part n
  has_arrived n t c = at_disk n ∙ rw (t, c)

  is-left : (n : ℕ) → has n torn ≡ false → has n arrived ≡ false → at (one_log disk) n ≡ at (one_log (relent lend (log_then h))) n
  is-left n t c = at_disk n ∙ rw (t, c)

  not_in : (cs : List ℕ) → ((n : ℕ) → has n cs ≡ true → (r : Row) × OnItsWay h q r × (covers archive r n ≡ true)) → (n : ℕ) → n < begun_so.start → has n cs ≡ false
  not_in cs f n lt = false_unless (has n cs) (λ c. omega (arith, lt, (on_way cs f n c).0))

  not_torn : (n : ℕ) → has n arrived ≡ true → has n torn ≡ false
  not_torn n c = false_unless (has n torn) (λ t. true≢false (sym c ∙ apart n t))

  -- a sector on its way was being written
  writing : (n : ℕ) → (w : (r : Row) × OnItsWay h q r × (covers archive r n ≡ true)) → Writing archive begun_so w.0 n
  writing n w = (w.1.0, omega (arith, w.1.1, same_place), w.2)

  as_written : (n : ℕ) → (w : (r : Row) × OnItsWay h q r × (covers archive r n ≡ true)) → part n ≡ image w.0 (n - w.0.first)
  unfolding part
  as_written n w = cell_in archive 0 begun_so.rows w.0 n fits_so.apart w.1.0 w.2

  same_size : extent_of disk ≡ record { size = length (log_then h).log; waiting = lend }
  unfolding disk
  same_size =
      let e = length_spread (λ _. marred) (λ _. length_marred) with_arrived torn torn_inside ∙ same_length in
      λ i. record { size = e i; waiting = length-blank-part lend i }

  rests_so : NothingWaits disk
  unfolding disk
  rests_so = start-alone lend (record { log = spread (λ _. marred) torn with_arrived; waiting = none })

  crashes : Crash archive (log_then h) begun_so arrived torn lend disk
  crashes = record {
    size = same_size;
    settled = λ n lt. is-left n (not_in torn b n lt) (not_in arrived a n lt) ∙ alone_early archive lawful lend (log_then h) n (omega (arith, lt, fits_so.starts));
    arrived_whole = λ n c. ((a n c).0, writing n (a n c), has_arrived n (not_torn n c) c ∙ as_written n (a n c));
    broken = λ n t. ((b n t).0, writing n (b n t), ap fits (is_torn n t) ∙ marred_unfit, ap zeros (is_torn n t) ∙ marred_used);
    still = λ n ge c t. is-left n t c ∙ alone_late archive lawful lend (log_then h) n (omega (arith, ge, fits_so.starts));
    none-waits = rests_so;
  }

  pub tears : Possible archive (books_then archive h) (crash q arrived torn lend disk)
  tears = (ok, rw (← (stands h).since) crashes)

pub any_write_may_be_torn : claims.AnyWriteMayBeTorn
any_write_may_be_torn h q arrived torn lend ok a b apart = (disk h q arrived torn lend ok a b apart, tears h q arrived torn lend ok a b apart)

-- ---- damage that comes again

abbrev alone_of : ℕ → Extent
alone_of size = record { size = size; waiting = none }

-- where the archive and the ledger stand, on a log of this length for which no waiting part is lent
record Stage (size : ℕ) (s : Standing archive) (b : Books archive) : Type 0 where
  stand : Stands archive s b
  long : extent_of b.begin ≡ alone_of size

abbrev Allowed : Books archive → Event archive → Type 0
Allowed = Damaging archive (Damage archive)

allowed-asks : (c : Books archive) (qs : List (Item archive)) → AllOfBytes archive qs → Along Allowed (recount_event archive) c (map ask qs)
allowed-asks c [] ok = tt
allowed-asks c (q ∷ qs) ok = (ok.0, allowed-asks (recount archive c q).state qs ok.1)

module _ (size : ℕ) (s : Standing archive) (b : Books archive) (T : Stage size s b) where
  -- nothing waits
  rests : NothingWaits s.log
  rests = start_none s.log.log s.log.waiting (ap archive.waits (T.stand.size ∙ T.long))

  -- requests go on
  after-asks : (qs : List (Item archive)) → AllOfBytes archive qs → Stage size (trace (happen archive) s (map ask qs)).left (trace (recount_event archive) b (map ask qs)).left
  after-asks qs ok = record {
    stand = (follows-all archive lawful s b (map ask qs) (possible-asks archive b qs ok) T.stand).left;
    long = ap (λ (c : Books archive). extent_of c.begin) (recount-left archive b qs) ∙ ap extent_of (changed-after archive b qs ok).1 ∙ T.long;
  }

  after-harm : (cs : List ℕ) (hurt : Lent) → Damage archive (cell archive b.ledger.rows) (extent_of b.begin) cs hurt
      → Stage size (happen archive s (harm cs hurt)).state (recount_event archive b (harm cs hurt)).state
  after-harm cs hurt D =
      let x = extent_of b.begin in
      let rows = b.ledger.rows in
      let H = zeroing_harm archive lawful rows x cs hurt T.stand.mirrors.valids (damage_zeroing archive lawful (cell archive rows) x cs hurt D) in
      record {
        stand = (follows-all archive lawful s b (harm cs hurt ∷ []) ((idle s b T.stand rests, H), tt) T.stand).left;
        long = D.size ∙ T.long;
      }

  -- the log with every changed sector as the archive last wrote it
  mended : Lent
  mended = with_log (spread (cell archive b.ledger.rows) b.ledger.changed s.log.log) s.log

  changed-inside : (k : ℕ) → has k b.ledger.changed ≡ true → k < sectors (length s.log.log)
  changed-inside k e = omega (arith, T.stand.mirrors.room, end-changed archive b.ledger.changed k e)

  cells : (k : ℕ) → length (cell archive b.ledger.rows k) ≡ 512
  cells = length-cell b.ledger.rows T.stand.mirrors.valids

  size_mended : extent_of mended ≡ extent_of b.begin
  unfolding mended
  size_mended =
      extent_with s.log rests (spread (cell archive b.ledger.rows) b.ledger.changed s.log.log)
      (length_spread (cell archive b.ledger.rows) cells s.log.log b.ledger.changed changed-inside)
      ∙ T.stand.size

  rests_mended : NothingWaits mended
  unfolding mended
  rests_mended = rests_with s.log rests (spread (cell archive b.ledger.rows) b.ledger.changed s.log.log)

  at_mended : (k : ℕ) → at (one_log mended) k ≡ cell archive b.ledger.rows k
  unfolding mended
  at_mended k = at_spread_with s.log rests (cell archive b.ledger.rows) cells b.ledger.changed changed-inside k ∙ go (has k b.ledger.changed) refl
    where
      go : (t : Bool) → has k b.ledger.changed ≡ t
          → cond (has k b.ledger.changed) (cell archive b.ledger.rows k) (at (one_log s.log) k) ≡ cell archive b.ledger.rows k
      go true q = rw q
      go false q = rw q (T.stand.mirrors.plain k q)

  heals : Damage archive (cell archive b.ledger.rows) (extent_of b.begin) [] mended
  heals = damage-none (cell archive b.ledger.rows) (extent_of b.begin) mended size_mended at_mended rests_mended

  abbrev marred_at : ℕ → Lent
  marred_at n = with_log (splice n marred mended.log) mended

  hurts : (n : ℕ) → n < sectors size → Damage archive (cell archive b.ledger.rows) (extent_of b.begin) (n ∷ []) (marred_at n)
  hurts n h = damage-one (cell archive b.ledger.rows) (extent_of b.begin) mended size_mended at_mended rests_mended n
      (omega (arith, h, ap (λ (x : Extent). x.size) T.long)) (cell-sound b.ledger.rows T.stand.mirrors.valids n)

pub damage_comes_again : claims.DamageComesAgain
damage_comes_again size i j before between later b₁ b₂ b₃ hi hj = (hurt, healed, again, all)
  where
    blank_stage : Stage size (blank-log archive (alone_of size)) (blank_books archive (alone_of size))
    blank_stage = record { stand = begins-blank archive lawful (alone_of size); long = lawful.extent-void (alone_of size) }

    -- after the first list, and after its damage
    s₁ : Standing archive
    s₁ = (trace (happen archive) (blank-log archive (alone_of size)) (map ask before)).left

    c₁ : Books archive
    c₁ = (trace (recount_event archive) (blank_books archive (alone_of size)) (map ask before)).left

    t₁ : Stage size s₁ c₁
    t₁ = after-asks size (blank-log archive (alone_of size)) (blank_books archive (alone_of size)) blank_stage before b₁

    hurt : Lent
    hurt = marred_at size s₁ c₁ t₁ i

    d₁ : Damage archive (cell archive c₁.ledger.rows) (extent_of c₁.begin) (i ∷ []) hurt
    d₁ = hurts size s₁ c₁ t₁ i hi

    -- after the second list, and when all is healed
    s₂ : Standing archive
    s₂ = (trace (happen archive) (happen archive s₁ (harm (i ∷ []) hurt)).state (map ask between)).left

    c₂ : Books archive
    c₂ = (trace (recount_event archive) (recount_event archive c₁ (harm (i ∷ []) hurt)).state (map ask between)).left

    t₂ : Stage size s₂ c₂
    t₂ = after-asks size (happen archive s₁ (harm (i ∷ []) hurt)).state (recount_event archive c₁ (harm (i ∷ []) hurt)).state (after-harm size s₁ c₁ t₁ (i ∷ []) hurt d₁) between b₂

    healed : Lent
    healed = mended size s₂ c₂ t₂

    d₂ : Damage archive (cell archive c₂.ledger.rows) (extent_of c₂.begin) [] healed
    d₂ = heals size s₂ c₂ t₂

    -- after the third list, and after its damage
    s₃ : Standing archive
    s₃ = (trace (happen archive) (happen archive s₂ (harm [] healed)).state (map ask later)).left

    c₃ : Books archive
    c₃ = (trace (recount_event archive) (recount_event archive c₂ (harm [] healed)).state (map ask later)).left

    t₃ : Stage size s₃ c₃
    t₃ = after-asks size (happen archive s₂ (harm [] healed)).state (recount_event archive c₂ (harm [] healed)).state (after-harm size s₂ c₂ t₂ [] healed d₂) later b₃

    again : Lent
    again = marred_at size s₃ c₃ t₃ j

    all : Along Allowed (recount_event archive) (blank_books archive (alone_of size))
        (map ask before ++ (harm (i ∷ []) hurt ∷ (map ask between ++ (harm [] healed ∷ (map ask later ++ (harm (j ∷ []) again ∷ []))))))
    all =
        along_append (recount_event archive) Allowed (blank_books archive (alone_of size)) (map ask before) _ (allowed-asks (blank_books archive (alone_of size)) before b₁) (
          (idle s₁ c₁ t₁.stand (rests size s₁ c₁ t₁), d₁),
          along_append (recount_event archive) Allowed (recount_event archive c₁ (harm (i ∷ []) hurt)).state (map ask between) _
              (allowed-asks (recount_event archive c₁ (harm (i ∷ []) hurt)).state between b₂) (
                (idle s₂ c₂ t₂.stand (rests size s₂ c₂ t₂), d₂),
                along_append (recount_event archive) Allowed (recount_event archive c₂ (harm [] healed)).state (map ask later) _
                    (allowed-asks (recount_event archive c₂ (harm [] healed)).state later b₃)
                    ((idle s₃ c₃ t₃.stand (rests size s₃ c₃ t₃), hurts size s₃ c₃ t₃ j hj), tt),
              ),
        )
