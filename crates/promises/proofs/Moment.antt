-- At any moment: on a log that reflects a ledger, what is stored reads back, what is read is stored, what is not found is 12 or 11 by the ledger.
use mathlib.Core.Path.{◌≡◌, refl, sym, ap, ◌∙◌}
use mathlib.Core.Bool.{Bool, true, false, not}
use mathlib.Core.List.{List, [], Memᴰ}
use mathlib.Core.Logic.{◌≢◌}
use mathlib.Core.Option.{Option, none, some}
use Prim.Native.Nat.{ℕ, ◌≤◌, ◌<◌}
use native.Mathlib.Omega.{arith}
use lib.Dec.{ltb, eqb}
use lib.ListN.{length}
use borrow.Author.Tests.{ltb-false, lt-ltb, le-ltb, eq-eqb, not-true}
use Rattle.bedrock.proofs.Choices.{cond_ind}
use Rattle.buffer.specs.Bytes.{Bytes}
use Rattle.buffer.proofs.Bytes.{same_false}
use Rattle.digits.specs.Number.{small}
use Rattle.sha1_digest.specs.Sha1.{sha1_of}
use Rattle.refusal.specs.Number.{number_of}
use Rattle.refusal.specs.declared.Refusal.{Refusal}
use Rattle.refusal.specs.declared.Refusal.TheVariants.{NotHeld, NotKnown, OverCount, Clash}
use Rattle.message.specs.Message.{tag_of}
use Rattle.message.specs.Reply.{read_reply, write_reply}
use Rattle.kind.specs.Kind.{zero_score}
use Rattle.block.specs.Block.{Row}
use Rattle.block.specs.Log.{used}
use Rattle.sector_log.specs.LookUp as look
use Rattle.sector_log.specs.Parts.{Lent, one_log}
use Rattle.sector_log.specs.Store as stores
use Rattle.request.specs.Step.{Outcome, date_of, step, granted, refused}
use Rattle.request.specs.declared.Session.{Session}
use Rattle.request.specs.declared.Session.TheVariants.{Greeted}
use Rattle.ledger.specs.Ledger.{Ledger, intact, end, next}
use Rattle.ledger.specs.Reflects.{Reflects, Waits}
use Rattle.ledger.specs.Trace.{trace}
use Rattle.ledger.specs.History.{Item, AllOfBytes, Standing, answer, Books, recount}
use Rattle.ledger.proofs.Trace.{Agree}
use Rattle.ledger.proofs.Steps.{serve-tell, reflects_serve, waits-serve}
use Rattle.ledger.proofs.Lists.{Stands, begins, follows}
use Rattle.demands.specs.Ledger.{Asked, any_uncovered, first_uncovered, absent, first_row, tell}
use Rattle.demands.specs.Instance.{extent_of, archive}
use Rattle.promises.specs.Requests.{Writes, Reads}
use Rattle.promises.specs.Histories.{afterwards}
use Rattle.promises.specs.Corollaries.{AtMostOne, alike, adds, settles}
use Rattle.demands.proofs.LookUp.{outside-none}
use Rattle.demands.proofs.First.{first_in_lem}
use Rattle.demands.proofs.Seen.{given, stored_as, kept, held_other, absence-is}
use Rattle.demands.proofs.Lawful.{lawful as laws}
use Rattle.promises.proofs.Greeted.{write_step, read_step}
use Rattle.promises.proofs.Dates.{date-is_no_identity}
use Rattle.promises.proofs.Outcomes.{appends_at-most-one}
use Rattle.promises.proofs.Known.{Known, known-told, known-after}
use Rattle.promises.proofs.Reflected.{mirrored, known-reads, known-writes}
use Rattle.promises.proofs.Twelve.{step-told}

-- ---- any log

-- a read that is answered found a block not longer than the count
pub read_found_lem : (t count : ℕ) (s m : Bytes) (date : Option Bytes) (log : Lent) (buffer : Bytes)
    → Reads m date buffer log t count s → (step Greeted m date log buffer).number ≡ 0
    → (r : Row) × (look.held (one_log log) t s ≡ some r) × (length r.bytes ≤ count) × (step Greeted m date log buffer ≡ granted (read_reply (tag_of m) r.bytes) Greeted log buffer)
unfolding look.absence
read_found_lem t count s m date log buffer Q n = go (look.held (one_log log) t s) refl (ap (λ (o : Outcome). o.number) (sym (read_step m date buffer log t count s Q)) ∙ n)
  where
    Found : Type 0
    Found = (r : Row) × (look.held (one_log log) t s ≡ some r) × (length r.bytes ≤ count) × (step Greeted m date log buffer ≡ granted (read_reply (tag_of m) r.bytes) Greeted log buffer)

    short : (r : Row) → look.held (one_log log) t s ≡ some r → (b : Bool) → ltb count (length r.bytes) ≡ b → (given log m buffer count (some r)).number ≡ 0 → Found
    short r e true q z = absurd (let w : ◌≡◌ {A = ℕ} 13 0 = rw q at z in omega arith)
    short r e false q z = (r, e, ltb-false count (length r.bytes) q, read_step m date buffer log t count s Q ∙ ap (given log m buffer count) e ∙ rw q)

    go : (o : Option Row) → look.held (one_log log) t s ≡ o → (given log m buffer count o).number ≡ 0 → Found
    go none e z =
        let k = look.first_doubtful (one_log log) in
        absurd (cond_ind (λ w. number_of w ≡ 0 → ⊥) (eqb (look.doubtful (one_log log)) 0) NotHeld (NotKnown (record { 0 = k })) (λ _ x. omega arith) (λ _ x. omega arith) z)
    go (some r) e z = short r e (ltb count (length r.bytes)) refl z

-- 11 is answered only where no sector is doubtful
not-held-none-doubtful : (s : Session) (m : Bytes) (date : Option Bytes) (log : Lent) (buffer : Bytes) → small m ≡ true
    → (step s m date log buffer).number ≡ 11 → look.doubtful (one_log log) ≡ 0
not-held-none-doubtful s m date log buffer sm = go (step s m date log buffer) (appends_at-most-one s m date log buffer sm)
  where
    go : (o : Outcome) → AtMostOne log o → o.number ≡ 11 → look.doubtful (one_log log) ≡ 0
    go o (alike e n) q = n q
    go o (adds r e n v f room) q = absurd (omega arith)
    go o (settles e n f) q = absurd (omega arith)

-- ---- a log that reflects a ledger

module _ (log : Lent) (L : Ledger archive) (R : Reflects archive log L) where
  -- "not known", with the ledger's first uncovered sector
  abbrev pub unknown : Refusal
  unknown = NotKnown (record { 0 = first_uncovered (intact archive L) (end archive L) 0 })

  -- what look-up finds, of another score than the empty block's
  pub held-row : (t : ℕ) (s : Bytes) → s ≢ zero_score → look.held (one_log log) t s ≡ first_row t s (intact archive L)
  held-row t s z = held_other (one_log log) (intact archive L) (end archive L) (mirrored log L R) t s (same_false s zero_score z)

  pub read-row : (t count : ℕ) (s m : Bytes) (date : Option Bytes) (buffer : Bytes) (r : Row) → s ≢ zero_score
      → Reads m date buffer log t count s → first_row t s (intact archive L) ≡ some r
      → (length r.bytes ≤ count → step Greeted m date log buffer ≡ granted (read_reply (tag_of m) r.bytes) Greeted log buffer)
      × (count < length r.bytes → step Greeted m date log buffer ≡ refused OverCount (tag_of m) Greeted log buffer)
  read-row t count s m date buffer r z Q e =
      let o = read_step m date buffer log t count s Q ∙ ap (given log m buffer count) (held-row t s z ∙ e) in
      (λ h. o ∙ rw (le-ltb count (length r.bytes) h), λ h. o ∙ rw (lt-ltb count (length r.bytes) h))

  pub write-row : (t : ℕ) (d m : Bytes) (date : Option Bytes) (buffer : Bytes) (r : Row) → sha1_of d ≢ zero_score
      → Writes m date buffer log t d → first_row t (sha1_of d) (intact archive L) ≡ some r
      → (r.bytes ≡ d → step Greeted m date log buffer ≡ granted (write_reply (tag_of m) (sha1_of d)) Greeted log buffer)
      × (r.bytes ≢ d → step Greeted m date log buffer ≡ refused Clash (tag_of m) Greeted log buffer)
  unfolding stores.store
  write-row t d m date buffer r z W e =
      let o = write_step m date buffer log t d W ∙ ap (λ x. kept m buffer (stored_as log (date_of date) t d x)) (held-row t (sha1_of d) z ∙ e) in
      (λ h. date-is_no_identity t d m date log buffer r (held-row t (sha1_of d) z ∙ e) h W, λ h. o ∙ rw (same_false r.bytes d h))

  pub read-unknown : (t count : ℕ) (s m : Bytes) (date : Option Bytes) (buffer : Bytes) → s ≢ zero_score
      → Reads m date buffer log t count s → first_row t s (intact archive L) ≡ none
      → any_uncovered (intact archive L) (end archive L) ≡ true → step Greeted m date log buffer ≡ refused unknown (tag_of m) Greeted log buffer
  read-unknown t count s m date buffer z Q e u =
      read_step m date buffer log t count s Q
      ∙ rw (held-row t s z ∙ e, absence-is (one_log log) (intact archive L) (end archive L) (mirrored log L R), u)

  pub answers-stored : (t count : ℕ) (s m : Bytes) (date : Option Bytes) (buffer : Bytes) → Reads m date buffer log t count s
      → s ≢ zero_score → (step Greeted m date log buffer).number ≡ 0
      → (r : Row) × Memᴰ r (intact archive L) × (r.kind ≡ t) × (r.score ≡ s) × (step Greeted m date log buffer ≡ granted (read_reply (tag_of m) r.bytes) Greeted log buffer)
  answers-stored t count s m date buffer Q z n =
      let f = read_found_lem t count s m date log buffer Q n in
      let i = first_in_lem t s (intact archive L) f.0 (sym (held-row t s z) ∙ f.1) in
      (f.0, i.0, i.1, i.2, f.3)

  pub eleven_covered : (s : Session) (m : Bytes) (date : Option Bytes) (buffer : Bytes) → small m ≡ true
      → (step s m date log buffer).number ≡ 11 → any_uncovered (intact archive L) (end archive L) ≡ false
  unfolding look.doubtful
  eleven_covered s m date buffer sm n = not-true (any_uncovered (intact archive L) (end archive L)) none_open
    where
      none_open : not (any_uncovered (intact archive L) (end archive L)) ≡ true
      none_open =
          let M = mirrored log L R in
          rw (← M.blocks, ← M.ends)
          (sym (outside-none (look.blocks (one_log log)) (used (one_log log))) ∙ eq-eqb (look.doubtful (one_log log)) 0 (not-held-none-doubtful s m date log buffer sm n))

  pub twelve_first : (s : Session) (m : Bytes) (date : Option Bytes) (buffer : Bytes) → (step s m date log buffer).number ≡ 12
      → (any_uncovered (intact archive L) (end archive L) ≡ true) × (step s m date log buffer ≡ refused unknown (tag_of m) s log buffer)
  twelve_first s m date buffer n =
      let rows = intact archive L in
      let last = end archive L in
      let why = absence-is (one_log log) rows last (mirrored log L R) in
      let o = step-told log m date buffer s n ∙ ap (λ (w : Refusal). refused w (tag_of m) s log buffer) why in
      let twelve : number_of (absent rows last) ≡ 12 = ap (λ (x : Outcome). x.number) (sym o) ∙ n in
      go (any_uncovered rows last) refl twelve o
    where
      go : (b : Bool) → any_uncovered (intact archive L) (end archive L) ≡ b → number_of (absent (intact archive L) (end archive L)) ≡ 12
          → step s m date log buffer ≡ refused (absent (intact archive L) (end archive L)) (tag_of m) s log buffer
          → (any_uncovered (intact archive L) (end archive L) ≡ true) × (step s m date log buffer ≡ refused unknown (tag_of m) s log buffer)
      go true q k o = (q, rw q at o)
      go false q k o = let z : ◌≡◌ {A = ℕ} 11 12 = rw q at k in absurd (omega arith)

-- a write that was answered, and any requests after it: the log reflects a ledger that knows the data
module _ (log : Lent) (L : Ledger archive) (R : Reflects archive log L) (S : Waits archive log L)
    (t : ℕ) (d m : Bytes) (date : Option Bytes) (buffer : Bytes) (sm : small m ≡ true) (W : Writes m date buffer log t d) (answered : (step Greeted m date log buffer).number ≡ 0)
    (past : List Session) (qs : List (Item archive)) (b : AllOfBytes archive qs) where
  asked : Asked
  asked = record { message = m; buffer = buffer; date = date }

  start : Standing archive
  start = record { log = (step Greeted m date log buffer).lent; past = past }

  books : Books archive
  books = record {
    begin = (step Greeted m date log buffer).lent;
    done = [];
    ledger = next archive (extent_of log) L (tell L.rows L.changed L.start (extent_of log) Greeted asked);
    past = past;
  }

  goes_so : Agree (Stands archive) (trace (answer archive) start qs) (trace (recount archive) books qs)
  unfolding asked start books
  goes_so = follows archive laws start books qs b
      (begins archive start.log books.ledger past (reflects_serve archive laws log L R S Greeted asked sm) (waits-serve archive laws log L R S Greeted asked sm))

  knows : Known t d (trace (recount archive) books qs).left.ledger
  unfolding asked books
  knows = known-after t d books qs b
      (known-told t d L m date buffer log W (sym (ap (λ o. o.answer.number) (serve-tell archive laws log L R S Greeted asked sm)) ∙ answered))

  pub then-reads : (count : ℕ) (m' : Bytes) (date' : Option Bytes) (buffer' : Bytes) → length d ≤ count
      → let later = afterwards (step Greeted m date log buffer).lent past qs in
      Reads m' date' buffer' later t count (sha1_of d) → step Greeted m' date' later buffer' ≡ granted (read_reply (tag_of m') d) Greeted later buffer'
  unfolding start
  then-reads count m' date' buffer' le Q =
      known-reads (afterwards (step Greeted m date log buffer).lent past qs) (trace (recount archive) books qs).left.ledger goes_so.left.mirrors t count d m' date' buffer' knows Q le

  pub then-writes : (m' : Bytes) (date' : Option Bytes) (buffer' : Bytes) → let later = afterwards (step Greeted m date log buffer).lent past qs in
      Writes m' date' buffer' later t d → step Greeted m' date' later buffer' ≡ granted (write_reply (tag_of m') (sha1_of d)) Greeted later buffer'
  unfolding start
  then-writes m' date' buffer' W' =
      known-writes (afterwards (step Greeted m date log buffer).lent past qs) (trace (recount archive) books qs).left.ledger goes_so.left.mirrors t d m' date' buffer' knows W'
