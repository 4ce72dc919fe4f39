-- The invariant holds of a blank log and the empty ledger, and is kept by each request, by damage and by growth.
use mathlib.Core.Path.{◌≡◌, refl, sym, ap, ◌∙◌}
use mathlib.Core.Bool.{Bool, true, false, cond, false≢true}
use mathlib.Core.List.Memᴰ
use mathlib.Core.List.{List, [], ◌∷◌, Memᴰ}
use mathlib.Core.Logic.{◌⊎◌, inl, inr}
use Prim.Native.Nat.{ℕ, ◌+◌, ◌-◌, ◌≤◌, ◌<◌}
use native.Mathlib.Omega.{arith}
use Rattle.ledger.specs.Archive.{Effect, stays, adds, settles, Archive}
use Rattle.ledger.specs.Ledger.{Ledger, empty, told, enter, settle, covers, end, NoneWaits, act, note, shown, next}
use Rattle.ledger.specs.Lawful.{Lawful}
use Rattle.ledger.specs.History.{Harm}
use Rattle.ledger.specs.Reflects.{cell, Reflects, Waits}
use Rattle.ledger.proofs.Covers.{covers-reads, covers_in, covers-before}
use Rattle.ledger.proofs.Apart.{apart-last}
use Rattle.ledger.proofs.Ends.{end_row, end-last, end-changed, end-changed_le}
use Rattle.ledger.proofs.Cells.{cell-last}
use Rattle.ledger.proofs.Doubt.{used-within, used-same, Lies, doubt-on, doubt-same}
use Rattle.ledger.proofs.Reflects.{used-end, blocks-intact}

-- where the waiting part starts is not its concern
pub reflects_start : (A : Archive) (log : A.Log) (L : Ledger A) (e : ℕ) → Reflects A log L → Reflects A log (record { rows = L.rows; changed = L.changed; start = e })
reflects_start A log L e R = record { valids = R.valids; owneds = R.owneds; apart = R.apart; room = R.room; plain = R.plain; doubt = R.doubt }

module _ (A : Archive) (W : Lawful A) where
  open A use {Log, Extent, Sector, extent, sectors, void, at, is_blank, used, waits, start, Growth, grown, growable, Row, first, parts, image, valid, has_room, owned, written, settled}
  open A use {Request, Session, OfBytes, serve, tell}
  open W use {at-void, lt_used, start-void, start_none, room-inside, extent-written, start-written, at-written, extent-settled, start-settled, at-settled}
  open W use {extent-grown, sectors-wider, start-grown, at-grown, parts_pos, image-used, label, agrees, tell-adds}

  pub reflects_empty : (x : Extent) → Reflects A (void x) (empty A)
  reflects_empty x = record {
    valids = λ r m. absurd (Memᴰ.not-nil m);
    owneds = λ r m. absurd (Memᴰ.not-nil m);
    apart = tt;
    room = omega arith;
    plain = λ n e. at-void x n;
    doubt = λ n e. absurd (false≢true e);
  }

  pub waits-empty : (x : Extent) → Waits A (void x) (empty A)
  waits-empty x = record {
    starts = start-void x;
    before = omega arith;
    split = λ r m. absurd (Memᴰ.not-nil m);
    firm = λ n e. absurd (false≢true e);
  }

  -- where nothing waits
  pub waits-none : (log : Log) (L : Ledger A) → Reflects A log L → start log ≡ used log → NoneWaits A L → Waits A log L
  waits-none log L R none all = record {
    starts = none ∙ used-end A W log L R ∙ sym all;
    before = omega (arith, all);
    split = λ r m. inl (omega (arith, all, end_row A L.rows r m));
    firm = λ n e other f. omega (
      arith,
      (R.doubt n e).0,
      used-within A W log other (λ m q. ap is_blank (f m (omega (arith, all, used-end A W log L R, lt_used log m q))) ∙ q),
    );
  }

  -- nothing waits in the log where nothing does in the ledger, and the other way round
  pub none-waits : (log : Log) (L : Ledger A) → Reflects A log L → Waits A log L → start log ≡ used log → NoneWaits A L
  none-waits log L R S e = sym S.starts ∙ e ∙ used-end A W log L R

  -- damage against what the rows put in each sector, wherever the ledger was told of damage before
  module _ (log : Log) (L : Ledger A) (cs : List ℕ) (hurt : Log) (R : Reflects A log L) (D : Harm A (cell A L.rows) (extent log) cs hurt) where
    pub reflects_told : Reflects A hurt (told A cs L)
    reflects_told = record {
      valids = R.valids;
      owneds = R.owneds;
      apart = R.apart;
      room = omega (arith, R.room, ap sectors D.size, end-changed_le A cs (sectors (extent log)) (λ n e. D.inside n e));
      plain = D.others;
      doubt = D.doubtful;
    }

    pub waits-told : Waits A hurt (told A cs L)
    waits-told = waits-none hurt (told A cs L) reflects_told D.none-waits refl

  -- a row behind all others
  module _ (log : Log) (L : Ledger A) (r : Row) (R : Reflects A log L) (S : Waits A log L) (ok : valid r ≡ true) (here : end A L ≤ first r)
      (fit : has_room (extent log) (start log) r ≡ true) (own : owned r ≡ true) where
    behind : start log ≤ first r
    behind = omega (arith, S.starts, S.before)

    -- what holds of every row and of the new one holds of all
    pub every : (P : Row → Type 0) → ((s : Row) → Memᴰ s L.rows → P s) → P r → (s : Row) → Memᴰ s (enter A r L).rows → P s
    every P old new s m = go (Memᴰ.append_cases L.rows m)
      where
        go : Memᴰ s L.rows ⊎ Memᴰ s (r ∷ []) → P s
        go (inl m') = old s m'
        go (inr m') = rw (Memᴰ.eq_of_singleton m') new

    pub reflects_enter : Reflects A (written log r) (enter A r L)
    reflects_enter = record {
      valids = every (λ s. valid s ≡ true) R.valids ok;
      owneds = every (λ s. owned s ≡ true) R.owneds own;
      apart = apart-last A 0 L.rows r R.apart (omega arith) (omega arith);
      room = omega (arith, R.room, room-inside (extent log) (start log) r fit, ap sectors (extent-written log r ok behind fit), end-last A L.rows r);
      plain = λ n e. at-written log r n ok behind fit ∙ ap (λ (s : Sector). cond (covers A r n) (image r (n - first r)) s) (R.plain n e) ∙ sym (cell-last A L.rows r n (omega arith));
      doubt = λ n e. let h = end-changed A L.changed n e in
          doubt-on A W log (written log r) n (R.doubt n e) (omega (arith, h, above)) (λ s v c l. back n (omega (arith, h)) s v c l);
    }
      where
        -- the row's first sector is used
        above : first r < used (written log r)
        above =
            let p : 0 < parts r = parts_pos r ok in
            lt_used (written log r) (first r) (ap is_blank (at-written log r (first r) ok behind fit ∙ rw (covers_in A r (first r) (omega arith) (omega arith)))
            ∙ image-used r (first r - first r) ok (omega arith))

        -- a block over a sector before the row lies as it lay
        back : (n : ℕ) → n < first r → (s : Row) → valid s ≡ true → covers A s n ≡ true → Lies A W (written log r) s → Lies A W log s
        back n h s v c lies k lt = go (covers A r (first s + k)) refl
          where
            go : (b : Bool) → covers A r (first s + k) ≡ b → at log (first s + k) ≡ image s k
            go true q =
                let b = covers-reads A r (first s + k) q in
                let same : image s k ≡ image r (first s + k - first r) = sym (lies k lt) ∙ at-written log r (first s + k) ok behind fit ∙ rw q in
                absurd (omega (arith, h, (covers-reads A s n c).0, (label s r k (first s + k - first r) v ok lt (omega arith) same).0))
            go false q = sym (at-written log r (first s + k) ok behind fit ∙ rw q) ∙ lies k lt

    -- with a waiting part lent it waits
    waits-enter : waits (extent log) ≡ true → Waits A (written log r) (enter A r L)
    waits-enter w = record {
      starts = start-written log r ok behind fit w ∙ S.starts;
      before = omega (arith, S.before, end-last A L.rows r);
      split = every (λ s. (first s + parts s ≤ L.start) ⊎ (L.start ≤ first s)) S.split (inr (omega (arith, S.before)));
      firm = λ n e other f. S.firm n e other (λ m h. f m h ∙ at-written log r m ok behind fit ∙ rw (covers-before A r m (omega (arith, h, S.before))));
    }

    -- without one it is settled at once
    pub keeps-enter : Reflects A (written log r) (note A (extent log) (adds r) L) × Waits A (written log r) (note A (extent log) (adds r) L)
    keeps-enter = go (waits (extent log)) refl
      where
        go : (b : Bool) → waits (extent log) ≡ b
            → Reflects A (written log r) (cond b (enter A r L) (settle A (enter A r L))) × Waits A (written log r) (cond b (enter A r L) (settle A (enter A r L)))
        go true q = (reflects_enter, waits-enter q)
        go false q =
            let Q = reflects_start A (written log r) (enter A r L) (end A (enter A r L)) reflects_enter in
            (Q, waits-none (written log r) (settle A (enter A r L)) Q (start_none (written log r) (ap waits (extent-written log r ok behind fit) ∙ q)) refl)

  -- all settled
  module _ (log : Log) (L : Ledger A) (R : Reflects A log L) where
    fits_in : used log ≤ sectors (extent log)
    fits_in = omega (arith, used-end A W log L R, R.room)

    same : (n : ℕ) → at (settled log) n ≡ at log n
    same n = at-settled log n fits_in

    pub reflects_settle : Reflects A (settled log) (settle A L)
    reflects_settle = record {
      valids = R.valids;
      owneds = R.owneds;
      apart = R.apart;
      room = omega (arith, R.room, ap sectors (extent-settled log fits_in));
      plain = λ n e. same n ∙ R.plain n e;
      doubt = λ n e. doubt-same A W log (settled log) n same (R.doubt n e);
    }

    pub waits-settle : Waits A (settled log) (settle A L)
    waits-settle = waits-none (settled log) (settle A L) reflects_settle (start-settled log fits_in ∙ sym (used-same A W log (settled log) same)) refl

  -- more blank sectors
  module _ (g : Growth) (log : Log) (L : Ledger A) (may : growable (extent log) ≡ true) where
    pub reflects_grown : Reflects A log L → Reflects A (grown g log) L
    reflects_grown R = record {
      valids = R.valids;
      owneds = R.owneds;
      apart = R.apart;
      room = omega (arith, R.room, ap sectors (extent-grown g log), sectors-wider g (extent log));
      plain = λ n e. at-grown g log n may ∙ R.plain n e;
      doubt = λ n e. doubt-same A W log (grown g log) n (λ m. at-grown g log m may) (R.doubt n e);
    }

    pub waits-grown : Waits A log L → Waits A (grown g log) L
    waits-grown S = record {
      starts = start-grown g log may ∙ S.starts;
      before = S.before;
      split = S.split;
      firm = λ n e other f. S.firm n e other (λ m h. f m h ∙ at-grown g log m may);
    }

  -- the row that is added, if one is, can be written, stands at e or later, and has room
  abbrev pub FitsAt : ℕ → Extent → ℕ → Effect Row → Type 0
  FitsAt e x b a = (r : Row) → a ≡ adds r → (valid r ≡ true) × (e ≤ first r) × (has_room x b r ≡ true) × (owned r ≡ true)

  -- what holds between two requests
  module _ (log : Log) (L : Ledger A) (R : Reflects A log L) (S : Waits A log L) where
    abbrev pub Kept : Effect Row → Type 0
    Kept a = Reflects A (act A a log) (note A (extent log) a L) × Waits A (act A a log) (note A (extent log) a L) × (extent (act A a log) ≡ extent log)

    pub keeps : (a : Effect Row) → FitsAt (end A L) (extent log) L.start a → Kept a
    keeps stays f = (R, S, refl)
    keeps settles f = (reflects_settle log L R, waits-settle log L R, extent-settled log (fits_in log L R))
    keeps (adds r) f =
        let p = f r refl in
        let fit : has_room (extent log) (start log) r ≡ true = rw S.starts p.2 in
        let k = keeps-enter log L r R S p.0 p.1 fit p.3 in
        (k.0, k.1, extent-written log r p.0 (omega (arith, S.starts, S.before, p.1)) fit)

  -- one request: the archive's account is the ledger's, and the invariant goes on
  module _ (log : Log) (L : Ledger A) (R : Reflects A log L) (S : Waits A log L) (s : Session) (q : Request) (b : OfBytes q) where
    pub serve-tell : serve log s q ≡ shown A log (tell L.rows L.changed L.start (extent log) s q)
    serve-tell = agrees log L s q b R.owneds (blocks-intact A W log L R) (used-end A W log L R) S.starts R.room

    pub tell-fits : FitsAt (end A L) (extent log) L.start (tell L.rows L.changed L.start (extent log) s q).effect
    tell-fits r e = let p = tell-adds L (extent log) s q r b e in (p.0, omega (arith, p.1), p.2, p.3)

    kept : Kept log L R S (tell L.rows L.changed L.start (extent log) s q).effect
    kept = keeps log L R S (tell L.rows L.changed L.start (extent log) s q).effect tell-fits

    pub reflects_serve : Reflects A (serve log s q).log (next A (extent log) L (tell L.rows L.changed L.start (extent log) s q))
    reflects_serve = rw serve-tell kept.0

    pub waits-serve : Waits A (serve log s q).log (next A (extent log) L (tell L.rows L.changed L.start (extent log) s q))
    waits-serve = rw serve-tell kept.1

    pub extent-serve : extent (serve log s q).log ≡ extent log
    extent-serve = rw serve-tell kept.2
