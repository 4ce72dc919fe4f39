-- The laws of an archive on which the ledger's theorem rests. It rests on nothing else of the format or of the messages.
use Rattle.std.specs.Prelude.{◌≡◌, true, false, cond, ◌≢◌, ℕ, ◌+◌, ◌-◌, ◌≤◌, ◌<◌, ltb}
use mathlib.Core.List.{Memᴰ}
use Rattle.std.proofs.Math.Option.{some}
use Rattle.bedrock.specs.Places.{within}
use Rattle.ledger.specs.Archive.{adds, Archive}
use Rattle.ledger.specs.Ledger.{Ledger, intact, end, blocks, shown}

module _ (A : Archive) where
  open A use {Log, Extent, Sector, extent, sectors, void, at, blank, is_blank, fits, Near, used, waits, start, settled, Loan, alone, lent, Growth, grown, wider, growable}
  open A use {Row, first, parts, image, valid, has_room, owned, sound, written, Request, Session, OfBytes, serve, tell}

  pub record Lawful : Type 0 where
    -- laws of the log
    pub extent-void : (x : Extent) → extent (void x) ≡ x
    pub at-void : (x : Extent) (n : ℕ) → at (void x) n ≡ blank
    pub blank-is : is_blank blank ≡ true
    pub lt_used : (log : Log) (n : ℕ) → is_blank (at log n) ≡ false → n < used log
    pub used_le : (log : Log) (e : ℕ) → ((n : ℕ) → e ≤ n → is_blank (at log n) ≡ true) → used log ≤ e
    -- where no waiting part is lent nothing waits
    pub start-void : (x : Extent) → start (void x) ≡ 0
    pub start_none : (log : Log) → waits (extent log) ≡ false → start log ≡ used log
    -- a row written behind all others: where a waiting part is lent it waits
    pub room-inside : (x : Extent) (e : ℕ) (r : Row) → has_room x e r ≡ true → first r + parts r ≤ sectors x
    pub extent-written : (log : Log) (r : Row) → valid r ≡ true → start log ≤ first r → has_room (extent log) (start log) r ≡ true → extent (written log r) ≡ extent log
    pub start-written : (log : Log) (r : Row) → valid r ≡ true → start log ≤ first r → has_room (extent log) (start log) r ≡ true
        → waits (extent log) ≡ true → start (written log r) ≡ start log
    pub at-written : (log : Log) (r : Row) (n : ℕ) → valid r ≡ true → start log ≤ first r → has_room (extent log) (start log) r ≡ true
        → at (written log r) n ≡ cond (within (first r) (parts r) n) (image r (n - first r)) (at log n)
    -- all settled: the same sectors, and the waiting part starts behind them
    pub extent-settled : (log : Log) → used log ≤ sectors (extent log) → extent (settled log) ≡ extent log
    pub start-settled : (log : Log) → used log ≤ sectors (extent log) → start (settled log) ≡ used log
    pub at-settled : (log : Log) (n : ℕ) → used log ≤ sectors (extent log) → at (settled log) n ≡ at log n
    -- the log alone: nothing from where the waiting part started
    pub extent-alone : (l : Loan) (log : Log) → extent (alone l log) ≡ lent l (extent log)
    pub sectors-lent : (l : Loan) (x : Extent) → sectors (lent l x) ≡ sectors x
    pub start-alone : (l : Loan) (log : Log) → start (alone l log) ≡ used (alone l log)
    pub at-alone : (l : Loan) (log : Log) (n : ℕ) → at (alone l log) n ≡ cond (ltb n (start log)) (at log n) blank
    -- the log grown: the same sectors, and blank ones behind them
    pub extent-grown : (g : Growth) (log : Log) → extent (grown g log) ≡ wider g (extent log)
    pub sectors-wider : (g : Growth) (x : Extent) → sectors x ≤ sectors (wider g x)
    pub waits-wider : (g : Growth) (x : Extent) → waits (wider g x) ≡ waits x
    pub start-grown : (g : Growth) (log : Log) → growable (extent log) ≡ true → start (grown g log) ≡ start log
    pub at-grown : (g : Growth) (log : Log) (n : ℕ) → growable (extent log) ≡ true → at (grown g log) n ≡ at log n
    -- laws of a block: its sectors fit and are not blank, and the label of one tells where the block starts, which part it is, and of how many
    pub parts_pos : (r : Row) → valid r ≡ true → 0 < parts r
    pub image-fits : (r : Row) (k : ℕ) → valid r ≡ true → k < parts r → fits (image r k) ≡ true
    pub image-used : (r : Row) (k : ℕ) → valid r ≡ true → k < parts r → is_blank (image r k) ≡ false
    pub label : (r s : Row) (k m : ℕ) → valid r ≡ true → valid s ≡ true → k < parts r → m < parts s
        → image r k ≡ image s m → (first r ≡ first s) × (k ≡ m) × (parts r ≡ parts s)
    -- a little damage shows, in a block's sector as in a blank one; a blank sector does not fit its check
    pub image_near : (r : Row) (k : ℕ) (s : Sector) → valid r ≡ true → k < parts r → Near (image r k) s → s ≢ image r k → fits s ≡ false
    pub blank_near : (s : Sector) → Near blank s → is_blank s ≡ false → fits s ≡ false
    pub zeros-unfit : (s : Sector) → is_blank s ≡ true → fits s ≡ false
    -- a block is sound if its run of sectors is the image of a row that can be written, at its place
    pub sound-reads : (log : Log) (n : ℕ) (r : Row) → sound log n ≡ some r
        → (valid r ≡ true) × (first r ≡ n) × ((k : ℕ) → k < parts r → at log (n + k) ≡ image r k)
    pub sound_finds : (log : Log) (r : Row) → valid r ≡ true → ((k : ℕ) → k < parts r → at log (first r + k) ≡ image r k) → sound log (first r) ≡ some r
    -- the two accounts of a request: where the sound blocks are the intact rows, the used part ends at the end and the same waits, they are one
    pub agrees : (log : Log) (L : Ledger A) (s : Session) (q : Request) → OfBytes q → ((r : Row) → Memᴰ r L.rows → owned r ≡ true)
        → blocks A log ≡ intact A L → used log ≡ end A L → start log ≡ L.start → end A L ≤ sectors (extent log)
        → serve log s q ≡ shown A log (tell L.rows L.changed L.start (extent log) s q)
    -- a row that the ledger adds can be written, stands at the end, and has room
    pub tell-adds : (L : Ledger A) (x : Extent) (s : Session) (q : Request) (r : Row) → OfBytes q → (tell L.rows L.changed L.start x s q).effect ≡ adds r
        → (valid r ≡ true) × (first r ≡ end A L) × (has_room x L.start r ≡ true) × (owned r ≡ true)
