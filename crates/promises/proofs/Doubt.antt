-- The sector that refusal 12 tells: where it lies.
use mathlib.Core.Path.{◌≡◌, refl, sym, ap, ◌∙◌}
use mathlib.Core.Bool.{Bool, true, false, cond, not, ◌||◌, true≢false, false≢true}
use mathlib.Core.List.Memᴰ
use mathlib.Core.List.{List, [], ◌∷◌, Memᴰ}
use mathlib.Core.Logic.{◌⊎◌, inl, inr}
use Prim.Native.Nat.{ℕ, zero, suc, ◌+◌, ◌≤◌, ◌<◌}
use native.Mathlib.Omega.{arith}
use lib.Dec.{eqb, ltb}
use borrow.Author.Tests.{eqb-true, eqb-false, ltb-true, ltb-false}
use Rattle.bedrock.proofs.Choices.{cond_ind, or-false, or_right}
use Rattle.buffer.specs.Bytes.{zeros}
use Rattle.sector.specs.Sector.{blank}
use Rattle.block.specs.Block.{Row}
use Rattle.block.specs.Log.{at}
use Rattle.block.proofs.At.{blank-is}
use Rattle.sector_log.specs.Parts.{one_log}
use Rattle.ledger.specs.Ledger.{Ledger, has, covers, hit, intact_of, intact, end}
use Rattle.ledger.specs.Reflects.{cell}
use Rattle.ledger.proofs.Intact.{intact_in}
use Rattle.demands.specs.Ledger.{covered_by, any_uncovered, first_uncovered}
use Rattle.demands.specs.Instance.{archive}
use Rattle.promises.specs.Histories.{log_of, ledger_of}
use Rattle.promises.specs.Corollaries as claims
use Rattle.promises.proofs.Histories.{reflected}

-- an uncovered sector is found no later than it stands
first_found_lem : (rows : List Row) (k n i : ℕ) → n ≤ i → i < n + k → covered_by rows i ≡ false
    → (first_uncovered rows k n ≤ i) × (covered_by rows (first_uncovered rows k n) ≡ false)
unfolding first_uncovered
first_found_lem rows zero n i a b c = absurd (omega arith)
first_found_lem rows (suc k) n i a b c = go (covered_by rows n) (eqb i n) refl refl (first_found_lem rows k (suc n) i)
  where
    Found : ℕ → Type 0
    Found m = (m ≤ i) × (covered_by rows m ≡ false)

    go : (t u : Bool) → covered_by rows n ≡ t → eqb i n ≡ u → (suc n ≤ i → i < suc n + k → covered_by rows i ≡ false → Found (first_uncovered rows k (suc n)))
        → Found (cond t (first_uncovered rows k (suc n)) n)
    go false u q e f = (a, q)
    go true true q e f = absurd (true≢false (sym q ∙ ap (covered_by rows) (sym (eqb-true i n e)) ∙ c))
    go true false q e f = f (omega (arith, eqb-false i n e)) (omega arith) c

some_uncovered : (rows : List Row) (e : ℕ) → any_uncovered rows e ≡ true → (i : ℕ) × (i < e) × (covered_by rows i ≡ false)
unfolding any_uncovered
some_uncovered rows zero u = absurd (false≢true u)
some_uncovered rows (suc e) u = go (covered_by rows e) refl u (some_uncovered rows e)
  where
    go : (b : Bool) → covered_by rows e ≡ b → (not b || any_uncovered rows e) ≡ true → (any_uncovered rows e ≡ true → (i : ℕ) × (i < e) × (covered_by rows i ≡ false))
        → (i : ℕ) × (i < suc e) × (covered_by rows i ≡ false)
    go false q w f = (e, omega arith, q)
    go true q w f = let p = f w in (p.0, omega (arith, p.1), p.2)

-- a covered sector is one of a row, and the other way round
pub covering : (rows : List Row) (n : ℕ) → covered_by rows n ≡ true → (r : Row) × Memᴰ r rows × (covers archive r n ≡ true)
unfolding covered_by
covering [] n e = absurd (false≢true e)
covering (r ∷ rows) n e = go (covers archive r n) refl e (covering rows n)
  where
    go : (b : Bool) → covers archive r n ≡ b → (b || covered_by rows n) ≡ true
        → (covered_by rows n ≡ true → (s : Row) × Memᴰ s rows × (covers archive s n ≡ true)) → (s : Row) × Memᴰ s (r ∷ rows) × (covers archive s n ≡ true)
    go true q w f = (r, Memᴰ.head refl, q)
    go false q w f = let p = f w in (p.0, Memᴰ.tail p.1, p.2)

covered : (rows : List Row) (r : Row) (n : ℕ) → Memᴰ r rows → covers archive r n ≡ true → covered_by rows n ≡ true
unfolding covered_by
covered [] r n m e = absurd (Memᴰ.not-nil m)
covered (s ∷ rows) r n m e = go (Memᴰ.cases_cons m) (λ t. covered rows r n t e)
  where
    go : (r ≡ s) ⊎ Memᴰ r rows → (Memᴰ r rows → covered_by rows n ≡ true) → covered_by (s ∷ rows) n ≡ true
    go (inl q) f = rw (ap (λ (x : Row). covers archive x n) (sym q) ∙ e)
    go (inr t) f = or_right (covers archive s n) (covered_by rows n) (f t)

-- rows put nothing where they are not
pub cell-none : (rows : List Row) (n : ℕ) → covered_by rows n ≡ false → cell archive rows n ≡ blank
unfolding covered_by
cell-none [] n e = refl
cell-none (r ∷ rows) n e = let p = or-false (covers archive r n) (covered_by rows n) e in rw p.0 (cell-none rows n p.1)

-- what no row covers no intact row does
pub uncovered_intact : (cs : List ℕ) (rows : List Row) (n : ℕ) → covered_by rows n ≡ false → covered_by (intact_of archive cs rows) n ≡ false
unfolding covered_by
uncovered_intact cs [] n e = refl
uncovered_intact cs (r ∷ rows) n e =
    let p = or-false (covers archive r n) (covered_by rows n) e in
    let rest : covered_by (intact_of archive cs rows) n ≡ false = uncovered_intact cs rows n p.1 in
    cond_ind (λ (l : List Row). covered_by l n ≡ false) (hit archive cs r) (intact_of archive cs rows) (r ∷ intact_of archive cs rows) (λ _. rest) (λ _. rw p.0 rest)

pub doubt-is-there : claims.DoubtIsThere
doubt-is-there h u =
    let i = some_uncovered rows last u in
    let p = first_found_lem rows last 0 i.0 (omega arith) (omega (arith, i.1)) i.2 in
    (omega (arith, p.0, i.1), p.1, (λ k e. earliest k e (ltb k last) refl), go (covered_by L.rows n) (has n L.changed) refl refl p.1)
  where
    L : Ledger archive
    L = ledger_of h

    rows : List Row
    rows = intact archive L

    last : ℕ
    last = end archive L

    n : ℕ
    n = first_uncovered rows last 0

    earliest : (k : ℕ) → covered_by rows k ≡ false → (b : Bool) → ltb k last ≡ b → n ≤ k
    earliest k e true q = (first_found_lem rows last 0 k (omega arith) (omega (arith, ltb-true k last q)) e).0
    earliest k e false q =
        let i = some_uncovered rows last u in
        omega (arith, ltb-false k last q, i.1, (first_found_lem rows last 0 i.0 (omega arith) (omega (arith, i.1)) i.2).0)

    Lost : Type 0
    Lost = (r : Row) × Memᴰ r L.rows × (hit archive L.changed r ≡ true) × (covers archive r n ≡ true)

    Bare : Type 0
    Bare = (covered_by L.rows n ≡ false) × ((has n L.changed ≡ true) ⊎ (zeros (at (one_log (log_of h)) n) ≡ true))

    lost : (r : Row) → Memᴰ r L.rows → covers archive r n ≡ true → covered_by rows n ≡ false → (b : Bool) → hit archive L.changed r ≡ b → Lost
    lost r m c e true q = (r, m, q, c)
    lost r m c e false q = absurd (true≢false (sym (covered rows r n (intact_in archive L.changed L.rows r m q) c) ∙ e))

    go : (t c : Bool) → covered_by L.rows n ≡ t → has n L.changed ≡ c → covered_by rows n ≡ false → Lost ⊎ Bare
    go true c q k e = let r = covering L.rows n q in inl (lost r.0 r.1 r.2 e (hit archive L.changed r.0) refl)
    go false true q k e = inr (q, inl k)
    go false false q k e = inr (q, inr (ap zeros ((reflected h).plain n k ∙ cell-none L.rows n q) ∙ blank-is))
