-- A changed sector is uncovered.
use mathlib.Core.Path.{◌≡◌, refl, sym, ap, ◌∙◌}
use mathlib.Core.Bool.{Bool, true, false, not, true≢false}
use mathlib.Core.List.{List, [], ◌∷◌}
use Prim.Native.Nat.{ℕ, zero, suc, ◌<◌}
use native.Mathlib.Omega.{arith}
use lib.Dec.{eqb}
use borrow.Author.Tests.{eqb-true, eqb-false}
use Rattle.bedrock.proofs.Choices.{cond_ind, or_right, false_unless}
use Rattle.block.specs.Block.{Row}
use Rattle.ledger.specs.Ledger.{Ledger, has, covers, hit, intact_of, intact, end}
use Rattle.ledger.proofs.Ends.{end-changed}
use Rattle.ledger.proofs.Covers.{hit-none}
use Rattle.demands.specs.Ledger.{covered_by, any_uncovered}
use Rattle.demands.specs.Instance.{archive}

pub uncovered_at : (rows : List Row) (e i : ℕ) → i < e → covered_by rows i ≡ false → any_uncovered rows e ≡ true
unfolding any_uncovered
uncovered_at rows zero i h c = absurd (omega arith)
uncovered_at rows (suc e) i h c = go (eqb i e) refl (uncovered_at rows e i)
  where
    go : (b : Bool) → eqb i e ≡ b → (i < e → covered_by rows i ≡ false → any_uncovered rows e ≡ true) → any_uncovered rows (suc e) ≡ true
    go true q f = rw (ap (covered_by rows) (sym (eqb-true i e q)) ∙ c)
    go false q f = or_right (not (covered_by rows e)) (any_uncovered rows e) (f (omega (arith, eqb-false i e q)) c)

-- no intact row covers it
lost_sector : (cs : List ℕ) (rows : List Row) (n : ℕ) → has n cs ≡ true → covered_by (intact_of archive cs rows) n ≡ false
unfolding covered_by
lost_sector cs [] n h = refl
lost_sector cs (r ∷ rows) n h =
    let rest : covered_by (intact_of archive cs rows) n ≡ false = lost_sector cs rows n h in
    cond_ind (λ (l : List Row). covered_by l n ≡ false) (hit archive cs r) (intact_of archive cs rows) (r ∷ intact_of archive cs rows)
    (λ _. rest) (λ k. rw (false_unless (covers archive r n) (λ q. true≢false (sym h ∙ hit-none archive cs r n k q))) rest)

pub changed_uncovered : (L : Ledger archive) (n : ℕ) → has n L.changed ≡ true → any_uncovered (intact archive L) (end archive L) ≡ true
changed_uncovered L n h = uncovered_at (intact archive L) (end archive L) n (omega (arith, end-changed archive L.changed n h)) (lost_sector L.changed L.rows n h)
