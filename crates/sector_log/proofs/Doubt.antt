-- What one pass through any log finds doubtful: it goes past a sound block at once, and past any other sector by one.
use mathlib.Core.Path.{◌≡◌, refl, sym, ap, ◌∙◌}
use mathlib.Core.Logic.{◌≢◌}
use mathlib.Core.Bool.{Bool, true, false}
use mathlib.Core.List.{Memᴰ}
use mathlib.Core.Option.{none, some}
use Prim.Native.Nat.{ℕ, zero, suc, ◌+◌, ◌-◌, ◌≤◌, ◌<◌}
use native.Mathlib.Omega.{arith}
use native.Mathlib.Numerals.{add-one}
use lib.Dec.{ltb, eqb}
use borrow.Author.Tests.{ltb-true, ltb-false, eqb-true, eqb-false}
use Rattle.buffer.specs.Bytes.{Bytes}
use Rattle.block.specs.Block.{Row, parts}
use Rattle.block.specs.Log.{used, sound}
use Rattle.block.proofs.Sound.{sound-reads}
use Rattle.block.proofs.Apart.{none_inside}
use Rattle.sector_log.specs.LookUp.{blocks, in_block, outside, doubtful}
use Rattle.bedrock.proofs.Places.{within_in, within-before, within-after}
use Rattle.sector_log.specs.Promises.{PassedTo, DoubtNone, DoubtSome}
use Rattle.sector_log.proofs.Blocks.{blocks_in, blocks_out}
use Rattle.sector_log.proofs.InBlock.{covers, in_none, in_some, outside_in, outside_out, outside_mono}

-- a sector has one answer
clash : (log : Bytes) (m n : ℕ) (r : Row) → m ≡ n → sound log n ≡ none → sound log m ≡ some r → ⊥
clash log m n r h e f =
    let z : none ≡ some r = sym e ∙ ap (sound log) (sym h) ∙ f in
    let y : ◌≡◌ {A = ℕ} 0 1 = cc in
    omega arith

module _ (log : Bytes) where
  pub walked-zero : PassedTo log 0
  walked-zero m r h e = absurd (omega arith)

  pub walked_none : (n : ℕ) → PassedTo log n → sound log n ≡ none → PassedTo log (n + 1)
  walked_none n w e m r h f = go (eqb m n) refl
    where
      go : (b : Bool) → eqb m n ≡ b → m + parts r ≤ n + 1
      go true q = absurd (clash log m n r (eqb-true m n q) e f)
      go false q = omega (arith, w m r (omega (arith, eqb-false m n q)) f)

  pub walked-some : (n : ℕ) (r : Row) → PassedTo log n → sound log n ≡ some r → PassedTo log (n + parts r)
  walked-some n r w e m s h f = go (ltb m n) (eqb m n) refl refl
    where
      go : (a b : Bool) → ltb m n ≡ a → eqb m n ≡ b → m + parts s ≤ n + parts r
      go true b p q = omega (arith, w m s (ltb-true m n p) f)
      go false true p q =
          let z : some r ≡ some s = sym e ∙ ap (sound log) (sym (eqb-true m n q)) ∙ f in
          let y : r ≡ s = cc in
          omega (arith, eqb-true m n q, ap (λ (x : Row). parts x) y)
      go false false p q =
          let k : m ≡ n + (m - n) = omega (arith, ltb-false m n p) in
          absurd (clash log m (n + (m - n)) s k (none_inside log n (m - n) r e (omega (arith, ltb-false m n p, eqb-false m n q)) (omega (arith, ltb-false m n p))) f)

  clear : (n : ℕ) (r : Row) → PassedTo log n → sound log n ≡ none → sound log r.first ≡ some r → covers r n ≡ false
  clear n r w e f = go (ltb r.first n) (eqb r.first n) refl refl
    where
      go : (a b : Bool) → ltb r.first n ≡ a → eqb r.first n ≡ b → covers r n ≡ false
      go true b p q = within-after r.first (parts r) n (w r.first r (ltb-true r.first n p) f)
      go false true p q = absurd (clash log r.first n r (eqb-true r.first n q) e f)
      go false false p q = within-before r.first (parts r) n (omega (arith, ltb-false r.first n p, eqb-false r.first n q))

  pub doubtful-at : (n : ℕ) → PassedTo log n → sound log n ≡ none → in_block (blocks log) n ≡ false
  doubtful-at n w e = in_none (blocks log) n (λ r m. clear n r w e (blocks_out log r m))

-- passing a sector where no block starts adds one
pub doubt-none : DoubtNone
doubt-none log n w e = ap (outside (blocks log)) (add-one n) ∙ outside_out (blocks log) n (doubtful-at log n w e)

-- passing a block adds nothing
pub doubt-some : DoubtSome
doubt-some log n r e = go (parts r) (omega arith)
  where
    here : r.first ≡ n
    here = (sound-reads log n r e).1

    held : Memᴰ r (blocks log)
    held = blocks_in log r (ap (sound log) here ∙ e)

    go : (j : ℕ) → j ≤ parts r → outside (blocks log) (n + j) ≡ outside (blocks log) n
    go zero h = let z : n + 0 ≡ n = omega arith in ap (outside (blocks log)) z
    go (suc j) h =
        let z : n + suc j ≡ suc (n + j) = omega arith in
        ap (outside (blocks log)) z
        ∙ outside_in (blocks log) (n + j) (in_some (blocks log) r (n + j) held (within_in r.first (parts r) (n + j) (omega (arith, here)) (omega (arith, here))))
        ∙ go j (omega arith)

module _ (log : Bytes) where
  -- where none starts in the used part, a sector is doubtful
  pub doubt-first : (n : ℕ) → PassedTo log n → n < used log → sound log n ≡ none → doubtful log ≢ 0
  unfolding doubtful
  doubt-first n w h e z = omega (arith, doubt-none log n w e, outside_mono (blocks log) (n + 1) (used log) (omega arith))

  -- a pass to the end that met no such sector
  pub doubt_nowhere : (n : ℕ) → used log ≤ n → outside (blocks log) n ≡ 0 → doubtful log ≡ 0
  unfolding doubtful
  doubt_nowhere n h e = omega (arith, outside_mono (blocks log) (used log) n h)
