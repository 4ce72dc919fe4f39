use mathlib.Core.Path.{◌≡◌, sym, ap, ◌∙◌}
use mathlib.Core.Bool.{Bool, true, cond}
use Prim.Native.Nat.{ℕ, ◌+◌, ◌-◌, ◌*◌}
use lib.ListN.{take, drop}
use native.Mathlib.Nat.{add-sub_cancel_left}
use native.Mathlib.Omega.{arith}
use Rattle.buffer.specs.Bytes.{Bytes, same}
use Rattle.difference.specs.declared.Side.TheVariants.{First, Neither}
use Rattle.difference.specs.Difference.{entry_at, active, side_of}
use Rattle.difference.proofs.Positions.{only-second, no_active, only-first, both-active, active-within}
use Rattle.difference.proofs.side_at.Goals as goal

-- `difference::side_at` meets its contract, case by case.
-- the 40 bytes that are compared
forty : (x y : Bytes) (k : ℕ) → same (take (k + 40 - k) x) (take (k + 40 - k) y) ≡ same (take 40 x) (take 40 y)
forty x y k = ap (λ (n : ℕ). same (take n x) (take n y)) (add-sub_cancel_left k 40)

pub returns-then-second : goal.returns-then-second
returns-then-second c =
    let a = c.args in
    only-second (entry_at a.a.now a.i) (entry_at a.b.now a.i) c.is_active.ensures c.is_active-second.ensures c.if-not-is_active.true c.if-second.true

pub returns-then-not-is_active : goal.returns-then-not-is_active
returns-then-not-is_active c =
    let a = c.args in
    no_active (entry_at a.a.now a.i) (entry_at a.b.now a.i) c.is_active.ensures c.is_active-second.ensures c.if-not-is_active.true
    c.if-second.false

pub returns-then-not-second : goal.returns-then-not-second
returns-then-not-second c =
    let a = c.args in
    only-first (entry_at a.a.now a.i) (entry_at a.b.now a.i) c.is_active.ensures c.is_active-second.ensures c.if-not-is_active.false
    c.if-not-second.true

pub slice_bounds-equal-end : goal.slice_bounds-equal-end
slice_bounds-equal-end c =
    omega (arith, active-within c.args.a.now c.args.i c.requires.0 (sym c.is_active.ensures ∙ c.if-not-is_active.false))

pub slice_bounds-equal-end-2 : goal.slice_bounds-equal-end-2
slice_bounds-equal-end-2 c =
    omega (arith, active-within c.args.b.now c.args.i c.requires.1 (sym c.is_active-second.ensures ∙ c.if-not-second.false))

-- both active: by whether they are equal
both : (a b : Bytes) (i : ℕ) {p q s t : Bool} → p ≡ active (entry_at a i) → q ≡ active (entry_at b i) → p ≡ true → q ≡ true
    → s ≡ same (take (40 * i + 40 - 40 * i) (drop (40 * i) a)) (take (40 * i + 40 - 40 * i) (drop (40 * i) b)) → s ≡ t
    → cond t Neither First ≡ side_of (entry_at a i) (entry_at b i)
both a b i ep eq hp hq es et =
    ap (λ (s : Bool). cond s Neither First) (sym et)
    ∙ both-active (entry_at a i) (entry_at b i) ep eq hp hq _ (es ∙ forty (drop (40 * i) a) (drop (40 * i) b) (40 * i))

pub returns-then-equal : goal.returns-then-equal
returns-then-equal c =
    both c.args.a.now c.args.b.now c.args.i c.is_active.ensures c.is_active-second.ensures c.if-not-is_active.false c.if-not-second.false
    c.equal.ensures c.if-equal.true

pub returns : goal.returns
returns c =
    both c.args.a.now c.args.b.now c.args.i c.is_active.ensures c.is_active-second.ensures c.if-not-is_active.false c.if-not-second.false
    c.equal.ensures c.if-equal.false
