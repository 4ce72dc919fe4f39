-- No more units than are left, and at most 1,433 differences for each, the entries of the longest leaf.
use mathlib.Core.Path.{◌≡◌, refl, subst}
use mathlib.Core.Bool.{Bool, true, false, not, cond, ◌&&◌, ◌||◌}
use Prim.Native.Nat.{ℕ, zero, suc, ◌+◌, ◌-◌, ◌*◌, ◌/◌, ◌%◌, ◌≤◌, ◌<◌, max}
use native.Mathlib.Omega.{arith}
use native.Mathlib.Nat.{mul-suc, mul-zero, zero-mul}
use lib.Dec.{eqb, ltb, leb}
use lib.ListN.{length}
use borrow.Author.Tests.{ltb-false, eqb-true, eqb-false, leb-true}
use Rattle.bedrock.proofs.Choices.{cond_ind, on_ind, and-true}
use Rattle.buffer.specs.Bytes.{Bytes, same}
use Rattle.refusal.specs.declared.Refusal.{Refusal}
use Rattle.kind.specs.Kind.{longest}
use Rattle.sector_log.specs.LookUp.{held}
use Rattle.entry.specs.declared.Entry.{Entry}
use Rattle.entry.specs.Entry.{entry_of, well_formed, score_of}
use Rattle.tree.specs.Tree.{type_at, count_at, pointer}
use Rattle.verdict.specs.declared.Verdict.{Verdict}
use Rattle.verdict.specs.declared.Verdict.TheVariants.{Skip, IllFormed, Open, Differ}
use Rattle.verdict.specs.Verdict.{verdict}
use Rattle.pair.specs.Opened.{ragged, opened}
use Rattle.verdict.proofs.Verdicts.{open_says}
use Rattle.comparison.specs.declared.Compared.{Compared}
use Rattle.comparison.specs.Compared.{refused, and_then, in_order}
use Rattle.comparison.specs.Compare.{Blocks, by_verdict, entries_by, listed, position_by, positions, spending, below_by, pair_by, compare_blocks, compare_entries, compare_position, most_leaf}
use Rattle.std.specs.Prelude.{Ok, Err, Result, ⊤}

-- no more units than `left`, and `more` differences besides 1,433 for each unit
abbrev pub Within : ℕ → ℕ → Compared → Type 0
Within left more c = (c.units ≤ left) × (c.count ≤ 1433 * c.units + more)

-- ---- positions in order

and-then-within : (left more : ℕ) (e : Result ⊤ Refusal) (m n : ℕ) (k : ℕ → ℕ → Compared) → n ≤ left → m ≤ 1433 * n + more → Within left more (k m n) → Within left more (and_then e m n k)
and-then-within left more (Ok tt) m n k a b h = h
and-then-within left more (Err w) m n k a b h = (a, b)

order-within : (at : ℕ → ℕ → Compared) (left x : ℕ) → ((i a : ℕ) → Within a x (at i a)) → (k i m n j : ℕ) → n ≤ left → m ≤ 1433 * n + j
    → Within left (j + x * k) (in_order at left k i m n)
unfolding in_order
order-within at left x f zero i m n j a b = (a, omega (arith, mul-zero x))
order-within at left x f (suc k) i m n j a b =
    let p = f i (left - n) in
    let h = order-within at left x f k (suc i) (m + (at i (left - n)).count) (n + (at i (left - n)).units) (j + x) (omega (arith, p.0)) (omega (arith, p.1)) in
    let z : j + x + x * k ≡ j + x * suc k = omega (arith, mul-suc x k) in
    and-then-within left (j + x * suc k) (at i (left - n)).end (m + (at i (left - n)).count) (n + (at i (left - n)).units) _ (omega (arith, p.0))
    (omega (arith, p.1, mul-suc x k)) (subst (λ (y : ℕ). Within left y (in_order at left k (suc i) (m + (at i (left - n)).count) (n + (at i (left - n)).units))) z h)

-- ---- one block, one unit

opened_ind : (P : Compared → Type 0) (log : Bytes) (e : Entry) (level : ℕ) (s : Bytes) (next : Bytes → Compared) → ((w : Refusal) → P (refused w))
    → ((b : Bytes) → length b ≤ count_at e level → P (next b)) → P (opened log e level s refused next)
unfolding opened
opened_ind P log e level s next r f =
    on_ind P (held log (type_at e level) s) _ _ (λ q. r _)
    (λ row q. cond_ind P (ltb (count_at e level) (length row.bytes)) _ _ (λ z. r _)
    (λ z. cond_ind P (ragged level (length row.bytes)) _ _ (λ y. r _) (λ y. f row.bytes (ltb-false (count_at e level) (length row.bytes) z))))

spending-within : (nest left : ℕ) (c : Compared) → (0 < left → Within (left - 1) 1433 c) → Within left 0 (spending nest left c)
unfolding spending
spending-within nest left c h =
    cond_ind (Within left 0) (ltb 16 nest) _ _ (λ q. (omega arith, omega arith))
    (λ q. cond_ind (Within left 0) (eqb left 0) _ _ (λ z. (omega arith, omega arith))
    (λ z. let p = eqb-false left 0 z in let k = h (omega arith) in (omega (arith, k.0), omega (arith, k.1))))

-- ---- entries

-- a well-formed directory's leaves are whole entries
leaf_bound : (e : Entry) → well_formed e ≡ true → e.directory ≡ true → e.dsize ≤ most_leaf
unfolding well_formed
leaf_bound e w d =
    let a = and-true (leb 40 e.psize && leb e.psize longest) _ w in
    let b = and-true (leb 1 e.dsize && leb e.dsize longest) _ a.1 in
    let c = and-true (not e.directory || eqb (e.dsize % 40) 0) _ b.1 in
    let l = leb-true e.dsize longest (and-true (leb 1 e.dsize) (leb e.dsize longest) b.0).1 in
    let m = eqb-true (e.dsize % 40) 0 (implied e.directory (eqb (e.dsize % 40) 0) d c.0) in
    omega (arith, l, m)
  where
    implied : (p q : Bool) → p ≡ true → (not p || q) ≡ true → q ≡ true
    implied true q a b = b
    implied false true a b = refl
    implied false false a b = let z : ◌≡◌ {A = ℕ} 0 1 = cc in absurd (omega arith)

pub open_leaf : (x y : Bytes) → verdict x y ≡ Open → (entry_of x).dsize ≤ most_leaf
open_leaf x y q = let O = open_says x y q in leaf_bound (entry_of x) O.first-formed O.directory

-- the entries of such leaves
entries-of-leaves : (e : Entry) (level m n : ℕ) → e.dsize ≤ most_leaf → m ≤ count_at e level → n ≤ count_at e level → eqb level 0 ≡ true
    → max (positions level m) (positions level n) ≤ 1433
unfolding positions count_at
entries-of-leaves e level m n h lm ln q =
    let cm : m ≤ e.dsize = rw q at lm in
    let cn : n ≤ e.dsize = rw q at ln in
    rw q (omega (arith, cm, cn, h))

-- how the blocks of an entry with such leaves are bounded
abbrev BlocksWithin : Blocks → Type 0
BlocksWithin B = (e : Entry) (l n : ℕ) (s t : Bytes) (a : ℕ) → e.dsize ≤ most_leaf → Within a 0 (B e l n s t a)

module _ (B : Blocks) (f : BlocksWithin B) where
  by_entries : (nest : ℕ) (x y : Bytes) (a : ℕ) → Within a 1 (entries_by B nest x y a)
  by_entries nest x y a = go (verdict x y) refl
    where
      go : (v : Verdict) → verdict x y ≡ v → Within a 1 (by_verdict v (B (entry_of x) (entry_of x).depth (nest + 1) (score_of x) (score_of y) a))
      go Skip q = (omega arith, omega arith)
      go IllFormed q = (omega arith, omega arith)
      go Open q = let k = f (entry_of x) (entry_of x).depth (nest + 1) (score_of x) (score_of y) a (open_leaf x y q) in (k.0, omega (arith, k.1))
      go Differ q = (omega arith, omega arith)

  module _ (e : Entry) (h : e.dsize ≤ most_leaf) where
    by_position : (level nest : ℕ) (b c : Bytes) (i a : ℕ) → Within a 1 (position_by B e level nest b c i a)
    by_position level nest b c i a =
        cond_ind (Within a 1) (eqb level 0) _ _ (λ q. by_entries nest (listed b i) (listed c i) a)
        (λ q. let k = f e (level - 1) nest (pointer b i) (pointer c i) a h in (k.0, omega (arith, k.1)))

    -- above the leaves nothing is counted but below
    above : (level nest : ℕ) (b c : Bytes) → eqb level 0 ≡ false → (i a : ℕ) → Within a 0 (position_by B e level nest b c i a)
    above level nest b c q i a = rw q (f e (level - 1) nest (pointer b i) (pointer c i) a h)

    by_below_lem : (level nest : ℕ) (b c : Bytes) (left : ℕ) → length b ≤ count_at e level → length c ≤ count_at e level → Within left 1433 (below_by B e level nest b c left)
    by_below_lem level nest b c left lb lc = go (eqb level 0) refl
      where
        go : (t : Bool) → eqb level 0 ≡ t → Within left 1433 (below_by B e level nest b c left)
        go true q =
            let n = max (positions level (length b)) (positions level (length c)) in
            let k = order-within (λ i a. position_by B e level nest b c i a) left 1 (λ i a. by_position level nest b c i a) n 0 0 0 0 (omega arith) (omega arith) in
            (k.0, omega (arith, k.1, entries-of-leaves e level (length b) (length c) h lb lc q))
        go false q =
            let n = max (positions level (length b)) (positions level (length c)) in
            let k = order-within (λ i a. position_by B e level nest b c i a) left 0 (above level nest b c q) n 0 0 0 0 (omega arith) (omega arith) in
            (k.0, omega (arith, k.1, zero-mul n))

    by_pair : (log : Bytes) (level nest : ℕ) (s t : Bytes) (left : ℕ) → Within left 0 (pair_by B log e level nest s t left)
    by_pair log level nest s t left =
        cond_ind (Within left 0) (same s t) _ _ (λ q. (omega arith, omega arith))
        (λ q. spending-within nest left _
        (λ p. opened_ind (Within (left - 1) 1433) log e level s _ (λ w. (omega arith, omega arith))
        (λ b lb. opened_ind (Within (left - 1) 1433) log e level t _ (λ w. (omega arith, omega arith)) (λ c lc. by_below_lem level nest b c (left - 1) lb lc))))

pub blocks-within : (f : ℕ) (log : Bytes) → BlocksWithin (λ e l n s t a. compare_blocks f log e l n s t a)
unfolding compare_blocks
blocks-within zero log e l n s t a h = (omega arith, omega arith)
blocks-within (suc f) log e l n s t a h = by_pair (λ e l n s t a. compare_blocks f log e l n s t a) (blocks-within f log) e h log l n s t a

pub entries-within : (f : ℕ) (log : Bytes) (nest : ℕ) (x y : Bytes) (a : ℕ) → Within a 1 (compare_entries f log nest x y a)
entries-within f log nest x y a = by_entries (λ e l n s t a. compare_blocks f log e l n s t a) (blocks-within f log) nest x y a

pub position-within : (f : ℕ) (log : Bytes) (e : Entry) (level nest : ℕ) (b c : Bytes) (i a : ℕ) → e.dsize ≤ most_leaf
    → Within a 1 (compare_position f log e level nest b c i a)
position-within f log e level nest b c i a h = by_position (λ e l n s t a. compare_blocks f log e l n s t a) (blocks-within f log) e h level nest b c i a

-- the units of all positions
pub below_units : (f : ℕ) (log : Bytes) (e : Entry) (level nest : ℕ) (b c : Bytes) (left : ℕ) → e.dsize ≤ most_leaf
    → (below_by (λ e l n s t a. compare_blocks f log e l n s t a) e level nest b c left).units ≤ left
below_units f log e level nest b c left h =
    (order-within (λ i a. compare_position f log e level nest b c i a) left 1 (λ i a. position-within f log e level nest b c i a h)
    (max (positions level (length b)) (positions level (length c))) 0 0 0 0 (omega arith) (omega arith)).0

-- no block has more positions than bytes
pub positions_few : (level m n : ℕ) → m ≤ longest → n ≤ longest → max (positions level m) (positions level n) ≤ longest
unfolding positions
positions_few level m n a b = go (eqb level 0)
  where
    go : (t : Bool) → max (cond t ((m + 39) / 40) (m / 20)) (cond t ((n + 39) / 40) (n / 20)) ≤ longest
    go true = omega arith
    go false = omega arith
