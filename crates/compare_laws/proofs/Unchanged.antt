-- No difference is counted exactly where the two trees are unchanged.
use mathlib.Core.Path.{◌≡◌, refl, sym, ap, ap₂, subst, ◌∙◌}
use mathlib.Core.Bool.{Bool, true, false, cond, ◌&&◌, true≢false}
use mathlib.Core.List.{[]}
use mathlib.Core.Logic.{◌⊎◌, inl, inr}
use mathlib.Core.Option.{some}
use Prim.Native.Nat.{ℕ, zero, suc, ◌+◌, ◌-◌, ◌*◌, ◌/◌, ◌%◌, ◌≤◌, ◌<◌, max}
use native.Mathlib.Omega.{arith}
use lib.Dec.{ltb}
use lib.ListN.{length, drop, length-drop}
use borrow.Author.Tests.{ltb-true, ltb-false, ne_eqb}
use Rattle.bedrock.proofs.Choices.{some_same}
use Rattle.buffer.specs.Bytes.{Bytes, same}
use Rattle.buffer.proofs.Bytes.{same_refl, same_true, no_bytes}
use Rattle.refusal.specs.declared.Refusal.TheVariants.{LogLength, Entry as EntryRefused, Allowance}
use Rattle.sector.specs.Sector.{filled}
use Rattle.block.specs.Block.{Row}
use Rattle.sector_log.specs.LookUp.{held, lent_allowed}
use Rattle.sector_log.specs.Parts.{tape}
use Rattle.entry.specs.declared.Entry.{Entry}
use Rattle.entry.specs.Entry.{entry_of, score_of}
use Rattle.tree.specs.Tree.{type_at, pointer}
use Rattle.tree.proofs.Pointers.{pointer-past}
use Rattle.walk.specs.Walk.{most_allowance}
use Rattle.walk_laws.proofs.Found.{not_done}
use Rattle.verdict.specs.declared.Verdict.{Verdict}
use Rattle.verdict.specs.declared.Verdict.TheVariants.{Skip, IllFormed, Open, Differ}
use Rattle.verdict.specs.Verdict.{verdict}
use Rattle.pair.specs.Opened.{opened}
use Rattle.pair.proofs.Opened.{not-ragged, ReadAs, read_is}
use Rattle.verdict.proofs.Verdicts.{skip_says, equal_skip, inactive_skip}
use Rattle.comparison.specs.declared.Compared.{Compared}
use Rattle.comparison.specs.Compared.{none, refused, one_unit}
use Rattle.comparison.specs.Compare.{Blocks, by_verdict, entries_by, listed, position_by, positions, spending, below_by, pair_by, compare_blocks, compare_entries}
use Rattle.comparison.specs.Differences.{directory_allowed, differences_in}
use Rattle.compare_laws.specs.Unchanged.{Unchanged, UnchangedBlocks, same-entry, both-inactive, same-below, same-score, leaves, pointers, NoneCountedUnchanged, UnchangedNoneCounted}
use Rattle.compare_laws.proofs.Done.{read_done, spending-done, each_none, none-counted}
use Rattle.std.specs.Prelude.{Ok}

-- ---- past the end of both

drop_past : (b : Bytes) (k : ℕ) → length b ≤ k → drop k b ≡ []
drop_past b k h = no_bytes (drop k b) (simp length-drop (omega arith))

listed-past : (b c : Bytes) (p : ℕ) → max (positions 0 (length b)) (positions 0 (length c)) ≤ p → listed b p ≡ listed c p
unfolding positions
listed-past b c p h = ap (filled 40) (drop_past b (40 * p) (omega arith) ∙ sym (drop_past c (40 * p) (omega arith)))

scores-of : (d n : ℕ) → positions (suc d) n ≡ n / 20
unfolding positions
scores-of d n = rw (ne_eqb (suc d) 0 (λ z. omega arith))

pointers-past : (d : ℕ) (b c : Bytes) (p : ℕ) → length b % 20 ≡ 0 → length c % 20 ≡ 0 → max (positions (suc d) (length b)) (positions (suc d) (length c)) ≤ p → pointer b p ≡ pointer c p
pointers-past d b c p wb wc h =
    let k : max (length b / 20) (length c / 20) ≤ p = subst (λ (n : ℕ). n ≤ p) (ap₂ max (scores-of d (length b)) (scores-of d (length c))) h in
    sym (pointer-past b p (omega arith)) ∙ pointer-past c p (omega arith)

-- a position of both, or past their end
everywhere : (n : ℕ) (P : ℕ → Type 0) → ((p : ℕ) → p < n → P p) → ((p : ℕ) → n ≤ p → P p) → (p : ℕ) → P p
everywhere n P f g p = go (ltb p n) refl
  where
    go : (t : Bool) → ltb p n ≡ t → P p
    go true q = f p (ltb-true p n q)
    go false q = g p (ltb-false p n q)

position_above : (B : Blocks) (e : Entry) (d nest : ℕ) (b c : Bytes) (i a : ℕ) → position_by B e (suc d) nest b c i a ≡ B e d nest (pointer b i) (pointer c i) a
position_above B e d nest b c i a =
    let z : suc d - 1 ≡ d = omega arith in
    rw (ne_eqb (suc d) 0 (λ z. omega arith), z)

-- ---- what was read of a pair that is not one score

record BothRead (B : Blocks) (log : Bytes) (e : Entry) (level nest : ℕ) (s t : Bytes) (left : ℕ) (c : Compared) : Type 0 where
  some_left : 0 < left
  first : Row
  second : Row
  first_read : ReadAs log e level s first
  second-read : ReadAs log e level t second
  compared_as : c ≡ one_unit (below_by B e level nest first.bytes second.bytes (left - 1))

both_read : (B : Blocks) (log : Bytes) (e : Entry) (level nest : ℕ) (s t : Bytes) (left : ℕ) → same s t ≡ false → (pair_by B log e level nest s t left).end ≡ Ok tt
    → BothRead B log e level nest s t left (pair_by B log e level nest s t left)
both_read B log e level nest s t left q d =
    let w : Bytes → Bytes → Compared = λ b c. below_by B e level nest b c (left - 1) in
    let o = opened log e level s refused (λ b. opened log e level t refused (λ c. w b c)) in
    let k : pair_by B log e level nest s t left ≡ spending nest left o = rw q in
    let p = spending-done nest left o (ap (λ (c : Compared). c.end) (sym k) ∙ d) in
    let R = read_done log e level s (λ b. opened log e level t refused (λ c. w b c)) p.1 in
    let Q = read_done log e level t (λ c. w R.row.bytes c) R.rest-done in
    record {
      some_left = p.0;
      first = R.row;
      second = Q.row;
      first_read = R.read;
      second-read = Q.read;
      compared_as = k ∙ p.2 ∙ ap one_unit (read_is R.read refused (λ b. opened log e level t refused (λ c. w b c)) ∙ read_is Q.read refused (λ c. w R.row.bytes c));
    }

-- ---- nothing counted: unchanged

-- B tells, with less than what is left, that blocks are unchanged
abbrev Tells : Blocks → Bytes → ℕ → Type 0
Tells B log left = (e : Entry) (l n : ℕ) (s t : Bytes) (a : ℕ) → a < left → (B e l n s t a).end ≡ Ok tt → (B e l n s t a).count ≡ 0 → UnchangedBlocks log e l s t

entries-unchanged : (B : Blocks) (log : Bytes) (left : ℕ) → Tells B log left → (nest : ℕ) (x y : Bytes) (a : ℕ) → a < left
    → (entries_by B nest x y a).end ≡ Ok tt → (entries_by B nest x y a).count ≡ 0 → Unchanged log x y
entries-unchanged B log left f nest x y a l d z = go (verdict x y) refl d z
  where
    go : (v : Verdict) → verdict x y ≡ v → (by_verdict v (B (entry_of x) (entry_of x).depth (nest + 1) (score_of x) (score_of y) a)).end ≡ Ok tt
        → (by_verdict v (B (entry_of x) (entry_of x).depth (nest + 1) (score_of x) (score_of y) a)).count ≡ 0 → Unchanged log x y
    go Skip q d z = skipped (skip_says x y q)
      where
        skipped : (x ≡ y) ⊎ (((entry_of x).active ≡ false) × ((entry_of y).active ≡ false)) → Unchanged log x y
        skipped (inl e) = same-entry e
        skipped (inr p) = both-inactive p.0 p.1
    go IllFormed q d z = not_done _ d
    go Open q d z = same-below q (f (entry_of x) (entry_of x).depth (nest + 1) (score_of x) (score_of y) a l d z)
    go Differ q d z = absurd (omega arith)

module _ (B : Blocks) (log : Bytes) (e : Entry) (nest : ℕ) (s t : Bytes) (left : ℕ) (f : Tells B log left) where
  leaves-unchanged : same s t ≡ false → (pair_by B log e 0 nest s t left).end ≡ Ok tt → (pair_by B log e 0 nest s t left).count ≡ 0 → UnchangedBlocks log e 0 s t
  leaves-unchanged q d z =
      let R = both_read B log e 0 nest s t left q d in
      let b = R.first.bytes in
      let c = R.second.bytes in
      let n = max (positions 0 (length b)) (positions 0 (length c)) in
      leaves R.first R.second R.first_read.passes.row-held R.second-read.passes.row-held
      (everywhere n (λ p. Unchanged log (listed b p) (listed c p))
      (λ p l. each_none (λ i a. position_by B e 0 nest b c i a) (left - 1) (λ p. Unchanged log (listed b p) (listed c p))
      (λ p a h. entries-unchanged B log left f nest (listed b p) (listed c p) a (omega (arith, R.some_left)))
      n 0 0 0 (ap (λ (x : Compared). x.end) (sym R.compared_as) ∙ d) (ap (λ (x : Compared). x.count) (sym R.compared_as) ∙ z) p (omega arith) (omega arith))
      (λ p l. same-entry (listed-past b c p l)))

  scores-unchanged : (d : ℕ) → same s t ≡ false → (pair_by B log e (suc d) nest s t left).end ≡ Ok tt → (pair_by B log e (suc d) nest s t left).count ≡ 0
      → UnchangedBlocks log e (suc d) s t
  scores-unchanged d q x z =
      let R = both_read B log e (suc d) nest s t left q x in
      let b = R.first.bytes in
      let c = R.second.bytes in
      let n = max (positions (suc d) (length b)) (positions (suc d) (length c)) in
      let above : suc d ≡ 0 → ⊥ = λ q. omega arith in
      pointers R.first R.second R.first_read.passes.row-held R.second-read.passes.row-held
      (everywhere n (λ p. UnchangedBlocks log e d (pointer b p) (pointer c p))
      (λ p l. each_none (λ i a. position_by B e (suc d) nest b c i a) (left - 1) (λ p. UnchangedBlocks log e d (pointer b p) (pointer c p))
      (λ p a h y w. f e d nest (pointer b p) (pointer c p) a (omega (arith, R.some_left))
      (ap (λ (x : Compared). x.end) (sym (position_above B e d nest b c p a)) ∙ y) (ap (λ (x : Compared). x.count) (sym (position_above B e d nest b c p a)) ∙ w))
      n 0 0 0 (ap (λ (x : Compared). x.end) (sym R.compared_as) ∙ x) (ap (λ (x : Compared). x.count) (sym R.compared_as) ∙ z) p (omega arith) (omega arith))
      (λ p l. same-score (pointers-past d b c p (not-ragged (suc d) (length b) above R.first_read.has-whole-scores) (not-ragged (suc d) (length c) above R.second-read.has-whole-scores) l)))

  pair_unchanged : (level : ℕ) → (pair_by B log e level nest s t left).end ≡ Ok tt → (pair_by B log e level nest s t left).count ≡ 0 → UnchangedBlocks log e level s t
  pair_unchanged level d z = go (same s t) refl level d z
    where
      go : (b : Bool) → same s t ≡ b → (level : ℕ) → (pair_by B log e level nest s t left).end ≡ Ok tt → (pair_by B log e level nest s t left).count ≡ 0 → UnchangedBlocks log e level s t
      go true q level d z = same-score (same_true s t q)
      go false q zero d z = leaves-unchanged q d z
      go false q (suc l) d z = scores-unchanged l q d z

blocks-unchanged : (f : ℕ) (log : Bytes) (e : Entry) (level nest : ℕ) (s t : Bytes) (left : ℕ) → left < f
    → (compare_blocks f log e level nest s t left).end ≡ Ok tt → (compare_blocks f log e level nest s t left).count ≡ 0 → UnchangedBlocks log e level s t
unfolding compare_blocks
blocks-unchanged zero log e level nest s t left h d z = absurd (omega arith)
blocks-unchanged (suc f) log e level nest s t left h d z =
    pair_unchanged (λ e l n s t a. compare_blocks f log e l n s t a) log e nest s t left (λ e l n s t a k. blocks-unchanged f log e l n s t a (omega arith)) level d z

-- ---- unchanged: nothing counted

-- B counts nothing of blocks that are unchanged
abbrev CountsNone : Blocks → Bytes → Type 0
CountsNone B log = (e : Entry) (l n : ℕ) (s t : Bytes) (a : ℕ) → UnchangedBlocks log e l s t → (B e l n s t a).end ≡ Ok tt → (B e l n s t a).count ≡ 0

module _ (B : Blocks) (log : Bytes) (f : CountsNone B log) where
  entries_none : (nest : ℕ) (x y : Bytes) (a : ℕ) → Unchanged log x y → (entries_by B nest x y a).end ≡ Ok tt → (entries_by B nest x y a).count ≡ 0
  entries_none nest x y a (same-entry e) d =
      let v : verdict x y ≡ Skip = ap (λ (z : Bytes). verdict x z) (sym e) ∙ equal_skip x in
      ap (λ (v : Verdict). (by_verdict v (B (entry_of x) (entry_of x).depth (nest + 1) (score_of x) (score_of y) a)).count) v
  entries_none nest x y a (both-inactive p q) d =
      ap (λ (v : Verdict). (by_verdict v (B (entry_of x) (entry_of x).depth (nest + 1) (score_of x) (score_of y) a)).count) (inactive_skip x y p q)
  entries_none nest x y a (same-below q u) d =
      let c = B (entry_of x) (entry_of x).depth (nest + 1) (score_of x) (score_of y) a in
      ap (λ (v : Verdict). (by_verdict v c).count) q
      ∙ f (entry_of x) (entry_of x).depth (nest + 1) (score_of x) (score_of y) a u (ap (λ (v : Verdict). (by_verdict v c).end) (sym q) ∙ d)

  below_none : (e : Entry) (level nest : ℕ) (s t : Bytes) (r q : Row) (left : ℕ) → held log (type_at e level) s ≡ some r → held log (type_at e level) t ≡ some q
      → same s t ≡ false → UnchangedBlocks log e level s t → (below_by B e level nest r.bytes q.bytes left).end ≡ Ok tt
      → (below_by B e level nest r.bytes q.bytes left).count ≡ 0
  below_none e level nest s t r q left hr hq n (same-score p) d = absurd (true≢false (sym (ap (λ (z : Bytes). same s z) (sym p) ∙ same_refl s) ∙ n))
  below_none e zero nest s t r q left hr hq n (leaves r' q' hr' hq' g) d =
      none-counted (λ i a. position_by B e 0 nest r.bytes q.bytes i a) left
      (λ i a z. entries_none nest (listed r.bytes i) (listed q.bytes i) a
      (subst (λ (u : Row). Unchanged log (listed u.bytes i) (listed q.bytes i)) (some_same r' r (sym hr' ∙ hr))
      (subst (λ (u : Row). Unchanged log (listed r'.bytes i) (listed u.bytes i)) (some_same q' q (sym hq' ∙ hq)) (g i))) z)
      _ 0 0 0 d
  below_none e (suc l) nest s t r q left hr hq n (pointers r' q' hr' hq' g) d =
      none-counted (λ i a. position_by B e (suc l) nest r.bytes q.bytes i a) left
      (λ i a z. let k = position_above B e l nest r.bytes q.bytes i a in
      ap (λ (c : Compared). c.count) k
      ∙ f e l nest (pointer r.bytes i) (pointer q.bytes i) a
      (subst (λ (u : Row). UnchangedBlocks log e l (pointer u.bytes i) (pointer q.bytes i)) (some_same r' r (sym hr' ∙ hr))
      (subst (λ (u : Row). UnchangedBlocks log e l (pointer r'.bytes i) (pointer u.bytes i)) (some_same q' q (sym hq' ∙ hq)) (g i)))
      (ap (λ (c : Compared). c.end) (sym k) ∙ z))
      _ 0 0 0 d

  pair_none : (e : Entry) (level nest : ℕ) (s t : Bytes) (left : ℕ) → UnchangedBlocks log e level s t → (pair_by B log e level nest s t left).end ≡ Ok tt
      → (pair_by B log e level nest s t left).count ≡ 0
  pair_none e level nest s t left u d = go (same s t) refl
    where
      go : (b : Bool) → same s t ≡ b → (pair_by B log e level nest s t left).count ≡ 0
      go true q = ap (λ (b : Bool). (cond b none (spending nest left (opened log e level s refused (λ b. opened log e level t refused (λ c. below_by B e level nest b c (left - 1)))))).count) q
      go false q =
          let R = both_read B log e level nest s t left q d in
          ap (λ (c : Compared). c.count) R.compared_as
          ∙ below_none e level nest s t R.first R.second (left - 1) R.first_read.passes.row-held R.second-read.passes.row-held q u
          (ap (λ (c : Compared). c.end) (sym R.compared_as) ∙ d)

blocks-none : (f : ℕ) (log : Bytes) → CountsNone (λ e l n s t a. compare_blocks f log e l n s t a) log
unfolding compare_blocks
blocks-none zero log e level nest s t left u d = refl
blocks-none (suc f) log e level nest s t left u d =
    pair_none (λ e l n s t a. compare_blocks f log e l n s t a) log (blocks-none f log) e level nest s t left u d

-- ---- after the tests

tests_passed : (lent a b : Bool) (c : Compared) → (cond lent (cond a (refused Allowance) (cond b c (refused EntryRefused))) (refused LogLength)).end ≡ Ok tt
    → cond lent (cond a (refused Allowance) (cond b c (refused EntryRefused))) (refused LogLength) ≡ c
tests_passed true true b c d = not_done _ d
tests_passed true false true c d = refl
tests_passed true false false c d = not_done _ d
tests_passed false a b c d = not_done _ d

passed : (lent : Bool) (log x y : Bytes) (n : ℕ) → (differences_in lent log x y n).end ≡ Ok tt → differences_in lent log x y n ≡ compare_entries (n + 1) log 0 x y n
unfolding differences_in
passed lent log x y n d = tests_passed lent (ltb most_allowance n) (directory_allowed x && directory_allowed y) (compare_entries (n + 1) log 0 x y n) d

pub none-counted-unchanged : NoneCountedUnchanged
none-counted-unchanged log waiting x y n d z =
    let p = passed (lent_allowed (length log) (length waiting)) (tape log waiting) x y n d in
    entries-unchanged (λ e l k s t a. compare_blocks (n + 1) (tape log waiting) e l k s t a) (tape log waiting) (n + 1)
    (λ e l k s t a h. blocks-unchanged (n + 1) (tape log waiting) e l k s t a h) 0 x y n (omega arith)
    (ap (λ (c : Compared). c.end) (sym p) ∙ d) (ap (λ (c : Compared). c.count) (sym p) ∙ z)

pub unchanged-none-counted : UnchangedNoneCounted
unchanged-none-counted log waiting x y n d u =
    let p = passed (lent_allowed (length log) (length waiting)) (tape log waiting) x y n d in
    ap (λ (c : Compared). c.count) p
    ∙ entries_none (λ e l k s t a. compare_blocks (n + 1) (tape log waiting) e l k s t a) (tape log waiting) (blocks-none (n + 1) (tape log waiting)) 0 x y n u
    (ap (λ (c : Compared). c.end) (sym p) ∙ d)
