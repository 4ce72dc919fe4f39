-- A comparison that ends with number 0 ends the same from the other side, and on a log that holds the same blocks and perhaps more.
use mathlib.Core.Path.{◌≡◌, refl, sym, ap, ap₂, ◌∙◌}
use mathlib.Core.Bool.{Bool, true, false, cond, ◌&&◌}
use mathlib.Core.Option.{some}
use Prim.Native.Nat.{ℕ, zero, suc, ◌+◌, ◌-◌, max}
use native.Mathlib.Nat.{max_comm}
use lib.Dec.{eqb, ltb}
use lib.ListN.{length}
use Rattle.buffer.specs.Bytes.{Bytes, same}
use Rattle.refusal.specs.declared.Refusal.{Refusal}
use Rattle.block.specs.Block.{Row}
use Rattle.sector_log.specs.LookUp.{held, lent_allowed}
use Rattle.sector_log.specs.Parts.{tape}
use Rattle.entry.specs.declared.Entry.{Entry}
use Rattle.entry.specs.Entry.{entry_of, score_of}
use Rattle.tree.specs.Tree.{type_at, count_at, pointer}
use Rattle.walk.specs.Walk.{most_allowance}
use Rattle.walk_laws.proofs.Found.{not_done}
use Rattle.verdict.specs.declared.Verdict.{Verdict}
use Rattle.verdict.specs.declared.Verdict.TheVariants.{Skip, IllFormed, Open, Differ}
use Rattle.verdict.specs.Verdict.{verdict}
use Rattle.pair.specs.Opened.{opened}
use Rattle.pair.proofs.Opened.{read_is}
use Rattle.verdict.proofs.Verdicts.{Opening, open_says, verdict_comm, same_comm}
use Rattle.comparison.specs.declared.Compared.{Compared}
use Rattle.comparison.specs.Compared.{none, refused, one_unit, and_then, in_order}
use Rattle.comparison.specs.Compare.{Blocks, by_verdict, entries_by, listed, position_by, positions, spending, below_by, pair_by, compare_blocks}
use Rattle.comparison.specs.Differences.{directory_allowed, differences_in}
use Rattle.compare_laws.specs.Swapped.{SwappedAlike}
use Rattle.compare_laws.specs.Again.{ComparedAgain}
use Rattle.compare_laws.proofs.Done.{Read, read_done, and-then-done}
use Rattle.bedrock.proofs.Choices.{and_comm}
use Rattle.std.specs.Prelude.{Ok}

-- c, if it ends with number 0, is c' too
abbrev Same : Compared → Compared → Type 0
Same c c' = c.end ≡ Ok tt → c' ≡ c

refused-same : (w : Refusal) (c : Compared) → Same (refused w) c
refused-same w c e = not_done w e

cond_again : (b : Bool) {x y x' y' : Compared} → Same x x' → Same y y' → Same (cond b x y) (cond b x' y')
cond_again true f g = f
cond_again false f g = g

spending_again : (nest left : ℕ) (c c' : Compared) → Same c c' → Same (spending nest left c) (spending nest left c')
unfolding spending
spending_again nest left c c' f = cond_again (ltb 16 nest) (refused-same _ _) (cond_again (eqb left 0) (refused-same _ _) (λ d. ap one_unit (f d)))

-- a part that is done, and the rest
and-then_again : (r r' : Compared) (m n : ℕ) (k k' : ℕ → ℕ → Compared) → Same r r' → ((m n : ℕ) → Same (k m n) (k' m n))
    → Same (and_then r.end (m + r.count) (n + r.units) k) (and_then r'.end (m + r'.count) (n + r'.units) k')
and-then_again r r' m n k k' g f d =
    let q = and-then-done r.end (m + r.count) (n + r.units) k d in
    rw (g q.0, q.0) (f (m + r.count) (n + r.units) q.1)

order_again : (at at' : ℕ → ℕ → Compared) (left : ℕ) → ((i a : ℕ) → Same (at i a) (at' i a)) → (k i m n : ℕ) → Same (in_order at left k i m n) (in_order at' left k i m n)
unfolding in_order
order_again at at' left f zero i m n = λ d. refl
order_again at at' left f (suc k) i m n =
    and-then_again (at i (left - n)) (at' i (left - n)) m n _ _ (f i (left - n)) (λ m n. order_again at at' left f k (suc i) m n)

-- ---- entries of one shape have the same blocks

record Shape (e d : Entry) : Type 0 where
  directory : e.directory ≡ d.directory
  psize : e.psize ≡ d.psize
  dsize : e.dsize ≡ d.dsize

type_shape : (e d : Entry) → Shape e d → (level : ℕ) → type_at d level ≡ type_at e level
unfolding type_at
type_shape e d S level = ap (λ (x : Bool). cond (eqb level 0) (cond x 2 13) (2 + level)) (sym S.directory)

count_shape : (e d : Entry) → Shape e d → (level : ℕ) → count_at d level ≡ count_at e level
unfolding count_at
count_shape e d S level = ap₂ (λ (x y : ℕ). cond (eqb level 0) x y) (sym S.dsize) (sym S.psize)

opening_shape : {e d : Entry} → Opening e d → Shape e d
opening_shape O = record { directory = O.directory ∙ sym O.second-directory; psize = O.psize; dsize = O.dsize }

module _ (log log' : Bytes) (h : (t : ℕ) (s : Bytes) (r : Row) → held log t s ≡ some r → held log' t s ≡ some r) where
  -- a block that was read is read again, by an entry of the same shape
  read_again : (e d : Entry) → Shape e d → (level : ℕ) (s : Bytes) (next next' : Bytes → Compared) (R : Read log e level s next)
      → opened log' d level s refused next' ≡ next' R.row.bytes
  read_again e d S level s next next' R =
      read_is (record {
        passes = record {
          row-held = ap (λ (t : ℕ). held log' t s) (type_shape e d S level) ∙ h (type_at e level) s R.row R.read.passes.row-held;
          within_count = ap (λ (n : ℕ). ltb n (length R.row.bytes)) (count_shape e d S level) ∙ R.read.passes.within_count;
        };
        has-whole-scores = R.read.has-whole-scores;
      }) refused next'

  -- the other block first
  both_again : (e d : Entry) → Shape e d → (level : ℕ) (s t : Bytes) (next next' : Bytes → Bytes → Compared) → ((b c : Bytes) → Same (next b c) (next' c b))
      → Same (opened log e level s refused (λ b. opened log e level t refused (λ c. next b c)))
      (opened log' d level t refused (λ c. opened log' d level s refused (λ b. next' c b)))
  both_again e d S level s t next next' f z =
      let R = read_done log e level s (λ b. opened log e level t refused (λ c. next b c)) z in
      let Q = read_done log e level t (λ c. next R.row.bytes c) R.rest-done in
      read_again e d S level t _ (λ c. opened log' d level s refused (λ b. next' c b)) Q
      ∙ read_again e d S level s _ (λ b. next' Q.row.bytes b) R
      ∙ f R.row.bytes Q.row.bytes Q.rest-done
      ∙ sym (read_is Q.read refused (λ c. next R.row.bytes c))
      ∙ sym (read_is R.read refused (λ b. opened log e level t refused (λ c. next b c)))

  -- B compares in the first log, B' the other way round in the second
  module _ (B B' : Blocks) (f : (e d : Entry) → Shape e d → (l n : ℕ) (s t : Bytes) (a : ℕ) → Same (B e l n s t a) (B' d l n t s a)) where
    entries_again : (nest : ℕ) (x y : Bytes) (a : ℕ) → Same (entries_by B nest x y a) (entries_by B' nest y x a)
    entries_again nest x y a z =
        ap (λ (v : Verdict). by_verdict v (B' (entry_of y) (entry_of y).depth (nest + 1) (score_of y) (score_of x) a)) (verdict_comm y x) ∙ go (verdict x y) refl z
      where
        go : (v : Verdict) → verdict x y ≡ v
            → Same (by_verdict v (B (entry_of x) (entry_of x).depth (nest + 1) (score_of x) (score_of y) a))
            (by_verdict v (B' (entry_of y) (entry_of y).depth (nest + 1) (score_of y) (score_of x) a))
        go Skip q = λ d. refl
        go IllFormed q = λ d. refl
        go Open q =
            λ d. let O = open_says x y q in
            ap (λ (l : ℕ). B' (entry_of y) l (nest + 1) (score_of y) (score_of x) a) (sym O.depth)
            ∙ f (entry_of x) (entry_of y) (opening_shape O) (entry_of x).depth (nest + 1) (score_of x) (score_of y) a d
        go Differ q = λ d. refl

    below_again : (e d : Entry) → Shape e d → (level nest : ℕ) (b c : Bytes) (left : ℕ) → Same (below_by B e level nest b c left) (below_by B' d level nest c b left)
    below_again e d S level nest b c left z =
        ap (λ (k : ℕ). in_order (λ i a. position_by B' d level nest c b i a) left k 0 0 0) (max_comm (positions level (length c)) (positions level (length b)))
        ∙ order_again (λ i a. position_by B e level nest b c i a) (λ i a. position_by B' d level nest c b i a) left
        (λ i a. cond_again (eqb level 0) (entries_again nest (listed b i) (listed c i) a) (f e d S (level - 1) nest (pointer b i) (pointer c i) a))
        (max (positions level (length b)) (positions level (length c))) 0 0 0 z

    pair_again : (e d : Entry) → Shape e d → (level nest : ℕ) (s t : Bytes) (left : ℕ) → Same (pair_by B log e level nest s t left) (pair_by B' log' d level nest t s left)
    pair_again e d S level nest s t left z =
        ap (λ (b : Bool). cond b none (spending nest left (opened log' d level t refused (λ c. opened log' d level s refused (λ b. below_by B' d level nest c b (left - 1)))))) (same_comm t s)
        ∙ cond_again (same s t) (λ q. refl)
        (spending_again nest left _ _ (both_again e d S level s t _ (λ c b. below_by B' d level nest c b (left - 1)) (λ b c. below_again e d S level nest b c (left - 1)))) z

  blocks_again : (f : ℕ) (e d : Entry) → Shape e d → (level nest : ℕ) (s t : Bytes) (left : ℕ)
      → Same (compare_blocks f log e level nest s t left) (compare_blocks f log' d level nest t s left)
  unfolding compare_blocks
  blocks_again zero e d S level nest s t left = λ z. refl
  blocks_again (suc f) e d S level nest s t left = pair_again _ _ (λ e d S l n s t a. blocks_again f e d S l n s t a) e d S level nest s t left

  swapped_in : (lent : Bool) (x y : Bytes) (n : ℕ) → Same (differences_in lent log x y n) (differences_in lent log' y x n)
  unfolding differences_in
  swapped_in lent x y n =
      cond_again lent
      (cond_again (ltb most_allowance n) (refused-same _ _)
      (λ z. rw (and_comm (directory_allowed y) (directory_allowed x))
      (cond_again (directory_allowed x && directory_allowed y)
      (entries_again _ _ (λ e d S l k s t a. blocks_again (n + 1) e d S l k s t a) 0 x y n) (refused-same _ _) z)))
      (refused-same _ _)

pub swapped_alike : SwappedAlike
swapped_alike log waiting x y n d = swapped_in (tape log waiting) (tape log waiting) (λ t s r e. e) (lent_allowed (length log) (length waiting)) x y n d

-- twice swapped
pub compared_again : ComparedAgain
compared_again log waiting log' waiting' x y n l h d =
    let there = swapped_alike log waiting x y n d in
    ap (λ (b : Bool). differences_in b (tape log' waiting') x y n) l
    ∙ swapped_in (tape log waiting) (tape log' waiting') h (lent_allowed (length log) (length waiting)) y x n (ap (λ (c : Compared). c.end) there ∙ d)
    ∙ there
