-- Where the sectors of both parts are read on from makes no difference: the run is found at the same place, in the same part.
use mathlib.Core.Path.{◌≡◌, refl, ap, ◌∙◌}
use mathlib.Core.Bool.{cond}
use Prim.Native.Nat.{ℕ, zero, suc, ◌+◌, ◌-◌, ◌*◌, ◌%◌, ◌≤◌, ◌<◌}
use native.Mathlib.Omega.{arith}
use lib.Dec.{leb, eqb}
use borrow.Author.Tests.{lt-ltb}
use lib.ListN.{length}
use Rattle.bedrock.proofs.Choices.{on_same}
use Rattle.buffer.specs.Bytes.{Bytes, same}
use Rattle.kind.specs.Kind.{zero_score}
use Rattle.refusal.specs.declared.Refusal.TheVariants as why
use Rattle.block.specs.Block.{Row}
use Rattle.block.specs.Log.{sectors, Alike, joined, used}
use Rattle.block.proofs.Joined.{used-joined}
use Rattle.sector_log.specs.LookUp.{held, absence}
use Rattle.sector_log.specs.Parts.{tape}
use Rattle.sector_log.proofs.Alike.{held-alike, absence-alike}
use Rattle.lookup.proofs.Both.{border_place}
use Rattle.entry.specs.declared.Entry.{Entry}
use Rattle.tree.specs.Tree.{pointer, type_at}
use Rattle.leaf.specs.declared.Extent.{Extent}
use Rattle.leaf.specs.declared.Extent.TheVariants.{Stored, Zeros}
use Rattle.leaf.specs.Leaf.{zero_run, fetched, pointer_index, under}
use Rattle.file.specs.File.{split}
use Rattle.file.proofs.Inside.{Inside, under_in}
use Rattle.std.specs.Prelude.{Ok, Err, Result}
use Rattle.refusal.specs.declared.Refusal.{Refusal}

-- ---- logs with the same sectors

module _ (a b : Bytes) (f : Alike a b) (page : ℕ) (e : Entry) (offset : ℕ) where
  fetched-alike : (t : ℕ) (s : Bytes) (count : ℕ) (g h : Row → (Result Extent Refusal)) → ((r : Row) → g r ≡ h r) → fetched a t s count g ≡ fetched b t s count h
  fetched-alike t s count g h q =
      rw (held-alike a b f t s, absence-alike a b f)
      (on_same (held b t s) (Err (absence b)) _ _ (λ r. ap (λ (x : Result Extent Refusal). cond (leb (length r.bytes) count) x (Err why.OverCount)) (q r)))

  pub under_alike : (level : ℕ) (s : Bytes) → under a page e offset level s ≡ under b page e offset level s
  unfolding under
  under_alike zero s = ap (λ (x : Result Extent Refusal). cond (same s zero_score) (zero_run page e offset) x) (fetched-alike (type_at e 0) s e.dsize _ _ (λ r. refl))
  under_alike (suc d) s =
      ap (λ (x : Result Extent Refusal). cond (same s zero_score) (zero_run page e offset) x)
      (fetched-alike (2 + suc d) s e.psize _ _
      (λ r. ap (λ (x : Result Extent Refusal). cond (eqb (length r.bytes % 20) 0) x (Err why.Pointers)) (under_alike d (pointer r.bytes (pointer_index e offset d)))))

-- ---- the border

module _ (log waiting : Bytes) (u : ℕ) (h : u ≤ sectors (length log)) (f : Alike (joined u log waiting) (tape log waiting)) where
  -- a run in the used part is split alike
  split-alike : (page : ℕ) (x : Result Extent Refusal) → Inside (used log + used waiting) page x → split (512 * u) x ≡ split (512 * used log) x
  split-alike page (Ok (Stored at n)) i = go (used waiting) refl
    where
      go : (w : ℕ) → used waiting ≡ w → split (512 * u) (Ok (Stored at n)) ≡ split (512 * used log) (Ok (Stored at n))
      go zero q =
          let B = border_place log waiting u h f zero q in
          let lt : at < 512 * used log = omega (arith, i.2) in
          rw (lt-ltb at (512 * used log) lt, lt-ltb at (512 * u) (omega (arith, B.0))) refl
      go (suc w) q = ap (λ (k : ℕ). split (512 * k) (Ok (Stored at n))) ((border_place log waiting u h f (suc w) q).1 (omega arith))
  split-alike page (Ok (Zeros n)) i = refl
  split-alike page (Err w) i = refl

  pub border_split : (page : ℕ) (e : Entry) (offset level : ℕ) (s : Bytes)
      → split (512 * u) (under (joined u log waiting) page e offset level s) ≡ split (512 * used log) (under (tape log waiting) page e offset level s)
  border_split page e offset level s =
      let x = under (tape log waiting) page e offset level s in
      let i : Inside (used log + used waiting) page x = rw (← used-joined log waiting) (under_in (tape log waiting) page e offset level s) in
      ap (split (512 * u)) (under_alike (joined u log waiting) (tape log waiting) f page e offset level s) ∙ split-alike page x i
