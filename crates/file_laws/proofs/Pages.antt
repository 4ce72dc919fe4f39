-- Whether an offset reads, and why not, does not depend on the page of zeros.
use mathlib.Core.Path.{◌≡◌, refl, ap}
use mathlib.Core.Bool.{Bool, true, false, cond}
use mathlib.Core.Option.{Option, none, some}
use Prim.Native.Nat.{ℕ, zero, suc, ◌+◌, ◌%◌}
use native.Mathlib.Omega.{arith}
use lib.Dec.{leb, ltb, eqb}
use lib.ListN.{length}
use Rattle.bedrock.specs.Choice.{on}
use Rattle.buffer.specs.Bytes.{Bytes, same}
use Rattle.kind.specs.Kind.{zero_score}
use Rattle.refusal.specs.declared.Refusal.{Refusal}
use Rattle.refusal.specs.declared.Refusal.TheVariants as why
use Rattle.block.specs.declared.Block.{Block}
use Rattle.block.specs.Block.{Row, place_of}
use Rattle.sector_log.specs.LookUp.{held, absence}
use Rattle.entry.specs.declared.Entry.{Entry}
use Rattle.entry.specs.Entry.{entry_of, score_of}
use Rattle.tree.specs.Tree.{pointer}
use Rattle.leaf.specs.declared.Extent.{Extent}
use Rattle.leaf.specs.declared.Extent.TheVariants.{Stored, Zeros}
use Rattle.leaf.specs.Leaf.{zero_run, stored_run, leaf_run, fetched, pointer_index, under}
use Rattle.file.specs.File.{page_allowed, entry_readable, extent_at}
use Rattle.file_laws.proofs.Extents.{Reads}
use Rattle.std.specs.Prelude.{Ok, Err, Result}

-- why an offset does not read, if it does not
abbrev pub why_not : Result Extent Refusal → Option Refusal
why_not (Ok (Stored at n)) = none
why_not (Ok (Zeros n)) = none
why_not (Err w) = some w

pub refused_why : (x : Result Extent Refusal) (w : Refusal) → why_not x ≡ some w → x ≡ Err w
refused_why (Ok (Stored at n)) w e = let z : ◌≡◌ {A = ℕ} 0 1 = cc in absurd (omega arith)
refused_why (Ok (Zeros n)) w e = let z : ◌≡◌ {A = ℕ} 0 1 = cc in absurd (omega arith)
refused_why (Err v) w e = let z : v ≡ w = cc in ap Err z

pub answers-why : (x : Result Extent Refusal) → why_not x ≡ none → Reads x
answers-why (Ok (Stored at n)) e = tt
answers-why (Ok (Zeros n)) e = tt
answers-why (Err w) e = let z : ◌≡◌ {A = ℕ} 0 1 = cc in absurd (omega arith)

cond-alike : (b : Bool) (x x' y y' : Result Extent Refusal) → why_not x ≡ why_not x' → why_not y ≡ why_not y' → why_not (cond b x y) ≡ why_not (cond b x' y')
cond-alike true x x' y y' p q = p
cond-alike false x x' y y' p q = q

on_alike : (o : Option Row) (x : Result Extent Refusal) (f f' : Row → (Result Extent Refusal)) → ((r : Row) → why_not (f r) ≡ why_not (f' r)) → why_not (on o x f) ≡ why_not (on o x f')
on_alike none x f f' g = refl
on_alike (some r) x f f' g = g r

module _ (log : Bytes) (p q : ℕ) (e : Entry) (offset : ℕ) where
  fetched-alike : (t : ℕ) (s : Bytes) (count : ℕ) (f f' : Row → (Result Extent Refusal)) → ((r : Row) → why_not (f r) ≡ why_not (f' r))
      → why_not (fetched log t s count f) ≡ why_not (fetched log t s count f')
  fetched-alike t s count f f' g =
      on_alike (held log t s) (Err (absence log)) _ _ (λ r. cond-alike (leb (length r.bytes) count) (f r) (f' r) (Err why.OverCount) (Err why.OverCount) (g r) refl)

  leaf-alike : (b : Block) → why_not (leaf_run p e offset b) ≡ why_not (leaf_run q e offset b)
  unfolding leaf_run
  leaf-alike b = cond-alike (ltb (offset % e.dsize) b.size) (stored_run e offset b) (stored_run e offset b) (zero_run p e offset) (zero_run q e offset) refl refl

  under_alike : (level : ℕ) (s : Bytes) → why_not (under log p e offset level s) ≡ why_not (under log q e offset level s)
  unfolding under
  under_alike zero s =
      cond-alike (same s zero_score) (zero_run p e offset) (zero_run q e offset) _ _ refl (fetched-alike _ s e.dsize _ _ (λ r. leaf-alike (place_of r)))
  under_alike (suc d) s =
      cond-alike (same s zero_score) (zero_run p e offset) (zero_run q e offset) _ _ refl
      (fetched-alike (2 + suc d) s e.psize _ _
      (λ r. cond-alike (eqb (length r.bytes % 20) 0) _ _ (Err why.Pointers) (Err why.Pointers) (under_alike d (pointer r.bytes (pointer_index e offset d))) refl))

pub any_page : (lent : Bool) (log p q entry : Bytes) (offset : ℕ) → page_allowed p ≡ true → page_allowed q ≡ true → why_not (extent_at lent log p entry offset) ≡ why_not (extent_at lent log q entry offset)
unfolding extent_at
any_page lent log p q entry offset hp hq =
    let e = entry_of entry in
    let below = under_alike log (length p) (length q) e offset e.depth (score_of entry) in
    rw (hp, hq) (cond-alike (lent) _ _ (Err why.LogLength) (Err why.LogLength)
    (cond-alike (entry_readable entry) _ _ (Err why.Entry) (Err why.Entry)
    (cond-alike (ltb offset e.size) _ _ (Err why.Offset) (Err why.Offset) below refl) refl) refl)
