-- The reasons of reading, test by test and below a score.
use mathlib.Core.Path.{◌≡◌}
use mathlib.Core.Bool.{Bool}
use Prim.Native.Nat.{ℕ, ◌*◌, ◌%◌, ◌≤◌}
use native.Mathlib.Omega.{arith}
use lib.Dec.{ltb, eqb}
use lib.ListN.{length}
use Rattle.bedrock.proofs.Choices.{cond_ind}
use Rattle.buffer.specs.Bytes.{Bytes}
use Rattle.refusal.specs.declared.Refusal.{Refusal}
use Rattle.refusal.specs.Number.{number_of}
use Rattle.block.specs.Log.{used}
use Rattle.block.specs.Block.{place_of}
use Rattle.block.specs.declared.Block.{Block}
use Rattle.sector_log.specs.LookUp.{doubtful, absence, lent_allowed}
use Rattle.sector_log.specs.Parts.{tape}
use Rattle.entry.specs.declared.Entry.{Entry}
use Rattle.entry.specs.Entry.{entry_of, score_of}
use Rattle.leaf.specs.declared.Extent.{Extent}
use Rattle.leaf.specs.declared.Extent.TheVariants as extent
use Rattle.leaf.specs.Leaf.{leaf_run}
use Rattle.leaf.proofs.Under.{under_ind}
use Rattle.file.specs.declared.Located.{Located}
use Rattle.file.specs.declared.Located.TheVariants as part
use Rattle.file.specs.File.{page_allowed, entry_readable, test, extent_at, split, located}
use Rattle.file_laws.specs.Reasons.{ReadingsReasons}
use Rattle.std.specs.Prelude.{Ok, Err, Result}

-- not refused, or for a reason of reading
abbrev Readings : Result Extent Refusal → Type 0
Readings (Ok (extent.Stored at n)) = Unit {0}
Readings (Ok (extent.Zeros n)) = Unit {0}
Readings (Err w) = number_of w ≤ 19

missing_reason : (log : Bytes) → number_of (absence log) ≤ 19
unfolding absence
missing_reason log = cond_ind (λ (w : Refusal). number_of w ≤ 19) (eqb (doubtful log) 0) _ _ (λ _. omega arith) (λ _. omega arith)

leaf_reason : (page : ℕ) (e : Entry) (offset : ℕ) (b : Block) → Readings (leaf_run page e offset b)
unfolding leaf_run
leaf_reason page e offset b = cond_ind Readings (ltb (offset % e.dsize) b.size) _ _ (λ _. tt) (λ _. tt)

test_reason : (b : Bool) (w : Refusal) (x : Result Extent Refusal) → number_of w ≤ 19 → Readings x → Readings (test b w x)
test_reason b w x h r = cond_ind Readings b _ _ (λ _. r) (λ _. h)

extent_reason : (lent : Bool) (log page entry : Bytes) (offset : ℕ) → Readings (extent_at lent log page entry offset)
unfolding extent_at
extent_reason lent log page entry offset =
    let e = entry_of entry in
    test_reason lent _ _ (omega arith)
    (test_reason (page_allowed page) _ _ (omega arith)
    (test_reason (entry_readable entry) _ _ (omega arith)
    (test_reason (ltb offset e.size) _ _ (omega arith)
    (under_ind log (length page) e offset Readings (missing_reason log) (omega arith) (omega arith) tt (λ r _. leaf_reason (length page) e offset (place_of r)) e.depth (score_of entry)))))

-- a run is refused in both parts for the reason for which it is in one
split_reason : (border : ℕ) (x : Result Extent Refusal) (w : Refusal) → Readings x → split border x ≡ Err w → number_of w ≤ 19
split_reason border (Ok (extent.Stored at n)) w r e =
    absurd (cond_ind (λ (y : Result Located Refusal). y ≡ Err w → ⊥) (ltb at border) _ _
    (λ _ q. let z : ◌≡◌ {A = ℕ} 0 1 = cc in omega arith) (λ _ q. let z : ◌≡◌ {A = ℕ} 0 1 = cc in omega arith) e)
split_reason border (Ok (extent.Zeros n)) w r e = let z : ◌≡◌ {A = ℕ} 0 1 = cc in absurd (omega arith)
split_reason border (Err v) w r e = let z : v ≡ w = cc in rw (← z) r

pub readings_reasons : ReadingsReasons
unfolding located
readings_reasons log waiting page entry offset w e =
    let lent = lent_allowed (length log) (length waiting) in
    let both = tape log waiting in
    split_reason (512 * used log) (extent_at lent both page entry offset) w (extent_reason lent both page entry offset) e
