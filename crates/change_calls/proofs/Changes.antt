-- What is answered of changes is small enough to pack, and is read back as it was.
use mathlib.Core.Path.{◌≡◌, refl, sym, ap, ap₂, ◌∙◌}
use mathlib.Core.Bool.{Bool, true, false, ◌&&◌}
use Prim.Native.Nat.{ℕ, ◌+◌, ◌*◌, ◌/◌, ◌%◌, ◌≤◌}
use native.Mathlib.Omega.{arith}
use lib.Dec.{ltb}
use lib.ListN.{length}
use borrow.Author.Tests.{ltb-false}
use Rattle.bedrock.proofs.Choices.{cond_ind, and-true}
use Rattle.buffer.specs.Bytes.{Bytes}
use Rattle.kind.specs.Kind.{longest}
use Rattle.refusal.specs.declared.Refusal.TheVariants.{Entry as EntryRefused}
use Rattle.refusal.specs.Number.{number_of}
use Rattle.sector_log.specs.LookUp.{lent_allowed}
use Rattle.sector_log.specs.Parts.{tape}
use Rattle.visit.specs.Visit.{end_number}
use Rattle.walk.specs.Walk.{most_allowance}
use Rattle.difference.specs.declared.Difference.{Difference}
use Rattle.difference.specs.declared.Difference.TheVariants.{First, Second, Nowhere}
use Rattle.difference.specs.Difference.{block_allowed, difference_of}
use Rattle.difference.proofs.First.{first-within, second-within}
use Rattle.difference.proofs.Rest.{allowed_facts}
use Rattle.comparison.specs.declared.Compared.{Compared}
use Rattle.comparison.specs.Differences.{directory_allowed, differences_in, differences_of}
use Rattle.comparison.proofs.Bounds.{Within, entries-within}
use Rattle.walk_calls.specs.Walked.{end_sector}
use Rattle.change_calls.specs.Changes.{handed, difference_unpacked, DifferenceUnpacks, counts, compared_result, DifferencesUnpack}
use Rattle.results.proofs.Numbers.{number-bounds}
use Rattle.std.specs.Prelude.{Ok, Err, Result, ⊤}
use Rattle.refusal.specs.declared.Refusal.{Refusal}

-- ---- the first difference

-- an entry that is handed back starts within the longest block
small : (a b : Bytes) (at : ℕ) → (t : Bool) → (block_allowed a && block_allowed b) ≡ t → (t ≡ false → ⊥) → at + 40 ≤ length a → at ≤ longest
small a b at true q n h = omega (arith, h, (allowed_facts a (and-true (block_allowed a) (block_allowed b) q).0).1)
small a b at false q n h = absurd (n refl)

small-second : (a b : Bytes) (at : ℕ) → (t : Bool) → (block_allowed a && block_allowed b) ≡ t → (t ≡ false → ⊥) → at + 40 ≤ length b → at ≤ longest
small-second a b at true q n h = omega (arith, h, (allowed_facts b (and-true (block_allowed a) (block_allowed b) q).1).1)
small-second a b at false q n h = absurd (n refl)

-- where the test isn't passed it is a refusal
not_passed : (a b : Bytes) → (block_allowed a && block_allowed b) ≡ false → difference_of a b ≡ Err EntryRefused
unfolding difference_of
not_passed a b q = rw q

pub first_small : (a b : Bytes) (d : Result Difference Refusal) (at : ℕ) → d ≡ difference_of a b → d ≡ Ok (First at) → at ≤ longest
first_small a b d at e f =
    let g : difference_of a b ≡ Ok (First at) = sym e ∙ f in
    small a b at (block_allowed a && block_allowed b) refl
    (λ q. let r = not_passed a b q in let z : ◌≡◌ {A = ℕ} 0 1 = cc in absurd (omega arith)) (first-within a b at g)

pub second-small : (a b : Bytes) (d : Result Difference Refusal) (at : ℕ) → d ≡ difference_of a b → d ≡ Ok (Second at) → at ≤ longest
second-small a b d at e f =
    let g : difference_of a b ≡ Ok (Second at) = sym e ∙ f in
    small-second a b at (block_allowed a && block_allowed b) refl
    (λ q. let r = not_passed a b q in let z : ◌≡◌ {A = ℕ} 0 1 = cc in absurd (omega arith)) (second-within a b at g)

-- a number with a block and a byte above it
back : (number block start r : ℕ) → number ≤ 255 → block ≤ 3 → r ≡ number + 256 * (block + 4 * start) → difference_unpacked r ≡ handed number block start
unfolding difference_unpacked
back number block start r h k e =
    let u : r / 256 ≡ block + 4 * start = omega arith in
    let a : r % 256 ≡ number = omega arith in
    let b : r / 256 % 4 ≡ block = ap (λ (x : ℕ). x % 4) u ∙ omega arith in
    let c : r / 256 / 4 ≡ start = ap (λ (x : ℕ). x / 4) u ∙ omega arith in
    λ i. handed (a i) (b i) (c i)

pub difference_unpacks : DifferenceUnpacks
difference_unpacks (Ok (First at)) = back 0 1 at _ (omega arith) (omega arith) (omega arith)
difference_unpacks (Ok (Second at)) = back 0 2 at _ (omega arith) (omega arith) (omega arith)
difference_unpacks (Ok Nowhere) = back 0 0 0 _ (omega arith) (omega arith) (omega arith)
difference_unpacks (Err w) = back (number_of w) 0 0 _ (omega (arith, (number-bounds w).1)) (omega arith) (omega arith)

-- ---- the differences

differences_in_lem : (lent : Bool) (log x y : Bytes) (n : ℕ) → Within most_allowance 1 (differences_in lent log x y n)
unfolding differences_in
differences_in_lem lent log x y n =
    cond_ind (Within most_allowance 1) lent _ _
    (λ l. cond_ind (Within most_allowance 1) (ltb most_allowance n) _ _ (λ a. (omega arith, omega arith))
    (λ a. let w = entries-within (n + 1) log 0 x y n in
    cond_ind (Within most_allowance 1) (directory_allowed x && directory_allowed y) _ _
    (λ e. (omega (arith, w.0, ltb-false most_allowance n a), w.1)) (λ e. (omega arith, omega arith))))
    (λ l. (omega arith, omega arith))

-- of the code's answer: the units and the count are few
pub compared_few : (log waiting x y : Bytes) (n : ℕ) (c : Compared) → c ≡ differences_of log waiting x y n → Within most_allowance 1 c
compared_few log waiting x y n c e = rw e (differences_in_lem (lent_allowed (length log) (length waiting)) (tape log waiting) x y n)

pub compared_so : (c d : Compared) (k s : ℕ) → c ≡ d → k ≡ end_number c.end → s ≡ end_sector c.end → counts (k + 256 * (c.units + 1048576 * c.count)) s ≡ compared_result d
compared_so c d k s e f g = ap₂ (λ (x y : ℕ). counts (x + 256 * (c.units + 1048576 * c.count)) y) f g ∙ ap compared_result e

end_few : (e : Result ⊤ Refusal) → end_number e ≤ 255
end_few (Ok tt) = omega arith
end_few (Err w) = omega (arith, (number-bounds w).1)

pub differences_unpack : DifferencesUnpack
differences_unpack log waiting x y n =
    let c = differences_of log waiting x y n in
    let k = end_number c.end in
    let u = c.units in
    let m = c.count in
    let r = k + 256 * (u + 1048576 * m) in
    let few = end_few c.end in
    let short = (compared_few log waiting x y n c refl).0 in
    let v : r / 256 ≡ u + 1048576 * m = omega arith in
    (omega arith, ap (λ (z : ℕ). z % 1048576) v ∙ omega arith, ap (λ (z : ℕ). z / 1048576) v ∙ omega arith)
