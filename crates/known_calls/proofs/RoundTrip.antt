-- What is known reads back from its bytes, and what is learned fits them.
use mathlib.Core.Path.{◌≡◌, refl, ap, ◌∙◌}
use mathlib.Core.Bool.{Bool, true, false}
use Prim.Native.Nat.{ℕ, ◌+◌, ◌-◌, ◌≤◌, ◌<◌, ◌^◌}
use native.Mathlib.Omega.{arith}
use lib.Dec.{eqb}
use lib.ListN.{length, take, drop, get_or}
use borrow.Author.Tests.{ne_eqb}
use Rattle.digits.specs.Number.{digits, be_bytes, be_number}
use Rattle.digits.proofs.NumberLaws.{value-digits}
use Rattle.refusal.specs.Number.{told_sector}
use Rattle.block.specs.Log.{sectors, used}
use Rattle.block.proofs.Used.{used_le_sectors}
use Rattle.block.proofs.Joined.{sectors-joined}
use Rattle.sector_log.specs.Parts.{tape}
use Rattle.results.proofs.Doubts.{absence-told}
use Rattle.known.specs.declared.Known.{Known}
use Rattle.known.specs.Known.{missing, doubt_of, learned}
use Rattle.known.proofs.Doubts.{missing-is-absence}
use Rattle.known_bytes.specs.KnownBytes.{doubt_number, doubt_by, exact_byte, known_bytes, known_of}
use Rattle.known_calls.specs.Promises.{ReadsBack, HasLength, LearnedFits}
use Rattle.known_bytes.proofs.Numbers.{length-known}
use Rattle.std.specs.Prelude.{Some, None, Option as Optional}
use Rattle.sector_number.specs.declared.SectorNumber.{SectorNumber}

pub has-length : HasLength
has-length k = length-known k

eight_back : (n : ℕ) → n < 2 ^ 64 → be_number (be_bytes 8 n) ≡ n
eight_back n h = value-digits 256 8 n h

doubt_back : (d : Optional SectorNumber) → doubt_by (doubt_number d) ≡ d
unfolding doubt_by
doubt_back None = refl
doubt_back (Some n) =
    let z : n.0 + 1 - 1 ≡ n.0 = omega arith in
    rw (ne_eqb (n.0 + 1) 0 (λ e. omega (arith, e))) (ap (λ (k : ℕ). Some (record { 0 = k })) z)

exact_back : (b : Bool) → eqb (exact_byte b) 1 ≡ b
exact_back true = refl
exact_back false = refl

used-bytes : (k : Known) → take 8 (known_bytes k) ≡ be_bytes 8 k.used.0
unfolding known_bytes digits
used-bytes k = refl

waits-bytes : (k : Known) → take 8 (drop 8 (known_bytes k)) ≡ be_bytes 8 k.waits.0
unfolding known_bytes digits
waits-bytes k = refl

doubt-bytes : (k : Known) → take 8 (drop 16 (known_bytes k)) ≡ be_bytes 8 (doubt_number k.doubt)
unfolding known_bytes digits
doubt-bytes k = refl

last_byte : (k : Known) → get_or (known_bytes k) 24 0 ≡ exact_byte k.exact
unfolding known_bytes digits
last_byte k = refl

pub reads_back : ReadsBack
unfolding known_of
reads_back k f =
    let u : be_number (take 8 (known_bytes k)) ≡ k.used.0 = ap be_number (used-bytes k) ∙ eight_back k.used.0 f.0 in
    let w : be_number (take 8 (drop 8 (known_bytes k))) ≡ k.waits.0 = ap be_number (waits-bytes k) ∙ eight_back k.waits.0 f.1 in
    let d : doubt_by (be_number (take 8 (drop 16 (known_bytes k)))) ≡ k.doubt =
    ap doubt_by (ap be_number (doubt-bytes k) ∙ eight_back (doubt_number k.doubt) f.2) ∙ doubt_back k.doubt in
    let e : eqb (get_or (known_bytes k) 24 0) 1 ≡ k.exact = ap (λ (x : ℕ). eqb x 1) (last_byte k) ∙ exact_back k.exact in
    λ i. record { used = record { 0 = u i }; waits = record { 0 = w i }; doubt = d i; exact = e i }

-- a doubt is told as a refusal tells it
told : (d : Optional SectorNumber) → doubt_number d ≤ told_sector (missing d) + 1
told None = omega arith
told (Some n) = omega arith

pub learned-fits : LearnedFits
unfolding learned
learned-fits log w index h g =
    let J = tape log w in
    let n = sectors-joined (used log) log w (used_le_sectors log) in
    let t : told_sector (missing (doubt_of J)) ≤ used log + sectors (length w) =
    rw (missing-is-absence J) (absence-told (used log + sectors (length w)) J (omega (arith, n))) in
    let a : used log < 2 ^ 64 = omega (arith, h, used_le_sectors log) in
    let b : used w < 2 ^ 64 = omega (arith, g, used_le_sectors w) in
    let c : doubt_number (doubt_of J) < 2 ^ 64 = omega (arith, h, g, used_le_sectors log, told (doubt_of J), t) in
    (a, b, c)
