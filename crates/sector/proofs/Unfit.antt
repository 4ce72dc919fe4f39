-- A sector that fits its check, or a blank one, and is then changed within four neighbouring bytes, does not fit.
use mathlib.Core.Path.{◌≡◌, refl, sym, ap, ap₂, ◌∙◌}
use mathlib.Core.Bool.{Bool, true, false}
use mathlib.Core.List.{◌++◌}
use Prim.Native.Nat.{ℕ, ◌+◌, ◌≤◌, ◌<◌}
use native.Mathlib.Omega.{arith}
use lib.Dec.{leb, lit<}
use borrow.Author.Tests.{leb-true, leb-false}
use lib.ListN.{length, get_or, take, drop, length-take, length-drop, get_or-replicate, take-append-drop, get_or-eq_default}
use lib.Seq.{ext_get_or, get_or-take, get_or-drop, drop-drop}
use Rattle.bedrock.proofs.Choices.{false_unless}
use Rattle.buffer.specs.Bytes.{Bytes, zeros}
use Rattle.buffer.proofs.Bytes.{same_true, zeros_get_d, small_get_d, small-take}
use Rattle.digits.specs.Number.{small}
use Rattle.hexadecimal.specs.Hex.{hex}
use Rattle.hexadecimal.proofs.HexLaws.{hex_injective}
use Rattle.crc32_rule.specs.Crc32.{crc32_of}
use Rattle.crc32_rule.specs.Burst.{ByteBurst}
use Rattle.crc32_rule.proofs.Bound.{crc32_lt}
use Rattle.crc32_rule.proofs.BurstAt.{burst-at}
use Rattle.sector.specs.Sector.{check, fits, blank}
use Rattle.sector.specs.Near.{Near, NearShows, BlankNearShows}

-- the checked bytes of two near sectors are near
front-burst : (s t : Bytes) → 499 ≤ length s → ByteBurst s t → ByteBurst (take 499 s) (take 499 t)
front-burst s t h N = record {
  from = N.from;
  same_length = simp length-take (omega (arith, N.same_length));
  before = λ i lt. within i (N.before i lt);
  behind = λ i ge. within i (N.behind i ge);
}
  where
    within : (i : ℕ) → get_or s i 0 ≡ get_or t i 0 → get_or (take 499 s) i 0 ≡ get_or (take 499 t) i 0
    within i e = go (leb 499 i) refl
      where
        go : (b : Bool) → leb 499 i ≡ b → get_or (take 499 s) i 0 ≡ get_or (take 499 t) i 0
        go false q = let lt : i < 499 = leb-false 499 i q in get_or-take 499 s i 0 lt ∙ e ∙ sym (get_or-take 499 t i 0 lt)
        go true q =
            let ge : 499 ≤ i = leb-true 499 i q in
            let ls : length (take 499 s) ≤ i = simp length-take (omega arith) in
            let lt : length (take 499 t) ≤ i = simp length-take (omega arith) in
            get_or-eq_default (take 499 s) 0 ls ∙ sym (get_or-eq_default (take 499 t) 0 lt)

-- where the damage starts behind the checked bytes, these are as they were
front_same : (s t : Bytes) (N : ByteBurst s t) → 499 ≤ length s → 499 ≤ N.from → take 499 s ≡ take 499 t
front_same s t N h g =
    let ls : length (take 499 s) ≡ 499 = simp length-take (omega arith) in
    let lt : length (take 499 t) ≡ 499 = simp length-take (omega (arith, N.same_length)) in
    ext_get_or 0 (take 499 s) (take 499 t) (ls ∙ sym lt)
    (λ i h'. let i<n : i < 499 = omega arith in get_or-take 499 s i 0 i<n ∙ N.before i (omega arith) ∙ sym (get_or-take 499 t i 0 i<n))

-- where it starts in the checked bytes, the digits of the check are as they were: "crc=" is four bytes long
digits_same : (s t : Bytes) (N : ByteBurst s t) → length s ≡ 512 → N.from < 499 → take 8 (drop 503 s) ≡ take 8 (drop 503 t)
digits_same s t N h g =
    let ls : length (take 8 (drop 503 s)) ≡ 8 = simp (length-take, length-drop) (omega arith) in
    let lt : length (take 8 (drop 503 t)) ≡ 8 = simp (length-take, length-drop) (omega (arith, N.same_length)) in
    ext_get_or 0 (take 8 (drop 503 s)) (take 8 (drop 503 t)) (ls ∙ sym lt)
    (λ i h'. let i<n : i < 8 = omega arith in
    get_or-take 8 (drop 503 s) i 0 i<n ∙ get_or-drop 503 s i 0 ∙ N.behind (503 + i) (omega arith) ∙ sym (get_or-drop 503 t i 0) ∙ sym (get_or-take 8 (drop 503 t) i 0 i<n))

pub fits-reads : (t : Bytes) → fits t ≡ true → drop 499 t ≡ check (take 499 t)
unfolding fits
fits-reads t e = same_true (drop 499 t) (check (take 499 t)) e

-- a sector of zeros does not fit: its check would begin with "c"
pub zeros-unfit : (t : Bytes) → zeros t ≡ true → fits t ≡ false
unfolding check hex
zeros-unfit t z =
    false_unless (fits t) (λ q. omega (arith, zeros_get_d t 499 z, sym (get_or-drop 499 t 0 0) ∙ ap (λ (x : Bytes). get_or x 0 0) (fits-reads t q)))

-- the digits that a sector which fits has are those of its check
digits : (t : Bytes) → drop 499 t ≡ check (take 499 t) → take 8 (drop 503 t) ≡ hex 8 (crc32_of (take 499 t))
unfolding check hex
digits t e = ap (take 8) (sym (drop-drop 4 499 t) ∙ ap (drop 4) e)

-- two near sectors that both fit are one
near_fits : (s t : Bytes) → length s ≡ 512 → small s ≡ true → Near s t → drop 499 s ≡ check (take 499 s) → drop 499 t ≡ check (take 499 t) → s ≡ t
near_fits s t h sm N a b = go (leb 499 N.burst.from) refl
  where
    close : take 499 s ≡ take 499 t → s ≡ t
    close e = sym (take-append-drop 499 s) ∙ ap₂ ◌++◌ e (a ∙ ap check e ∙ sym b) ∙ take-append-drop 499 t

    of-bytes : (x : Bytes) → small x ≡ true → (k : ℕ) → get_or (take 499 x) k 0 < 256
    of-bytes x e k = small_get_d (take 499 x) k (small-take 499 x e)

    same_check : N.burst.from < 499 → crc32_of (take 499 s) ≡ crc32_of (take 499 t)
    same_check g = hex_injective 8 _ _ (crc32_lt (take 499 s) (of-bytes s sm)) (crc32_lt (take 499 t) (of-bytes t N.of-bytes))
        (sym (digits s a) ∙ digits_same s t N.burst h g ∙ digits t b)

    go : (c : Bool) → leb 499 N.burst.from ≡ c → s ≡ t
    go true q = close (front_same s t N.burst (omega arith) (leb-true 499 N.burst.from q))
    go false q = close (burst-at (take 499 s) (take 499 t) (of-bytes s sm) (of-bytes t N.of-bytes) (front-burst s t (omega arith) N.burst) (same_check (leb-false 499 N.burst.from q)))

-- the theorem, of a sector that fits: wherever the four bytes lie
pub near_unfit : NearShows
near_unfit s t h sm f N d = false_unless (fits t) (λ q. d (sym (near_fits s t h sm N (fits-reads s f) (fits-reads t q))))

blank-at : (i : ℕ) → i < 512 → get_or blank i 0 ≡ 0
unfolding blank
blank-at i h = get_or-replicate 512 i 0 0 h

-- the theorem, of a blank sector
pub blank-unfit : BlankNearShows
unfolding check hex
blank-unfit t N z = false_unless (fits t) (λ q. two (leb N.burst.from 499) refl (fits-reads t q))
  where
    at_c : drop 499 t ≡ check (take 499 t) → get_or t 499 0 ≡ 99
    at_c e = sym (get_or-drop 499 t 0 0) ∙ ap (λ (x : Bytes). get_or x 0 0) e

    at_lf : drop 499 t ≡ check (take 499 t) → get_or t 511 0 ≡ 10
    at_lf e = sym (get_or-drop 499 t 12 0) ∙ ap (λ (x : Bytes). get_or x 12 0) e

    two : (b : Bool) → leb N.burst.from 499 ≡ b → drop 499 t ≡ check (take 499 t) → ⊥
    two true q e = omega (arith, at_lf e, N.burst.behind 511 (omega (arith, leb-true N.burst.from 499 q)), blank-at 511 (lit< tt))
    two false q e = omega (arith, at_c e, N.burst.before 499 (leb-false N.burst.from 499 q), blank-at 499 (lit< tt))
