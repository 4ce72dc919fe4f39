-- The label of either edition: its length, and that a sector which begins with it has its date, and its six lines behind that.
use mathlib.Core.Path.{◌≡◌, refl, sym, ap, ◌∙◌}
use mathlib.Core.Bool.{Bool, true, false, ◌&&◌}
use mathlib.Core.List.{[], ◌∷◌, ◌++◌, append_assoc}
use mathlib.Core.Logic.{◌⊎◌, inl, inr}
use Prim.Native.Nat.{ℕ, ◌+◌, ◌-◌, ◌≤◌, ◌<◌}
use native.Mathlib.Omega.{arith}
use lib.ListN.{length, get_or, take, drop, length-append}
use lib.Dec.{leb}
use borrow.Author.Tests.{leb-true, lt-ltb}
use lib.Seq.{take_at, drop_at, take_all, take-take}
use Rattle.bedrock.proofs.Choices.{and-true}
use Rattle.buffer.specs.Bytes.{Bytes, zeros}
use Rattle.buffer.proofs.Bytes.{same_refl, small-append}
use Rattle.buffer.proofs.Parts.{part_within}
use Rattle.digits.specs.Number.{small}
use Rattle.sector.specs.Sector.{line, date_name, label_of, is_date, is_date_or_none, front_of, dated_label, label_length, is_dated, date_field, behind}
use Rattle.sector.specs.declared.Label.{Label}
use Rattle.date.specs.Date.{decimals}
use Rattle.date.proofs.Digits.{date-decimals}
use Rattle.sector.proofs.Dates.{date-length, front-eight, length-date, dated-name, undated}
use Rattle.sector.proofs.Fields.{length_label, small-label, label-marked}

-- of either edition
pub front-lengths : (date : Bytes) → is_date_or_none date ≡ true → (length (front_of date) ≡ 0) ⊎ (length (front_of date) ≡ 14)
front-lengths [] e = inl refl
front-lengths (b ∷ bs) e = inr (front-eight (b ∷ bs) (date-length (b ∷ bs) e))

pub label-lengths : (date : Bytes) → is_date_or_none date ≡ true → (96 ≤ label_length date) × (label_length date ≤ 110)
label-lengths date e = go (front-lengths date e)
  where
    go : (length (front_of date) ≡ 0) ⊎ (length (front_of date) ≡ 14) → (96 ≤ label_length date) × (label_length date ≤ 110)
    go (inl z) = (omega arith, omega arith)
    go (inr z) = (omega arith, omega arith)

pub length-dated : (date : Bytes) (l : Label) (score : Bytes) → length score ≡ 20 → length (dated_label date l score) ≡ label_length date
length-dated date l score h = length-append (front_of date) (label_of l score) ∙ ap (λ (n : ℕ). length (front_of date) + n) (length_label l score h)

small-decimals : (d : Bytes) → decimals d ≡ true → small d ≡ true
small-decimals [] e = refl
small-decimals (b ∷ bs) e =
    let p = and-true (leb 48 b && leb b 57) (decimals bs) e in
    let q = leb-true b 57 (and-true (leb 48 b) (leb b 57) p.0).1 in
    let h : b < 256 = omega arith in
    rw (lt-ltb b 256 h) (small-decimals bs p.1)

pub small-dated : (date : Bytes) (l : Label) (score : Bytes) → is_date_or_none date ≡ true → small (dated_label date l score) ≡ true
small-dated [] l score e = small-label l score
small-dated (b ∷ bs) l score e =
    small-append (line date_name (b ∷ bs)) (label_of l score)
    (small-append date_name ((b ∷ bs) ++ (10 ∷ [])) refl (small-append (b ∷ bs) (10 ∷ []) (small-decimals (b ∷ bs) (date-decimals (b ∷ bs) e)) refl))
    (small-label l score)

pub dated-marked : (date : Bytes) (l : Label) (score x : Bytes) → zeros (dated_label date l score ++ x) ≡ false
dated-marked [] l score x = label-marked l score x
dated-marked (b ∷ bs) l score x = refl

-- the first edition begins with no date's line
plain : (s : Bytes) (l : Label) (score : Bytes) → take 96 s ≡ label_of l score → date_field s ≡ []
unfolding label_of
plain s l score e = go (is_dated s) refl
  where
    go : (b : Bool) → is_dated s ≡ b → date_field s ≡ []
    go false q = undated s q
    go true q =
        let z : take 5 (label_of l score) ≡ date_name = ap (take 5) (sym e) ∙ take-take 5 96 s (omega arith) ∙ dated-name s q in
        let y : ◌≡◌ {A = ℕ} 114 100 = ap (λ (x : Bytes). get_or x 0 0) z in
        absurd (omega arith)

-- the second edition begins with that of its date
dated : (s date x : Bytes) → is_date date ≡ true → take 110 s ≡ line date_name date ++ x → date_field s ≡ date
unfolding date_field is_dated
dated s date x d e =
    let n = date-length date d in
    let h : take 8 (drop 5 s) ≡ date =
    sym (part_within 8 5 110 s (omega arith)) ∙ ap (λ (y : Bytes). take 8 (drop 5 y)) e ∙ ap (take 8) (append_assoc date (10 ∷ []) x) ∙ take_at date (10 ∷ x) 8 n in
    let f : take 14 s ≡ line date_name date =
    sym (take-take 14 110 s (omega arith)) ∙ ap (take 14) e ∙ take_at (line date_name date) x 14 (omega (arith, length-date date)) in
    rw (h, f, d, same_refl (line date_name date)) refl

-- a sector that begins with a label
module _ (s date : Bytes) (l : Label) (score : Bytes) (d : is_date_or_none date ≡ true) (e : take (label_length date) s ≡ dated_label date l score) where
  -- the six lines, behind the date's
  pub lines-behind : length score ≡ 20 → take 96 (drop (length (front_of date)) s) ≡ label_of l score
  lines-behind h =
      let f = front_of date in
      sym (part_within 96 (length f) (length f + 96) s (omega arith)) ∙ ap (λ (x : Bytes). take 96 (drop (length f) x)) e
      ∙ ap (take 96) (drop_at f (label_of l score) (length f) refl) ∙ take_all 96 (label_of l score) (omega (arith, length_label l score h))

  pub date-is : date_field s ≡ date
  date-is = go date d e
    where
      go : (x : Bytes) → is_date_or_none x ≡ true → take (label_length x) s ≡ dated_label x l score → date_field s ≡ x
      go [] g p = plain s l score p
      go (b ∷ bs) g p = dated s (b ∷ bs) (label_of l score) g (ap (λ (n : ℕ). take (n + 96) s) (sym (front-eight (b ∷ bs) (date-length (b ∷ bs) g))) ∙ p)

  pub behind-is : behind s ≡ drop (length (front_of date)) s
  behind-is = ap (λ (x : Bytes). drop (length (front_of x)) s) date-is
