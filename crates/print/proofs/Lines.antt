-- Digits, lines and the text written.
use mathlib.Core.Path.{◌≡◌, refl, ap, ◌∙◌}
use mathlib.Core.Bool.{Bool, true, false}
use mathlib.Core.List.{[], ◌∷◌, ◌++◌, append_assoc, append-nil}
use Prim.Native.Nat.{ℕ, ◌+◌, ◌/◌, ◌%◌, ◌≤◌, ◌<◌}
use native.Mathlib.Omega.{arith}
use native.Mathlib.Nat.{zero-add}
use lib.Dec.{eqb}
use borrow.Author.Tests.{ne_eqb}
use lib.ListN.{length, set, length-append}
use Rattle.buffer.specs.Bytes.{Bytes, put}
use Rattle.buffer.proofs.Put.{length-put, put_next, put_one}
use Rattle.sector.specs.Sector.{line, lines}
use Rattle.sector_log.specs.LookUp.{most_sectors}
use Rattle.survey.specs.declared.Survey.{Survey}
use Rattle.print.specs.Text.{decimal, sectors_name, used_name, records_name, doubtful_name, verdict_name, verdict, text_of}
use Rattle.print.proofs.Decimal.{decimal-one, decimal-more, decimal-short}

-- d became e: x was written from `at` on, and r is the place after it
abbrev pub Wrote : Bytes → Bytes → ℕ → Bytes → ℕ → Type 0
Wrote d e at x r = (e ≡ put d at x) × (r ≡ at + length x)

-- one write after another
pub wrote-both : (d d₁ d₂ x y : Bytes) (at n r : ℕ) → at + (length x + length y) ≤ length d → Wrote d d₁ at x n → Wrote d₁ d₂ n y r → Wrote d d₂ at (x ++ y) r
wrote-both d d₁ d₂ x y at n r h p q =
    (q.0 ∙ ap (λ (z : Bytes). put z n y) p.0 ∙ put_next d at n x y p.1 h, omega (arith, p.1, q.1, length-append x y))

-- one byte stored
pub wrote-byte : (d : Bytes) (at v : ℕ) → at < length d → Wrote d (set d at v) at (v ∷ []) (at + 1)
wrote-byte d at v h = (put_one d at v h, refl)

pub wrote-length : (d e x : Bytes) (at r : ℕ) → at + length x ≤ length d → Wrote d e at x r → length e ≡ length d
wrote-length d e x at r h p = ap length p.0 ∙ length-put d at x h

after : (d d₁ x : Bytes) (at r v : ℕ) → at + (length x + 1) ≤ length d → Wrote d d₁ at x r → Wrote d (set d₁ r v) at (x ++ (v ∷ [])) (r + 1)
after d d₁ x at r v h p = wrote-both d d₁ (set d₁ r v) x (v ∷ []) at r (r + 1) h p (wrote-byte d₁ r v (omega (arith, p.1, wrote-length d d₁ x at r (omega arith) p)))

-- a number: one digit, or the digits of its tenth and one more
pub one-room : (d : Bytes) (at n : ℕ) → n < 10 → at + length (decimal n) ≤ length d → at < length d
one-room d at n h k = omega (arith, ap length (decimal-one n h))

pub number-one : (d : Bytes) (at n : ℕ) → n < 10 → at + length (decimal n) ≤ length d → Wrote d (set d at (48 + n)) at (decimal n) (at + 1)
number-one d at n h k =
    rw (decimal-one n h) (wrote-byte d at (48 + n) (one-room d at n h k))

pub tenth_room : (d : Bytes) (at n : ℕ) → 10 ≤ n → at + length (decimal n) ≤ length d → at + (length (decimal (n / 10)) + 1) ≤ length d
tenth_room d at n h k = omega (arith, ap length (decimal-more n h), length-append (decimal (n / 10)) ((48 + n % 10) ∷ []))

pub number_more : (d d₁ : Bytes) (at r n : ℕ) → 10 ≤ n → at + length (decimal n) ≤ length d → Wrote d d₁ at (decimal (n / 10)) r → Wrote d (set d₁ r (48 + n % 10)) at (decimal n) (r + 1)
number_more d d₁ at r n h k p =
    rw (decimal-more n h) (after d d₁ (decimal (n / 10)) at r (48 + n % 10) (tenth_room d at n h k) p)

-- a line: its name, its value and a line feed
pub line-written : (d d₁ d₂ name v : Bytes) (at r : ℕ) → at + (length name + (length v + 1)) ≤ length d → d₁ ≡ put d at name → Wrote d₁ d₂ (at + length name) v r
    → Wrote d (set d₂ r 10) at (line name v) (r + 1)
line-written d d₁ d₂ name v at r h e p =
    rw (← append_assoc name v (10 ∷ []))
    (after d d₂ (name ++ v) at r 10 (omega (arith, length-append name v)) (wrote-both d d₁ d₂ name v at (at + length name) r (omega arith) (e, refl) p))

pub line-length : (name v : Bytes) → length (line name v) ≡ length name + (length v + 1)
line-length name v = length-append name (v ++ (10 ∷ [])) ∙ ap (λ (k : ℕ). length name + k) (length-append v (10 ∷ []))

-- the verdict
pub verdict-sound : (d e : Bytes) (at n : ℕ) → n ≡ 0 → e ≡ put d at (line verdict_name (verdict 0)) → Wrote d e at (line verdict_name (verdict n)) (at + 14)
unfolding verdict
verdict-sound d e at n z p = rw z (p, refl)

pub verdict_notknown : (d e : Bytes) (at n : ℕ) → (n ≡ 0 → ⊥) → e ≡ put d at (line verdict_name (verdict 1)) → Wrote d e at (line verdict_name (verdict n)) (at + 17)
unfolding verdict
verdict_notknown d e at n z p = rw (ne_eqb n 0 z) (p, refl)

pub verdict-length : (n : ℕ) → length (line verdict_name (verdict n)) ≤ 17
unfolding verdict
verdict-length n = go (eqb n 0) refl
  where
    go : (b : Bool) → eqb n 0 ≡ b → length (line verdict_name (verdict n)) ≤ 17
    go true q = rw q (omega arith)
    go false q = rw q (omega arith)

-- wrote-five-lines texts one after the other
wrote_five_lines : (d d₁ d₂ d₃ d₄ d₅ x₁ x₂ x₃ x₄ x₅ : Bytes) (a b c e r : ℕ) → length x₁ + length x₂ + length x₃ + length x₄ + length x₅ ≤ length d
    → Wrote d d₁ 0 x₁ a → Wrote d₁ d₂ a x₂ b → Wrote d₂ d₃ b x₃ c → Wrote d₃ d₄ c x₄ e → Wrote d₄ d₅ e x₅ r
    → Wrote d d₅ 0 (lines (x₁ ∷ x₂ ∷ x₃ ∷ x₄ ∷ x₅ ∷ [])) r
wrote_five_lines d d₁ d₂ d₃ d₄ d₅ x₁ x₂ x₃ x₄ x₅ a b c e r h w₁ w₂ w₃ w₄ w₅ =
    let l₂ = length-append x₁ x₂ in
    let l₃ = length-append (x₁ ++ x₂) x₃ in
    let l₄ = length-append (x₁ ++ x₂ ++ x₃) x₄ in
    let v₂ = wrote-both d d₁ d₂ x₁ x₂ 0 a b (omega arith) w₁ w₂ in
    let v₃ = wrote-both d d₂ d₃ (x₁ ++ x₂) x₃ 0 b c (omega arith) v₂ w₃ in
    let v₄ = wrote-both d d₃ d₄ (x₁ ++ x₂ ++ x₃) x₄ 0 c e (omega arith) v₃ w₄ in
    let v₅ = wrote-both d d₄ d₅ (x₁ ++ x₂ ++ x₃ ++ x₄) x₅ 0 e r (omega arith) v₄ w₅ in
    let j : x₁ ++ x₂ ++ x₃ ++ x₄ ++ x₅ ≡ lines (x₁ ∷ x₂ ∷ x₃ ∷ x₄ ∷ x₅ ∷ []) = simp (append_assoc, append-nil) in
    rw (← j) v₅

-- the numbers have at most seven digits
pub line-short : (name : Bytes) (n : ℕ) → n ≤ most_sectors → length (line name (decimal n)) ≤ length name + 8
line-short name n h = omega (arith, line-length name (decimal n), decimal-short 6 n (omega arith))

-- room for a line, and the place after it
pub line-room : (name : Bytes) (at n m : ℕ) → n ≤ most_sectors → at + (length name + 8) ≤ m → at + (length name + (length (decimal n) + 1)) ≤ m
line-room name at n m h k = omega (arith, decimal-short 6 n (omega arith))

pub line-end : (name : Bytes) (at r n : ℕ) → n ≤ most_sectors → r ≡ at + length (line name (decimal n)) → r ≤ at + (length name + 8)
line-end name at r n h e = omega (arith, line-short name n h)

pub text-written : (d d₁ d₂ d₃ d₄ d₅ : Bytes) (count end : ℕ) (s : Survey) (a b c e r : ℕ)
    → (128 ≤ length d) × (count ≤ most_sectors) × (end ≤ most_sectors) × (s.records ≤ most_sectors) × (s.doubtful ≤ most_sectors)
    → Wrote d d₁ 0 (line sectors_name (decimal count)) a → Wrote d₁ d₂ a (line used_name (decimal end)) b
    → Wrote d₂ d₃ b (line records_name (decimal s.records)) c → Wrote d₃ d₄ c (line doubtful_name (decimal s.doubtful)) e
    → Wrote d₄ d₅ e (line verdict_name (verdict s.doubtful)) r
    → (d₅ ≡ put d 0 (text_of count end s)) × (r ≡ length (text_of count end s))
unfolding text_of
text-written d d₁ d₂ d₃ d₄ d₅ count end s a b c e r h w₁ w₂ w₃ w₄ w₅ =
    let k₁ = line-short sectors_name count h.1 in
    let k₂ = line-short used_name end h.2 in
    let k₃ = line-short records_name s.records h.3 in
    let k₄ = line-short doubtful_name s.doubtful h.4 in
    let w = wrote_five_lines d d₁ d₂ d₃ d₄ d₅ (line sectors_name (decimal count)) (line used_name (decimal end)) (line records_name (decimal s.records)) (line doubtful_name (decimal
    s.doubtful)) (line verdict_name (verdict s.doubtful)) a b c e r
    (omega (arith, verdict-length s.doubtful)) w₁ w₂ w₃ w₄ w₅ in
    (w.0, w.1 ∙ zero-add (length (text_of count end s)))
