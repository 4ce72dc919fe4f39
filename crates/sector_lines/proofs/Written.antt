-- What a line, a label and a sector are after the code's writes.
use mathlib.Core.Path.{◌≡◌, refl, sym, ap, ap₂, ◌∙◌}
use mathlib.Core.Bool.{Bool, true, false, ◌&&◌}
use mathlib.Core.List.{List, [], ◌∷◌, ◌++◌, append_assoc}
use Prim.Native.Nat.{ℕ, zero, suc, ◌+◌, ◌-◌, ◌≤◌}
use native.Mathlib.Omega.{arith}
use lib.Seq.{take-append-add, take_at, take-add, length-take-le}
use lib.ListN.{length, take, drop, set, replicate, length-append, length-replicate}
use Rattle.buffer.specs.Bytes.{Bytes, same, put}
use Rattle.buffer.proofs.Bytes.{same-append}
use Rattle.buffer.proofs.Parts.{part_length, part_size}
use Rattle.buffer.proofs.Put.{length-put, put_next, put_mid_lem, put_one, put_whole, put-none, put-tail}
use Rattle.hexadecimal.specs.Hex.{hex, hex_bytes}
use Rattle.sector.specs.Sector.{line, lines, label_lines, date_name, rec_name, part_name, of_name, type_name, size_name, score_name, crc_name, label_of, check, filled, encode}
use Rattle.crc32_rule.specs.Crc32.{crc32_of}
use Rattle.sector.proofs.Encode.{length-check, length-filled}
use Rattle.sector.specs.declared.Label.{Label}
use Rattle.sector.proofs.Fields.{length_label}

-- digits that fill the part from a to e
pub digits_part : (d ys : Bytes) (a w n : ℕ) → a + w ≤ length d → ys ≡ hex (length (take (a + w - a) (drop a d))) n → ys ≡ hex w n
digits_part d ys a w n h e =
    let k : length (take (a + w - a) (drop a d)) ≡ w = part_size d a w h in
    rw k at e

-- a name, a value in a part that was lent, and a line feed
module _ (d d₁ ys name v : Bytes) (at w : ℕ) (h : at + (length name + (w + 1)) ≤ length d) (named : d₁ ≡ put d at name) (l : length v ≡ w) (e : ys ≡ v) where
  abbrev from : ℕ
  from = at + length name

  mid : take from d₁ ++ (ys ++ drop (from + w - from) (drop from d₁)) ≡ put d at (name ++ v)
  mid =
      put_mid_lem d₁ ys from (from + w) (omega arith) (omega (arith, ap length e))
      ∙ ap₂ (λ (x y : Bytes). put x from y) named e
      ∙ put_next d at from name v refl (omega arith)

  pub line-written : set (take from d₁ ++ (ys ++ drop (from + w - from) (drop from d₁))) (from + w) 10 ≡ put d at (line name v)
  line-written =
      let k : length (name ++ v) ≡ length name + w = omega (arith, length-append name v) in
      ap (λ (x : Bytes). set x (from + w) 10) mid
      ∙ put_one (put d at (name ++ v)) (from + w) 10 (omega (arith, length-put d at (name ++ v) (omega arith)))
      ∙ put_next d at (from + w) (name ++ v) (10 ∷ []) (omega arith) (omega arith)
      ∙ ap (put d at) (append_assoc name v (10 ∷ []))

  pub line-length : length (set (take from d₁ ++ (ys ++ drop (from + w - from) (drop from d₁))) (from + w) 10) ≡ length d
  line-length = ap length line-written ∙ length-put d at (line name v) (omega (arith, length-append name (v ++ (10 ∷ [])), length-append v (10 ∷ [])))

-- lines written one after the other
abbrev puts : Bytes → ℕ → List Bytes → Bytes
puts d at [] = d
puts d at (l ∷ ls) = puts (put d at l) (at + length l) ls

puts-lines : (d : Bytes) (at : ℕ) (ls : List Bytes) → at + length (lines ls) ≤ length d → puts d at ls ≡ put d at (lines ls)
puts-lines d at [] h = sym (put-none d at)
puts-lines d at (l ∷ ls) h =
    let k : at + (length l + length (lines ls)) ≤ length d = omega (arith, length-append l (lines ls)) in
    puts-lines (put d at l) (at + length l) ls (omega (arith, length-put d at l (omega arith))) ∙ put_next d at (at + length l) l (lines ls) refl k

pub label-written : (d d₁ d₂ d₃ d₄ d₅ d₆ : Bytes) (l : Label) (score : Bytes) → 96 ≤ length d → length score ≡ 20
    → d₁ ≡ put d 0 (line rec_name (hex 8 l.first.0)) → d₂ ≡ put d₁ 13 (line part_name (hex 4 l.part))
    → d₃ ≡ put d₂ 23 (line of_name (hex 4 l.of)) → d₄ ≡ put d₃ 31 (line type_name (hex 2 l.kind))
    → d₅ ≡ put d₄ 39 (line size_name (hex 4 l.size)) → d₆ ≡ put d₅ 49 (line score_name (hex_bytes score))
    → d₆ ≡ put d 0 (label_of l score)
unfolding label_of hex
label-written d d₁ d₂ d₃ d₄ d₅ d₆ l score h k e₁ e₂ e₃ e₄ e₅ e₆ =
    e₆
    ∙ ap (λ (x : Bytes). put x 49 (line score_name (hex_bytes score)))
    (e₅ ∙ ap (λ (x : Bytes). put x 39 (line size_name (hex 4 l.size)))
    (e₄ ∙ ap (λ (x : Bytes). put x 31 (line type_name (hex 2 l.kind)))
    (e₃ ∙ ap (λ (x : Bytes). put x 23 (line of_name (hex 4 l.of)))
    (e₂ ∙ ap (λ (x : Bytes). put x 13 (line part_name (hex 4 l.part))) e₁))))
    ∙ puts-lines d 0 (label_lines l score) (omega (arith, length_label l score k))

abbrev zeroes : ℕ → Bytes
zeroes n = replicate n 0

take-zeros : (m n : ℕ) → m ≤ n → take m (zeroes n) ≡ zeroes m
take-zeros zero n h = refl
take-zeros (suc m) zero h = absurd (omega arith)
take-zeros (suc m) (suc n) h = ap (λ (x : Bytes). 0 ∷ x) (take-zeros m n (omega arith))

pub filled-short : (n : ℕ) (d : Bytes) → length d ≤ n → filled n d ≡ d ++ replicate (n - length d) 0
unfolding filled
filled-short n d h =
    let k : length d + (n - length d) ≡ n = omega arith in
    ap (λ (m : ℕ). take m (d ++ replicate n 0)) (sym k)
    ∙ take-append-add d (replicate n 0) (n - length d)
    ∙ ap (λ (x : Bytes). d ++ x) (take-zeros (n - length d) n (omega arith))

-- the line of a date
pub front-written : (d d₁ d₂ date : Bytes) → length d ≡ 14 → length date ≡ 8 → d₁ ≡ put d 0 date_name → d₂ ≡ put d₁ 5 date → set d₂ 13 10 ≡ line date_name date
front-written d d₁ d₂ date h k e₁ e₂ =
    let two : d₂ ≡ put d 0 (date_name ++ date) = e₂ ∙ ap (λ (x : Bytes). put x 5 date) e₁ ∙ put_next d 0 5 date_name date refl (omega arith) in
    let n : length (date_name ++ date) ≡ 13 = omega (arith, length-append date_name date) in
    ap (λ (x : Bytes). set x 13 10) two
    ∙ put_one (put d 0 (date_name ++ date)) 13 10 (omega (arith, length-put d 0 (date_name ++ date) (omega arith)))
    ∙ put_next d 0 13 (date_name ++ date) (10 ∷ []) (omega arith) (omega arith)
    ∙ ap (put d 0) (append_assoc date_name date (10 ∷ []))
    ∙ put_whole d (line date_name date) (omega (arith, length-append date_name (date ++ (10 ∷ [])), length-append date (10 ∷ [])))

-- whether a front and a label stand at a sector's beginning: one after the other
pub labels_same : (s front label : Bytes) (n : ℕ) → length label ≡ n → length front + n ≤ length s
    → (same (take (length front) s) front && same (take (length front + n - length front) (drop (length front) s)) label) ≡ same (take (length front + n) s) (front ++ label)
labels_same s front label n e h =
    let m : length front + n - length front ≡ n = omega arith in
    ap (λ (k : ℕ). same (take (length front) s) front && same (take k (drop (length front) s)) label) m
    ∙ sym (same-append (take (length front) s) front (take n (drop (length front) s)) label (length-take-le (length front) s (omega arith)))
    ∙ ap (λ (x : Bytes). same x (front ++ label)) (sym (take-add (length front) n s))

pub label_unlike : (s front label : Bytes) (n : ℕ) (b : Bool) → length label ≡ n → length front + n ≤ length s
    → b ≡ same (take (length front) s) front → b ≡ false → same (take (length front + n) s) (front ++ label) ≡ false
label_unlike s front label n b e h p q =
    sym (labels_same s front label n e h) ∙ ap (λ (z : Bool). z && same (take (length front + n - length front) (drop (length front) s)) label) (sym p ∙ q)

pub label-alike : (s front label : Bytes) (n : ℕ) (b c : Bool) → length label ≡ n → length front + n ≤ length s
    → b ≡ same (take (length front) s) front → b ≡ true → c ≡ same (take (length front + n - length front) (drop (length front) s)) label
    → c ≡ same (take (length front + n) s) (front ++ label)
label-alike s front label n b c e h p q r =
    r ∙ ap (λ (z : Bool). z && same (take (length front + n - length front) (drop (length front) s)) label) (sym q ∙ p) ∙ labels_same s front label n e h

-- a front, the lines of a label, a piece, zeros in a part that was lent, and the check
module _ (d d₀ yl d₂ ys d₄ front lines piece : Bytes) (crc : ℕ) (h : length d ≡ 512) (n : length lines ≡ 96) (m : length front + (96 + length piece) ≤ 499)
    (fronted : d₀ ≡ put d 0 front)
    (labelled : yl ≡ put (take (length d₀ - length front) (drop (length front) d₀)) 0 lines)
    (copied : d₂ ≡ put (take (length front) d₀ ++ (yl ++ drop (length d₀ - length front) (drop (length front) d₀))) (length front + 96) piece)
    (cleared : ys ≡ replicate (length (take (499 - (length front + 96 + length piece)) (drop (length front + 96 + length piece) d₂))) 0)
  where
    abbrev at : ℕ
    at = length front + 96

    abbrev end : ℕ
    end = at + length piece

    abbrev d₃ : Bytes
    d₃ = take end d₂ ++ (ys ++ drop (499 - end) (drop end d₂))

    label : Bytes
    label = front ++ lines

    length-whole-label : length label ≡ at
    unfolding label
    length-whole-label = omega (arith, length-append front lines)

    body : Bytes
    body = label ++ filled (499 - length label) piece

    length_body : length body ≡ 499
    unfolding body
    length_body = omega (arith, length-append label (filled (499 - length label) piece), length-filled (499 - length label) piece, length-whole-label)

    length_fronted : length d₀ ≡ 512
    length_fronted = ap length fronted ∙ length-put d 0 front (omega arith) ∙ h

    one : take (length front) d₀ ++ (yl ++ drop (length d₀ - length front) (drop (length front) d₀)) ≡ put d 0 label
    unfolding label
    one =
        put-tail d₀ yl lines (length front) labelled
        ∙ ap (λ (x : Bytes). put x (length front) lines) fronted
        ∙ put_next d 0 (length front) front lines (omega arith) (omega arith)

    two : d₂ ≡ put d 0 (label ++ piece)
    two = copied ∙ ap (λ (x : Bytes). put x at piece) one ∙ put_next d 0 at label piece (omega (arith, length-whole-label)) (omega (arith, length-whole-label))

    length_two : length d₂ ≡ 512
    length_two = ap length two ∙ length-put d 0 (label ++ piece) (omega (arith, length-append label piece, length-whole-label)) ∙ h

    zeroed : ys ≡ replicate (499 - end) 0
    zeroed =
        let k : length (take (499 - end) (drop end d₂)) ≡ 499 - end = part_length d₂ end 499 (omega (arith, length_two)) in
        rw k at cleared

    whole : (label ++ piece) ++ replicate (499 - end) 0 ≡ body
    unfolding body
    whole =
        let k : 499 - end ≡ 499 - length label - length piece = omega (arith, length-whole-label) in
        append_assoc label piece (replicate (499 - end) 0)
        ∙ ap (λ (x : Bytes). label ++ x) (ap (λ (x : ℕ). piece ++ replicate x 0) k ∙ sym (filled-short (499 - length label) piece (omega (arith, length-whole-label))))

    three : d₃ ≡ put d 0 body
    three =
        put_mid_lem d₂ ys end 499 (omega arith) (omega (arith, ap length zeroed, length-replicate {A = ℕ} (499 - end) 0))
        ∙ ap₂ (λ (x y : Bytes). put x end y) two zeroed
        ∙ put_next d 0 end (label ++ piece) (replicate (499 - end) 0) (omega (arith, length-append label piece, length-whole-label)) (omega
        (arith, length-append label piece, length-whole-label, length-replicate {A = ℕ} (499 - end) 0))
        ∙ ap (put d 0) whole

    pub length_three : length d₃ ≡ 512
    length_three = ap length three ∙ length-put d 0 body (omega (arith, length_body)) ∙ h

    pub three-front : 499 ≡ length (take 499 d₃)
    three-front = sym (length-take-le 499 d₃ (omega (arith, length_three)))

    checked : take 499 d₃ ≡ body
    checked = ap (take 499) three ∙ take_at body (drop (0 + length body) d) 499 length_body

    pub sector_written : crc ≡ crc32_of (take 499 d₃) → d₄ ≡ put d₃ 499 (line crc_name (hex 8 crc)) → d₄ ≡ encode (front ++ lines) piece
    unfolding encode check body label
    sector_written c e =
        e
        ∙ ap₂ (λ (x y : Bytes). put x 499 y) three (ap (λ (k : ℕ). line crc_name (hex 8 k)) (c ∙ ap crc32_of checked))
        ∙ put_next d 0 499 body (check body) (omega (arith, length_body)) (omega (arith, length_body, length-check body))
        ∙ put_whole d (body ++ check body) (omega (arith, length-append body (check body), length_body, length-check body))
