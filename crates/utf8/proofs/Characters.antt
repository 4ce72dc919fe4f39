-- One character at a time: its octets are a row of the grammar, and a row's octets are a character.
use mathlib.Core.Path.{◌≡◌, refl, sym, ap, ◌∙◌}
use mathlib.Core.Bool.{Bool, true, false, not, ◌&&◌, ◌||◌, false≢true}
use mathlib.Core.List.{List, [], ◌∷◌, ◌++◌}
use Prim.Native.Nat.{ℕ, suc, ◌+◌, ◌-◌, ◌*◌, ◌/◌, ◌≤◌, ◌<◌}
use native.Mathlib.Omega.{arith}
use lib.Dec.{leb, ltb, eqb}
use borrow.Author.Tests.{ltb-true, ltb-false, leb-true, leb-false, eqb-false, le-leb, lt-leb, ne_eqb, not-true}
use lib.ListN.{length, take, drop}
use Rattle.bedrock.proofs.Choices.{and-true}
use Rattle.buffer.specs.Bytes.{Bytes}
use Rattle.utf8.specs.Grammar.{Range, range, tail, in_range, Form, some, utf8_char, follows}
use Rattle.utf8.specs.Encoding.{scalar, six, character, decode_from}
use Rattle.utf8.proofs.Rows.{inside, before, behind, tells, row_at, begins}

-- ---- octets in their ranges

abbrev pub Spans : List Range → Bytes → Type 0
Spans [] [] = Unit
Spans [] (b ∷ x) = ⊥
Spans (r ∷ rs) [] = ⊥
Spans (r ∷ rs) (b ∷ x) = (r.low ≤ b) × (b ≤ r.high) × Spans rs x

pub spanned : (rs : List Range) (x bs : Bytes) → Spans rs x → follows rs (x ++ bs) ≡ follows [] bs
unfolding follows
spanned [] [] bs h = refl
spanned [] (b ∷ x) bs h = absurd h
spanned (r ∷ rs) [] bs h = absurd h
spanned (r ∷ rs) (b ∷ x) bs h = rw (inside r b h.0 h.1) (spanned rs x bs h.2)

-- octets of row k are a character
pub row-is-character : (k : ℕ) → take k utf8_char ++ (row_at k ∷ drop (suc k) utf8_char) ≡ utf8_char
    → before (row_at k).first.low (take k utf8_char) ≡ true → behind (row_at k).first.high (drop (suc k) utf8_char) ≡ true
    → (b : ℕ) (x bs : Bytes) → Spans ((row_at k).first ∷ (row_at k).rest) (b ∷ x) → follows [] (b ∷ (x ++ bs)) ≡ follows [] bs
row-is-character k s e f b x bs h = begins b (x ++ bs) k s e f h.0 h.1 ∙ spanned (row_at k).rest x bs h.2

-- ---- a scalar value's octets

-- what the test of a scalar value says
pub scalar_facts : (c : ℕ) → scalar c ≡ true → (c ≤ 0x10FFFF) × ((0xD800 ≤ c → c ≤ 0xDFFF → ⊥))
scalar_facts c e =
    let p = and-true (leb c 0x10FFFF) (not (leb 0xD800 c && leb c 0xDFFF)) e in
    (leb-true c 0x10FFFF p.0, λ h k. false≢true (sym (not-true (leb 0xD800 c && leb c 0xDFFF) p.1) ∙ rw (le-leb 0xD800 c h, le-leb c 0xDFFF k)))

-- the four lines of the table
module _ (c : ℕ) where
  pub line_1 : c ≤ 0x7F → character c ≡ c ∷ []
  unfolding character
  line_1 h = rw (le-leb c 0x7F h)

  pub line_2 : 0x7F < c → c ≤ 0x7FF → character c ≡ (0xC0 + c / 64) ∷ six 1 c ∷ []
  unfolding character
  line_2 h k = rw (lt-leb c 0x7F h, le-leb c 0x7FF k)

  pub line_3 : 0x7FF < c → c ≤ 0xFFFF → character c ≡ (0xE0 + c / 4096) ∷ six 64 c ∷ six 1 c ∷ []
  unfolding character
  line_3 h k = rw (lt-leb c 0x7F (omega arith), lt-leb c 0x7FF h, le-leb c 0xFFFF k)

  pub line_4 : 0xFFFF < c → character c ≡ (0xF0 + c / 262144) ∷ six 4096 c ∷ six 64 c ∷ six 1 c ∷ []
  unfolding character
  line_4 h = rw (lt-leb c 0x7F (omega arith), lt-leb c 0x7FF (omega arith), lt-leb c 0xFFFF h)

-- past the surrogates
past : (c : ℕ) → 0xD800 ≤ c → (0xD800 ≤ c → c ≤ 0xDFFF → ⊥) → 0xE000 ≤ c
past c h n = go (leb c 0xDFFF) refl
  where
    go : (x : Bool) → leb c 0xDFFF ≡ x → 0xE000 ≤ c
    go true e = absurd (n h (leb-true c 0xDFFF e))
    go false e = leb-false c 0xDFFF e

-- a character, then octets bs: well-formed just if bs are
module _ (c : ℕ) (bs : Bytes) where
  accept_1 : 0 < c → c ≤ 0x7F → follows [] (character c ++ bs) ≡ follows [] bs
  accept_1 h k = rw (line_1 c k) (row-is-character 0 refl refl refl c [] bs (h, k, tt))

  accept_2 : 0x7F < c → c ≤ 0x7FF → follows [] (character c ++ bs) ≡ follows [] bs
  accept_2 h k =
      rw (line_2 c h k)
      (row-is-character 1 refl refl refl (0xC0 + c / 64) (six 1 c ∷ []) bs (omega arith, omega arith, (omega arith, omega arith, tt)))

  accept_3 : 0x7FF < c → c ≤ 0xFFFF → (0xD800 ≤ c → c ≤ 0xDFFF → ⊥) → follows [] (character c ++ bs) ≡ follows [] bs
  accept_3 h k n = rw (line_3 c h k) (go (ltb c 0x1000) refl (ltb c 0xD000) refl (ltb c 0xD800) refl)
    where
      go : (x : Bool) → ltb c 0x1000 ≡ x → (y : Bool) → ltb c 0xD000 ≡ y → (z : Bool) → ltb c 0xD800 ≡ z
          → follows [] ((0xE0 + c / 4096) ∷ six 64 c ∷ six 1 c ∷ bs) ≡ follows [] bs
      go true p y q z r =
          let u = ltb-true c 0x1000 p in
          row-is-character 2 refl refl refl (0xE0 + c / 4096) (six 64 c ∷ six 1 c ∷ []) bs (omega arith, omega arith, (omega arith, omega arith, (omega arith, omega arith, tt)))
      go false p true q z r =
          let l = ltb-false c 0x1000 p in
          let u = ltb-true c 0xD000 q in
          row-is-character 3 refl refl refl (0xE0 + c / 4096) (six 64 c ∷ six 1 c ∷ []) bs (omega arith, omega arith, (omega arith, omega arith, (omega arith, omega arith, tt)))
      go false p false q true r =
          let l = ltb-false c 0xD000 q in
          let u = ltb-true c 0xD800 r in
          row-is-character 4 refl refl refl (0xE0 + c / 4096) (six 64 c ∷ six 1 c ∷ []) bs (omega arith, omega arith, (omega arith, omega arith, (omega arith, omega arith, tt)))
      go false p false q false r =
          let l : 0xE000 ≤ c = past c (ltb-false c 0xD800 r) n in
          row-is-character 5 refl refl refl (0xE0 + c / 4096) (six 64 c ∷ six 1 c ∷ []) bs (omega arith, omega arith, (omega arith, omega arith, (omega arith, omega arith, tt)))

  accept_4 : 0xFFFF < c → c ≤ 0x10FFFF → follows [] (character c ++ bs) ≡ follows [] bs
  accept_4 h k = rw (line_4 c h) (go (ltb c 0x40000) refl (ltb c 0x100000) refl)
    where
      go : (x : Bool) → ltb c 0x40000 ≡ x → (y : Bool) → ltb c 0x100000 ≡ y
          → follows [] ((0xF0 + c / 262144) ∷ six 4096 c ∷ six 64 c ∷ six 1 c ∷ bs) ≡ follows [] bs
      go true p y q =
          let u = ltb-true c 0x40000 p in
          row-is-character 6 refl refl refl (0xF0 + c / 262144) (six 4096 c ∷ six 64 c ∷ six 1 c ∷ []) bs
          (omega arith, omega arith, (omega arith, omega arith, (omega arith, omega arith, (omega arith, omega arith, tt))))
      go false p true q =
          let l = ltb-false c 0x40000 p in
          let u = ltb-true c 0x100000 q in
          row-is-character 7 refl refl refl (0xF0 + c / 262144) (six 4096 c ∷ six 64 c ∷ six 1 c ∷ []) bs
          (omega arith, omega arith, (omega arith, omega arith, (omega arith, omega arith, (omega arith, omega arith, tt))))
      go false p false q =
          let l = ltb-false c 0x100000 q in
          row-is-character 8 refl refl refl (0xF0 + c / 262144) (six 4096 c ∷ six 64 c ∷ six 1 c ∷ []) bs
          (omega arith, omega arith, (omega arith, omega arith, (omega arith, omega arith, (omega arith, omega arith, tt))))

  decode_1 : c ≤ 0x7F → decode_from 0 0 (character c ++ bs) ≡ c ∷ decode_from 0 0 bs
  unfolding decode_from
  decode_1 h = rw (line_1 c h, le-leb c 0x7F h)

  decode_2 : 0x7F < c → c ≤ 0x7FF → decode_from 0 0 (character c ++ bs) ≡ c ∷ decode_from 0 0 bs
  unfolding decode_from
  decode_2 h k =
      let v : (0xC0 + c / 64 - 0xC0) * 64 + (six 1 c - 0x80) ≡ c = omega arith in
      rw (line_2 c h k, lt-leb (0xC0 + c / 64) 0x7F (omega arith), le-leb (0xC0 + c / 64) 0xDF (omega arith), v)

  decode_3 : 0x7FF < c → c ≤ 0xFFFF → decode_from 0 0 (character c ++ bs) ≡ c ∷ decode_from 0 0 bs
  unfolding decode_from
  decode_3 h k =
      let b = 0xE0 + c / 4096 in
      let q : c / 4096 ≡ c / 64 / 64 = omega arith in
      let v : ((0xE0 + c / 4096 - 0xE0) * 64 + (six 64 c - 0x80)) * 64 + (six 1 c - 0x80) ≡ c = omega arith in
      rw (line_3 c h k, lt-leb b 0x7F (omega arith), lt-leb b 0xDF (omega arith), le-leb b 0xEF (omega arith), v)

  decode_4 : 0xFFFF < c → decode_from 0 0 (character c ++ bs) ≡ c ∷ decode_from 0 0 bs
  unfolding decode_from
  decode_4 h =
      let b = 0xF0 + c / 262144 in
      let q : c / 4096 ≡ c / 64 / 64 = omega arith in
      let r : c / 262144 ≡ c / 4096 / 64 = omega arith in
      let v : (((0xF0 + c / 262144 - 0xF0) * 64 + (six 4096 c - 0x80)) * 64 + (six 64 c - 0x80)) * 64 + (six 1 c - 0x80) ≡ c = omega arith in
      rw (line_4 c h, lt-leb b 0x7F (omega arith), lt-leb b 0xDF (omega arith), lt-leb b 0xEF (omega arith), v)

  pub accept_character : scalar c ≡ true → not (eqb c 0) ≡ true → follows [] (character c ++ bs) ≡ follows [] bs
  accept_character e z = go (leb c 0x7F) refl (leb c 0x7FF) refl (leb c 0xFFFF) refl
    where
      go : (x : Bool) → leb c 0x7F ≡ x → (y : Bool) → leb c 0x7FF ≡ y → (w : Bool) → leb c 0xFFFF ≡ w → follows [] (character c ++ bs) ≡ follows [] bs
      go true p y q w r = let n = eqb-false c 0 (not-true (eqb c 0) z) in accept_1 (omega (arith, n)) (leb-true c 0x7F p)
      go false p true q w r = accept_2 (leb-false c 0x7F p) (leb-true c 0x7FF q)
      go false p false q true r = accept_3 (leb-false c 0x7FF q) (leb-true c 0xFFFF r) (scalar_facts c e).1
      go false p false q false r = accept_4 (leb-false c 0xFFFF r) (scalar_facts c e).0

  pub decode-character : decode_from 0 0 (character c ++ bs) ≡ c ∷ decode_from 0 0 bs
  decode-character = go (leb c 0x7F) refl (leb c 0x7FF) refl (leb c 0xFFFF) refl
    where
      go : (x : Bool) → leb c 0x7F ≡ x → (y : Bool) → leb c 0x7FF ≡ y → (w : Bool) → leb c 0xFFFF ≡ w → decode_from 0 0 (character c ++ bs) ≡ c ∷ decode_from 0 0 bs
      go true p y q w r = decode_1 (leb-true c 0x7F p)
      go false p true q w r = decode_2 (leb-false c 0x7F p) (leb-true c 0x7FF q)
      go false p false q true r = decode_3 (leb-false c 0x7FF q) (leb-true c 0xFFFF r)
      go false p false q false r = decode_4 (leb-false c 0xFFFF r)

-- ---- a row's octets

-- a scalar value other than 0
abbrev pub Plain : ℕ → Type 0
Plain c = (scalar c && not (eqb c 0)) ≡ true

plain : (c : ℕ) → 0 < c → c ≤ 0x10FFFF → (0xD800 ≤ c → c ≤ 0xDFFF → ⊥) → Plain c
plain c z h n = go (leb 0xD800 c) refl (leb c 0xDFFF) refl
  where
    go : (x : Bool) → leb 0xD800 c ≡ x → (y : Bool) → leb c 0xDFFF ≡ y → Plain c
    go true p true q = absurd (n (leb-true 0xD800 c p) (leb-true c 0xDFFF q))
    go true p false q = rw (p, q, le-leb c 0x10FFFF h, ne_eqb c 0 (λ e. omega arith))
    go false p y q = rw (p, le-leb c 0x10FFFF h, ne_eqb c 0 (λ e. omega arith))

-- octets that are those of a character
abbrev pub Made : Bytes → Type 0
Made x = (c : ℕ) × Plain c × (character c ≡ x)

-- whatever octets stand in these ranges, P is so of them
abbrev AllSpans : (Bytes → Type 0) → List Range → Type 0
AllSpans P [] = P []
AllSpans P (r ∷ rs) = (b : ℕ) → r.low ≤ b → b ≤ r.high → AllSpans (λ x. P (b ∷ x)) rs

spans_all : (P : Bytes → Type 0) (rs : List Range) → AllSpans P rs → (x : Bytes) → Spans rs x → P x
spans_all P [] f [] h = f
spans_all P [] f (b ∷ x) h = absurd h
spans_all P (r ∷ rs) f [] h = absurd h
spans_all P (r ∷ rs) f (b ∷ x) h = spans_all (λ y. P (b ∷ y)) rs (f b h.0 h.1) x h.2

made_1 : (b : ℕ) → 1 ≤ b → b ≤ 0x7F → Made (b ∷ [])
made_1 b h k = (b, plain b h (omega arith) (λ p q. omega arith), line_1 b k)

made_2 : AllSpans Made (range 0xC2 0xDF ∷ tail ∷ [])
made_2 a h k b m n =
    let c = (a - 0xC0) * 64 + (b - 0x80) in
    let x : 0xC0 + c / 64 ≡ a = omega arith in
    let y : six 1 c ≡ b = omega arith in
    (c, plain c (omega arith) (omega arith) (λ p q. omega arith), line_2 c (omega arith) (omega arith) ∙ rw (x, y))

-- three octets and four, by the value that they make
made_3 : (a b d c : ℕ) → c ≡ ((a - 0xE0) * 64 + (b - 0x80)) * 64 + (d - 0x80) → 0xE0 ≤ a → a ≤ 0xEF → 0x80 ≤ b → b ≤ 0xBF → 0x80 ≤ d → d ≤ 0xBF
    → 0x7FF < c → (0xD800 ≤ c → c ≤ 0xDFFF → ⊥) → Made (a ∷ b ∷ d ∷ [])
made_3 a b d c e h k m n p q l s =
    let x : 0xE0 + c / 4096 ≡ a = omega (arith, e, h, k, m, n, p, q) in
    let y : six 64 c ≡ b = omega (arith, e, h, k, m, n, p, q) in
    let z : six 1 c ≡ d = omega (arith, e, h, k, m, n, p, q) in
    (c, plain c (omega arith) (omega arith) s, line_3 c l (omega arith) ∙ rw (x, y, z))

made_4 : (a b d f c : ℕ) → c ≡ (((a - 0xF0) * 64 + (b - 0x80)) * 64 + (d - 0x80)) * 64 + (f - 0x80)
    → 0xF0 ≤ a → a ≤ 0xF4 → 0x80 ≤ b → b ≤ 0xBF → 0x80 ≤ d → d ≤ 0xBF → 0x80 ≤ f → f ≤ 0xBF
    → 0xFFFF < c → c ≤ 0x10FFFF → Made (a ∷ b ∷ d ∷ f ∷ [])
made_4 a b d f c e h k m n p q u v l t =
    let x : 0xF0 + c / 262144 ≡ a = omega (arith, e, h, k, m, n, p, q, u, v) in
    let y : six 4096 c ≡ b = omega (arith, e, h, k, m, n, p, q, u, v) in
    let z : six 64 c ≡ d = omega (arith, e, h, k, m, n, p, q, u, v) in
    let w : six 1 c ≡ f = omega (arith, e, h, k, m, n, p, q, u, v) in
    (c, plain c (omega arith) t (λ g i. omega arith), line_4 c l ∙ rw (x, y, z, w))

-- of every row
abbrev Every : List Form → Type 0
Every [] = Unit
Every (c ∷ cs) = AllSpans Made (c.first ∷ c.rest) × Every cs

every : Every utf8_char
every = (
  made_1,
  (
    made_2,
    (
      (λ a h k b m n d p q. made_3 a b d _ refl (omega arith) (omega arith) (omega arith) n p q (omega arith) (λ g i. omega arith)),
      (
        (λ a h k b m n d p q. made_3 a b d _ refl (omega arith) (omega arith) m n p q (omega arith) (λ g i. omega arith)),
        (
          (λ a h k b m n d p q. made_3 a b d _ refl (omega arith) (omega arith) m (omega arith) p q (omega arith) (λ g i. omega arith)),
          (
            (λ a h k b m n d p q. made_3 a b d _ refl (omega arith) (omega arith) m n p q (omega arith) (λ g i. omega arith)),
            (
              (λ a h k b m n d p q f u v. made_4 a b d f _ refl (omega arith) (omega arith) (omega arith) n p q u v (omega arith) (omega arith)),
              (
                (λ a h k b m n d p q f u v. made_4 a b d f _ refl (omega arith) (omega arith) m n p q u v (omega arith) (omega arith)),
                (
                  (λ a h k b m n d p q f u v. made_4 a b d f _ refl (omega arith) (omega arith) m (omega arith) p q u v (omega arith) (omega arith)),
                  tt,
                ),
              ),
            ),
          ),
        ),
      ),
    ),
  ),
)

-- ---- the first character of what is well-formed

abbrev pub Front : Bytes → Type 0
Front s = (c : ℕ) × (rest : Bytes) × Plain c × (s ≡ character c ++ rest) × (length rest < length s) × (follows [] rest ≡ true)

-- octets in these ranges, and what follows them
abbrev Parted : List Range → Bytes → Type 0
Parted rs bs = (x : Bytes) × (rest : Bytes) × Spans rs x × (bs ≡ x ++ rest) × (length rest ≤ length bs) × (follows [] rest ≡ true)

parted : (rs : List Range) (bs : Bytes) → follows rs bs ≡ true → Parted rs bs
unfolding follows
parted [] bs e = ([], bs, tt, refl, omega arith, e)
parted (r ∷ rs) [] e = absurd (false≢true e)
parted (r ∷ rs) (b ∷ bs) e =
    let p = and-true (in_range r b) (follows rs bs) e in
    let q = and-true (leb r.low b) (leb b r.high) p.0 in
    let t = parted rs bs p.1 in
    (b ∷ t.0, t.1, (leb-true r.low b q.0, leb-true b r.high q.1, t.2), ap (λ (y : Bytes). b ∷ y) t.3, omega (arith, t.4), t.5)

-- an octet of a row, and the rest of the row after it
front_of_lem : (c : Form) (b : ℕ) (bs : Bytes) → AllSpans Made (c.first ∷ c.rest) → tells b bs c ≡ true → Front (b ∷ bs)
front_of_lem c b bs f e =
    let p = and-true (in_range c.first b) (follows c.rest bs) e in
    let q = and-true (leb c.first.low b) (leb b c.first.high) p.0 in
    let t = parted c.rest bs p.1 in
    let m = spans_all (λ x. Made (b ∷ x)) c.rest (f b (leb-true c.first.low b q.0) (leb-true b c.first.high q.1)) t.0 t.2 in
    (m.0, t.1, m.1, ap (λ (y : Bytes). b ∷ y) t.3 ∙ ap (λ (y : Bytes). y ++ t.1) (sym m.2), omega (arith, t.4), t.5)

front-some : (cs : List Form) → Every cs → (b : ℕ) (bs : Bytes) → some (tells b bs) cs ≡ true → Front (b ∷ bs)
front-some [] f b bs e = absurd (false≢true e)
front-some (c ∷ cs) f b bs e = go (tells b bs c) refl e (front-some cs f.1 b bs)
  where
    go : (x : Bool) → tells b bs c ≡ x → (x || some (tells b bs) cs) ≡ true → (some (tells b bs) cs ≡ true → Front (b ∷ bs)) → Front (b ∷ bs)
    go true p q rest = front_of_lem c b bs f.0 p
    go false p q rest = rest q

pub front : (b : ℕ) (bs : Bytes) → follows [] (b ∷ bs) ≡ true → Front (b ∷ bs)
unfolding follows
front b bs e = front-some utf8_char every b bs e
