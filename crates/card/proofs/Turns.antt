-- One turn of each loop over a card, as the code has the numbers.
use mathlib.Core.Path.{◌≡◌, refl, sym, ap, ◌∙◌}
use mathlib.Core.Bool.{Bool, true, false}
use mathlib.Core.List.{[], ◌++◌}
use mathlib.Core.Option.{Option, none, some}
use Prim.Native.Nat.{ℕ, ◌+◌, ◌-◌, ◌≤◌, ◌<◌}
use native.Mathlib.Omega.{arith}
use lib.ListN.{length, take, drop, length-append, length-drop, drop_of_length-le}
use lib.Seq.{drop-cons, drop-drop, take-append-le, take-append_seam}
use Rattle.std.specs.Prelude.{Option as Optional, Some, None}
use Rattle.buffer.specs.Bytes.{Bytes, same}
use Rattle.kleene.specs.declared.Value.TheVariants.{NotKnown}
use Rattle.antigen.specs.Name.{is_name, before}
use Rattle.card.specs.Card.{Line, ending, line_text, up_to_equals, begins, line_with, line_of, told, value_in}
use Rattle.card.specs.Scan.{place_of}
use Rattle.card.specs.declared.Line.{Line as Places}
use Rattle.card.proofs.Lines.{nothing_read, line-front, ending-some, value_none, value-some, lawful_from, lawful-none, lawful-some}

-- ---- the line at a place

abbrev places : ℕ → ℕ → Bool → Optional Places
places k n p = Some (record { equals = k; end = n; present = p })

module _ (s : Bytes) (at equals : ℕ) (e : equals ≡ at + length (up_to_equals (drop at s))) where
  behind : drop equals s ≡ drop (length (up_to_equals (drop at s))) (drop at s)
  behind = ap (λ (k : ℕ). drop k s) e ∙ sym (drop-drop (length (up_to_equals (drop at s))) at s)

  module _ (t : Bool) (f : t ≡ begins (drop equals s) (ending true)) where
    pub place-present : t ≡ true → places equals (equals + 9) true ≡ place_of at (line_of (drop at s))
    unfolding line_with
    place-present q =
        let n = up_to_equals (drop at s) in
        let k : equals + 9 ≡ at + length (n ++ ending true) = omega (arith, length-append n (ending true)) in
        rw (← behind, sym f ∙ q) (λ i. places (e i) (k i) true)

    module _ (q : t ≡ false) (u : Bool) (g : u ≡ begins (drop equals s) (ending false)) where
      pub place-absent : u ≡ true → places equals (equals + 8) false ≡ place_of at (line_of (drop at s))
      unfolding line_with
      place-absent r =
          let n = up_to_equals (drop at s) in
          let k : equals + 8 ≡ at + length (n ++ ending false) = omega (arith, length-append n (ending false)) in
          rw (← behind, sym f ∙ q, sym g ∙ r) (λ i. places (e i) (k i) false)

      pub place-nothing : u ≡ false → None ≡ place_of at (line_of (drop at s))
      unfolding line_with
      place-nothing r = rw (← behind, sym f ∙ q, sym g ∙ r)

-- ---- what the places of a line say

pub record LineAt (s : Bytes) (at equals end : ℕ) (present : Bool) (l : Line) : Type 0 where
  pub reads : line_of (drop at s) ≡ some l
  pub name : take (equals - at) (drop at s) ≡ l.name
  pub starts : at ≤ equals
  pub ends : equals < end
  pub fits : end ≤ length s
  pub rest : drop end s ≡ drop (length (line_text l)) (drop at s)
  pub says : present ≡ l.present

module _ (s : Bytes) (at : ℕ) (h : at ≤ length s) (r : Optional Places) (e : r ≡ place_of at (line_of (drop at s))) where
  pub placed : (p : Places) → r ≡ Some p → (l : Line) × LineAt s at p.equals p.end p.present l
  placed p q = go (line_of (drop at s)) refl (sym q ∙ e)
    where
      made : (l : Line) → line_of (drop at s) ≡ some l → p.equals ≡ at + length l.name → p.end ≡ at + length (line_text l) → p.present ≡ l.present → LineAt s at p.equals p.end p.present l
      made l o a b w =
          let x = line_text l in
          let f : drop at s ≡ x ++ drop (length x) (drop at s) = line-front (drop at s) l o in
          let k : p.equals - at ≡ length l.name = omega arith in
          let lx : length x ≡ length l.name + length (ending l.present) = length-append l.name (ending l.present) in
          let whole : length (drop at s) ≡ length x + length (drop (length x) (drop at s)) = ap length f ∙ length-append x (drop (length x) (drop at s)) in
          record {
            reads = o;
            name = ap (λ (j : ℕ). take j (drop at s)) k ∙ ap (take (length l.name)) f
                ∙ take-append-le (length l.name) x (drop (length x) (drop at s)) (omega arith)
                ∙ take-append_seam l.name (ending l.present);
            starts = omega arith;
            ends = omega (arith, ending-some l.present);
            fits = omega (arith, length-drop at s);
            rest = ap (λ (j : ℕ). drop j s) b ∙ sym (drop-drop (length x) at s);
            says = w;
          }

      go : (o : Option Line) → line_of (drop at s) ≡ o → Some p ≡ place_of at o → (l : Line) × LineAt s at p.equals p.end p.present l
      go none o q = let z : ◌≡◌ {A = ℕ} 0 1 = cc in absurd (omega arith)
      go (some l) o q = (l, made l o (cc) (cc) (cc))

  pub placed-none : r ≡ None → line_of (drop at s) ≡ none
  placed-none q = go (line_of (drop at s)) (sym q ∙ e)
    where
      go : (o : Option Line) → None ≡ place_of at o → o ≡ none
      go none q = refl
      go (some l) q = let z : ◌≡◌ {A = ℕ} 0 1 = cc in absurd (omega arith)

-- ---- what a card says, line by line

module _ (s n : Bytes) (at : ℕ) where
  pub says_none : line_of (drop at s) ≡ none → NotKnown ≡ value_in (drop at s) n
  says_none e = sym (value_none (drop at s) n e)

  pub says-end : length s ≤ at → NotKnown ≡ value_in (drop at s) n
  says-end h = rw (drop_of_length-le s h) (sym (value_none [] n nothing_read))

  module _ (equals end : ℕ) (present : Bool) (l : Line) (p : LineAt s at equals end present l) (t : Bool) (e : t ≡ same (take (equals - at) (drop at s)) n) where
    pub says_here : t ≡ true → told present ≡ value_in (drop at s) n
    says_here q = rw (value-some (drop at s) n l p.reads, ← p.name, sym e ∙ q, p.says)

    pub says_on : t ≡ false → value_in (drop end s) n ≡ value_in (drop at s) n
    says_on q =
        let g : same l.name n ≡ false = ap (λ (x : Bytes). same x n) (sym p.name) ∙ sym e ∙ q in
        ap (λ (x : Bytes). value_in x n) p.rest ∙ sym (value-some (drop at s) n l p.reads ∙ rw g)

-- ---- whether bytes are a card, line by line

module _ (s n : Bytes) (at : ℕ) where
  pub ill-line : at < length s → line_of (drop at s) ≡ none → false ≡ lawful_from n (drop at s)
  ill-line h e = sym (lawful-none n (drop at s) e ∙ rw (drop-cons s at 0))

  pub lawful-end : length s ≤ at → true ≡ lawful_from n (drop at s)
  lawful-end h = rw (drop_of_length-le s h) (sym (lawful-none n [] nothing_read))

  module _ (equals end : ℕ) (present : Bool) (l : Line) (p : LineAt s at equals end present l) (t : Bool) (e : t ≡ is_name (take (equals - at) (drop at s))) where
    pub ill-name : t ≡ false → false ≡ lawful_from n (drop at s)
    ill-name q = rw (lawful-some n (drop at s) l p.reads, ← p.name, sym e ∙ q)

    module _ (q : t ≡ true) (u : Bool) (f : u ≡ before n (take (equals - at) (drop at s))) where
      pub ill-order : u ≡ false → false ≡ lawful_from n (drop at s)
      ill-order r = rw (lawful-some n (drop at s) l p.reads, ← p.name, sym e ∙ q, sym f ∙ r)

      pub lawful-on : u ≡ true → lawful_from (take (equals - at) (drop at s)) (drop end s) ≡ lawful_from n (drop at s)
      lawful-on r =
          let g : is_name l.name ≡ true = ap is_name (sym p.name) ∙ sym e ∙ q in
          let b : before n l.name ≡ true = ap (before n) (sym p.name) ∙ sym f ∙ r in
          ap (λ (x : Bytes). lawful_from x (drop end s)) p.name ∙ ap (lawful_from l.name) p.rest ∙ sym (lawful-some n (drop at s) l p.reads ∙ rw (g, b))
