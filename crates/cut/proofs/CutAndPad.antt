-- Cutting and padding together, for every type: each undoes the other as far as it can.
use mathlib.Core.Path.{◌≡◌, refl, sym, ap, ◌∙◌}
use mathlib.Core.Bool.{Bool, true, false}
use mathlib.Core.List.{◌++◌, append_assoc}
use Prim.Native.Nat.{ℕ, ◌*◌, ◌-◌, ◌/◌, ◌%◌, ◌≤◌}
use native.Mathlib.Omega.{arith}
use borrow.Author.Tests.{eq-eqb}
use lib.ListN.{length, take, drop, length-append}
use lib.Seq.{length-take-le, take_at}
use Rattle.std.specs.Prelude.{Result, Ok, ⊤}
use Rattle.buffer.specs.Bytes.{Bytes}
use Rattle.kind.specs.Kind.{lawful}
use Rattle.refusal.specs.declared.Refusal.{Refusal}
use Rattle.cut.specs.Cut.{unit_of, repeat, cut_length, whole_units, cut_of}
use Rattle.cut.specs.Pad.{padded, pad_allowed, after_pad, AfterPad, pad_of}
use Rattle.cut.proofs.Units.{length-repeat}
use Rattle.cut.proofs.Multiples.{times, difference}
use Rattle.cut.proofs.Turns.{whole_units_lem}
use Rattle.cut.proofs.Tests.{unit_positive, cut_unlawful, cut_ragged, cut_done, pad_unlawful, pad_refused, pad_done, pad_units, Allowed, allowed}
use Rattle.cut.proofs.Shortest.{cut_le, cut_units, cut_appended, cut_rest, cut_shortest}
use Rattle.cut.specs.Promises.{CutRestIsUnits, CutKeepsShortest, CutThenPad, PadThenCut}

-- ---- what an answer that is no refusal tells

pub record IsCut (kind : ℕ) (b : Bytes) (n : ℕ) : Type 0 where
  pub type_lawful : lawful kind ≡ true
  pub units : length b % length (unit_of kind) ≡ 0
  pub size : n ≡ cut_length (unit_of kind) b

pub is_cut : (kind : ℕ) (b : Bytes) (n : ℕ) → cut_of kind b ≡ Ok n → IsCut kind b n
is_cut kind b n e = go (lawful kind) (whole_units (unit_of kind) (length b)) refl refl
  where
    go : (t s : Bool) → lawful kind ≡ t → whole_units (unit_of kind) (length b) ≡ s → IsCut kind b n
    go false s l h = let r = cut_unlawful kind b l in let z : ◌≡◌ {A = ℕ} 0 1 = cc in absurd (omega arith)
    go true false l h = let r = cut_ragged kind b l h in let z : ◌≡◌ {A = ℕ} 0 1 = cc in absurd (omega arith)
    go true true l h =
        let r = cut_done kind b (cut_length (unit_of kind) b) l h refl in
        record { type_lawful = l; units = whole_units_lem (unit_of kind) (length b) h; size = cc }

pub record IsPadded (kind : ℕ) (d : Bytes) (len target : ℕ) (x : Bytes) : Type 0 where
  pub type_lawful : lawful kind ≡ true
  pub lengths : Allowed (unit_of kind) (length d) len target
  pub bytes : x ≡ padded (unit_of kind) d len target

pub is-padded : (kind : ℕ) (d : Bytes) (len target : ℕ) (x : Bytes) → pad_of kind d len target ≡ after_pad (Ok tt) x → IsPadded kind d len target x
is-padded kind d len target x e = go (lawful kind) (pad_allowed (unit_of kind) (length d) len target) refl refl
  where
    answer : {a : Result ⊤ Refusal} {y : Bytes} → after_pad a y ≡ pad_of kind d len target → a ≡ Ok tt
    answer q = ap (λ (r : AfterPad). r.answer) (q ∙ e)

    go : (t s : Bool) → lawful kind ≡ t → pad_allowed (unit_of kind) (length d) len target ≡ s → IsPadded kind d len target x
    go false s l h = let r = answer (pad_unlawful kind d len target l) in let z : ◌≡◌ {A = ℕ} 0 1 = cc in absurd (omega arith)
    go true false l h = let r = answer (pad_refused kind d len target l h) in let z : ◌≡◌ {A = ℕ} 0 1 = cc in absurd (omega arith)
    go true true l h =
        record {
          type_lawful = l;
          lengths = allowed (unit_of kind) (length d) len target h;
          bytes = ap (λ (r : AfterPad). r.buffer) (sym e ∙ sym (pad_done kind d len target l h));
        }

-- ---- the theorems

-- cutting never lengthens
pub cut_never_longer : (kind : ℕ) (b : Bytes) (n : ℕ) → cut_of kind b ≡ Ok n → n ≤ length b
cut_never_longer kind b n e = omega (arith, (is_cut kind b n e).size, cut_le (unit_of kind) b)

pub cut_rest_units : CutRestIsUnits
cut_rest_units kind b n e =
    let c = is_cut kind b n e in
    cut_rest (unit_of kind) b (unit_positive kind) c.units
    ∙ ap (λ (m : ℕ). take m b ++ repeat (unit_of kind) ((length b - m) / length (unit_of kind))) (sym c.size)

-- and every beginning of which that is true is at least as long
pub cut_keeps_shortest : CutKeepsShortest
cut_keeps_shortest kind b n e m j l s =
    let c = is_cut kind b n e in
    omega (arith, c.size, cut_shortest (unit_of kind) b (unit_positive kind) c.units m j l s)

whole_of : (u : Bytes) (n : ℕ) → n % length u ≡ 0 → whole_units u n ≡ true
unfolding whole_units
whole_of u n h = eq-eqb (n % length u) 0 h

-- cutting, then padding to the old length, gives the old bytes back, in any buffer d whose front is what was kept
pub cut_then_pad : CutThenPad
unfolding padded
cut_then_pad kind b n e d l f =
    let u = unit_of kind in
    let c = is_cut kind b n e in
    let un : n % length u ≡ 0 = ap (λ (m : ℕ). m % length u) c.size ∙ cut_units u b in
    let a : pad_allowed u (length d) n (length b) ≡ true =
    sym (pad_units u (length d) n (length b) (cut_never_longer kind b n e) l (whole_of u n un)) ∙ whole_of u (length b) c.units in
    sym (pad_done kind d n (length b) c.type_lawful a)
    ∙ ap (after_pad (Ok tt))
    (ap (λ (x : Bytes). x ++ (repeat u ((length b - n) / length u) ++ drop (length b) d)) f
    ∙ sym (append_assoc (take n b) (repeat u ((length b - n) / length u)) (drop (length b) d))
    ∙ ap (λ (x : Bytes). x ++ drop (length b) d) (sym (cut_rest_units kind b n e)))

-- "padding, then cutting, gives what cutting alone gives"
pub pad_then_cut : PadThenCut
unfolding padded
pad_then_cut kind d len target x e =
    let u = unit_of kind in
    let w = length u in
    let q = is-padded kind d len target x e in
    let a = q.lengths in
    let j = (target - len) / w in
    let b = take len d in
    let n : length b ≡ len = length-take-le len d (omega (arith, a.longer, a.within)) in
    let units : length b % w ≡ 0 = ap (λ (m : ℕ). m % w) n ∙ a.from in
    let part : target - len ≡ w * j = times w (target - len) (difference w target len a.to a.from) in
    let size : length (b ++ repeat u j) ≡ target = length-append b (repeat u j) ∙ omega (arith, n, length-repeat u j, part, a.longer) in
    let front : take target x ≡ b ++ repeat u j =
    ap (take target) (q.bytes ∙ sym (append_assoc b (repeat u j) (drop target d))) ∙ take_at (b ++ repeat u j) (drop target d) target size in
    ap (cut_of kind) front
    ∙ sym (cut_done kind (b ++ repeat u j) (cut_length u (b ++ repeat u j)) q.type_lawful (whole_of u (length (b ++ repeat u j)) (ap (λ (m : ℕ). m % w) size ∙ a.to)) refl)
    ∙ ap Ok (cut_appended u b j (unit_positive kind) units)
    ∙ cut_done kind b (cut_length u b) q.type_lawful (whole_of u (length b) units) refl
