-- The fields of an entry that stands at an offset.
use mathlib.Core.Path.{◌≡◌, sym, ap, ◌∙◌}
use mathlib.Core.Bool.{Bool}
use Prim.Native.Nat.{ℕ, ◌+◌, ◌-◌, ◌/◌, ◌%◌, ◌≤◌}
use native.Mathlib.Omega.{arith}
use lib.Dec.{eqb}
use lib.ListN.{take, drop}
use lib.Seq.{drop-drop}
use Rattle.buffer.specs.Bytes.{Bytes, zeros}
use Rattle.buffer.proofs.Parts.{part_within}
use Rattle.digits.specs.Number.{be_number}
use Rattle.entry.specs.Entry.{field, pad_of, entry_of}
use Rattle.entry.specs.declared.Entry.{Entry}

-- a field of the n bytes at an offset
pub field_at : (s : Bytes) (at n from w : ℕ) → from + w ≤ n → field (at + from) w s ≡ field from w (take n (drop at s))
field_at s at n from w h = ap be_number (sym (part_within w from n (drop at s) h ∙ ap (take w) (drop-drop from at s)))

-- a field of a part that the code ends at `at + w`
pub field_part : (s : Bytes) (at w : ℕ) → be_number (take (at + w - at) (drop at s)) ≡ field at w s
field_part s at w = let e : at + w - at ≡ w = omega arith in ap (λ (k : ℕ). be_number (take k (drop at s))) e

-- the pad of the entry at an offset
pub pad_part : (s : Bytes) (at : ℕ) → zeros (take (at + 9 + 5 - (at + 9)) (drop (at + 9) s)) ≡ zeros (pad_of (take 40 (drop at s)))
pad_part s at =
    let e : at + 9 + 5 - (at + 9) ≡ 5 = omega arith in
    ap (λ (k : ℕ). zeros (take k (drop (at + 9) s))) e ∙ ap zeros (sym (part_within 5 9 40 (drop at s) (omega arith) ∙ ap (take 5) (drop-drop 9 at s)))

-- an entry by its fields
pub entry-fields : (s : Bytes) (at flags psize dsize size : ℕ) (clean : Bool)
    → flags ≡ field (at + 8) 1 s → psize ≡ field (at + 4) 2 s → dsize ≡ field (at + 6) 2 s → size ≡ field (at + 14) 6 s
    → clean ≡ zeros (pad_of (take 40 (drop at s)))
    → ◌≡◌ {A = Entry}
    (record {
      active = eqb (flags % 2) 1;
      directory = eqb (flags / 2 % 2) 1;
      depth = flags / 4 % 8;
      plain = eqb (flags / 32 % 8) 0;
      clean = clean;
      psize = psize;
      dsize = dsize;
      size = size;
    })
    (entry_of (take 40 (drop at s)))
unfolding entry_of
entry-fields s at flags psize dsize size clean f p d z n =
    let f' = f ∙ field_at s at 40 8 1 (omega arith) in
    let p' = p ∙ field_at s at 40 4 2 (omega arith) in
    let d' = d ∙ field_at s at 40 6 2 (omega arith) in
    let z' = z ∙ field_at s at 40 14 6 (omega arith) in
    λ i.
    record {
      active = eqb (f' i % 2) 1;
      directory = eqb (f' i / 2 % 2) 1;
      depth = f' i / 4 % 8;
      plain = eqb (f' i / 32 % 8) 0;
      clean = n i;
      psize = p' i;
      dsize = d' i;
      size = z' i;
    }
