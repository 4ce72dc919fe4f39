-- What the code's tests and turns say of a hint: one entry, the entries of a bucket, the scan behind them.
use mathlib.Core.Path.{◌≡◌, refl, sym, ap, ap₂, ◌∙◌}
use mathlib.Core.Bool.{Bool, true, false, cond, ◌&&◌}
use mathlib.Core.Option.{Option, none, some}
use Prim.Native.Nat.{ℕ, suc, ◌+◌, ◌-◌, ◌≤◌, ◌<◌}
use native.Mathlib.Omega.{arith}
use native.Mathlib.Numerals.{add-one}
use lib.ListN.{length, take}
use Rattle.bedrock.specs.Choice.{on}
use Rattle.buffer.specs.Bytes.{Bytes, same}
use Rattle.kind.specs.Kind.{lawful, zero_score}
use Rattle.refusal.specs.declared.Refusal.{Refusal}
use Rattle.refusal.specs.declared.Refusal.TheVariants.{LogLength, BlockType}
use Rattle.block.specs.Block.{Row}
use Rattle.block.specs.declared.Block.{Block}
use Rattle.block.specs.Log.{sectors, Alike, joined, sound_as}
use Rattle.block.proofs.Facts.{parts_pos}
use Rattle.block.proofs.Sound.{sound-reads}
use Rattle.reader.specs.Reader.{placed}
use Rattle.sector_log.specs.Parts.{tape}
use Rattle.sector_log.specs.LookUp.{blocks, first_of, empty_row, held, absence, lent_allowed}
use Rattle.lookup.proofs.Outcomes.{placed-some, placed-none, look_cases, look_found}
use Rattle.index.specs.Index.{bucket_of, place_at, named, sector_at}
use Rattle.index.specs.declared.Bucket.{Bucket}
use Rattle.hint.specs.Hint.{true_at, first_found, hint, held_by, look_up_by, look_up_by_asked}
use Rattle.hint.proofs.Sound.{with_as, true-reads}
use Rattle.hint.proofs.Alike.{look_up_by_alike}
use Rattle.std.specs.Prelude.{Some, None, Ok, Err, Result, Option as Optional}

-- ---- one entry

module _ (log index : Bytes) (t : ℕ) (s : Bytes) (p : ℕ) where
  pub not_named : (b : Bool) → b ≡ same (take 21 (place_at index p)) (named s t) → b ≡ false → None ≡ placed (true_at log index t s p)
  unfolding true_at
  not_named b e q = rw (sym e ∙ q)

  pub past_end : (n : ℕ) → n ≡ sector_at index p → sectors (length log) ≤ n → None ≡ placed (true_at log index t s p)
  past_end n e h = go (true_at log index t s p) refl
    where
      go : (o : Option Row) → true_at log index t s p ≡ o → None ≡ placed (true_at log index t s p)
      go none q = rw q
      go (some r) q =
          let r-sound = sound-reads log (sector_at index p) r (true-reads log index t s p r q).1 in
          absurd (omega (arith, e, r-sound.2, parts_pos r r-sound.0))

  pub checked-there : (n : ℕ) (b : Bool) (x : Optional Block) → b ≡ same (take 21 (place_at index p)) (named s t) → b ≡ true → n ≡ sector_at index p
      → x ≡ placed (sound_as log n t s) → x ≡ placed (true_at log index t s p)
  unfolding true_at
  checked-there n b x e q f g = g ∙ ap placed (ap (λ (m : ℕ). sound_as log m t s) f ∙ with_as log (sector_at index p) t s) ∙ rw (sym e ∙ q)

-- ---- the entries of a bucket

module _ (f : ℕ → Option Row) (p to : ℕ) (h : p < to) (x : Optional Block) (e : x ≡ placed (f p)) where
  more : to - p ≡ suc (to - (p + 1))
  more = omega arith

  pub found_here : (b : Block) → x ≡ Some b → x ≡ placed (first_found f (to - p) p)
  unfolding first_found
  found_here b z =
      let r = placed-some (f p) x b e z in
      e ∙ ap placed (r.1 ∙ sym (ap (λ (k : ℕ). first_found f k p) more ∙ ap (λ (o : Option Row). on o (first_found f (to - (p + 1)) (suc p)) some) r.1))

  pub found-next : x ≡ None → first_found f (to - (p + 1)) (p + 1) ≡ first_found f (to - p) p
  unfolding first_found
  found-next z = sym (ap (λ (k : ℕ). first_found f k p) more ∙ rw (placed-none (f p) x e z) (ap (first_found f (to - (p + 1))) (sym (add-one p))))

pub found_nowhere : (f : ℕ → Option Row) (p to : ℕ) → to ≤ p → None ≡ placed (first_found f (to - p) p)
unfolding first_found
found_nowhere f p to h = let z : to - p ≡ 0 = omega arith in rw z

pub hint-starts : (log index : Bytes) (t : ℕ) (s : Bytes) (b : Bucket) → b ≡ bucket_of index s → first_found (true_at log index t s) (b.to - b.from) b.from ≡ hint log index t s
unfolding hint
hint-starts log index t s b e = ap (λ (x : Bucket). first_found (true_at log index t s) (x.to - x.from) x.from) e

-- ---- what look-up by index finds, and answers

module _ (log index : Bytes) (t : ℕ) (s : Bytes) (x : Optional Block) where
  pub by_zero : (a b : Bool) → a ≡ lawful t → a ≡ true → b ≡ same s zero_score → b ≡ true → x ≡ placed (held log t s) → x ≡ placed (held_by log index t s)
  unfolding held held_by
  by_zero a b p q u v e = let z : (lawful t && same s zero_score) ≡ true = rw (sym p ∙ q, sym u ∙ v) in e ∙ rw z

  pub by_hint : (b : Block) → (lawful t && same s zero_score) ≡ false → x ≡ placed (hint log index t s) → x ≡ Some b → x ≡ placed (held_by log index t s)
  unfolding held_by
  by_hint b z e q =
      let r = placed-some (hint log index t s) x b e q in
      e ∙ ap placed (r.1 ∙ sym (ap₂ (λ (b : Bool) (o : Option Row). cond b (some (empty_row t)) (on o (first_of t s (blocks log)) some)) z r.1))

  pub by_scan : (y : Optional Block) → (lawful t && same s zero_score) ≡ false → y ≡ placed (hint log index t s) → y ≡ None → x ≡ placed (held log t s) → x ≡ placed (held_by log index t s)
  unfolding held held_by
  by_scan y z e q h = h ∙ rw (z, placed-none (hint log index t s) y e q)

  pub answer-none : (w : Refusal) → x ≡ placed (held_by log index t s) → x ≡ None → w ≡ absence log → Err w ≡ look_up_by log index t s
  unfolding look_up_by
  answer-none w e z a = ap Err a ∙ look_cases (held_by log index t s) (absence log) x e z

  pub answer-some : (b : Block) → x ≡ placed (held_by log index t s) → x ≡ Some b → Ok b ≡ look_up_by log index t s
  unfolding look_up_by
  answer-some b e z = look_found (held_by log index t s) (absence log) x b e z

-- ---- tests 3 and 9, then the look-up

module _ (log waiting index : Bytes) (t : ℕ) (s : Bytes) (a : Bool) (p : a ≡ lent_allowed (length log) (length waiting)) where
  pub ask-log : a ≡ false → Err LogLength ≡ look_up_by_asked log waiting index t s
  unfolding look_up_by_asked
  ask-log q = rw (sym p ∙ q)

  pub ask-kind : (b : Bool) → a ≡ true → b ≡ lawful t → b ≡ false → Err BlockType ≡ look_up_by_asked log waiting index t s
  unfolding look_up_by_asked
  ask-kind b q u v = rw (sym p ∙ q, sym u ∙ v)

  pub ask_look : (b : Bool) (u : ℕ) (r : Result Block Refusal) → a ≡ true → b ≡ lawful t → b ≡ true → Alike (joined u log waiting) (tape log waiting)
      → r ≡ look_up_by (joined u log waiting) index t s → r ≡ look_up_by_asked log waiting index t s
  unfolding look_up_by_asked
  ask_look b u r q v w f e = rw (sym p ∙ q, sym v ∙ w) (e ∙ look_up_by_alike (joined u log waiting) (tape log waiting) f index t s)
