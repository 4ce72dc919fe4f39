-- What the code reads in a label, and one turn of the pass over a log.
use mathlib.Core.Path.{◌≡◌, refl, sym, ap, ap₂, ◌∙◌}
use mathlib.Core.Bool.{Bool, true, false}
use mathlib.Core.List.{[]}
use mathlib.Core.Option.{Option, none, some}
use Prim.Native.Nat.{ℕ, suc, ◌+◌, ◌-◌, ◌^◌, ◌≤◌, ◌<◌}
use native.Mathlib.Nat.{sub-zero}
use native.Mathlib.Omega.{arith}
use native.Mathlib.Numerals.{add-one}
use lib.ListN.{length, take, drop, length-take, length-drop}
use lib.Seq.{drop-drop}
use Rattle.bedrock.specs.Places.{found_from}
use Rattle.buffer.specs.Bytes.{Bytes}
use Rattle.buffer.proofs.Bytes.{same_true}
use Rattle.hexadecimal.specs.Hex.{is_hex, hex_value, hex_bytes, read_hex, read_from, read_bytes, Reading, reading, read_hex_bytes}
use Rattle.std.specs.Option.{unwrap_or}
use Rattle.hexadecimal.proofs.HexLaws.{is_hex-hex, is_hex-hex_bytes, hex_value_lt}
use Rattle.sector.specs.Sector.{front_of, date_field, behind, kind_field, score_digits, score_field}
use Rattle.sector.proofs.Dates.{front-most}
use Rattle.block.specs.Block.{Row}
use Rattle.block.specs.declared.Block.{Block}
use Rattle.block.specs.Log.{sectors, at, joined, sound}
use Rattle.block.proofs.Joined.{alike-whole}
use Rattle.block.proofs.Alike.{sound-alike}
use Rattle.block.proofs.At.{length_at}
use Rattle.block.proofs.Sound.{sound-reads, as_reads, as_finds, as_digits, kind-digits}
use Rattle.reader.specs.Reader.{placed}
use Rattle.sector_log.specs.LookUp.{blocks, log_allowed}
use Rattle.sector_log.proofs.Blocks.{step-none, one-some}
use Rattle.lookup.proofs.Outcomes.{placed-some, placed-none}
use Rattle.refusal.specs.declared.Refusal.TheVariants.{LogLength}
use Rattle.index.specs.Index.{entered, cleared}
use Rattle.hint.specs.Rebuilt.{entered_all, rebuilt, after_rebuild, rebuilt_asked}
use Rattle.rebuild.specs.Rebuild.{entered_found}
use Rattle.std.specs.Prelude.{Some, None, Ok, Err, Option as Optional}

-- ---- digits that are hex

pub kind-read : (s : Bytes) → is_hex s ≡ true → unwrap_or (read_hex s) 0 ≡ hex_value s
unfolding read_from
kind-read s h = rw h

pub kind_lt : (s : Bytes) → length s ≡ 2 → is_hex s ≡ true → hex_value s < 256
kind_lt s l h = let e : hex_value s < 16 ^ 2 = rw l at (hex_value_lt s h) in omega arith

pub score-read : (s d x : Bytes) (r : Bool) → is_hex s ≡ true → reading r x ≡ read_hex_bytes s d → x ≡ read_bytes s
unfolding read_hex_bytes
score-read s d x r h e = ap (λ (y : Reading). y.bytes) (rw h at e)

-- ---- the digits behind the line of a date

module _ (s : Bytes) (k : ℕ) (e : k ≡ length (front_of (date_field s))) where
  part_behind : (a w : ℕ) → take (k + a + w - (k + a)) (drop (k + a) s) ≡ take w (drop a (behind s))
  part_behind a w =
      let z : k + a + w - (k + a) ≡ w = omega arith in
      ap (λ (m : ℕ). take m (drop (k + a) s)) z ∙ ap (λ (m : ℕ). take w (drop (m + a) s)) e ∙ ap (take w) (sym (drop-drop a (length (front_of (date_field s))) s))

  pub kind_part : take (k + 36 + 2 - (k + 36)) (drop (k + 36) s) ≡ take 2 (drop 36 (behind s))
  kind_part = part_behind 36 2

  pub kind_fits : length s ≡ 512 → is_hex (take 2 (drop 36 (behind s))) ≡ true
      → (length (take (k + 36 + 2 - (k + 36)) (drop (k + 36) s)) ≡ 2) × (is_hex (take (k + 36 + 2 - (k + 36)) (drop (k + 36) s)) ≡ true)
  kind_fits l h = (simp (length-take, length-drop) (omega (arith, front-most s)), ap is_hex kind_part ∙ h)

  pub score_part : take (k + 55 + 40 - (k + 55)) (drop (k + 55) s) ≡ score_digits (behind s)
  score_part = part_behind 55 40

-- ---- the label of a sound block

module _ (log : Bytes) (n : ℕ) (r : Row) (e : sound log n ≡ some r) where
  pub kind-hex : is_hex (take 2 (drop 36 (behind (at log n)))) ≡ true
  kind-hex = ap is_hex (kind-digits log n r.kind r.score r (as_finds log n r e)) ∙ is_hex-hex 2 r.kind

  pub score-hex : is_hex (score_digits (behind (at log n))) ≡ true
  score-hex = ap is_hex (same_true (score_digits (behind (at log n))) (hex_bytes r.score) (as_digits log n r.kind r.score r (as_finds log n r e))) ∙ is_hex-hex_bytes r.score

  pub fields : (r.kind ≡ kind_field (behind (at log n))) × (r.score ≡ score_field (behind (at log n)))
  unfolding sound
  fields = let p = as_reads log n (kind_field (behind (at log n))) (score_field (behind (at log n))) r e in (p.1, p.2)

-- ---- what is entered at a sector, by the size of the sound block there

-- the log lent with nothing behind it
abbrev whole : Bytes → Bytes
whole log = joined (sectors (length log)) log []

module _ (log : Bytes) (n : ℕ) (p : Optional Block) (e : p ≡ placed (sound (whole log) n)) where
  place_is : p ≡ placed (sound log n)
  place_is = e ∙ ap placed (sound-alike (whole log) log (alike-whole log) n)

  pub entered-none : (index : Bytes) → p ≡ None → index ≡ entered_found index (sound log n)
  entered-none index z = let q : sound log n ≡ none = placed-none (sound log n) p place_is z in rw q

  module _ (b : Block) (h : p ≡ Some b) (x : Bytes) (w : x ≡ at (whole log) n) where
    q : x ≡ at log n
    q = w ∙ alike-whole log n

    pub label_facts : (length x ≡ 512) × (is_hex (take 2 (drop 36 (behind x))) ≡ true) × (is_hex (score_digits (behind x)) ≡ true)
    label_facts =
        let r = placed-some (sound log n) p b place_is h in (
          ap length q ∙ length_at log n,
          ap (λ (y : Bytes). is_hex (take 2 (drop 36 (behind y)))) q ∙ kind-hex log n r.0 r.1,
          ap (λ (y : Bytes). is_hex (score_digits (behind y))) q ∙ score-hex log n r.0 r.1,
        )

    pub entered-some : (index after : Bytes) → after ≡ entered index (score_field (behind x)) (kind_field (behind x)) n → after ≡ entered_found index (sound log n)
    entered-some index after a =
        let r = placed-some (sound log n) p b place_is h in
        let f = fields log n r.0 r.1 in
        let here : n ≡ r.0.first = sym (sound-reads log n r.0 r.1).1 in
        let s : score_field (behind x) ≡ r.0.score = ap (λ (y : Bytes). score_field (behind y)) q ∙ sym f.1 in
        let t : kind_field (behind x) ≡ r.0.kind = ap (λ (y : Bytes). kind_field (behind y)) q ∙ sym f.0 in
        a ∙ (λ i. entered index (s i) (t i) (here i)) ∙ ap (entered_found index) (sym r.1)

-- ---- the pass over a log

pub pass_starts : (log index : Bytes) → entered_all index (found_from (sound log) (sectors (length log) - 0) 0) ≡ entered_all index (blocks log)
unfolding blocks
pass_starts log index = ap (λ (k : ℕ). entered_all index (found_from (sound log) k 0)) (sub-zero (sectors (length log)))

pub pass_on : (log index after : Bytes) (n m : ℕ) → n < m → after ≡ entered_found index (sound log n)
    → entered_all after (found_from (sound log) (m - (n + 1)) (n + 1)) ≡ entered_all index (found_from (sound log) (m - n) n)
unfolding entered_all
pass_on log index after n m h e =
    ap₂ (λ (x : Bytes) (k : ℕ). entered_all x (found_from (sound log) (m - (n + 1)) k)) e (add-one n)
    ∙ go (sound log n) refl
    ∙ ap (λ (k : ℕ). entered_all index (found_from (sound log) k n)) (sym more)
  where
    more : m - n ≡ suc (m - (n + 1))
    more = omega arith

    go : (o : Option Row) → sound log n ≡ o
        → entered_all (entered_found index (sound log n)) (found_from (sound log) (m - (n + 1)) (suc n)) ≡ entered_all index (found_from (sound log) (suc (m - (n + 1))) n)
    go none q =
        ap (λ (o : Option Row). entered_all (entered_found index o) (found_from (sound log) (m - (n + 1)) (suc n))) q
        ∙ ap (entered_all index) (sym (step-none log (m - (n + 1)) n q))
    go (some r) q =
        ap (λ (o : Option Row). entered_all (entered_found index o) (found_from (sound log) (m - (n + 1)) (suc n))) q
        ∙ ap (entered_all index) (sym (one-some log (m - (n + 1)) n r q))

pub pass_ends : (log index : Bytes) (n m : ℕ) → m ≤ n → index ≡ entered_all index (found_from (sound log) (m - n) n)
unfolding entered_all found_from
pass_ends log index n m h = let z : m - n ≡ 0 = omega arith in ap (λ (k : ℕ). entered_all index (found_from (sound log) k n)) (sym z)

-- ---- rebuilding

module _ (log index : Bytes) (a : Bool) (p : a ≡ log_allowed (length log)) where
  pub rebuild_refused : a ≡ false → after_rebuild (Err LogLength) index ≡ rebuilt_asked log index
  unfolding rebuilt_asked
  rebuild_refused q = rw (sym p ∙ q)

  pub rebuild_done : (x y : Bytes) → a ≡ true → x ≡ cleared index → y ≡ entered_all x (blocks log) → after_rebuild (Ok tt) y ≡ rebuilt_asked log index
  unfolding rebuilt_asked rebuilt
  rebuild_done x y q e f = ap (after_rebuild (Ok tt)) (f ∙ ap (λ (z : Bytes). entered_all z (blocks log)) e) ∙ rw (sym p ∙ q)
