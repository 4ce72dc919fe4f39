-- What the code's tests and turns say of the blocks that an index leads to.
use mathlib.Core.Path.{◌≡◌, refl, sym, ap, ap₂, ◌∙◌}
use mathlib.Core.Bool.{Bool, true, false, ◌&&◌}
use mathlib.Core.Logic.{◌≢◌}
use mathlib.Core.Option.{Option, none, some}
use Prim.Native.Nat.{ℕ, suc, ◌+◌, ◌-◌, ◌≤◌, ◌<◌}
use native.Mathlib.Nat.{sub-zero}
use native.Mathlib.Omega.{arith}
use native.Mathlib.Numerals.{add-one}
use lib.Dec.{leb}
use lib.ListN.{length, take, drop}
use Rattle.bedrock.specs.Places.{found_from}
use Rattle.bedrock.proofs.Choices.{some-not-none}
use Rattle.buffer.specs.Bytes.{Bytes}
use Rattle.hexadecimal.specs.Hex.{is_hex}
use Rattle.sector.specs.Sector.{behind, kind_field, score_digits, score_field}
use Rattle.block.specs.Block.{Row, place_of}
use Rattle.block.specs.declared.Block.{Block}
use Rattle.block.specs.Log.{sectors, at, sound}
use Rattle.block.proofs.At.{length_at}
use Rattle.block.proofs.Sound.{sound-reads}
use Rattle.reader.specs.Reader.{placed}
use Rattle.sector_log.specs.LookUp.{blocks}
use Rattle.sector_log.proofs.Blocks.{step-none, one-some}
use Rattle.lookup.proofs.Outcomes.{placed-some, placed-none}
use Rattle.hint.specs.Hint.{sound_with, hint}
use Rattle.hint.proofs.Sound.{with_finds}
use Rattle.rebuild.proofs.Turns.{kind-hex, score-hex, fields}
use Rattle.known.specs.Known.{all_lead, exactly}
use Rattle.exact_index.specs.Leads.{found_by, leads_found}
use Rattle.std.specs.Prelude.{Some, None, Option as Optional}

-- ---- one entry that is found

place-first : (b : Block) (r : Row) → Some b ≡ placed (some r) → b.first.0 ≡ r.first
place-first b r q = let y : b ≡ place_of r = cc in ap (λ (x : Block). x.first.0) y

-- by the type and score that were read
module _ (log index : Bytes) (n : ℕ) (x : Optional Block) (t u : ℕ) (s v : Bytes) (e : x ≡ placed (hint log index t s)) (p : t ≡ u) (q : s ≡ v) where
  read : x ≡ placed (hint log index u v)
  read = e ∙ ap₂ (λ (k : ℕ) (y : Bytes). placed (hint log index k y)) p q

  pub found_nowhere : x ≡ None → false ≡ found_by (hint log index u v) n
  found_nowhere z = rw (placed-none (hint log index u v) x read z)

  pub found_at : (b : Block) → x ≡ Some b → leb b.first.0 n ≡ found_by (hint log index u v) n
  found_at b z =
      let r = placed-some (hint log index u v) x b read z in
      ap (λ (k : ℕ). leb k n) (place-first b r.0 (sym z ∙ read ∙ ap placed r.1)) ∙ sym (ap (λ (o : Option Row). found_by o n) r.1)

-- ---- one sector

module _ (log index : Bytes) (n : ℕ) (p : Optional Block) (e : p ≡ placed (sound log n)) where
  pub leads_nowhere : p ≡ None → true ≡ leads_found log index (sound log n)
  leads_nowhere z = let q : sound log n ≡ none = placed-none (sound log n) p e z in rw q

  module _ (b : Block) (h : p ≡ Some b) (x : Bytes) (q : x ≡ at log n) where
    pub label_facts : (length x ≡ 512) × (is_hex (take 2 (drop 36 (behind x))) ≡ true) × (is_hex (score_digits (behind x)) ≡ true)
        × (sound_with log n (kind_field (behind x)) (score_field (behind x)) ≢ none)
    label_facts =
        let r = placed-some (sound log n) p b e h in
        let f = fields log n r.0 r.1 in (
          ap length q ∙ length_at log n,
          ap (λ (y : Bytes). is_hex (take 2 (drop 36 (behind y)))) q ∙ kind-hex log n r.0 r.1,
          ap (λ (y : Bytes). is_hex (score_digits (behind y))) q ∙ score-hex log n r.0 r.1,
          λ z. some-not-none r.0
              (sym (with_finds log n r.0 r.1) ∙ ap₂ (sound_with log n) f.0 f.1 ∙ ap (λ (y : Bytes). sound_with log n (kind_field (behind y)) (score_field (behind y))) (sym q) ∙ z),
        )

    pub leads-there : (v : Bool) → v ≡ found_by (hint log index (kind_field (behind x)) (score_field (behind x))) n → v ≡ leads_found log index (sound log n)
    leads-there v a =
        let r = placed-some (sound log n) p b e h in
        let f = fields log n r.0 r.1 in
        let here : n ≡ r.0.first = sym (sound-reads log n r.0 r.1).1 in
        let s : score_field (behind x) ≡ r.0.score = ap (λ (y : Bytes). score_field (behind y)) q ∙ sym f.1 in
        let t : kind_field (behind x) ≡ r.0.kind = ap (λ (y : Bytes). kind_field (behind y)) q ∙ sym f.0 in
        a ∙ (λ i. found_by (hint log index (t i) (s i)) (here i)) ∙ ap (leads_found log index) (sym r.1)

-- ---- the pass over both

module _ (log index : Bytes) where
  pub pass_starts : all_lead log index (found_from (sound log) (sectors (length log) - 0) 0) ≡ exactly log index
  unfolding blocks
  pass_starts = ap (λ (k : ℕ). all_lead log index (found_from (sound log) k 0)) (sub-zero (sectors (length log)))

  module _ (n m : ℕ) (h : n < m) where
    one_turn : all_lead log index (found_from (sound log) (m - n) n) ≡ (leads_found log index (sound log n) && all_lead log index (found_from (sound log) (m - (n + 1)) (n + 1)))
    unfolding all_lead
    one_turn =
        ap (λ (k : ℕ). all_lead log index (found_from (sound log) k n)) more ∙ go (sound log n) refl
        ∙ ap (λ (k : ℕ). leads_found log index (sound log n) && all_lead log index (found_from (sound log) (m - (n + 1)) k)) (sym (add-one n))
      where
        more : m - n ≡ suc (m - (n + 1))
        more = omega arith

        go : (o : Option Row) → sound log n ≡ o
            → all_lead log index (found_from (sound log) (suc (m - (n + 1))) n) ≡ (leads_found log index (sound log n) && all_lead log index (found_from (sound log) (m - (n + 1)) (suc n)))
        go none q =
            ap (all_lead log index) (step-none log (m - (n + 1)) n q)
            ∙ ap (λ (o : Option Row). leads_found log index o && all_lead log index (found_from (sound log) (m - (n + 1)) (suc n))) (sym q)
        go (some r) q =
            ap (all_lead log index) (one-some log (m - (n + 1)) n r q)
            ∙ ap (λ (o : Option Row). leads_found log index o && all_lead log index (found_from (sound log) (m - (n + 1)) (suc n))) (sym q)

    module _ (b : Bool) (e : b ≡ leads_found log index (sound log n)) (w : all_lead log index (found_from (sound log) (m - n) n) ≡ exactly log index) where
      pub pass_on : b ≡ true → all_lead log index (found_from (sound log) (m - (n + 1)) (n + 1)) ≡ exactly log index
      pass_on q = sym (one_turn ∙ ap (λ (c : Bool). c && all_lead log index (found_from (sound log) (m - (n + 1)) (n + 1))) (sym e ∙ q)) ∙ w

      pub pass_fails : b ≡ false → false ≡ exactly log index
      pass_fails q = sym (one_turn ∙ ap (λ (c : Bool). c && all_lead log index (found_from (sound log) (m - (n + 1)) (n + 1))) (sym e ∙ q)) ∙ w

  pub pass_ends : (n m : ℕ) → m ≤ n → all_lead log index (found_from (sound log) (m - n) n) ≡ exactly log index → true ≡ exactly log index
  unfolding all_lead found_from
  pass_ends n m h w = let z : m - n ≡ 0 = omega arith in sym (ap (λ (k : ℕ). all_lead log index (found_from (sound log) k n)) z) ∙ w
