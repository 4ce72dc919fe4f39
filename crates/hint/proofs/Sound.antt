-- What an entry is true of is sound at its sector; and a place with an entry leads to its block, a free one to none.
use mathlib.Core.Path.{◌≡◌, refl, sym, ap, ap₂, ◌∙◌, subst}
use mathlib.Core.Bool.{Bool, true, false, cond, ◌&&◌, false≢true}
use mathlib.Core.List.{[]}
use mathlib.Core.Logic.{◌≢◌}
use mathlib.Core.Option.{Option, none, some}
use Prim.Native.Nat.{ℕ, ◌-◌, ◌^◌, ◌<◌}
use native.Mathlib.Omega.{arith}
use lib.Dec.{eqb}
use borrow.Author.Tests.{eqb-true, eq-eqb}
use lib.ListN.{length, get_or, take, drop}
use lib.Seq.{take_at, drop_at, get_or-take, get_or_at}
use Rattle.bedrock.specs.Choice.{on}
use Rattle.bedrock.proofs.Choices.{and-true, some_same, cond_or_none, cond-of-none}
use Rattle.digits.specs.Number.{be_bytes, be_number}
use Rattle.digits.proofs.NumberLaws.{value-digits}
use Rattle.buffer.specs.Bytes.{Bytes, same}
use Rattle.buffer.proofs.Bytes.{same_refl, same_true, zeros_get_d}
use Rattle.sha1_digest.proofs.Digest.{digest_bytes}
use Rattle.kind.specs.Kind.{lawful}
use Rattle.block.specs.Block.{Row, valid}
use Rattle.block.specs.Log.{sound_as, sound}
use Rattle.block.proofs.Facts.{valid_facts, parts_pos, score-length}
use Rattle.block.proofs.Sound.{sound-reads, as_reads, as_other}
use Rattle.index.specs.Index.{place_at, named, entry_bytes, sector_at, free}
use Rattle.index.proofs.Places.{length-named}
use Rattle.hint.specs.Hint.{sound_with, true_at}

pub with_reads : (log : Bytes) (n t : ℕ) (s : Bytes) (r : Row) → sound_with log n t s ≡ some r → (sound log n ≡ some r) × (r.kind ≡ t) × (r.score ≡ s)
unfolding sound_with
with_reads log n t s r e = go (sound log n) refl e
  where
    go : (o : Option Row) → sound log n ≡ o → on o none (λ (x : Row). cond (eqb x.kind t && same x.score s) (some x) none) ≡ some r
        → (sound log n ≡ some r) × (r.kind ≡ t) × (r.score ≡ s)
    go none q d = let z : ◌≡◌ {A = ℕ} 0 1 = cc in absurd (omega arith)
    go (some x) q d =
        let p = cond_or_none (eqb x.kind t && same x.score s) (some x) r d in
        let b = and-true (eqb x.kind t) (same x.score s) p.0 in
        subst (λ (y : Row). (sound log n ≡ some y) × (y.kind ≡ t) × (y.score ≡ s)) (some_same x r p.1) (q, eqb-true x.kind t b.0, same_true x.score s b.1)

-- a sound block is the one of its type and score at its sector
pub with_finds : (log : Bytes) (n : ℕ) (r : Row) → sound log n ≡ some r → sound_with log n r.kind r.score ≡ some r
unfolding sound_with
with_finds log n r e = rw (e, eq-eqb r.kind r.kind refl, same_refl r.score)

-- the same block as by the tests on a type and score that are given
pub with_as : (log : Bytes) (n t : ℕ) (s : Bytes) → sound_as log n t s ≡ sound_with log n t s
unfolding sound_with
with_as log n t s = go (sound_as log n t s) (sound log n) refl refl
  where
    go : (o x : Option Row) → sound_as log n t s ≡ o → sound log n ≡ x → sound_as log n t s ≡ sound_with log n t s
    go (some r) x p q =
        let h = as_reads log n t s r p in
        p ∙ sym (ap₂ (sound_with log n) (sym h.1) (sym h.2) ∙ with_finds log n r h.0)
    go none none p q = p ∙ sym (rw q)
    go none (some r) p q = p ∙ sym (rw (q, as_other log n t s r q p))

-- the entry's first 21 bytes are the score and type, and the block is sound at its sector
pub true-reads : (log index : Bytes) (t : ℕ) (s : Bytes) (p : ℕ) (r : Row) → true_at log index t s p ≡ some r
    → (take 21 (place_at index p) ≡ named s t) × (sound log (sector_at index p) ≡ some r) × (r.kind ≡ t) × (r.score ≡ s)
unfolding true_at
true-reads log index t s p r e =
    let q = cond_or_none (same (take 21 (place_at index p)) (named s t)) (sound_with log (sector_at index p) t s) r e in
    let w = with_reads log (sector_at index p) t s r q.1 in
    (same_true (take 21 (place_at index p)) (named s t) q.0, w.0, w.1, w.2)

-- ---- what a row that can be written has for an entry

module _ (r : Row) (v : valid r ≡ true) where
  pub kind-not_0 : r.kind ≢ 0
  unfolding lawful
  kind-not_0 e = let f = (valid_facts r v).lawful-kind in absurd (false≢true (ap lawful (sym e) ∙ f))

  pub head_lt : get_or r.score 0 0 < 256
  head_lt = subst (λ (x : Bytes). get_or x 0 0 < 256) (sym (valid_facts r v).scored) (digest_bytes r.bytes 0)

  pub first_lt : r.first < 256 ^ 4
  first_lt = omega (arith, (valid_facts r v).can_be_named, parts_pos r v)

-- ---- a place with an entry, and a free one

pub kind-of-named : (s : Bytes) (t : ℕ) → length s ≡ 20 → get_or (named s t) 20 0 ≡ t
kind-of-named s t l = get_or_at s t [] 0 20 l

pub entry-true : (log index : Bytes) (t : ℕ) (s : Bytes) (p : ℕ) (r : Row) → place_at index p ≡ entry_bytes r.score r.kind r.first
    → sound log r.first ≡ some r → true_at log index t s p ≡ cond (eqb r.kind t && same r.score s) (some r) none
unfolding true_at sector_at sound_with
entry-true log index t s p r e q = rw (a, b, q) (go (eqb r.kind t && same r.score s) refl)
  where
    v : valid r ≡ true
    v = (sound-reads log r.first r q).0

    a : take 21 (place_at index p) ≡ named r.score r.kind
    a = ap (take 21) e ∙ take_at (named r.score r.kind) (be_bytes 4 r.first) 21 (length-named r.score r.kind (score-length r v))

    b : be_number (drop 21 (place_at index p)) ≡ r.first
    b =
        ap (λ (x : Bytes). be_number (drop 21 x)) e
        ∙ ap be_number (drop_at (named r.score r.kind) (be_bytes 4 r.first) 21 (length-named r.score r.kind (score-length r v)))
        ∙ value-digits 256 4 r.first (first_lt r v)

    go : (y : Bool) → (eqb r.kind t && same r.score s) ≡ y
        → cond (same (named r.score r.kind) (named s t)) (cond y (some r) none) none ≡ cond y (some r) none
    go false z = cond-of-none (same (named r.score r.kind) (named s t))
    go true z =
        let w = and-true (eqb r.kind t) (same r.score s) z in
        let n : named r.score r.kind ≡ named s t = ap₂ named (same_true r.score s w.1) (eqb-true r.kind t w.0) in
        rw (ap (λ (x : Bytes). same x (named s t)) n ∙ same_refl (named s t))

pub free-true : (log index : Bytes) (t : ℕ) (s : Bytes) (p : ℕ) → free index p ≡ true → true_at log index t s p ≡ none
free-true log index t s p f = go (true_at log index t s p) refl
  where
    go : (o : Option Row) → true_at log index t s p ≡ o → true_at log index t s p ≡ none
    go none q = q
    go (some r) q =
        let h = true-reads log index t s p r q in
        let v = (sound-reads log (sector_at index p) r h.1).0 in
        let l : length s ≡ 20 = ap length (sym h.3) ∙ score-length r v in
        let z : t ≡ 0 = sym (kind-of-named s t l) ∙ ap (λ (x : Bytes). get_or x 20 0) (sym h.0) ∙ get_or-take 21 (place_at index p) 20 0 (omega arith) ∙ zeros_get_d (place_at index p) 20 f in
        absurd (kind-not_0 r v (h.2 ∙ z))
