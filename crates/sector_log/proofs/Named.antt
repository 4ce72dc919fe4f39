-- What look-up finds has the type and the score that were asked for, and bytes of that score.
use mathlib.Core.Path.{◌≡◌, refl, sym, ap, subst, ◌∙◌}
use mathlib.Core.Bool.{Bool, true, false, ◌&&◌}
use mathlib.Core.Option.{some}
use Prim.Native.Nat.{ℕ, ◌≤◌}
use native.Mathlib.Omega.{arith}
use lib.ListN.{length}
use Rattle.bedrock.proofs.Choices.{and-true}
use Rattle.buffer.specs.Bytes.{Bytes, same}
use Rattle.buffer.proofs.Bytes.{same_true}
use Rattle.digits.specs.Number.{small}
use Rattle.sha1_digest.specs.Sha1.{sha1_of}
use Rattle.kind.specs.Kind.{lawful, longest, zero_score}
use Rattle.block.specs.Block.{Row}
use Rattle.block.specs.Log.{sound}
use Rattle.block.proofs.Facts.{valid_facts}
use Rattle.block.proofs.Sound.{sound-reads}
use Rattle.sector_log.specs.LookUp.{held, empty_row}
use Rattle.sector_log.proofs.First.{first-sound}

pub record Named (t : ℕ) (s : Bytes) (r : Row) : Type 0 where
  pub kind-is : r.kind ≡ t
  pub score-is : r.score ≡ s
  pub lawful-kind : lawful t ≡ true
  pub not_many : length r.bytes ≤ longest
  pub of-bytes : small r.bytes ≡ true
  pub scored : sha1_of r.bytes ≡ s

empty-named : (t : ℕ) (s : Bytes) → lawful t ≡ true → s ≡ zero_score → Named t s (empty_row t)
unfolding zero_score
empty-named t s l e = record { kind-is = refl; score-is = sym e; lawful-kind = l; not_many = omega arith; of-bytes = refl; scored = sym e }

pub sound-named : (log : Bytes) (t : ℕ) (s : Bytes) (r : Row) → sound log r.first ≡ some r → r.kind ≡ t → r.score ≡ s → Named t s r
sound-named log t s r e k q =
    let f = valid_facts r (sound-reads log r.first r e).0 in record {
      kind-is = k;
      score-is = q;
      lawful-kind = ap lawful (sym k) ∙ f.lawful-kind;
      not_many = f.not_many;
      of-bytes = f.of-bytes;
      scored = sym f.scored ∙ q;
    }

pub held-named : (log : Bytes) (t : ℕ) (s : Bytes) (r : Row) → held log t s ≡ some r → Named t s r
unfolding held
held-named log t s r e = go (lawful t && same s zero_score) refl
  where
    go : (b : Bool) → (lawful t && same s zero_score) ≡ b → Named t s r
    go true q =
        let y : some (empty_row t) ≡ some r = rw q at e in
        let z : empty_row t ≡ r = cc in
        let p = and-true (lawful t) (same s zero_score) q in
        subst (λ (x : Row). Named t s x) z (empty-named t s p.0 (same_true s zero_score p.1))
    go false q = let f = first-sound log t s r (rw q at e) in sound-named log t s r f.0 f.1 f.2
