-- One turn of the walk that counts.
use mathlib.Core.Path.{◌≡◌, refl, sym, ap, ◌∙◌}
use Prim.Native.Nat.{ℕ, ◌+◌, ◌≤◌, ◌<◌}
use native.Mathlib.Omega.{arith}
use lib.ListN.{length}
use Rattle.bedrock.specs.Places.{found_from}
use Rattle.buffer.specs.Bytes.{Bytes}
use Rattle.block.specs.Block.{parts, parts_in}
use Rattle.block.specs.declared.Block.{Block}
use Rattle.block.specs.Log.{used, sound}
use Rattle.block.proofs.Facts.{parts_pos}
use Rattle.block.proofs.Sound.{sound-reads}
use Rattle.block.proofs.Apart.{sound-used}
use Rattle.reader.specs.Reader.{placed}
use Rattle.sector_log.specs.LookUp.{blocks, outside, doubtful}
use Rattle.sector_log.proofs.Doubt.{walked-zero, walked_none, walked-some, doubt-none, doubt-some}
use Rattle.sector_log.specs.Promises.{PassedTo}
use Rattle.sector_log.proofs.Records.{records_none, records_some, records_used}
use Rattle.lookup.proofs.Outcomes.{placed-some, placed-none}
use Rattle.survey.specs.Survey.{survey_of}
use Rattle.std.specs.Prelude.{Some, None, Option as Optional}

-- the walk stands at n, with what it counted
pub record Counted (log : Bytes) (n records doubts : ℕ) : Type 0 where
  pub walked : PassedTo log n
  pub inside : n ≤ used log
  pub blocks-before : records ≡ length (found_from (sound log) n 0)
  pub doubts_before : doubts ≡ outside (blocks log) n
  pub few : records + doubts ≤ n

pub counted-zero : (log : Bytes) → Counted log 0 0 0
unfolding found_from outside
counted-zero log = record { walked = walked-zero log; inside = omega arith; blocks-before = refl; doubts_before = refl; few = omega arith }

pub counted_none : (log : Bytes) (n r d : ℕ) (p : Optional Block) → Counted log n r d → n < used log → p ≡ placed (sound log n) → p ≡ None → Counted log (n + 1) r (d + 1)
counted_none log n r d k p h e z =
    let o = placed-none (sound log n) k e z in
    record {
      walked = walked_none log n p.walked o;
      inside = omega arith;
      blocks-before = p.blocks-before ∙ sym (records_none log n o);
      doubts_before = omega (arith, p.doubts_before, doubt-none log n p.walked o);
      few = omega (arith, p.few);
    }

pub counted-some : (log : Bytes) (n r d : ℕ) (p : Optional Block) (b : Block) → Counted log n r d → p ≡ placed (sound log n) → p ≡ Some b
    → (more : ℕ) → more ≡ parts_in b → Counted log (n + more) (r + 1) d
counted-some log n r d k b p e z more h =
    let s = placed-some (sound log n) k b e z in
    let m : more ≡ parts s.0 = h ∙ ap parts_in s.2 in
    rw m
    (record {
      walked = walked-some log n s.0 p.walked s.1;
      inside = sound-used log n s.0 s.1;
      blocks-before = omega (arith, p.blocks-before, records_some log n s.0 s.1);
      doubts_before = p.doubts_before ∙ sym (doubt-some log n s.0 s.1);
      few = omega (arith, p.few, parts_pos s.0 (sound-reads log n s.0 s.1).0);
    })

-- a sound block takes a sector
pub parts-some : (log : Bytes) (n : ℕ) (p : Optional Block) (b : Block) → p ≡ placed (sound log n) → p ≡ Some b → 0 < parts_in b
parts-some log n p b e z =
    let s = placed-some (sound log n) p b e z in
    rw s.2 (parts_pos s.0 (sound-reads log n s.0 s.1).0)

pub counted-end : (log : Bytes) (n r d : ℕ) → Counted log n r d → used log ≤ n → record { records = r; doubtful = d } ≡ survey_of log
unfolding doubtful
counted-end log n r d p h =
    let z : n ≡ used log = omega (arith, p.inside) in
    let a : r ≡ length (blocks log) = p.blocks-before ∙ ap (λ (x : ℕ). length (found_from (sound log) x 0)) z ∙ records_used log in
    let b : d ≡ outside (blocks log) (used log) = p.doubts_before ∙ ap (outside (blocks log)) z in
    λ i. record { records = a i; doubtful = b i }
