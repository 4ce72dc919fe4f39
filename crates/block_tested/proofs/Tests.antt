-- The tests of a block's sectors: one that fails fails all, and the label of the first part is one of them.
use mathlib.Core.Path.{◌≡◌, sym, ap, ◌∙◌}
use mathlib.Core.Bool.{Bool, true, false, ◌&&◌}
use mathlib.Core.List.{List, [], ◌∷◌, ◌++◌}
use Prim.Native.Nat.{ℕ, zero, suc, ◌-◌, ◌<◌}
use native.Mathlib.Omega.{arith}
use lib.ListN.{get_or}
use Rattle.bedrock.proofs.Choices.{and-false}
use Rattle.buffer.specs.Bytes.{Bytes}
use Rattle.sector.specs.Sector.{payload_of, date_field}
use Rattle.block.specs.declared.Block.{Block}
use Rattle.block.specs.Block.{parts_in}
use Rattle.block.specs.Log.{at, labelled, all}
use Rattle.block.proofs.Facts.{some-parts}
use Rattle.block_tests.proofs.Turns.{label_test}
use Rattle.block_tested.specs.Tested.{sector_tests}
pub use Rattle.block_tests.proofs.Digits.{field_at}
pub use Rattle.block_bytes.proofs.Pieces.{length-bytes, block_at}

-- a failed test fails all, one of the first and one of the rest
pub all_fails : (ts : List Bool) (j : ℕ) → get_or ts j true ≡ false → all ts ≡ false
all_fails [] j e = e
all_fails (t ∷ ts) zero e = ap (λ (b : Bool). b && all ts) e
all_fails (t ∷ ts) (suc j) e = ap (λ (b : Bool). t && b) (all_fails ts j e) ∙ and-false t

pub rest_fails : (ts us : List Bool) → all us ≡ false → all (ts ++ us) ≡ false
rest_fails [] us e = e
rest_fails (t ∷ ts) us e = ap (λ (b : Bool). t && b) (rest_fails ts us e) ∙ and-false t

-- the first sector has not the first part's label, as the code tested it
pub other_first : (log : Bytes) (b : Block) (kind : ℕ) (score : Bytes) (of : ℕ) (r : Bool) → 0 < b.size → b.label < 499 → of ≡ parts_in b
    → label_test log (date_field (at log b.first.0)) of b.first.0 kind b.size score 0 ≡ r → r ≡ false → all (sector_tests log b kind score) ≡ false
unfolding labelled
other_first log b kind score of r h short o t q =
    let n = b.first.0 in
    let date = date_field (at log n) in
    let pos = some-parts (payload_of b.label) (omega arith) b.size h in
    let more : parts_in b ≡ suc (parts_in b - 1) = omega arith in
    let first : label_test log date (parts_in b) n kind b.size score 0 ≡ false = ap (λ (k : ℕ). label_test log date k n kind b.size score 0) (sym o) ∙ t ∙ q in
    all_fails (sector_tests log b kind score) 0
    (ap (λ (k : ℕ). labelled log date (parts_in b) n kind b.size score k 0) more
    ∙ ap (λ (x : Bool). x && labelled log date (parts_in b) n kind b.size score (parts_in b - 1) 1) first)

-- where the others pass, the last test decides
pub last_decides : {a b c d : Bool} (e : Bool) → a ≡ true → b ≡ true → c ≡ true → d ≡ true → all (a ∷ b ∷ c ∷ d ∷ e ∷ []) ≡ e
last_decides true p q r s = rw (p, q, r, s)
last_decides false p q r s = rw (p, q, r, s)
