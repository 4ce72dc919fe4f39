-- Case laws of the look-up's functions.
use mathlib.Core.Path.{◌≡◌, refl, sym, ap, ◌∙◌}
use mathlib.Core.Bool.{Bool, true, false}
use mathlib.Core.Option.{Option, none, some}
use Prim.Native.Nat.{ℕ, ◌≤◌, ◌<◌}
use native.Mathlib.Omega.{arith}
use borrow.Author.Tests.{lt-ltb, le-ltb}
use lib.ListN.{length}
use Rattle.bedrock.specs.Choice.{on}
use Rattle.buffer.specs.Bytes.{Bytes}
use Rattle.block.specs.Block.{Row, place_of}
use Rattle.block.specs.declared.Block.{Block}
use Rattle.block.specs.Log.{sectors, at, Alike, joined, used}
use Rattle.block.proofs.Used.{used_le_sectors}
use Rattle.block.proofs.Joined.{at-alone}
use Rattle.reader.specs.Reader.{placed}
use Rattle.kind.specs.Kind.{lawful}
use Rattle.refusal.specs.declared.Refusal.{Refusal}
use Rattle.refusal.specs.declared.Refusal.TheVariants.{LogLength, BlockType, OverCount}
use Rattle.sector_log.specs.LookUp.{lent_allowed, held, absence, look_up, counted, look_up_asked}
use Rattle.sector_log.specs.Parts.{tape}
use Rattle.sector_log.proofs.Alike.{look_up_alike}
use Rattle.sector_log.proofs.Parts.{tape-alone}
pub use Rattle.reader.proofs.Placed.{placed-some, placed-none, block-bounds}
pub use Rattle.log_length.proofs.Lengths.{lent-sectors}
pub use Rattle.score_scan.proofs.Scan.{not-lawful, not-zero}
use Rattle.std.specs.Prelude.{Some, None, Ok, Err, Result, Option as Optional}

-- what look-up answers
pub look_cases : (o : Option Row) (w : Refusal) (p : Optional Block) → p ≡ placed o → (p ≡ None → Err w ≡ on o (Err w) (λ (r : Row). Ok (place_of r)))
look_cases none w p e z = refl
look_cases (some r) w p e z = let y : ◌≡◌ {A = ℕ} 0 1 = cc in absurd (omega arith)

pub look_none : (log : Bytes) (t : ℕ) (s : Bytes) (p : Optional Block) (w : Refusal) → p ≡ placed (held log t s) → p ≡ None → w ≡ absence log → Err w ≡ look_up log t s
unfolding look_up
look_none log t s p w e z a = ap Err a ∙ look_cases (held log t s) (absence log) p e z

pub look_found : (o : Option Row) (w : Refusal) (p : Optional Block) (b : Block) → p ≡ placed o → p ≡ Some b → Ok b ≡ on o (Err w) (λ (r : Row). Ok (place_of r))
look_found none w p b e z = let y : ◌≡◌ {A = ℕ} 0 1 = cc in absurd (omega arith)
look_found (some r) w p b e z =
    let q : Some b ≡ Some (place_of r) = sym z ∙ e in
    cc

pub look_some : (log : Bytes) (t : ℕ) (s : Bytes) (p : Optional Block) (b : Block) → p ≡ placed (held log t s) → p ≡ Some b → Ok b ≡ look_up log t s
unfolding look_up
look_some log t s p b e z = look_found (held log t s) (absence log) p b e z

-- the count
pub count-refused : (count : ℕ) (l w : Result Block Refusal) (y : Refusal) → l ≡ w → l ≡ Err y → l ≡ counted count w
count-refused count l w y e z = z ∙ ap (counted count) (sym z ∙ e)

pub count-over : (count : ℕ) (l w : Result Block Refusal) (b : Block) → l ≡ w → l ≡ Ok b → count < b.size → Err OverCount ≡ counted count w
count-over count l w b e z h = rw (sym e ∙ z, lt-ltb count b.size h)

pub count-found : (count : ℕ) (l w : Result Block Refusal) (b : Block) → l ≡ w → l ≡ Ok b → b.size ≤ count → Ok b ≡ counted count w
count-found count l w b e z h = rw (sym e ∙ z, le-ltb count b.size h)

-- the public look-up
module _ (log waiting : Bytes) (t : ℕ) (s : Bytes) (a : Bool) (p : a ≡ lent_allowed (length log) (length waiting)) where
  pub ask-log : a ≡ false → Err LogLength ≡ look_up_asked log waiting t s
  unfolding look_up_asked
  ask-log q = rw (sym p ∙ q)

  pub ask-kind : (b : Bool) → a ≡ true → b ≡ lawful t → b ≡ false → Err BlockType ≡ look_up_asked log waiting t s
  unfolding look_up_asked
  ask-kind b q u v = rw (sym p ∙ q, sym u ∙ v)

  pub ask_look : (b : Bool) (u : ℕ) (r : Result Block Refusal) → a ≡ true → b ≡ lawful t → b ≡ true → Alike (joined u log waiting) (tape log waiting)
      → r ≡ look_up (joined u log waiting) t s → r ≡ look_up_asked log waiting t s
  unfolding look_up_asked
  ask_look b u r q v w f e = rw (sym p ∙ q, sym v ∙ w) (e ∙ look_up_alike (joined u log waiting) (tape log waiting) f t s)

-- where the waiting sectors are read on from
pub border_used : (u : ℕ) (log waiting : Bytes) → u ≡ used log → (u ≤ sectors (length log)) × Alike (joined u log waiting) (tape log waiting)
border_used u log waiting e = (omega (arith, used_le_sectors log), λ n. ap (λ (x : ℕ). at (joined x log waiting) n) e)

pub border_whole : (log waiting : Bytes) (w : ℕ) → w ≡ used waiting → w ≤ 0 → Alike (joined (sectors (length log)) log waiting) (tape log waiting)
border_whole log waiting w e h n =
    let z : used waiting ≡ 0 = omega arith in
    at-alone (sectors (length log)) log waiting (omega arith) (used_le_sectors log) z n ∙ sym (tape-alone log waiting z n)
