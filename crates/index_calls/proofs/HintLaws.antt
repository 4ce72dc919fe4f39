-- What look-up by index tells is small; a rebuilding's outcome.
use mathlib.Core.Path.{◌≡◌, sym, ap, ◌∙◌}
use Prim.Native.Nat.{ℕ, ◌≤◌}
use native.Mathlib.Omega.{arith}
use lib.ListN.{length}
use Rattle.bedrock.proofs.Choices.{cond_ind, on_ind}
use Rattle.buffer.specs.Bytes.{Bytes}
use Rattle.refusal.specs.declared.Refusal.{Refusal}
use Rattle.kind.specs.Kind.{lawful}
use Rattle.block.specs.declared.Block.{Block}
use Rattle.block.specs.Log.{sectors}
use Rattle.block.proofs.Used.{used_le_sectors}
use Rattle.sector_log.specs.LookUp.{lent_allowed}
use Rattle.sector_log.specs.Parts.{tape}
use Rattle.hint.specs.Hint.{held_by, look_up_by, look_up_by_asked}
use Rattle.index_lookup.proofs.Held.{held_by_stands}
use Rattle.results.specs.Sizes.{most_both}
use Rattle.results.proofs.Doubts.{absence-told, both_few}
use Rattle.hint.specs.Rebuilt.{AfterRebuild, after_rebuild, rebuilding_number}
use Rattle.index_calls.specs.Hints.{SmallLook, look_result, rebuilt_index, rebuild_result}
use Rattle.std.specs.Prelude.{Ok, Err, Result, ⊤}

look_small : (log index : Bytes) (t : ℕ) (s : Bytes) → sectors (length log) ≤ most_both → SmallLook (look_up_by log index t s)
unfolding look_up_by
look_small log index t s h = on_ind SmallLook (held_by log index t s) _ _ (λ _. absence-told most_both log h)
    (λ r e. let S = held_by_stands log index t s r e in (S.not_many, omega (arith, S.in_used, used_le_sectors log, h)))

pub asked-small : (log waiting index : Bytes) (t : ℕ) (s : Bytes) → SmallLook (look_up_by_asked log waiting index t s)
unfolding look_up_by_asked
asked-small log waiting index t s =
    cond_ind SmallLook (lent_allowed (length log) (length waiting)) _ _
    (λ p. cond_ind SmallLook (lawful t) _ _ (λ _. look_small (tape log waiting) index t s (both_few log waiting p)) (λ _. omega arith)) (λ _. omega arith)

-- of the code's answer
module _ (l : Result Block Refusal) where
  pub found_so : (b : Block) (k : ℕ) → l ≡ Ok b → k ≡ look_result (Ok b) → k ≡ look_result l
  found_so b k e f = f ∙ ap look_result (sym e)

  pub refused_so : (w : Refusal) (k : ℕ) → l ≡ Err w → k ≡ look_result (Err w) → k ≡ look_result l
  refused_so w k e f = f ∙ ap look_result (sym e)

  pub found_few : (b : Block) → SmallLook l → l ≡ Ok b → SmallLook (Ok b)
  found_few b S e = rw e at S

  pub refused_few : (w : Refusal) → SmallLook l → l ≡ Err w → SmallLook (Err w)
  refused_few w S e = rw e at S

pub rebuilt_so : (a : Result ⊤ Refusal) (index : Bytes) (o : AfterRebuild) (k : ℕ) → after_rebuild a index ≡ o → k ≡ rebuilding_number a → rebuilt_index k index ≡ rebuild_result o
rebuilt_so a index o k e f = ap (λ (n : ℕ). rebuilt_index n index) f ∙ ap rebuild_result e
