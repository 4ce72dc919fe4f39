-- What holds of every run of zeros, of every leaf's run and of the three refusals holds of the run under any score.
use Prim.Native.Nat.{ℕ, zero, suc, ◌%◌}
use lib.Dec.{leb, eqb}
use lib.ListN.{length}
use Rattle.bedrock.proofs.Choices.{cond_ind, on_ind}
use Rattle.buffer.specs.Bytes.{Bytes, same}
use Rattle.kind.specs.Kind.{zero_score}
use Rattle.refusal.specs.declared.Refusal.TheVariants.{OverCount, Pointers}
use Rattle.block.specs.Block.{Row, place_of}
use Rattle.sector_log.specs.LookUp.{held, absence}
use Rattle.lookup.proofs.Held.{Stands, held-stands}
use Rattle.entry.specs.declared.Entry.{Entry}
use Rattle.leaf.specs.declared.Extent.{Extent}
use Rattle.leaf.specs.Leaf.{zero_run, leaf_run, fetched, under}
use Rattle.std.specs.Prelude.{Err, Result}
use Rattle.refusal.specs.declared.Refusal.{Refusal}

module _ (log : Bytes) (page : ℕ) (e : Entry) (offset : ℕ) (P : Result Extent Refusal → Type 0) (missing : P (Err (absence log))) (long : P (Err OverCount)) (uneven : P (Err Pointers))
    (zeros : P (zero_run page e offset))
    (leaf : (r : Row) → Stands log r → P (leaf_run page e offset (place_of r))) where
  fetched_ind : (t : ℕ) (s : Bytes) (count : ℕ) (f : Row → (Result Extent Refusal)) → ((r : Row) → Stands log r → P (f r)) → P (fetched log t s count f)
  fetched_ind t s count f g =
      on_ind P (held log t s) _ _ (λ _. missing) (λ r q. cond_ind P (leb (length r.bytes) count) _ _ (λ _. g r (held-stands log t s r q)) (λ _. long))

  pub under_ind : (level : ℕ) (s : Bytes) → P (under log page e offset level s)
  unfolding under
  under_ind zero s = cond_ind P (same s zero_score) _ _ (λ _. zeros) (λ _. fetched_ind _ s e.dsize _ leaf)
  under_ind (suc d) s =
      cond_ind P (same s zero_score) _ _ (λ _. zeros)
      (λ _. fetched_ind _ s e.psize _ (λ r _. cond_ind P (eqb (length r.bytes % 20) 0) _ _ (λ _. under_ind d _) (λ _. uneven)))
