-- Store and sync by what is known, case by case.
use mathlib.Core.Path.{◌≡◌, sym, ap, ap₂, ◌∙◌}
use mathlib.Core.Option.{some}
use Prim.Native.Nat.{ℕ}
use Rattle.buffer.specs.Bytes.{Bytes}
use Rattle.sha1_digest.specs.Sha1.{sha1_of}
use Rattle.block.specs.declared.Block.{Block}
use Rattle.block.specs.Log.{bytes_of}
use Rattle.reader.specs.Reader.{placed}
use Rattle.lookup.proofs.Held.{found-bytes}
use Rattle.lookup.proofs.Outcomes.{placed-none}
use Rattle.sector_log.specs.Parts.{Lent, beside}
use Rattle.sector_log.specs.Store.{after_store, receipt, compared}
use Rattle.sector_log.specs.declared.Stored.{Stored}
use Rattle.known.specs.declared.Known.{Known}
use Rattle.known.specs.Known.{known_log, owner, appended_known, store_known}
use Rattle.known_store.proofs.Found.{owner-found}
use Rattle.std.specs.Prelude.{Some, None, Option as Optional, Result}
use Rattle.refusal.specs.declared.Refusal.{Refusal}

-- ---- a store, by what was found

module _ (k : Known) (log w index date : Bytes) (t : ℕ) (d s : Bytes) (p : Optional Block) (r : Result Stored Refusal) (g : s ≡ sha1_of d) (e : p ≡ placed (owner k log w index t s)) where
  abbrev L : Lent
  L = beside log w

  pub store_found : (b : Block) → p ≡ Some b → after_store (receipt (sha1_of d) r) L ≡ compared L (bytes_of (known_log k log w) b) b.first.0 d
      → after_store (receipt s r) L ≡ store_known k log w index date t d
  unfolding store_known
  store_found b z c =
      let F = owner-found k log w index t s e z in
      let h : owner k log w index t (sha1_of d) ≡ some F.row = ap (owner k log w index t) (sym g) ∙ F.is_held in
      rw (g, h) (c ∙ ap₂ (λ (y : Bytes) (v : Block). compared L y v.first.0 d) (sym (found-bytes F)) F.place-of-row)

  pub store-new : (L' : Lent) → p ≡ None → after_store (receipt (sha1_of d) r) L' ≡ appended_known k log w date t d → after_store (receipt s r) L' ≡ store_known k log w index date t d
  unfolding store_known
  store-new L' z c = rw (g, ap (owner k log w index t) (sym g) ∙ placed-none (owner k log w index t s) p e z) c
