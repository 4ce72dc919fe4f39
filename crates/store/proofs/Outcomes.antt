-- Case laws of the store's functions.
use mathlib.Core.Path.{◌≡◌, sym, ap, ap₂, ◌∙◌}
use mathlib.Core.Bool.{Bool, true, false}
use mathlib.Core.Option.{some}
use Prim.Native.Nat.{ℕ, ◌<◌}
use lib.ListN.{length}
use Rattle.buffer.specs.Bytes.{Bytes, same}
use Rattle.buffer.proofs.Bytes.{same_false}
use Rattle.sha1_digest.specs.Sha1.{sha1_of}
use Rattle.refusal.specs.declared.Refusal.TheVariants.{Clash}
use Rattle.block.specs.Block.{Inside}
use Rattle.block.specs.declared.Block.{Block}
use Rattle.block.specs.Log.{sectors, Alike, joined, bytes_of}
use Rattle.block.proofs.Alike.{bytes-alike}
use Rattle.reader.specs.Reader.{placed}
use Rattle.reader.proofs.Pieces.{length-bytes}
use Rattle.lookup.proofs.Held.{held-stands}
use Rattle.lookup.proofs.Outcomes.{placed-some, placed-none}
use Rattle.sector_log.specs.LookUp.{held}
use Rattle.sector_log.proofs.Alike.{held-alike}
use Rattle.sector_log.specs.Parts.{tape, Lent, beside}
use Rattle.sector_log.specs.Store.{after_store, receipt, appended, compared, store}
use Rattle.sector_log.specs.declared.Stored.{Stored}
use Rattle.sector_log.specs.declared.Stored.TheVariants.{Duplicate}
use Rattle.std.specs.Prelude.{Some, None, Option as Optional, Ok, Err, Result}
use Rattle.refusal.specs.declared.Refusal.{Refusal}

-- ---- a found block compared, in the log of both parts; L is what was lent

module _ (L : Lent) (log : Bytes) (b : Block) (d : Bytes) (short : b.label < 499) where
  pub other_length : (b.size ≡ length d → ⊥) → after_store (receipt (sha1_of d) (Err Clash)) L ≡ compared L (bytes_of log b) b.first.0 d
  other_length h = rw (same_false (bytes_of log b) d (λ e. h (sym (length-bytes log b short) ∙ ap length e)))

  module _ (t : Bool) (p : t ≡ same (bytes_of log b) d) where
    pub same_block : t ≡ true → after_store (receipt (sha1_of d) (Ok (Duplicate b.first))) L ≡ compared L (bytes_of log b) b.first.0 d
    same_block q = rw (sym p ∙ q)

    pub other_block : t ≡ false → after_store (receipt (sha1_of d) (Err Clash)) L ≡ compared L (bytes_of log b) b.first.0 d
    other_block q = rw (sym p ∙ q)

-- ---- the place that look-up gives

pub found_within : (log : Bytes) (t : ℕ) (s : Bytes) (p : Optional Block) (b : Block) (n : ℕ) → p ≡ placed (held log t s) → p ≡ Some b → sectors (length log) ≡ n → Inside n b
found_within log t s p b n e z h =
    let q = placed-some (held log t s) p b e z in
    rw (← h, q.2) (held-stands log t s q.0 q.1).within

-- ---- a store, by what look-up finds in the log of both parts; u is where the waiting sectors are read on from

module _ (log w : Bytes) (u t : ℕ) (date d s : Bytes) (p : Optional Block) (r : Result Stored Refusal) (f : Alike (joined u log w) (tape log w)) (g : s ≡ sha1_of d)
    (e : p ≡ placed (held (joined u log w) t s)) where
  abbrev L : Lent
  L = beside log w

  found : p ≡ placed (held (tape log w) t s)
  found = e ∙ ap placed (held-alike (joined u log w) (tape log w) f t s)

  pub store_found : (b : Block) → p ≡ Some b
      → after_store (receipt (sha1_of d) r) L ≡ compared L (bytes_of (joined u log w) b) b.first.0 d → after_store (receipt s r) L ≡ store L date t d
  unfolding store
  store_found b z c =
      let q = placed-some (held (tape log w) t s) p b found z in
      let h : held (tape log w) t (sha1_of d) ≡ some q.0 = ap (held (tape log w) t) (sym g) ∙ q.1 in
      let x : bytes_of (joined u log w) b ≡ q.0.bytes =
      bytes-alike (joined u log w) (tape log w) f b ∙ ap (bytes_of (tape log w)) q.2 ∙ sym (held-stands (tape log w) t s q.0 q.1).bytes-there in
      rw (g, h) (c ∙ ap₂ (λ (y : Bytes) (k : Block). compared L y k.first.0 d) x q.2)

  pub store-new : (L' : Lent) → p ≡ None → after_store (receipt (sha1_of d) r) L' ≡ appended L date t d → after_store (receipt s r) L' ≡ store L date t d
  unfolding store
  store-new L' z c = rw (g, ap (held (tape log w) t) (sym g) ∙ placed-none (held (tape log w) t s) p found z) c
