-- The walk for doubt: one turn of it, and what its end says.
use mathlib.Core.Path.{◌≡◌, sym, ap, ◌∙◌}
use Prim.Native.Nat.{ℕ, ◌+◌, ◌≤◌, ◌<◌}
use native.Mathlib.Omega.{arith}
use Rattle.buffer.specs.Bytes.{Bytes}
use Rattle.block.specs.Block.{parts, parts_in}
use Rattle.block.specs.declared.Block.{Block}
use Rattle.block.specs.Log.{used, sound}
use Rattle.block.proofs.Facts.{parts_pos}
use Rattle.block.proofs.Sound.{sound-reads}
use Rattle.block.proofs.Apart.{sound-used}
use Rattle.reader.specs.Reader.{placed}
use Rattle.refusal.specs.declared.Refusal.TheVariants.{NotHeld, NotKnown}
use Rattle.sector_log.specs.LookUp.{blocks, outside, first_doubtful, absence}
use Rattle.sector_log.specs.Promises.{PassedTo}
use Rattle.sector_log.proofs.Doubt.{walked-some, doubtful-at, doubt-some}
use Rattle.sector_log.proofs.FirstDoubt.{first-at, first-end, absence-known, absence-held}
use Rattle.reader.proofs.Placed.{placed-some, placed-none}
use Rattle.std.specs.Prelude.{Some, None, Option as Optional}

-- one turn of the walk for doubt
abbrev pub Passed : Bytes → ℕ → Type 0
Passed log n = PassedTo log n × (outside (blocks log) n ≡ 0)

pub walk_stops : (log : Bytes) (n : ℕ) (p : Optional Block) → Passed log n → n < used log → p ≡ placed (sound log n) → p ≡ None → n ≡ first_doubtful log
walk_stops log n p w h e z = sym (first-at log n w.1 h (doubtful-at log n w.0 (placed-none (sound log n) p e z)))

-- past a sound block, m sectors
pub walk-on : (log : Bytes) (n m : ℕ) (p : Optional Block) (b : Block) → Passed log n → p ≡ placed (sound log n) → p ≡ Some b → m ≡ parts_in b
    → (n + m ≤ used log) × (0 < m) × Passed log (n + m)
walk-on log n m p b w e z f =
    let r = placed-some (sound log n) p b e z in
    let m : m ≡ parts r.0 = f ∙ ap parts_in r.2 in (
      rw m (sound-used log n r.0 r.1),
      rw m (parts_pos r.0 (sound-reads log n r.0 r.1).0),
      (rw m (walked-some log n r.0 w.0 r.1), rw m (doubt-some log n r.0 r.1 ∙ w.1)),
    )

pub walk_ends : (log : Bytes) (n : ℕ) → Passed log n → used log ≤ n → used log ≡ first_doubtful log
walk_ends log n p h = sym (first-end log n p.1 h)

-- why a block is missing, by the first doubtful sector n and the end m of the used part
module _ (log : Bytes) (n m : ℕ) (p : n ≡ first_doubtful log) (q : m ≡ used log) where
  pub absent-known : n < m → NotKnown (record { 0 = n }) ≡ absence log
  absent-known h = ap (λ (x : ℕ). NotKnown (record { 0 = x })) p ∙ sym (absence-known log (omega arith))

  pub absent-held : m ≤ n → NotHeld ≡ absence log
  absent-held h = sym (absence-held log (omega arith))
