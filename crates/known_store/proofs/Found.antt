-- What the code's tests say of what is found by what is known, and where it stands.
use mathlib.Core.Path.{◌≡◌, sym, ap, ap₂, ◌∙◌}
use mathlib.Core.Bool.{Bool, true, false, cond, ◌&&◌}
use mathlib.Core.Option.{Option, none, some}
use Prim.Native.Nat.{ℕ, ◌+◌, ◌≤◌, ◌<◌}
use native.Mathlib.Omega.{arith}
use lib.Dec.{ltb}
use borrow.Author.Tests.{le-leb, lt-leb}
use Rattle.bedrock.specs.Choice.{on}
use Rattle.buffer.specs.Bytes.{Bytes, same}
use Rattle.sector_number.specs.declared.SectorNumber.{SectorNumber}
use Rattle.kind.specs.Kind.{lawful, zero_score}
use Rattle.block.specs.Block.{Row}
use Rattle.block.specs.declared.Block.{Block}
use Rattle.block.specs.Log.{sectors}
use Rattle.reader.specs.Reader.{placed}
use Rattle.sector_log.specs.LookUp.{blocks, first_of, empty_row, held}
use Rattle.lookup.proofs.Held.{Stands, held-stands, FoundAt, placed-found}
use Rattle.lookup.proofs.Outcomes.{placed-some, placed-none}
use Rattle.hint.specs.Hint.{hint, held_by}
use Rattle.index_lookup.proofs.Held.{held_by_stands}
use Rattle.known.specs.declared.Known.{Known}
use Rattle.known.specs.Known.{doubt_before, belongs, known_log, held_known, owner}
use Rattle.std.specs.Prelude.{Some, None, Option as Optional}

-- ---- what can belong

module _ (k : Known) (m w : ℕ) where
  pub too_long : sectors m < k.used.0 → false ≡ belongs k m w
  unfolding belongs
  too_long h = rw (lt-leb k.used.0 (sectors m) h)

  module _ (h : k.used.0 ≤ sectors m) where
    pub too_many : sectors w < k.waits.0 → false ≡ belongs k m w
    unfolding belongs
    too_many g = rw (le-leb k.used.0 (sectors m) h, lt-leb k.waits.0 (sectors w) g)

    module _ (g : k.waits.0 ≤ sectors w) where
      by_doubt : doubt_before k.doubt (k.used.0 + k.waits.0) ≡ belongs k m w
      unfolding belongs
      by_doubt = rw (le-leb k.used.0 (sectors m) h, le-leb k.waits.0 (sectors w) g)

      pub belongs_clear : k.doubt ≡ None → true ≡ belongs k m w
      belongs_clear e = sym (ap (λ (d : Optional SectorNumber). doubt_before d (k.used.0 + k.waits.0)) e) ∙ by_doubt

      pub belongs-doubtful : (n : SectorNumber) → k.doubt ≡ Some n → ltb n.0 (k.used.0 + k.waits.0) ≡ belongs k m w
      belongs-doubtful n e = sym (ap (λ (d : Optional SectorNumber). doubt_before d (k.used.0 + k.waits.0)) e) ∙ by_doubt

-- ---- what is found

module _ (k : Known) (log w index : Bytes) (t : ℕ) (s : Bytes) (x : Optional Block) where
  abbrev both : Bytes
  both = known_log k log w

  pub by_zero : (a b : Bool) → a ≡ lawful t → a ≡ true → b ≡ same s zero_score → b ≡ true → x ≡ placed (held both t s) → x ≡ placed (held_known k log w index t s)
  unfolding held held_known
  by_zero a b p q u v e = let z : (lawful t && same s zero_score) ≡ true = rw (sym p ∙ q, sym u ∙ v) in e ∙ rw z

  module _ (z : (lawful t && same s zero_score) ≡ false) where
    pub by_hint : (b : Block) → x ≡ placed (hint both index t s) → x ≡ Some b → x ≡ placed (held_known k log w index t s)
    unfolding held_known
    by_hint b e q =
        let r = placed-some (hint both index t s) x b e q in
        e ∙ ap placed (r.1 ∙ sym (ap₂ (λ (c : Bool) (o : Option Row). cond c (some (empty_row t)) (on o (cond k.exact none (first_of t s (blocks both))) some)) z r.1))

    module _ (y : Optional Block) (e : y ≡ placed (hint both index t s)) (q : y ≡ None) where
      pub by_nothing : k.exact ≡ true → None ≡ placed (held_known k log w index t s)
      unfolding held_known
      by_nothing h = rw (z, placed-none (hint both index t s) y e q, h)

      pub by_scan : k.exact ≡ false → x ≡ placed (held both t s) → x ≡ placed (held_known k log w index t s)
      unfolding held held_known
      by_scan h f = f ∙ rw (z, placed-none (hint both index t s) y e q, h)

  pub owner-known : k.exact ≡ true → x ≡ placed (held_known k log w index t s) → x ≡ placed (owner k log w index t s)
  unfolding owner
  owner-known h e = e ∙ rw h

  pub owner_scan : k.exact ≡ false → x ≡ placed (held both t s) → x ≡ placed (owner k log w index t s)
  unfolding owner
  owner_scan h e = e ∙ rw h

-- ---- where it stands

module _ (k : Known) (log w index : Bytes) (t : ℕ) (s : Bytes) where
  abbrev one : Bytes
  one = known_log k log w

  -- it is what look-up by index finds
  known_by : (r : Row) → held_known k log w index t s ≡ some r → held_by one index t s ≡ some r
  unfolding held_known held_by
  known_by r e = go (lawful t && same s zero_score) (hint one index t s) k.exact e
    where
      go : (b : Bool) (o : Option Row) (x : Bool) → cond b (some (empty_row t)) (on o (cond x none (first_of t s (blocks one))) some) ≡ some r
          → cond b (some (empty_row t)) (on o (first_of t s (blocks one)) some) ≡ some r
      go true o x q = q
      go false (some h) x q = q
      go false none true q = let z : ◌≡◌ {A = ℕ} 0 1 = cc in absurd (omega arith)
      go false none false q = q

  known-stands : (r : Row) → held_known k log w index t s ≡ some r → Stands one r
  known-stands r e = held_by_stands one index t s r (known_by r e)

  owner-stands : (r : Row) → owner k log w index t s ≡ some r → Stands one r
  unfolding owner
  owner-stands r e = go k.exact e
    where
      go : (b : Bool) → cond b (held_known k log w index t s) (held one t s) ≡ some r → Stands one r
      go true q = known-stands r q
      go false q = held-stands one t s r q

  pub known-found : {p : Optional Block} {b : Block} → p ≡ placed (held_known k log w index t s) → p ≡ Some b → FoundAt one (held_known k log w index t s) b
  known-found e z = placed-found known-stands e z

  pub owner-found : {p : Optional Block} {b : Block} → p ≡ placed (owner k log w index t s) → p ≡ Some b → FoundAt one (owner k log w index t s) b
  owner-found e z = placed-found owner-stands e z
