-- What look-up by index gives beside the scan, for any index.
use mathlib.Core.Path.{◌≡◌, refl, sym, ap, ◌∙◌}
use mathlib.Core.Bool.{Bool, true, false, cond, ◌&&◌}
use mathlib.Core.Logic.{◌⊎◌, inl, inr}
use mathlib.Core.Option.{Option, none, some}
use Prim.Native.Nat.{ℕ}
use Rattle.bedrock.specs.Choice.{on}
use Rattle.bedrock.proofs.Choices.{and-true}
use Rattle.buffer.specs.Bytes.{Bytes, same}
use Rattle.buffer.proofs.Bytes.{same_true}
use Rattle.kind.specs.Kind.{lawful, zero_score}
use Rattle.block.specs.Block.{Row, place_of}
use Rattle.block.specs.Log.{sound}
use Rattle.sector_log.specs.LookUp.{blocks, first_of, empty_row, held, absence, look_up, look_number, look_sector}
use Rattle.sector_log.proofs.First.{first-sound}
use Rattle.hint.specs.Hint.{hint, held_by, look_up_by}
use Rattle.hint.specs.Promises.{bytes_of, HintIsScan, OneBlockIsTheScans, RefusesAlike, HintHolds, ExactIsScan}
use Rattle.hint.proofs.Leads.{hint-sound, hint_finds}
use Rattle.std.specs.Prelude.{Ok, Err, Result}
use Rattle.block.specs.declared.Block.{Block}
use Rattle.refusal.specs.declared.Refusal.{Refusal}

-- what is seen of a look-up by index is what is seen of the scan, if that is so of any hint
module _ {A : Type 0} (see : Option Row → A) (log index : Bytes) (t : ℕ) (s : Bytes) where
  seen : ((r x : Row) → hint log index t s ≡ some r → first_of t s (blocks log) ≡ some x → see (some r) ≡ see (some x))
      → see (held_by log index t s) ≡ see (held log t s)
  unfolding held_by held
  seen f = go (lawful t && same s zero_score) (hint log index t s) (first_of t s (blocks log)) refl refl
    where
      go : (b : Bool) (h o : Option Row) → hint log index t s ≡ h → first_of t s (blocks log) ≡ o
          → see (cond b (some (empty_row t)) (on (hint log index t s) (first_of t s (blocks log)) some))
          ≡ see (cond b (some (empty_row t)) (first_of t s (blocks log)))
      go true h o p q = refl
      go false none o p q = rw p
      go false (some r) (some x) p q = rw (p, q) (f r x p q)
      go false (some r) none p q = absurd (hint_finds log index t s r p q)

pub hint-is_scan : HintIsScan
hint-is_scan log index c t s = seen bytes_of log index t s
    (λ r x p q. let a = hint-sound log index t s r p in
    let b = first-sound log t s x q in
    ap (λ (y : Bytes). some y) (c r x a.0 b.0 (a.1 ∙ sym b.1) (a.2 ∙ sym b.2)))

-- sound at one sector is one block
same_row : (log : Bytes) (r x : Row) → sound log r.first ≡ some r → sound log x.first ≡ some x → r.first ≡ x.first → some r ≡ some x
same_row log r x p q e = sym p ∙ ap (sound log) e ∙ q

pub one-block-is_the_scans : OneBlockIsTheScans
one-block-is_the_scans log index t s one = seen (λ o. o) log index t s
    (λ r x p q. let a = hint-sound log index t s r p in
    let b = first-sound log t s x q in
    same_row log r x a.0 b.0 (one r x a.0 b.0 (a.1, a.2) (b.1, b.2)))

look : Bytes → Option Row → Result Block Refusal
look log o = on o (Err (absence log)) (λ (r : Row). Ok (place_of r))

pub refuses_alike : RefusesAlike
unfolding look_up_by look_up look
refuses_alike log index t s =
    (seen (λ o. look_number (look log o)) log index t s (λ r x p q. refl), seen (λ o. look_sector (look log o)) log index t s (λ r x p q. refl))

pub exact-is_scan : ExactIsScan
unfolding look_up_by look_up look
exact-is_scan log index e t s = seen (look log) log index t s
    (λ r x p q. let z : some r ≡ some x = sym p ∙ e t s ∙ q in ap (look log) z)

pub hint_holds : HintHolds
unfolding held_by
hint_holds log index t s r e = go (lawful t && same s zero_score) (hint log index t s) refl refl
  where
    Holds : Type 0
    Holds = ((s ≡ zero_score) × (r ≡ empty_row t)) ⊎ ((sound log r.first ≡ some r) × (r.kind ≡ t) × (r.score ≡ s))

    go : (b : Bool) (h : Option Row) → (lawful t && same s zero_score) ≡ b → hint log index t s ≡ h → Holds
    go true h p q =
        let y : some (empty_row t) ≡ some r = rw p at e in
        inl (same_true s zero_score (and-true (lawful t) (same s zero_score) p).1, cc)
    go false (some x) p q =
        let y : some x ≡ some r = rw (p, q) at e in
        inr (hint-sound log index t s r (q ∙ y))
    go false none p q = inr (first-sound log t s r (rw (p, q) at e))
