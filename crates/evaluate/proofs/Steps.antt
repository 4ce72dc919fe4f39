-- What was read, with "or", "and", "not" or a bracket before it.
use mathlib.Core.Path.{◌≡◌, refl, sym, ap, ◌∙◌}
use mathlib.Core.Bool.{Bool, true, false, cond}
use mathlib.Core.List.{List}
use mathlib.Core.Option.{none, some}
use Prim.Native.Nat.{ℕ, zero, suc, ◌+◌, ◌-◌, ◌*◌, ◌≤◌, ◌<◌}
use native.Mathlib.Omega.{arith}
use lib.ListN.{length}
use Rattle.std.specs.Prelude.{Option, Some, None}
use Rattle.bedrock.specs.Choice.{on}
use Rattle.buffer.specs.Bytes.{Bytes}
use Rattle.kleene.specs.declared.Value.{Value}
use Rattle.query.specs.Reading.{close_word}
use Rattle.query.specs.Place.{words_from, next_is}
use Rattle.query.specs.Value.{Valued}
use Rattle.query.proofs.Front.{after_other, after_word}
use Rattle.query.proofs.Places.{another_next, next_known}
use Rattle.query.proofs.Fused.{join_step, not_step, close_step}
use Rattle.evaluate.specs.declared.Read.{Read}
use Rattle.evaluate.specs.Read.{behind, joined_by, negated_of, closed_of, Ahead, Reads}

-- ---- where it ends

pub ahead-done : (at : ℕ) {r : Option Read} {q : Read} → Ahead at r → r ≡ Some q → at < q.next
ahead-done at a d = rw d at a

ahead-joined : (op : Value → Value → Value) (v : Value) (m at : ℕ) → at ≤ m → (r : Option Read) → Ahead m r → Ahead at (joined_by op v r)
ahead-joined op v m at h (Some q) a = omega arith
ahead-joined op v m at h None a = tt

pub ahead-negated : (m at : ℕ) → at ≤ m → (r : Option Read) → Ahead m r → Ahead at (negated_of r)
ahead-negated m at h (Some q) a = omega arith
ahead-negated m at h None a = tt

pub ahead_closed : (s : Bytes) (m at : ℕ) → at ≤ m → (r : Option Read) → Ahead m r → Ahead at (closed_of s r)
ahead_closed s m at h (Some q) a = go (next_is close_word (words_from s q.next))
  where
    go : (b : Bool) → Ahead at (cond b (Some (record { value = q.value; next = q.next + 2 })) None)
    go true = omega arith
    go false = tt
ahead_closed s m at h None a = tt

-- ---- what was read behind a word, by the steps of the grammar

joined-behind : (s : Bytes) (op : Value → Value → Value) (v : Value) (r : Option Read)
    → on (behind s r) none (λ q. some (op v q.0, q.1)) ≡ behind s (joined_by op v r)
joined-behind s op v (Some q) = refl
joined-behind s op v None = refl

pub negated-behind : (s : Bytes) (r : Option Read) → not_step (behind s r) ≡ behind s (negated_of r)
negated-behind s (Some q) = refl
negated-behind s None = refl

pub closed_behind : (s : Bytes) (r : Option Read) → close_step (behind s r) ≡ behind s (closed_of s r)
closed_behind s (Some r) = go (next_is close_word (words_from s r.next)) refl
  where
    go : (b : Bool) → next_is close_word (words_from s r.next) ≡ b
        → close_step (some (r.value, words_from s r.next)) ≡ behind s (cond b (Some (record { value = r.value; next = r.next + 2 })) None)
    go true q =
        ap (λ (ws : List Bytes). close_step (some (r.value, ws))) (next_known s r.next close_word q).words
        ∙ after_word close_word (words_from s (r.next + (length close_word + 1))) _ _
    go false q = after_other close_word (words_from s r.next) _ _ (another_next close_word (words_from s r.next) q)
closed_behind s None = refl

-- ---- parts that are joined by a word: inner is read first, outer is it with all that the word joins to it

pub record Joining : Type 0 where
  pub word : Bytes
  pub op : Value → Value → Value
  pub place : ℕ
  pub inner : ℕ → List Bytes → Valued
  pub outer : ℕ → List Bytes → Valued
  pub step : (f : ℕ) (ws : List Bytes) → outer (suc f) ws ≡ join_step word op (inner f ws) (outer f)

module _ (J : Joining) (s : Bytes) (at : ℕ) {r : Option Read} (R : Reads s at J.place (λ f. J.inner f (words_from s at)) r) where
  -- one step
  outer_by : (o : Valued) (f : ℕ) → 3 * (length s + 1 - at) + J.place ≤ f → behind s r ≡ o → J.outer (suc f) (words_from s at) ≡ join_step J.word J.op o (J.outer f)
  outer_by o f h e = J.step f (words_from s at) ∙ ap (λ (x : Valued). join_step J.word J.op x (J.outer f)) (sym (R.exact f h) ∙ e)

  pub join_ill : r ≡ None → Reads s at (suc J.place) (λ f. J.outer f (words_from s at)) None
  join_ill d = record { ahead = tt; exact = go }
    where
      go : (f : ℕ) → 3 * (length s + 1 - at) + suc J.place ≤ f → none ≡ J.outer f (words_from s at)
      go zero h = absurd (omega arith)
      go (suc f) h = sym (outer_by none f (omega arith) (ap (behind s) d))

  module _ {p : Read} (d : r ≡ Some p) where
    pub join_alone : next_is J.word (words_from s p.next) ≡ false → Reads s at (suc J.place) (λ f. J.outer f (words_from s at)) (Some p)
    join_alone q = record { ahead = ahead-done at R.ahead d; exact = go }
      where
        go : (f : ℕ) → 3 * (length s + 1 - at) + suc J.place ≤ f → some (p.value, words_from s p.next) ≡ J.outer f (words_from s at)
        go zero h = absurd (omega arith)
        go (suc f) h =
            sym (outer_by (some (p.value, words_from s p.next)) f (omega arith) (ap (behind s) d) ∙ after_other J.word (words_from s p.next) _ _ (another_next J.word (words_from s p.next) q))

    pub join_more : next_is J.word (words_from s p.next) ≡ true → {m : ℕ} → m ≡ p.next + (length J.word + 1) → {r₂ x : Option Read}
        → Reads s m (suc J.place) (λ f. J.outer f (words_from s m)) r₂ → x ≡ joined_by J.op p.value r₂ → Reads s at (suc J.place) (λ f. J.outer f (words_from s at)) x
    join_more q {m} z {r₂} {x} R₂ e = rw e (record { ahead = ahead-joined J.op p.value m at (omega (arith, ahead-done at R.ahead d)) r₂ R₂.ahead; exact = go })
      where
        go : (f : ℕ) → 3 * (length s + 1 - at) + suc J.place ≤ f → behind s (joined_by J.op p.value r₂) ≡ J.outer f (words_from s at)
        go zero h = absurd (omega arith)
        go (suc f) h = sym (
            outer_by (some (p.value, words_from s p.next)) f (omega arith) (ap (behind s) d)
            ∙ ap (λ (ws : List Bytes). join_step J.word J.op (some (p.value, ws)) (J.outer f)) (next_known s p.next J.word q).words
            ∙ after_word J.word (words_from s (p.next + (length J.word + 1))) _ _
            ∙ ap (λ (i : ℕ). on (J.outer f (words_from s i)) none (λ y. some (J.op p.value y.0, y.1))) (sym z)
            ∙ ap (λ (o : Valued). on o none (λ y. some (J.op p.value y.0, y.1))) (sym (R₂.exact f (omega (arith, ahead-done at R.ahead d, (next_known s p.next J.word q).inside))))
            ∙ joined-behind s J.op p.value r₂)
