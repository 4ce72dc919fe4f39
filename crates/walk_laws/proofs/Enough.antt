-- Fuel that is enough changes nothing: twice what is left of the allowance, and a little more.
use Prim.Native.Nat.{ℕ, zero, suc, ◌+◌, ◌-◌, ◌*◌, ◌/◌, ◌%◌, ◌<◌, ◌≤◌}
use mathlib.Core.Path.{◌≡◌, refl, ap}
use mathlib.Core.Bool.{Bool, true, false, cond}
use native.Mathlib.Omega.{arith}
use lib.Dec.{eqb, ltb}
use lib.ListN.{length}
use borrow.Author.Tests.{eqb-false}
use Rattle.bedrock.proofs.Choices.{on_same}
use Rattle.buffer.specs.Bytes.{Bytes}
use Rattle.sector_log.specs.LookUp.{held}
use Rattle.entry.specs.Entry.{entry_of, score_of}
use Rattle.visit.specs.declared.Walked.{Walked}
use Rattle.tree.specs.Tree.{piece, type_at, count_at}
use Rattle.visit.specs.Visit.{more, visiting}
use Rattle.descent.specs.Descent.{and_then, padded_to, in_order, nest_of, entries_of, judged, visit_directory, visit_entry}
use Rattle.walk_laws.specs.Enough.{EnoughForEntry, EnoughForDirectory}
use Rattle.std.specs.Prelude.{Ok, Err, Result, ⊤}
use Rattle.refusal.specs.declared.Refusal.{Refusal}

-- two choices by one test are equal where their cases are, each under its test
cond_same : (b : Bool) {x y x' y' : Walked} → (b ≡ true → x ≡ x') → (b ≡ false → y ≡ y') → cond b x y ≡ cond b x' y'
cond_same true f g = f refl
cond_same false f g = g refl

and-then-same : (e : Result ⊤ Refusal) (n : ℕ) (k k' : ℕ → Walked) → ((m : ℕ) → k m ≡ k' m) → and_then e n k ≡ and_then e n k'
and-then-same (Ok tt) n k k' h = h n
and-then-same (Err r) n k k' h = refl

-- two ways to go on that agree within the allowance give the same of any pieces
order_same : (go go' : Bytes → ℕ → Walked) (w : ℕ) (b : Bytes) (left : ℕ) → ((x : Bytes) (a : ℕ) → a ≤ left → go x a ≡ go' x a)
    → (k i n : ℕ) → in_order go w b left k i n ≡ in_order go' w b left k i n
unfolding in_order
order_same go go' w b left h zero i n = refl
order_same go go' w b left h (suc k) i n =
    rw (h (piece w i b) (left - n) (omega arith))
    (and-then-same (go' (piece w i b) (left - n)).end (n + (go' (piece w i b) (left - n)).visits) _ _ (λ m. order_same go go' w b left h k (suc i) m))

visit_same : (log : Bytes) (nest left kind count : ℕ) (score : Bytes) (f g : Bytes → Walked) → (0 < left → (b : Bytes) → f b ≡ g b)
    → visiting log nest left kind count score f ≡ visiting log nest left kind count score g
unfolding visiting
visit_same log nest left kind count score f g h =
    cond_same (ltb 16 nest) (λ e. refl) λ e.
    cond_same (eqb left 0) (λ e'. refl) λ e'.
    on_same (held log kind score) _ _ _ λ r.
    cond_same (ltb count (length r.bytes)) (λ e''. refl) λ e''. let z = eqb-false left 0 e' in ap more (h (omega arith) r.bytes)

judged-same : (x : Bytes) (v w : Walked) → v ≡ w → judged x v ≡ judged x w
judged-same x v w e = ap (judged x) e

mutual
  unfolding visit_entry visit_directory

  pub entry_enough : EnoughForEntry
  entry_enough zero g log e level nest score left hf hg = absurd (omega arith)
  entry_enough (suc f) zero log e level nest score left hf hg = absurd (omega arith)
  entry_enough (suc f) (suc g) log e level nest score left hf hg =
      visit_same log nest left (type_at e level) (count_at e level) score _ _
      (λ p b. cond_same (eqb level 0)
      (λ z. cond_same e.directory (λ d. directory_enough f g log nest b (left - 1) (omega arith) (omega arith)) (λ d. refl))
      (λ z. cond_same (eqb (length b % 20) 0)
      (λ d. order_same _ _ 20 b (left - 1) (λ x a h. entry_enough f g log e (level - 1) nest x a (omega arith) (omega arith)) (length b / 20) 0 0)
      (λ d. refl)))

  pub directory_enough : EnoughForDirectory
  directory_enough zero g log nest b left hf hg = absurd (omega arith)
  directory_enough (suc f) zero log nest b left hf hg = absurd (omega arith)
  directory_enough (suc f) (suc g) log nest b left hf hg =
      order_same _ _ 40 (padded_to (40 * entries_of (length b)) b) left
      (λ x a h. judged-same x _ _ (entry_enough f g log (entry_of x) (entry_of x).depth (nest_of (entry_of x) nest) (score_of x) a (omega arith) (omega arith)))
      (entries_of (length b)) 0 0
