-- The visits that a copy made: of those that it went through, all; of a refused one and those behind it, none. A walk that spent no visit made none.
use mathlib.Core.Path.{◌≡◌, refl, sym, ap, subst, ◌∙◌}
use mathlib.Core.Bool.{Bool, cond}
use mathlib.Core.List.{List, [], ◌∷◌, ◌++◌, append-nil}
use mathlib.Core.Option.{Option, none as nothing, some}
use Prim.Native.Nat.{ℕ, ◌+◌}
use native.Mathlib.Omega.{arith}
use lib.Dec.{eqb, ltb}
use lib.ListN.{length}
use Rattle.bedrock.specs.Choice.{on}
use Rattle.bedrock.proofs.Choices.{cond_ind}
use Rattle.buffer.specs.Bytes.{Bytes}
use Rattle.refusal.specs.declared.Refusal.TheVariants.{OverCount}
use Rattle.block.specs.Block.{Row}
use Rattle.sector_log.specs.LookUp.{held, absence}
use Rattle.visit.specs.Visit.{walked}
use Rattle.walk.specs.Walk.{most_allowance}
use Rattle.walk_laws.proofs.Found.{not_done}
use Rattle.copying.specs.Copy.{store_end}
use Rattle.copying.specs.PostOrder.{Role, type_of, Visit, PostOrder, post_order, go_on, behind, visit_last, root_last, post_order_in, stored}
use Rattle.copying.specs.Promises.{wrote, wrote_all, Writes, none, next, taken_by, taken, Refuses, OfSecond}
use Rattle.copying.proofs.Writes.{refuses_second, not-of-second, refused-stored}
use Rattle.std.specs.Prelude.{Ok, Err, Result, ⊤}
use Rattle.refusal.specs.declared.Refusal.{Refusal}

-- ---- a list

taken-done : (e : Result ⊤ Refusal) (v : Visit) (vs : List Visit) → e ≡ Ok tt → taken_by e v vs ≡ v ∷ vs
taken-done (Ok tt) v vs q = refl
taken-done (Err why) v vs q = not_done why q

taken_refused : (e : Result ⊤ Refusal) (v : Visit) (vs : List Visit) → OfSecond e → taken_by e v vs ≡ []
taken_refused (Ok tt) v vs o = not-of-second o refl
taken_refused (Err why) v vs o = refl

taken-first : (first date : Bytes) {vs : List Visit} {s : Bytes} (after : List Visit) → Writes first date vs s → taken date (vs ++ after) s ≡ vs ++ taken date after (wrote_all date vs s)
unfolding taken wrote_all
taken-first first date after none = refl
taken-first first date {s = s} after (next {v = v} {vs = vs} h l q w) =
    taken-done (store_end (stored date v s).receipt.stored) v (taken date (vs ++ after) (wrote date v s)) q ∙ ap (λ (x : List Visit). v ∷ x) (taken-first first date after w)

pub all-taken : (first date : Bytes) (vs : List Visit) (s : Bytes) → Writes first date vs s → taken date vs s ≡ vs
unfolding taken
all-taken first date vs s w = ap (λ (x : List Visit). taken date x s) (sym (append-nil vs)) ∙ taken-first first date [] w ∙ append-nil vs

pub taken-before : (first date : Bytes) (before after : List Visit) (v : Visit) (s : Bytes) (e : Result ⊤ Refusal) → Writes first date before s
    → Refuses (wrote_all date before s) date (type_of v.role) v.bytes e → taken date (before ++ (v ∷ after)) s ≡ before
unfolding taken
taken-before first date before after v s e w R =
    let s' = wrote_all date before s in
    let r = refused-stored s' date (type_of v.role) v.bytes e R in
    let z = taken_refused (store_end (stored date v s').receipt.stored) v (taken date after (wrote date v s')) (subst OfSecond (sym r.0) (refuses_second R)) in
    taken-first first date (v ∷ after) w ∙ ap (λ (x : List Visit). before ++ x) z ∙ append-nil before

-- ---- no visit spent

abbrev Unspent : PostOrder → Type 0
Unspent p = p.answer.visits ≡ 0 → p.visits ≡ []

behind_unspent : (role : Role) (score b : Bytes) (p : PostOrder) → Unspent (behind role score b p)
behind_unspent role score b p = go p.answer.end _
  where
    go : (e : Result ⊤ Refusal) (vs : List Visit)
        → Unspent (go_on e vs (1 + p.answer.visits) (λ n. post_order (record { role = role; score = score; bytes = b; spent = n } ∷ []) (walked n (Ok tt))))
    go (Ok tt) vs z = absurd (omega (arith, z))
    go (Err why) vs z = absurd (omega (arith, z))

visit_unspent : (log : Bytes) (nest left : ℕ) (role : Role) (count : ℕ) (score : Bytes) (B : Bytes → PostOrder) → Unspent (visit_last log nest left role count score B)
unfolding visit_last
visit_unspent log nest left role count score B =
    cond_ind Unspent (ltb 16 nest) _ _ (λ _ z. refl) (λ _. cond_ind Unspent (eqb left 0) _ _ (λ _ z. refl) (λ _. found (held log (type_of role) score)))
  where
    found : (o : Option Row)
        → Unspent (on o (post_order [] (walked 1 (Err (absence log))))
        (λ r. cond (ltb count (length r.bytes)) (post_order [] (walked 1 (Err OverCount))) (behind role score r.bytes (B r.bytes))))
    found nothing = λ z. refl
    found (some r) = cond_ind Unspent (ltb count (length r.bytes)) _ _ (λ _ z. refl) (λ _. behind_unspent role score r.bytes (B r.bytes))

pub unspent : (lent : Bool) (log score : Bytes) (n : ℕ) → Unspent (post_order_in lent log score n)
unfolding post_order_in root_last
unspent lent log score n = cond_ind Unspent lent _ _ (λ _. cond_ind Unspent (ltb most_allowance n) _ _ (λ _ z. refl) (λ _. visit_unspent log 0 n _ 300 score _)) (λ _ z. refl)
