-- Blocks stored one after the other in a log for which nothing waits, and the visits of a copy.
use mathlib.Core.Path.{◌≡◌, refl, sym, ap, subst, ◌∙◌}
use mathlib.Core.List.{List, [], ◌∷◌, ◌++◌, map}
use mathlib.Core.Logic.{◌⊎◌, inl, inr}
use mathlib.Core.Option.{Option, none, some}
use Prim.Native.Nat.{ℕ, suc}
use lib.ListN.{length, replicate}
use Rattle.bedrock.specs.Choice.{on}
use Rattle.bedrock.proofs.Choices.{cond_ind}
use Rattle.buffer.specs.Bytes.{Bytes, same}
use Rattle.sha1_digest.specs.Sha1.{sha1_of}
use Rattle.block.specs.Block.{Row}
use Rattle.block.proofs.Written.{length-written}
use Rattle.sector_log.specs.LookUp.{held}
use Rattle.sector_log.specs.Parts.{Lent, alone, room_for, append_row}
use Rattle.sector_log.specs.Store.{AfterStore, store, appended, compared, parts_for}
use Rattle.sector_log.specs.declared.Stored.{Stored as StoredAs}
use Rattle.sector_log.specs.declared.Stored.TheVariants.{New, Duplicate}
use Rattle.visit.specs.declared.Walked.{Walked}
use Rattle.visit.specs.Visit as walks
use Rattle.ledger.specs.History.{answer}
use Rattle.writer.specs.WriteFile.{end_of, end_number, AfterAll, onward, store_all}
use Rattle.writer_laws.specs.Asking.{going, numbers}
use Rattle.copying.specs.Copy.{Copied, store_end, then_by}
use Rattle.copying.specs.PostOrder.{type_of, Visit, stored, store_visits}
use Rattle.copying.proofs.Stored.{Stored, new, there, refused}
use Rattle.copy_laws.specs.Requests.{typed}
use Rattle.std.specs.Prelude.{Ok, Err, Result}
use Rattle.refusal.specs.declared.Refusal.{Refusal}

-- ---- a store in a log alone leaves a log alone, as long as it was

abbrev Alone : AfterStore → Type 0
Alone a = a.lent ≡ alone a.lent.log

pub still-alone : (s date : Bytes) (t : ℕ) (b : Bytes) → Alone (store (alone s) date t b)
unfolding store append_row
still-alone s date t b = go (held s t (sha1_of b))
  where
    go : (o : Option Row) → Alone (on o (appended (alone s) date t b) (λ r. compared (alone s) r.bytes r.first b))
    go none = cond_ind Alone (room_for (alone s) (parts_for date b)) _ _ (λ _. refl) (λ _. refl)
    go (some r) = cond_ind Alone (same r.bytes b) _ _ (λ _. refl) (λ _. refl)

pub as_long : (s date : Bytes) (t : ℕ) (b : Bytes) (a : AfterStore) → Stored s date t b a → length a.lent.log ≡ length s
as_long s date t b a (new r v f room k sc eb d h e _) = ap length e ∙ length-written s r v room
as_long s date t b a (there x h eb e _) = ap length e
as_long s date t b a (refused R e) = ap length e

-- ---- the visits of a copy

-- a store goes on, or is refused, in the words of a copy as in those of a writing call
stores_alike : (d : Result StoredAs Refusal) (n : ℕ) (L : Lent) (rest : AfterAll) (k : Bytes → Copied) → L ≡ alone L.log → rest.lent ≡ alone (k L.log).second
    → (onward (end_of d) L rest).lent ≡ alone (then_by (store_end d) n L.log (λ m x. k x)).second
stores_alike (Ok (New at)) n L rest k e q = q
stores_alike (Ok (Duplicate at)) n L rest k e q = q
stores_alike (Err y) n L rest k e q = e

pub stores_are_visits : (date : Bytes) (vs : List Visit) (w : Walked) (s : Bytes) → (store_all (alone s) date (map typed vs)).lent ≡ alone (store_visits date vs w s).second
unfolding store_all store_visits
stores_are_visits date [] w s = refl
stores_are_visits date (v ∷ vs) w s =
    let a = stored date v s in
    let e = still-alone s date (type_of v.role) v.bytes in
    stores_alike a.receipt.stored v.spent a.lent (store_all a.lent date (map typed vs)) (λ x. store_visits date vs w x) e
    (ap (λ (L : Lent). (store_all L date (map typed vs)).lent) e ∙ stores_are_visits date vs w a.lent.log)

-- all numbers are 0 and the answer is w, or the last one is the answer's
unfoldable pub Numbered : List ℕ → ℕ → Walked → Walked → Type 0
Numbered ns n w c = ((c ≡ w) × (ns ≡ replicate n 0)) ⊎ ((k : ℕ) × (ns ≡ replicate k 0 ++ (walks.end_number c.end ∷ [])))

one_more : (ns : List ℕ) (n : ℕ) (w c : Walked) → Numbered ns n w c → Numbered (0 ∷ ns) (suc n) w c
unfolding Numbered
one_more ns n w c (inl p) = inl (p.0, ap (λ (x : List ℕ). 0 ∷ x) p.1)
one_more ns n w c (inr p) = inr (suc p.0, ap (λ (x : List ℕ). 0 ∷ x) p.1)

numbers-alike : (d : Result StoredAs Refusal) (n m : ℕ) (s : Bytes) (ns : List ℕ) (k : Bytes → Copied) (w : Walked) → Numbered ns m w (k s).answer
    → Numbered (end_number (end_of d) ∷ going (end_of d) ns) (suc m) w (then_by (store_end d) n s (λ j x. k x)).answer
unfolding Numbered
numbers-alike (Ok (New at)) n m s ns k w N = one_more ns m w (k s).answer N
numbers-alike (Ok (Duplicate at)) n m s ns k w N = one_more ns m w (k s).answer N
numbers-alike (Err y) n m s ns k w N = inr (0, refl)

pub numbered : (date : Bytes) (vs : List Visit) (w : Walked) (s : Bytes)
    → Numbered (numbers (alone s) date (map typed vs)) (length (map typed vs)) w (store_visits date vs w s).answer
unfolding numbers store_visits Numbered
numbered date [] w s = inl (refl, refl)
numbered date (v ∷ vs) w s =
    let a = stored date v s in
    let N = subst (λ (L : Lent). Numbered (numbers L date (map typed vs)) (length (map typed vs)) w (store_visits date vs w a.lent.log).answer)
    (sym (still-alone s date (type_of v.role) v.bytes)) (numbered date vs w a.lent.log) in
    numbers-alike a.receipt.stored v.spent (length (map typed vs)) a.lent.log (numbers a.lent date (map typed vs)) (λ x. store_visits date vs w x) w N
