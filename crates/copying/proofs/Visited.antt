-- Lists of visits: held in a log, within a count, and each behind what it links to.
use mathlib.Core.Path.{◌≡◌, refl, sym, ap, ◌∙◌}
use mathlib.Core.List.{List, [], ◌∷◌, ◌++◌, map}
use Prim.Native.Nat.{ℕ, suc, ◌+◌, ◌≤◌}
use native.Mathlib.Omega.{arith}
use lib.ListN.{length, length-append}
use Rattle.buffer.specs.Bytes.{Bytes}
use mathlib.Core.Logic.{inl, inr}
use Rattle.visit.specs.declared.Walked.{Walked}
use Rattle.visit.specs.Visit.{walked, more}
use Rattle.descent.specs.Descent.{and_then}
use Rattle.walk_laws.proofs.Found.{not_done}
use Rattle.copying.specs.PostOrder.{Role, Visit, PostOrder, post_order, later, go_on, followed_by, behind}
use Rattle.copying.specs.Promises.{HeldIn, HoldsAll, Linked, OfSecond}
use Rattle.std.specs.Prelude.{Ok, Err, Result, ⊤}
use Rattle.refusal.specs.declared.Refusal.{Refusal}

-- ---- held in a log

module _ (L : Bytes) where
  pub holds_join : (xs ys : List Visit) → HoldsAll L xs → HoldsAll L ys → HoldsAll L (xs ++ ys)
  holds_join [] ys h k = k
  holds_join (x ∷ xs) ys h k = (h.0, holds_join xs ys h.1 k)

  pub holds_parts : (xs ys : List Visit) → HoldsAll L (xs ++ ys) → HoldsAll L xs × HoldsAll L ys
  holds_parts [] ys h = (tt, h)
  holds_parts (x ∷ xs) ys h = let p = holds_parts xs ys h.1 in ((h.0, p.0), p.1)

  pub holds_later : (n : ℕ) (xs : List Visit) → HoldsAll L xs → HoldsAll L (map (later n) xs)
  holds_later n [] h = tt
  holds_later n (x ∷ xs) h = (h.0, holds_later n xs h.1)

  pub holds_earlier : (n : ℕ) (xs : List Visit) → HoldsAll L (map (later n) xs) → HoldsAll L xs
  holds_earlier n [] h = tt
  holds_earlier n (x ∷ xs) h = (h.0, holds_earlier n xs h.1)

  pub holds_on : (e : Result ⊤ Refusal) (vs : List Visit) (m : ℕ) (k : ℕ → PostOrder) → HoldsAll L vs → HoldsAll L (k m).visits → HoldsAll L (go_on e vs m k).visits
  holds_on (Ok tt) vs m k f g = holds_join vs (k m).visits f g
  holds_on (Err why) vs m k f g = f

-- ---- within a count of visits

abbrev pub SpentWithin : ℕ → List Visit → Type 0
SpentWithin n [] = Unit {0}
SpentWithin n (v ∷ vs) = (v.spent ≤ n) × SpentWithin n vs

within_more : (n m : ℕ) → n ≤ m → (xs : List Visit) → SpentWithin n xs → SpentWithin m xs
within_more n m l [] h = tt
within_more n m l (x ∷ xs) h = (omega (arith, l, h.0), within_more n m l xs h.1)

within_join : (n : ℕ) (xs ys : List Visit) → SpentWithin n xs → SpentWithin n ys → SpentWithin n (xs ++ ys)
within_join n [] ys h k = k
within_join n (x ∷ xs) ys h k = (h.0, within_join n xs ys h.1 k)

pub within-later : (n m : ℕ) (xs : List Visit) → SpentWithin m xs → SpentWithin (n + m) (map (later n) xs)
within-later n m [] h = tt
within-later n m (x ∷ xs) h = (omega (arith, h.0), within-later n m xs h.1)

pub within_on : (e : Result ⊤ Refusal) (vs : List Visit) (m : ℕ) (k : ℕ → PostOrder) → SpentWithin m vs → m ≤ (k m).answer.visits → SpentWithin (k m).answer.visits (k m).visits
    → SpentWithin (go_on e vs m k).answer.visits (go_on e vs m k).visits
within_on (Ok tt) vs m k f l g = within_join (k m).answer.visits vs (k m).visits (within_more m (k m).answer.visits l vs f) g
within_on (Err why) vs m k f l g = f

-- ---- refusals of the first log

-- no 14 and no 15
abbrev pub OfFirst : Result ⊤ Refusal → Type 0
OfFirst e = OfSecond e → ⊥

pub done_first : OfFirst (Ok tt)
done_first (inl q) = not_done _ (sym q)
done_first (inr q) = not_done _ (sym q)

pub first_on : (e : Result ⊤ Refusal) (vs : List Visit) (m : ℕ) (k : ℕ → PostOrder) → OfFirst e → OfFirst (k m).answer.end → OfFirst (go_on e vs m k).answer.end
first_on (Ok tt) vs m k f g = g
first_on (Err why) vs m k f g = f

-- ---- one visit each

length-later : (n : ℕ) (xs : List Visit) → length (map (later n) xs) ≡ length xs
length-later n [] = refl
length-later n (x ∷ xs) = ap suc (length-later n xs)

-- a list that is done, behind n visits: as many blocks as were visited
abbrev pub Counted : ℕ → PostOrder → Type 0
Counted n p = p.answer.end ≡ Ok tt → length p.visits + n ≡ p.answer.visits

pub counted_followed : (p : PostOrder) (n : ℕ) (k : ℕ → PostOrder) → Counted 0 p → ((m : ℕ) → Counted m (k m)) → Counted n (followed_by p n k)
counted_followed p n k f g = go p.answer.end refl
  where
    go : (e : Result ⊤ Refusal) → p.answer.end ≡ e → Counted n (go_on e (map (later n) p.visits) (n + p.answer.visits) k)
    go (Ok tt) q d =
        let m = n + p.answer.visits in
        let xs = map (later n) p.visits in
        omega (arith, f q, g m d, length-later n p.visits, length-append xs (k m).visits)
    go (Err why) q d = not_done why d

pub counted-behind : (role : Role) (score b : Bytes) (p : PostOrder) → Counted 0 p → Counted 0 (behind role score b p)
counted-behind role score b p f = go p.answer.end refl
  where
    go : (e : Result ⊤ Refusal) → p.answer.end ≡ e
        → Counted 0 (go_on e (map (later 1) p.visits) (1 + p.answer.visits) (λ n. post_order (record { role = role; score = score; bytes = b; spent = n } ∷ []) (walked n (Ok tt))))
    go (Ok tt) q d =
        let ys : List Visit = record { role = role; score = score; bytes = b; spent = 1 + p.answer.visits } ∷ [] in
        omega (arith, f q, length-later 1 p.visits, length-append (map (later 1) p.visits) ys)
    go (Err why) q d = not_done why d

-- ---- each behind what it links to

-- in a log of which Q is known and that holds those before it, all that a block links to is found
abbrev pub LinksFirst : (Bytes → Type 0) → List Visit → Type 0
LinksFirst Q [] = Unit {0}
LinksFirst Q (v ∷ vs) = ((L : Bytes) → Q L → Linked L v.role v.bytes) × LinksFirst (λ L. Q L × HeldIn L v) vs

links_known : (Q R : Bytes → Type 0) → ((L : Bytes) → R L → Q L) → (xs : List Visit) → LinksFirst Q xs → LinksFirst R xs
links_known Q R f [] h = tt
links_known Q R f (x ∷ xs) h = ((λ L r. h.0 L (f L r)), links_known (λ L. Q L × HeldIn L x) (λ L. R L × HeldIn L x) (λ L r. (f L r.0, r.1)) xs h.1)

pub links_join : (Q : Bytes → Type 0) (xs ys : List Visit) → LinksFirst Q xs → LinksFirst (λ L. Q L × HoldsAll L xs) ys → LinksFirst Q (xs ++ ys)
links_join Q [] ys h k = links_known (λ L. Q L × Unit {0}) Q (λ L q. (q, tt)) ys k
links_join Q (x ∷ xs) ys h k = (
  h.0,
  links_join (λ L. Q L × HeldIn L x) xs ys h.1
      (links_known (λ L. Q L × (HeldIn L x × HoldsAll L xs)) (λ L. (Q L × HeldIn L x) × HoldsAll L xs) (λ L q. (q.0.0, (q.0.1, q.1))) ys k),
)

pub links_later : (Q : Bytes → Type 0) (n : ℕ) (xs : List Visit) → LinksFirst Q xs → LinksFirst Q (map (later n) xs)
links_later Q n [] h = tt
links_later Q n (x ∷ xs) h = (h.0, links_later (λ L. Q L × HeldIn L x) n xs h.1)

abbrev pub Any : Bytes → Type 0
Any L = Unit {0}

pub links_on : (e : Result ⊤ Refusal) (vs : List Visit) (m : ℕ) (k : ℕ → PostOrder) → LinksFirst Any vs → LinksFirst Any (k m).visits → LinksFirst Any (go_on e vs m k).visits
links_on (Ok tt) vs m k f g = links_join Any vs (k m).visits f (links_known Any (λ L. Any L × HoldsAll L vs) (λ L q. tt) (k m).visits g)
links_on (Err why) vs m k f g = f

-- ---- over two logs

pub goes_done : (e : Result ⊤ Refusal) (vs : List Visit) (m : ℕ) (k : ℕ → PostOrder) → (go_on e vs m k).answer.end ≡ Ok tt → e ≡ Ok tt
goes_done (Ok tt) vs m k d = refl
goes_done (Err why) vs m k d = not_done why d

goes_again : (L : Bytes) (e : Result ⊤ Refusal) (vs : List Visit) (m : ℕ) (k k' : ℕ → PostOrder) → ((k m).answer.end ≡ Ok tt → HoldsAll L (k m).visits → k' m ≡ k m)
    → (go_on e vs m k).answer.end ≡ Ok tt → HoldsAll L (go_on e vs m k).visits → go_on e vs m k' ≡ go_on e vs m k
goes_again L (Ok tt) vs m k k' f d h = ap (λ (p : PostOrder). post_order (vs ++ p.visits) p.answer) (f d (holds_parts L vs (k m).visits h).1)
goes_again L (Err why) vs m k k' f d h = not_done why d

goes_held : (L : Bytes) (e : Result ⊤ Refusal) (vs : List Visit) (m : ℕ) (k : ℕ → PostOrder) → HoldsAll L (go_on e vs m k).visits → HoldsAll L vs
goes_held L (Ok tt) vs m k h = (holds_parts L vs (k m).visits h).0
goes_held L (Err why) vs m k h = h

pub followed_again : (L : Bytes) (p p' : PostOrder) (n : ℕ) (k k' : ℕ → PostOrder) → (p.answer.end ≡ Ok tt → HoldsAll L p.visits → p' ≡ p)
    → ((m : ℕ) → (k m).answer.end ≡ Ok tt → HoldsAll L (k m).visits → k' m ≡ k m)
    → (followed_by p n k).answer.end ≡ Ok tt → HoldsAll L (followed_by p n k).visits → followed_by p' n k' ≡ followed_by p n k
followed_again L p p' n k k' f g d h =
    let vs = map (later n) p.visits in
    let m = n + p.answer.visits in
    let q = f (goes_done p.answer.end vs m k d) (holds_earlier L n p.visits (goes_held L p.answer.end vs m k h)) in
    ap (λ (x : PostOrder). followed_by x n k') q ∙ goes_again L p.answer.end vs m k k' (g m) d h

-- ---- the walk's answer

goes_answer : (e : Result ⊤ Refusal) (vs : List Visit) (n : ℕ) (k : ℕ → PostOrder) (K : ℕ → Walked) → ((m : ℕ) → (k m).answer ≡ K m) → (go_on e vs n k).answer ≡ and_then e n K
goes_answer (Ok tt) vs n k K f = f n
goes_answer (Err why) vs n k K f = refl

pub followed_answer : (p : PostOrder) (w : Walked) (n : ℕ) (k : ℕ → PostOrder) (K : ℕ → Walked) → p.answer ≡ w → ((m : ℕ) → (k m).answer ≡ K m)
    → (followed_by p n k).answer ≡ and_then w.end (n + w.visits) K
followed_answer p w n k K q f = goes_answer p.answer.end _ _ k K f ∙ ap (λ (x : Walked). and_then x.end (n + x.visits) K) q

pub behind-answer : (role : Role) (score b : Bytes) (p : PostOrder) (w : Walked) → p.answer ≡ w → (behind role score b p).answer ≡ more w
behind-answer role score b p w q = go p.answer.end ∙ ap more q
  where
    go : (e : Result ⊤ Refusal) → (go_on e (map (later 1) p.visits) (1 + p.answer.visits) (λ n. post_order (record { role = role; score = score; bytes = b; spent = n } ∷ []) (walked n (Ok tt)))).answer
        ≡ walked (p.answer.visits + 1) e
    go (Ok tt) = let z : 1 + p.answer.visits ≡ p.answer.visits + 1 = omega arith in ap (λ (n : ℕ). walked n (Ok tt)) z
    go (Err why) = let z : 1 + p.answer.visits ≡ p.answer.visits + 1 = omega arith in ap (λ (n : ℕ). walked n (Err why)) z
