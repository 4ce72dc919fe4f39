-- What every step keeps, the list keeps: one induction for each account of a list, and one for two accounts side by side.
use mathlib.Core.Path.{◌≡◌, refl, ap, ap₂}
use mathlib.Core.List.{List, [], ◌∷◌, ◌++◌}
use Rattle.ledger.specs.Trace.{Turn, Trace, trace, All, Along}

-- what each item has on its own it has wherever it meets things
pub along_all : {State Item Shown : Type 0} (f : State → Item → Turn Shown State) (ok : Item → Type 0) (s : State) (qs : List Item) → All ok qs → Along (λ _ q. ok q) f s qs
along_all f ok s [] b = tt
along_all f ok s (q ∷ qs) b = (b.0, along_all f ok (f s q).state qs b.1)

-- a property of the state that each item keeps, where it has what it is to have
pub along_keeps : {State Item Shown : Type 0} (f : State → Item → Turn Shown State) (P : State → Type 0) (ok : State → Item → Type 0)
    → ((s : State) (q : Item) → ok s q → P s → P (f s q).state) → (s : State) (qs : List Item) → Along ok f s qs → P s → P (trace f s qs).left
along_keeps f P ok step s [] b p = p
along_keeps f P ok step s (q ∷ qs) b p = along_keeps f P ok step (f s q).state qs b.1 (step s q b.0 p)

pub trace-keeps : {State Item Shown : Type 0} (f : State → Item → Turn Shown State) (P : State → Type 0) (ok : Item → Type 0)
    → ((s : State) (q : Item) → ok q → P s → P (f s q).state) → (s : State) (qs : List Item) → All ok qs → P s → P (trace f s qs).left
trace-keeps f P ok step s qs b p = along_keeps f P (λ _ q. ok q) step s qs (along_all f ok s qs b) p

-- what items have gives another property of them, while the state has a third, which they keep
pub along_gives : {State Item Shown : Type 0} (f : State → Item → Turn Shown State) (I : State → Type 0) (P Q : State → Item → Type 0)
    → ((s : State) (q : Item) → I s → P s q → Q s q) → ((s : State) (q : Item) → I s → P s q → I (f s q).state)
    → (s : State) (qs : List Item) → I s → Along P f s qs → Along Q f s qs
along_gives f I P Q gives keeps s [] i b = tt
along_gives f I P Q gives keeps s (q ∷ qs) i b = (gives s q i b.0, along_gives f I P Q gives keeps (f s q).state qs (keeps s q i b.0) b.1)

-- two accounts that agree after each item are seen alike, and agree at the end
pub record Agree {State Other Shown : Type 0} (R : State → Other → Type 0) (a : Trace Shown State) (b : Trace Shown Other) : Type 0 where
  pub seen : a.seen ≡ b.seen
  pub left : R a.left b.left

pub along_agrees : {State Other Item Shown : Type 0} (f : State → Item → Turn Shown State) (g : Other → Item → Turn Shown Other)
    (R : State → Other → Type 0) (ok : Other → Item → Type 0)
    → ((s : State) (t : Other) (q : Item) → ok t q → R s t → ((f s q).shown ≡ (g t q).shown) × R (f s q).state (g t q).state)
    → (s : State) (t : Other) (qs : List Item) → Along ok g t qs → R s t → Agree R (trace f s qs) (trace g t qs)
along_agrees f g R ok step s t [] b r = record { seen = refl; left = r }
along_agrees f g R ok step s t (q ∷ qs) b r =
    let here = step s t q b.0 r in
    let rest = along_agrees f g R ok step (f s q).state (g t q).state qs b.1 here.1 in
    record { seen = ap₂ ◌∷◌ here.0 rest.seen; left = rest.left }

pub trace-agrees : {State Other Item Shown : Type 0} (f : State → Item → Turn Shown State) (g : Other → Item → Turn Shown Other)
    (R : State → Other → Type 0) (ok : Item → Type 0)
    → ((s : State) (t : Other) (q : Item) → ok q → R s t → ((f s q).shown ≡ (g t q).shown) × R (f s q).state (g t q).state)
    → (s : State) (t : Other) (qs : List Item) → All ok qs → R s t → Agree R (trace f s qs) (trace g t qs)
trace-agrees f g R ok step s t qs b r = along_agrees f g R (λ _ q. ok q) step s t qs (along_all g ok t qs b) r

-- one list and then another
pub along_append : {State Item Shown : Type 0} (f : State → Item → Turn Shown State) (P : State → Item → Type 0) (s : State) (qs more : List Item)
    → Along P f s qs → Along P f (trace f s qs).left more → Along P f s (qs ++ more)
along_append f P s [] more a b = b
along_append f P s (q ∷ qs) more a b = (a.0, along_append f P (f s q).state qs more a.1 b)

pub seen-append : {State Item Shown : Type 0} (f : State → Item → Turn Shown State) (s : State) (qs more : List Item)
    → (trace f s (qs ++ more)).seen ≡ (trace f s qs).seen ++ (trace f (trace f s qs).left more).seen
seen-append f s [] more = refl
seen-append f s (q ∷ qs) more = ap (λ l. (f s q).shown ∷ l) (seen-append f (f s q).state qs more)

pub left-append : {State Item Shown : Type 0} (f : State → Item → Turn Shown State) (s : State) (qs more : List Item)
    → (trace f s (qs ++ more)).left ≡ (trace f (trace f s qs).left more).left
left-append f s [] more = refl
left-append f s (q ∷ qs) more = left-append f (f s q).state qs more
