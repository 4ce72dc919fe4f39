-- Lists of requests among the events: what is seen of them, and where they leave things.
use mathlib.Core.Path.{◌≡◌, refl, ap}
use mathlib.Core.List.{List, [], ◌∷◌, map}
use Rattle.ledger.specs.Archive.{Seen, Archive}
use Rattle.ledger.specs.Trace.{trace, Along}
use Rattle.ledger.specs.History.{Item, AllOfBytes, Standing, answer, Books, recount}
use Rattle.ledger.specs.Events.{Shown, answered, stands, Event, ask, happen, recount_event, Possible}

-- of what is seen, that of requests
abbrev pub opened : {Answer Session Log : Type 0} → List (Shown Answer Session Log) → List (Seen Answer Session Log)
opened [] = []
opened (answered o ∷ l) = o ∷ opened l
opened (stands log ∷ l) = opened l

pub opened-all : {Answer Session Log : Type 0} (l : List (Seen Answer Session Log)) → opened (map answered l) ≡ l
opened-all [] = refl
opened-all (o ∷ l) = ap (λ r. o ∷ r) (opened-all l)

module _ (A : Archive) where
  open A use {Log, Answer, Session}

  abbrev pub asks : List (Item A) → List (Event A)
  asks qs = map ask qs

  pub happen-asks : (s : Standing A) (qs : List (Item A)) → (trace (happen A) s (asks qs)).seen ≡ map answered (trace (answer A) s qs).seen
  happen-asks s [] = refl
  happen-asks s (q ∷ qs) = ap (λ (l : List (Shown Answer Session Log)). answered (answer A s q).shown ∷ l) (happen-asks (answer A s q).state qs)

  pub happen-left : (s : Standing A) (qs : List (Item A)) → (trace (happen A) s (asks qs)).left ≡ (trace (answer A) s qs).left
  happen-left s [] = refl
  happen-left s (q ∷ qs) = happen-left (answer A s q).state qs

  pub recount-asks : (b : Books A) (qs : List (Item A)) → (trace (recount_event A) b (asks qs)).seen ≡ map answered (trace (recount A) b qs).seen
  recount-asks b [] = refl
  recount-asks b (q ∷ qs) = ap (λ (l : List (Shown Answer Session Log)). answered (recount A b q).shown ∷ l) (recount-asks (recount A b q).state qs)

  pub recount-left : (b : Books A) (qs : List (Item A)) → (trace (recount_event A) b (asks qs)).left ≡ (trace (recount A) b qs).left
  recount-left b [] = refl
  recount-left b (q ∷ qs) = recount-left (recount A b q).state qs

  pub possible-asks : (b : Books A) (qs : List (Item A)) → AllOfBytes A qs → Along (Possible A) (recount_event A) b (asks qs)
  possible-asks b [] ok = tt
  possible-asks b (q ∷ qs) ok = (ok.0, possible-asks (recount A b q).state qs ok.1)
