-- One thing after another: a loop for every account of a list. Assumes nothing: these are definitions.
use Rattle.std.specs.Prelude.{List, [], ◌∷◌}

-- what one item makes: what is seen of it, and where it leaves things
pub record Turn (Shown State : Type 0) : Type 0 where
  pub shown : Shown
  pub state : State

-- what a list makes: what is seen after each item, in order, and where the last one leaves things
pub record Trace (Shown State : Type 0) : Type 0 where
  pub seen : List Shown
  pub left : State

-- the items one after the other, each from where the last one left things
abbrev pub trace : {State Item Shown : Type 0} → (State → Item → Turn Shown State) → State → List Item → Trace Shown State
trace f s [] = record { seen = []; left = s }
trace f s (q ∷ qs) = let t = f s q in let rest = trace f t.state qs in record { seen = t.shown ∷ rest.seen; left = rest.left }

-- each item of the list has the property
abbrev pub All : {Item : Type 0} → (Item → Type 0) → List Item → Type 0
All P [] = Unit {0}
All P (q ∷ qs) = P q × All P qs

-- each item of the list has the property where it meets things: from where the items before it left them
abbrev pub Along : {State Item Shown : Type 0} → (State → Item → Type 0) → (State → Item → Turn Shown State) → State → List Item → Type 0
Along P f s [] = Unit {0}
Along P f s (q ∷ qs) = P s q × Along P f (f s q).state qs
