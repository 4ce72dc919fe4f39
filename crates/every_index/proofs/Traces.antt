-- Two accounts of a list that take each item alike, where something holds that the items keep: one account.
use mathlib.Core.Path.{◌≡◌, refl, ap, ◌∙◌}
use mathlib.Core.List.{List, [], ◌∷◌, map}
use Rattle.ledger.specs.Trace.{Turn, Trace, trace, Along}

module _ {State Book Item Other Shown Told : Type 0} (f : State → Other → Turn Shown State) (g : State → Item → Turn Shown State) (h : Other → Item)
    (k : Book → Item → Turn Told Book) (I : State → Book → Type 0) (ok : Book → Item → Type 0)
    (step : (s : State) (b : Book) (e : Other) → ok b (h e) → I s b → (f s e ≡ g s (h e)) × I (g s (h e)).state (k b (h e)).state) where
  after : Turn Shown State → Trace Shown State → Trace Shown State
  after t rest = record { seen = t.shown ∷ rest.seen; left = rest.left }

  pub same-trace : (s : State) (b : Book) (es : List Other) → Along ok k b (map h es) → I s b → trace f s es ≡ trace g s (map h es)
  unfolding after
  same-trace s b [] a i = refl
  same-trace s b (e ∷ es) a i =
      let here = step s b e a.0 i in
      ap (λ (t : Turn Shown State). after t (trace f t.state es)) here.0
      ∙ ap (after (g s (h e))) (same-trace (g s (h e)).state (k b (h e)).state es a.1 here.1)
