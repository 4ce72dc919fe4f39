-- What a function in a cycle of calls is asked: its own `requires`, where a measure μ of its arguments is t or falls below it.
use Prim.Native.Nat.{ℕ, ◌<◌}
use mathlib.Core.List.{List}
use borrow.Fn.Kind.{ParamKind}
use borrow.Fn.Kinds.{In}
use borrow.Fn.PlainCycle.{Measures, is, falls, and}

-- as the function itself is proved
abbrev pub at_measure : (n : ℕ) (ps : List (ParamKind n)) → Measures n ps ℕ → In n ps → ℕ → In n ps
at_measure n ps μ asked t = and n ps (is n ps μ t) asked

-- as a function at t may call it
abbrev pub below_measure : (n : ℕ) (ps : List (ParamKind n)) → Measures n ps ℕ → In n ps → ℕ → In n ps
below_measure n ps μ asked t = and n ps (falls n ps ◌<◌ μ t) asked
