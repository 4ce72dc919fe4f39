-- "The answer is yes, no or not known, by the strong Kleene tables": the value of a reading, where f says what is known of a name.
use Rattle.std.specs.Prelude.{List}
use Rattle.std.proofs.Math.Option.{Option, none, some}
use Rattle.buffer.specs.Bytes.{Bytes}
use Rattle.kleene.specs.declared.Value.{Value}
use Rattle.kleene.specs.Kleene.{not_of, and_of, or_of}
use Rattle.query.specs.Grammar.{Front}
use Rattle.query.specs.Reading.{Reading, choice, or_else, Choice, term, and_also, Term, name, negated, group}

unfoldable mutual
  pub value_of : (Bytes → Value) → Reading → Value
  value_of f (choice c) = choice_value f c
  value_of f (or_else c q) = or_of (choice_value f c) (value_of f q)

  pub choice_value : (Bytes → Value) → Choice → Value
  choice_value f (term t) = term_value f t
  choice_value f (and_also t c) = and_of (term_value f t) (choice_value f c)

  pub term_value : (Bytes → Value) → Term → Value
  term_value f (name n) = f n
  term_value f (negated t) = not_of (term_value f t)
  term_value f (group q) = value_of f q

-- the value of what is read at the front of words, and the words behind it
abbrev pub Valued : Type 0
Valued = Option (Value × List Bytes)

abbrev pub valued : {A : Type 0} → (A → Value) → Front A → Valued
valued f none = none
valued f (some r) = some (f r.0, r.1)
