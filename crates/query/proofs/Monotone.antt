-- More that is known keeps every yes and every no.
use Rattle.buffer.specs.Bytes.{Bytes}
use Rattle.kleene.specs.declared.Value.{Value}
use Rattle.kleene.specs.Order.{Keeps}
use Rattle.kleene.proofs.Order.{not-keeps, and_keeps, or_keeps}
use Rattle.query.specs.Reading.{Reading, choice, or_else, Choice, term, and_also, Term, name, negated, group}
use Rattle.query.specs.Value.{value_of, choice_value, term_value}
use Rattle.query.specs.Claims.{Monotone}

module _ (f g : Bytes → Value) (h : (n : Bytes) → Keeps (f n) (g n)) where
  mutual
    unfolding value_of

    list_keeps : (q : Reading) → Keeps (value_of f q) (value_of g q)
    list_keeps (choice c) = choice-keeps c
    list_keeps (or_else c q) = or_keeps (choice-keeps c) (list_keeps q)

    choice-keeps : (c : Choice) → Keeps (choice_value f c) (choice_value g c)
    choice-keeps (term t) = term-keeps t
    choice-keeps (and_also t c) = and_keeps (term-keeps t) (choice-keeps c)

    term-keeps : (t : Term) → Keeps (term_value f t) (term_value g t)
    term-keeps (name n) = h n
    term-keeps (negated t) = not-keeps (term-keeps t)
    term-keeps (group q) = list_keeps q

pub monotone : Monotone
monotone f g h q = list_keeps f g h q
