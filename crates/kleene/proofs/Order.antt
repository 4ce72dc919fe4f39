-- The tables keep a yes and a no where more becomes known.
use mathlib.Core.Path.{◌≡◌, refl, sym, ap, ap₂}
use mathlib.Core.Logic.{inl, inr}
use Rattle.kleene.specs.declared.Value.{Value}
use Rattle.kleene.specs.declared.Value.TheVariants.{Yes, No, NotKnown}
use Rattle.kleene.specs.Kleene.{not_of, and_of, or_of}
use Rattle.kleene.specs.Order.{Keeps}

pub not-keeps : {a b : Value} → Keeps a b → Keeps (not_of a) (not_of b)
not-keeps (inl e) = inl (ap not_of e)
not-keeps (inr e) = inr (ap not_of e)

and_no : (a : Value) → and_of a No ≡ No
and_no Yes = refl
and_no No = refl
and_no NotKnown = refl

no_and : (b : Value) → and_of No b ≡ No
no_and Yes = refl
no_and No = refl
no_and NotKnown = refl

or_yes : (a : Value) → or_of a Yes ≡ Yes
or_yes Yes = refl
or_yes No = refl
or_yes NotKnown = refl

yes_or : (b : Value) → or_of Yes b ≡ Yes
yes_or Yes = refl
yes_or No = refl
yes_or NotKnown = refl

-- one side is not known, and the other stays
unknown-and : (a b : Value) → Keeps (and_of NotKnown b) (and_of a b)
unknown-and a Yes = inl refl
unknown-and a No = inr (sym (and_no a))
unknown-and a NotKnown = inl refl

and-unknown : (a b : Value) → Keeps (and_of a NotKnown) (and_of a b)
and-unknown Yes b = inl refl
and-unknown No b = inr (sym (no_and b))
and-unknown NotKnown b = inl refl

unknown_or : (a b : Value) → Keeps (or_of NotKnown b) (or_of a b)
unknown_or a Yes = inr (sym (or_yes a))
unknown_or a No = inl refl
unknown_or a NotKnown = inl refl

or_unknown : (a b : Value) → Keeps (or_of a NotKnown) (or_of a b)
or_unknown Yes b = inr (sym (yes_or b))
or_unknown No b = inl refl
or_unknown NotKnown b = inl refl

pub and_keeps : {a a' b b' : Value} → Keeps a a' → Keeps b b' → Keeps (and_of a b) (and_of a' b')
and_keeps (inl e) (inl e') = inl (ap₂ and_of e e')
and_keeps {a} {a'} {b} {b'} (inl e) (inr e') = rw (e, e') (unknown-and a' b')
and_keeps {a} {a'} {b} {b'} (inr e) (inl e') = rw (e, e') (and-unknown a' b')
and_keeps (inr e) (inr e') = inr (ap₂ and_of e e')

pub or_keeps : {a a' b b' : Value} → Keeps a a' → Keeps b b' → Keeps (or_of a b) (or_of a' b')
or_keeps (inl e) (inl e') = inl (ap₂ or_of e e')
or_keeps {a} {a'} {b} {b'} (inl e) (inr e') = rw (e, e') (unknown_or a' b')
or_keeps {a} {a'} {b} {b'} (inr e) (inl e') = rw (e, e') (or_unknown a' b')
or_keeps (inr e) (inr e') = inr (ap₂ or_of e e')
