-- "by the strong Kleene tables": yes, no and not known.
use Rattle.kleene.specs.declared.Value.{Value}
use Rattle.kleene.specs.declared.Value.TheVariants.{Yes, No, NotKnown}

-- "not swaps yes and no"
abbrev pub not_of : Value → Value
not_of Yes = No
not_of No = Yes
not_of NotKnown = NotKnown

-- "and is no if either is no, else not known if either is"
abbrev pub and_of : Value → Value → Value
and_of Yes Yes = Yes
and_of Yes No = No
and_of Yes NotKnown = NotKnown
and_of No Yes = No
and_of No No = No
and_of No NotKnown = No
and_of NotKnown Yes = NotKnown
and_of NotKnown No = No
and_of NotKnown NotKnown = NotKnown

-- "or is yes if either is yes, else not known if either is"
abbrev pub or_of : Value → Value → Value
or_of Yes Yes = Yes
or_of Yes No = Yes
or_of Yes NotKnown = Yes
or_of No Yes = Yes
or_of No No = No
or_of No NotKnown = NotKnown
or_of NotKnown Yes = Yes
or_of NotKnown No = NotKnown
or_of NotKnown NotKnown = NotKnown
