-- What more that is known may do to a value: not known may become anything, yes and no stay.
use Rattle.std.specs.Prelude.{◌≡◌, ◌⊎◌}
use Rattle.kleene.specs.declared.Value.{Value}
use Rattle.kleene.specs.declared.Value.TheVariants.{NotKnown}

abbrev pub Keeps : Value → Value → Type 0
Keeps a b = (a ≡ NotKnown) ⊎ (a ≡ b)
