use mathlib.Core.Path.{sym, ◌∙◌}
use Rattle.hexadecimal.proofs.Turns.{reading-bad, reading-good}
use Rattle.hexadecimal.proofs.read_hex_bytes.Goals as goal

pub returns-then-not-is_hex : goal.returns-then-not-is_hex
returns-then-not-is_hex c = reading-bad _ _ (sym c.is_hex.ensures ∙ c.if-not-is_hex.true)

pub fill_bytes-requires : goal.fill_bytes-requires
fill_bytes-requires c =
    (c.requires, sym c.is_hex.ensures ∙ c.if-not-is_hex.false)

pub returns : goal.returns
returns c =
    reading-good _ _ _ (sym c.is_hex.ensures ∙ c.if-not-is_hex.false) c.fill_bytes.ensures
