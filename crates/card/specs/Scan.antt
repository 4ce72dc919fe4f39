-- A line by its places in the bytes that are lent.
use Rattle.std.proofs.Math.Option.{Option, none, some}
use Rattle.std.specs.Prelude.{Option as Optional, Some, None, ℕ, ◌+◌, length}
use Rattle.card.specs.Card.{Line, line_text}
use Rattle.card.specs.declared.Line.{Line as Places}

-- the places of a line that starts at byte `at`
abbrev pub place_of : ℕ → Option Line → Optional Places
place_of at none = None
place_of at (some l) = Some (record { equals = at + length l.name; end = at + length (line_text l); present = l.present })
