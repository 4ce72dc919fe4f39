use mathlib.Core.Path.{sym, ap}
use Rattle.refusal.specs.Number.{doubt_of}
use Rattle.refusal.proofs.Nowhere.{nowhere}
use borrow.Enum.Refused.{opened}
use Rattle.refusal.proofs.doubt_of.Goals as goal

pub returns-in-NotKnown : goal.returns-in-NotKnown
returns-in-NotKnown c = sym (ap doubt_of c.in-NotKnown.is)

pub returns-in-Frame : goal.returns-in-Frame
returns-in-Frame c = nowhere c.args.why (opened c.in-Frame.in-Frame-own.keys2)
