use native.Mathlib.Omega.{arith}
use Rattle.sha1_functions.proofs.Choose.{ch_is}
use Rattle.sha1_functions.proofs.ch.Goals as goal

-- `sha1_functions::ch` meets its contract. Assumes nothing.
pub returns : goal.returns
returns c = ch_is c.args.x c.args.y c.args.z (omega arith) (omega arith)
