use mathlib.Core.Path.{sym}
use Rattle.kind.proofs.ZeroScore.{zero-score-bytes}
use Rattle.kind.proofs.zero_score.Goals as goal

-- `kind::zero_score` meets its contract: its bytes are the SHA-1 of no bytes.
pub returns : goal.returns
returns c = sym zero-score-bytes
