use mathlib.Core.Path.{◌∙◌}
use Rattle.sha1_bytes.proofs.BeBytes.{be_bytes_are}
use Rattle.sha1_bytes.proofs.be64.Goals as goal

pub returns : goal.returns
returns c = c.to_be_bytes.ensures ∙ be_bytes_are 8 c.args.x
