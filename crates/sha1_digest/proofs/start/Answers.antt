use mathlib.Core.Path.{refl}
use Rattle.sha1_digest.specs.Sha1.{hash_of}
use Rattle.sha1_digest.proofs.start.Goals as goal

pub returns : goal.returns
unfolding hash_of
returns c = record { fed = record { k = 0; size = refl; hashed = c.first.ensures; rest = refl }; count = refl }
