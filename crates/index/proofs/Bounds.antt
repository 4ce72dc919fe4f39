-- The bounds of buckets in buffers of some lengths, computed.
use mathlib.Core.Path.{refl}
use Rattle.index.specs.Index.{bucket_of}
use Rattle.index.specs.Bounds.{BoundsHold}

pub bounds_hold : BoundsHold
unfolding bucket_of
bounds_hold = refl
