use mathlib.Core.Path.{refl}
use native.Mathlib.Omega.{arith}
use lib.ListN.{length, get_or}
use Rattle.index.specs.Index.{bucket_of}
use Rattle.index.proofs.Buckets.{bucket_fits}
use Rattle.index.proofs.bucket_of.Goals as goal

pub overflow_cast-from : goal.overflow_cast-from
overflow_cast-from c = omega (arith, c.type_inv.score 0)

pub overflow_mul-from : goal.overflow_mul-from
overflow_mul-from c =
    let a = c.args in
    let h = bucket_fits (length a.index.now) (get_or a.score.now 0 0) (c.type_inv.score 0).fits in
    omega (arith, h)

pub overflow_add-to : goal.overflow_add-to
overflow_add-to c =
    let a = c.args in
    let h = bucket_fits (length a.index.now) (get_or a.score.now 0 0) (c.type_inv.score 0).fits in
    omega (arith, h)

pub returns : goal.returns
unfolding bucket_of
returns c =
    let a = c.args in
    record { places = refl; within = (omega arith, bucket_fits (length a.index.now) (get_or a.score.now 0 0) (c.type_inv.score 0).fits) }
