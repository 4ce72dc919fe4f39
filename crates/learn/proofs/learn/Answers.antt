use native.Mathlib.Omega.{arith}
use Rattle.block.proofs.Used.{used_le_sectors}
use Rattle.learn.proofs.Learned.{all-learned}
use Rattle.learn.proofs.learn.Goals as goal

pub find_doubt-doubt-requires : goal.find_doubt-doubt-requires
find_doubt-doubt-requires c =
    omega (arith, c.used_part-used.ensures, used_le_sectors c.args.log.now)

pub is_exact-exact-requires : goal.is_exact-exact-requires
is_exact-exact-requires c =
    omega (arith, c.used_part-used.ensures, used_le_sectors c.args.log.now)

pub returns : goal.returns
returns c = let args = c.args in
    let used-part = c.used_part-used in
    let a = args in
    all-learned a.log.now a.waiting.now a.index.now _ _ _ _ used-part.ensures c.used_part-waits.ensures c.find_doubt-doubt.ensures c.is_exact-exact.ensures
