use mathlib.Core.Path.{ap, ◌∙◌}
use native.Mathlib.Omega.{arith}
use lib.ListN.{length}
use Rattle.block.specs.Log.{joined}
use Rattle.block.proofs.At.{length_at}
use Rattle.reader.proofs.Sound.{front_read, front-taken}
use Rattle.reader.proofs.sound_as.Goals as goal

pub front_length-k-requires : goal.front_length-k-requires
front_length-k-requires c =
    let a = c.args in
    let log = joined a.runs.end.0 a.runs.log.now a.runs.waiting.now in
    omega (arith, ap length c.sector_at-s.ensures ∙ length_at log a.first.0)

pub slice_bounds-sound_behind-end : goal.slice_bounds-sound_behind-end
slice_bounds-sound_behind-end c =
    let a = c.args in
    let log = joined a.runs.end.0 a.runs.log.now a.runs.waiting.now in
    front-taken log a.first.0 _ _ c.sector_at-s.ensures c.front_length-k.ensures

pub sound_behind-requires : goal.sound_behind-requires
sound_behind-requires c =
    let a = c.args in
    let q = c.requires in
    let log = joined a.runs.end.0 a.runs.log.now a.runs.waiting.now in
    (q.0, q.1, front_read log a.first.0 _ _ c.sector_at-s.ensures c.front_length-k.ensures, q.2)

pub returns : goal.returns
returns c = c.sound_behind.ensures
