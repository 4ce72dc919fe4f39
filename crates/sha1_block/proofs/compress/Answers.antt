use mathlib.Core.Path.{ap, ◌∙◌}
use Rattle.sha1_block.specs.declared.Hash.{Hash}
use Rattle.sha1_block.specs.Block.{add_hash, compress_of}
use Rattle.sha1_block.specs.Rounds.{RoundsDone}
use Rattle.sha1_schedule.proofs.Schedule.{ring_first}
use Rattle.sha1_block.proofs.compress.Goals as goal

pub returns : goal.returns
unfolding compress_of RoundsDone
returns c =
    let a = c.args in
    let b = a.b.now in
    let r = c.rounds.ensures b (ring_first b _ c.words-w.ensures) in
    c.added.ensures ∙ ap (λ (s : Hash). add_hash s a.h) r.1
