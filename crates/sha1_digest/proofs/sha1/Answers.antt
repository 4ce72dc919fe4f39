use Rattle.sha1_digest.proofs.sha1.Goals as goal

pub returns : goal.returns
returns c = c.finish.ensures _ (c.absorb.ensures _ c.start.ensures)
