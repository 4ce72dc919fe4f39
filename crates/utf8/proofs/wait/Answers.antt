use Rattle.utf8.proofs.wait.Goals as goal

pub returns : goal.returns
returns c = rw (c.low_after.ensures, c.high_after.ensures)
