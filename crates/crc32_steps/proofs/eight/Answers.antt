use Rattle.crc32_steps.proofs.eight.Goals as goal

pub returns : goal.returns
returns c = c.divide.ensures 0 c.requires
