use Rattle.writer_calls.proofs.Outcomes.{wrote_so}
use Rattle.writer_calls.proofs.write_file.Goals as goal

pub returns : goal.returns
returns c = let write-file = c.write_file-end in
    wrote_so write-file.result _ _ _ _ c.end_number.result write-file.ensures c.end_number.ensures
