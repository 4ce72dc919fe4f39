use Rattle.keep.proofs.end_of.Goals as goal

-- `keep::end_of` meets its contract: by what the store did.
pub returns-in-Err : goal.returns-in-Err
returns-in-Err c = rw c.in-Err.is
