-- Two entries at one position, of "What changed between two days": what is done with them.
use Rattle.std.specs.Prelude.{Bool, not, cond, ◌&&◌, ◌||◌, eqb}
use Rattle.buffer.specs.Bytes.{Bytes, same}
use Rattle.entry.specs.declared.Entry.{Entry}
use Rattle.entry.specs.Entry.{entry_of, well_formed}
use Rattle.verdict.specs.declared.Verdict.{Verdict}
use Rattle.verdict.specs.declared.Verdict.TheVariants.{Skip, IllFormed, Open, Differ}

-- "an ill-formed active entry"
abbrev pub ill_formed : Entry → Bool
ill_formed e = e.active && not (well_formed e)

-- "Two directories of equal psize, dsize and depth"
unfoldable pub same_shape : Entry → Entry → Bool
same_shape e d = (e.directory && d.directory) && (eqb e.psize d.psize && (eqb e.dsize d.dsize && eqb e.depth d.depth))

-- "two inactive ones .. are skipped unread; otherwise an ill-formed active entry is 16. Two directories of equal psize, dsize and depth
-- are opened ..; any other pair that differs counts one"
unfoldable pub verdict_of : Entry → Entry → Verdict
verdict_of e d =
    cond (e.active || d.active)
    (cond (ill_formed e || ill_formed d) IllFormed (cond ((e.active && d.active) && same_shape e d) Open Differ))
    Skip

-- "Equal entries .. are skipped unread", ill-formed or not; all 40 bytes are compared, gen and pads too
unfoldable pub verdict : Bytes → Bytes → Verdict
verdict x y = cond (same x y) Skip (verdict_of (entry_of x) (entry_of y))
