use mathlib.Core.Path.{◌≡◌, sym, ap, ◌∙◌}
use mathlib.Core.Logic.{⊎_elim}
use Prim.Native.Nat.{ℕ, ◌-◌, ◌≤◌}
use native.Mathlib.Nat.{sub-zero}
use native.Mathlib.Omega.{arith}
use lib.ListN.{length}
use Rattle.bedrock.specs.Places.{found_from}
use Rattle.hexadecimal.specs.Hex.{hex_bytes}
use Rattle.block.specs.Log.{sectors, joined, sound}
use Rattle.block.proofs.At.{length_at}
use Rattle.block.proofs.Joined.{sectors-joined}
use Rattle.sector_log.specs.LookUp.{blocks, first_of}
use Rattle.reader.proofs.Placed.{placed-none}
use Rattle.score_scan.proofs.Scan.{other_digits, find_more, find_found, find_nowhere}
use borrow.Author.Rules.{rules}
use Rattle.score_scan.proofs.find.Goals as goal
use Rattle.score_scan.proofs.find.Goals.{then-may_hold+in_default, else-may_hold}

pub loop-n-init : goal.loop-n-init
unfolding blocks
loop-n-init c = let a = c.args in
    let given = c.requires in
    let put-hex-bytes = c.put_hex_bytes in
    let log = joined a.runs.end.0 a.runs.log.now a.runs.waiting.now in
    let e = sectors-joined a.runs.end.0 a.runs.log.now a.runs.waiting.now given.0 in (
      omega (arith, e),
      put-hex-bytes.ensures,
      ap (λ (k : ℕ). first_of a.kind a.score.now (found_from (sound log) k 0)) (sub-zero (sectors (length log))),
    )

pub may_hold-requires : goal.may_hold-requires
may_hold-requires c = let a = c.args in
    let l = c.loop-n in
    (ap length (c.sector_at-s.ensures) ∙ length_at (joined a.runs.end.0 a.runs.log.now a.runs.waiting.now) l.n, search rules)

pub returns-in-Some : goal.returns-in-Some
returns-in-Some c = let a = c.args in
    let l = c.loop-n in
    let loop-test = c.loop-n-test in
    let sound-as = c.sound_as in
    sym c.in-Some.is ∙ find_found (joined a.runs.end.0 a.runs.log.now a.runs.waiting.now) l.n a.kind a.score.now (omega (arith, l.invariant.0, loop-test.true)) l.invariant.2 sound-as.result _
    sound-as.ensures (c.in-Some.is)

pub loop-n-preserved : goal.loop-n-preserved
loop-n-preserved c = let a = c.args in
    let l = c.loop-n in
    let loop-test = c.loop-n-test in
    let may-hold = c.may_hold in
    let sector-at = c.sector_at-s in
    let log = joined a.runs.end.0 a.runs.log.now a.runs.waiting.now in
    (l.invariant.0, l.invariant.1, find_more log l.n a.kind a.score.now (omega (arith, l.invariant.0, loop-test.true)) l.invariant.2 (elim c.if-may_hold.branch [ then-may_hold+in_default w ↦ placed-none _ w.sound_as.result w.sound_as.ensures w.in_default.is | else-may_hold w ↦ other_digits log l.n a.kind a.score.now _ sector-at.result.now may-hold.result sector-at.ensures l.invariant.1 may-hold.ensures w.if-may_hold.false ]))

pub returns : goal.returns
returns c = let a = c.args in
    let l = c.loop-n in
    find_nowhere (joined a.runs.end.0 a.runs.log.now a.runs.waiting.now) l.n a.kind a.score.now (omega (arith, l.invariant.0)) (omega (arith, l.invariant.0, c.loop-n-test.false)) l.invariant.2
