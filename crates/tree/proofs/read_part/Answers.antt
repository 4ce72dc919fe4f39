use mathlib.Core.Path.{◌≡◌, refl, sym, ap, ◌∙◌}
use Prim.Native.Nat.{ℕ, ◌+◌, ◌-◌, ◌%◌, ◌<◌, min}
use native.Mathlib.Omega.{arith}
use lib.ListN.{length, take, drop}
use Rattle.buffer.specs.Bytes.{Bytes}
use Rattle.buffer.proofs.Put.{length-put}
use Rattle.sector.specs.Sector.{payload_of}
use Rattle.block.specs.declared.Block.{Block}
use Rattle.block.specs.Log.{joined, bytes_of}
use Rattle.reader.proofs.Pieces.{length-bytes}
use Rattle.tree.proofs.Pieces.{left-all, left-none, left-zeros, Piece, piece}
use Rattle.tree.proofs.read_part.Goals as goal

pub loop-done-init : goal.loop-done-init
loop-done-init c =
    let a = c.args in
    (omega arith, refl, left-all (bytes_of (joined a.runs.end.0 a.runs.log.now a.runs.waiting.now) a.b) a.from a.d.now)

pub returns-then-b-k : goal.returns-then-b-k
returns-then-b-k c =
    let a = c.args in
    let l = c.loop-done in
    let if1 = c.if-b-k in
    let clear = c.clear in
    let q = c.requires in
    let log = joined a.runs.end.0 a.runs.log.now a.runs.waiting.now in
    left-zeros (bytes_of log a.b) a.from a.d.now l.d _ l.done l.invariant.0 l.invariant.1
    (omega (arith, if1.true, length-bytes log a.b q.1.1)) clear.ensures l.invariant.2

-- the piece that was found, of the block's bytes
found : (log : Bytes) (b : Block) (from : ℕ) (d₀ d s : Bytes) (done : ℕ) → b.label < 499 → done < length d → length d ≡ length d₀ → from + done < b.size
    → let w = payload_of b.label in
    s ≡ take (min (w - (from + done) % w) (min (b.size - (from + done)) (length d - done))) (drop (from + done) (bytes_of log b))
    → Piece (bytes_of log b) from d₀ d s done
found log b from d₀ d s done short more same inside e =
    let w = payload_of b.label in
    let k = from + done in
    let size = length-bytes log b short in
    piece (bytes_of log b) from d₀ w (omega arith) d s done more same (omega (arith, size, inside))
    (e ∙ ap (λ (n : ℕ). take (min (w - k % w) (min (n - k) (length d - done))) (drop k (bytes_of log b))) (sym size))

pub copy_at-requires : goal.copy_at-requires
copy_at-requires c =
    let a = c.args in
    let l = c.loop-done in
    let F = found (joined a.runs.end.0 a.runs.log.now a.runs.waiting.now) a.b a.from a.d.now l.d _ l.done c.requires.1.1 c.loop-done-test.true l.invariant.1 c.if-b-k.false
    c.piece_from-piece.ensures in
    F.fits

pub overflow_add-done : goal.overflow_add-done
overflow_add-done c =
    let a = c.args in
    let l = c.loop-done in
    let F = found (joined a.runs.end.0 a.runs.log.now a.runs.waiting.now) a.b a.from a.d.now l.d _ l.done c.requires.1.1 c.loop-done-test.true l.invariant.1 c.if-b-k.false
    c.piece_from-piece.ensures in
    omega (arith, F.fits)

pub loop-done-smaller : goal.loop-done-smaller
loop-done-smaller c =
    let a = c.args in
    let l = c.loop-done in
    let F = found (joined a.runs.end.0 a.runs.log.now a.runs.waiting.now) a.b a.from a.d.now l.d _ l.done c.requires.1.1 c.loop-done-test.true l.invariant.1 c.if-b-k.false
    c.piece_from-piece.ensures in
    omega (arith, c.loop-done-test.true, l.invariant.1, F.is_some)

pub loop-done-preserved : goal.loop-done-preserved
loop-done-preserved c =
    let a = c.args in
    let l = c.loop-done in
    let F = found (joined a.runs.end.0 a.runs.log.now a.runs.waiting.now) a.b a.from a.d.now l.d _ l.done c.requires.1.1 c.loop-done-test.true l.invariant.1 c.if-b-k.false
    c.piece_from-piece.ensures in
    let same = ap length c.copy_at.ensures ∙ length-put l.d l.done c.piece_from-piece.result.now F.fits in
    (omega (arith, F.fits, same), same ∙ l.invariant.1, F.behind _ c.copy_at.ensures l.invariant.2)

pub returns : goal.returns
returns c =
    let a = c.args in
    let l = c.loop-done in
    let loop-test = c.loop-done-test in
    left-none (bytes_of (joined a.runs.end.0 a.runs.log.now a.runs.waiting.now) a.b) a.from a.d.now l.d l.done (omega (arith, loop-test.false)) l.invariant.2
