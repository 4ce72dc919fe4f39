use mathlib.Core.Path.{◌≡◌, ◌∙◌}
use mathlib.Core.List.{List, ◌++◌, append-nil}
use Prim.Native.Nat.{ℕ, ◌≤◌, ◌<◌, ◌-◌, ◌+◌, ◌%◌}
use native.Mathlib.Omega.{arith}
use lib.Arith.{lt_of_le-ne}
use lib.ListN.{length, take}
use Rattle.buffer.proofs.Parts.{part_size}
use Rattle.sha1_digest.specs.Stream.{Fed}
use Rattle.sha1_digest.proofs.Feed.{taken, copied, block, held, leap}
use borrow.Author.Rules.{rules}
use Rattle.sha1_digest.proofs.absorb.Goals as goal

pub loop-i-init : goal.loop-i-init
loop-i-init c = (search rules, omega arith, omega arith, λ m f. rw append-nil f)

pub overflow_add-end : goal.overflow_add-end
overflow_add-end c = omega (arith, c.min-k.ensures)

pub slice_bounds-compress-end : goal.slice_bounds-compress-end
slice_bounds-compress-end c = omega (arith, c.min-k.ensures)

pub compress-h-requires : goal.compress-h-requires
compress-h-requires c =
    let l = c.loop-i in
    let more = c.args.more.now in
    let k = c.min-k in
    let t = taken l.n l.i (length more) k.result l.invariant.1 c.loop-i-test.true k.ensures in
    part_size more l.i k.result t.1 ∙ c.if-k-eq64.true

pub loop-i-smaller-then-k-eq64 : goal.loop-i-smaller-then-k-eq64
loop-i-smaller-then-k-eq64 c =
    let l = c.loop-i in
    let more = c.args.more.now in
    let k = c.min-k in
    let t = taken l.n l.i (length more) k.result l.invariant.1 c.loop-i-test.true k.ensures in
    t.2

pub loop-i-preserved-then-k-eq64 : goal.loop-i-preserved-then-k-eq64
loop-i-preserved-then-k-eq64 c =
    let l = c.loop-i in
    let more = c.args.more.now in
    let k = c.min-k in
    let t = taken l.n l.i (length more) k.result l.invariant.1 c.loop-i-test.true k.ensures in
    (l.invariant.0, l.invariant.1, t.1, λ m f. rw c.compress-h.ensures (leap m more l.i k.result (t.3 c.if-k-eq64.true) c.if-k-eq64.true t.1 (l.invariant.3 m f)))

pub copy_at-requires : goal.copy_at-requires
copy_at-requires c =
    let l = c.loop-i in
    let more = c.args.more.now in
    let k = c.min-k in
    let t = taken l.n l.i (length more) k.result l.invariant.1 c.loop-i-test.true k.ensures in
    omega (arith, part_size more l.i k.result t.1, t.0, l.invariant.0)

pub loop-i-smaller-then-n-eq64 : goal.loop-i-smaller-then-n-eq64
loop-i-smaller-then-n-eq64 c =
    let l = c.loop-i in
    let more = c.args.more.now in
    let k = c.min-k in
    let t = taken l.n l.i (length more) k.result l.invariant.1 c.loop-i-test.true k.ensures in
    t.2

pub loop-i-preserved-then-n-eq64 : goal.loop-i-preserved-then-n-eq64
loop-i-preserved-then-n-eq64 c =
    let l = c.loop-i in
    let more = c.args.more.now in
    let k = c.min-k in
    let t = taken l.n l.i (length more) k.result l.invariant.1 c.loop-i-test.true k.ensures in
    let b = copied {h = l.h} l.buf c.copy_at.new.d l.n more l.i k.result l.invariant.0 t.0 t.1
    c.copy_at.ensures in
    (b.0, omega arith, t.1, λ m f. rw c.compress-h-then-n-eq64.ensures (block b.0 c.if-n-eq64.true (b.1 m (l.invariant.3 m f))))

pub loop-i-smaller : goal.loop-i-smaller
loop-i-smaller c =
    let l = c.loop-i in
    let more = c.args.more.now in
    let k = c.min-k in
    let t = taken l.n l.i (length more) k.result l.invariant.1 c.loop-i-test.true k.ensures in
    t.2

pub loop-i-preserved : goal.loop-i-preserved
loop-i-preserved c =
    let l = c.loop-i in
    let more = c.args.more.now in
    let k = c.min-k in
    let t = taken l.n l.i (length more) k.result l.invariant.1 c.loop-i-test.true k.ensures in
    let b = copied {h = l.h} l.buf c.copy_at.new.d l.n more l.i k.result l.invariant.0 t.0 t.1 c.copy_at.ensures in
    (b.0, lt_of_le-ne {i = l.n + k.result} {k = 64} t.0 c.if-n-eq64.false, t.1, λ m f. b.1 m (l.invariant.3 m f))

pub returns : goal.returns
returns c = λ m o.
    let l = c.loop-i in
    let s = c.args in
    held s.s m s.more.now l.i (omega arith) l.invariant.1 (l.invariant.3 m o.fed) o
