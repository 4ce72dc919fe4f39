use mathlib.Core.Path.{◌≡◌, ◌∙◌}
use mathlib.Core.List.{◌++◌}
use Prim.Native.Nat.{◌-◌, ◌+◌}
use native.Mathlib.Omega.{arith}
use lib.ListN.{length-take}
use Rattle.sha1_digest.specs.Sha1.{zeros_of, padded_message}
use Rattle.sha1_digest.proofs.Pad.{marked, mark, pad_is, ended}
use Rattle.sha1_digest.proofs.finish.Goals as goal

pub slice_bounds-absorb-end : goal.slice_bounds-absorb-end
slice_bounds-absorb-end c = simp length-take (omega arith)

pub returns : goal.returns
returns c = λ m f.
    let len = c.args.s.len in
    let bits = c.be64-bits in
    let held = c.absorb-u.ensures _ (c.absorb-t.ensures m f) in
    let p : m ++ marked (zeros_of len) ++ bits.result ≡ padded_message m = rw bits.ensures (pad_is m (marked (zeros_of len)) len f.count (mark (zeros_of len) (omega arith))) in
    c.digest_bytes.ensures ∙ ended c.absorb-u.result m (rw p at held)
