-- A stored run is bytes of the leaf: up to the end of a payload the log holds a block's bytes side by side.
use mathlib.Core.Path.{◌≡◌, sym, ap, ◌∙◌}
use mathlib.Core.Option.{some}
use Prim.Native.Nat.{ℕ, ◌+◌, ◌-◌, ◌%◌, ◌≤◌, ◌<◌}
use native.Mathlib.Nat.{mod-lt}
use native.Mathlib.Omega.{arith}
use lib.ListN.{length, take, drop, get_or, length-take, length-drop}
use lib.Seq.{ext_get_or, get_or-take, get_or-drop}
use Rattle.buffer.specs.Bytes.{Bytes}
use Rattle.block.specs.declared.Block.{Block}
use Rattle.block.specs.Block.{Row, payload, place_of}
use Rattle.sector_log.specs.LookUp.{held}
use Rattle.leaf.specs.Leaf.{payload_in, place_in}
use Rattle.lookup.proofs.Held.{held-stands}
use Rattle.leaf.proofs.Places.{place-within, byte-place}
use Rattle.fill.proofs.Leaf.{same-leaf}

-- i bytes on, in the same payload
next_place : (b : Block) (k i : ℕ) → k % payload_in b + i < payload_in b → place_in b (k + i) ≡ place_in b k + i
next_place b k i h =
    let s = same-leaf (payload_in b) k i (omega arith) h in
    omega (arith, s.0, s.1)

-- a log that is long enough for m bytes at a place, of which each is the block's
pub stored_bytes : (log : Bytes) (t : ℕ) (s : Bytes) (r : Row) → held log t s ≡ some r
    → (k m : ℕ) → 0 < m → m ≤ payload r - k % payload r → k + m ≤ length r.bytes
    → take m (drop (place_in (place_of r) k) log) ≡ take m (drop k r.bytes)
stored_bytes log t s r e k m pos a b =
    let P = held-stands log t s r e in
    let g = place_of r in
    let n = place_in g k in
    let last : n + (m - 1) < length log = rw (← next_place g k (m - 1) (omega arith)) (place-within log g P.within (k + (m - 1)) (omega arith)) in
    let left : length (take m (drop n log)) ≡ m = simp (length-take, length-drop) (omega arith) in
    let right : length (take m (drop k r.bytes)) ≡ m = simp (length-take, length-drop) (omega arith) in
    ext_get_or 0 (take m (drop n log)) (take m (drop k r.bytes)) (left ∙ sym right)
    (λ i h. let lt : i < m = omega arith in
    let o : k + i < length r.bytes = omega arith in
    let p : k % payload r + i < payload r = omega arith in
    get_or-take m (drop n log) i 0 lt ∙ get_or-drop n log i 0
    ∙ ap (λ (x : ℕ). get_or log x 0) (sym (next_place g k i p))
    ∙ sym (byte-place log g P.within (k + i) o)
    ∙ ap (λ (x : Bytes). get_or x (k + i) 0) (sym P.bytes-there)
    ∙ sym (get_or-take m (drop k r.bytes) i 0 lt ∙ get_or-drop k r.bytes i 0))

-- the payload has room behind any byte of it
pub room-left : (log : Bytes) (t : ℕ) (s : Bytes) (r : Row) → held log t s ≡ some r → (k : ℕ) → 0 < payload r - k % payload r
room-left log t s r e k =
    let pos : 0 < payload r = omega (arith, (held-stands log t s r e).within.1) in
    omega (arith, mod-lt k pos)
