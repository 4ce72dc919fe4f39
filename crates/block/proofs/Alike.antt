-- A log is what its sectors are: where two have the same, blank ones behind them or not, the used part, the payloads and the sound blocks are the same.
use mathlib.Core.Path.{◌≡◌, refl, sym, ap, ap₂, ◌∙◌}
use mathlib.Core.List.{◌++◌}
use mathlib.Core.Option.{Option, none, some}
use Prim.Native.Nat.{ℕ, zero, suc, ◌+◌, ◌≤◌}
use native.Mathlib.Nat.{le_antisymm}
use native.Mathlib.Omega.{arith}
use lib.ListN.{take, drop}
use Rattle.buffer.specs.Bytes.{Bytes, zeros}
use Rattle.sector.specs.Sector.{payload_of}
use Rattle.block.specs.Block.{Row, parts, parts_in}
use Rattle.block.specs.declared.Block.{Block}
use Rattle.block.specs.Log.{at, Alike, used, payloads, bytes_of, sound}
use Rattle.block.proofs.Used.{used_le, used_le_sectors, blank-past}
use Rattle.block.proofs.Sound.{sound-reads, sound_finds}
use Rattle.block.proofs.Apart.{sound-used}

used-one : (a b : Bytes) → Alike a b → used a ≤ used b
used-one a b f = used_le a (used b) (λ n h. ap zeros (f n) ∙ blank-past b n h)

pub used-alike : (a b : Bytes) → Alike a b → used a ≡ used b
used-alike a b f = le_antisymm (used-one a b f) (used-one b a (λ n. sym (f n)))

pub payloads-alike : (label : ℕ) (a b : Bytes) → Alike a b → (k n : ℕ) → payloads label a k n ≡ payloads label b k n
unfolding payloads
payloads-alike label a b f zero n = refl
payloads-alike label a b f (suc k) n = ap₂ (λ (x y : Bytes). take (payload_of label) (drop label x) ++ y) (f n) (payloads-alike label a b f k (suc n))

pub bytes-alike : (a b : Bytes) → Alike a b → (x : Block) → bytes_of a x ≡ bytes_of b x
bytes-alike a b f x = ap (take x.size) (payloads-alike x.label a b f (parts_in x) x.first.0)

sound-one : (a b : Bytes) → Alike a b → (n : ℕ) (r : Row) → sound a n ≡ some r → sound b n ≡ some r
sound-one a b f n r e =
    let p = sound-reads a n r e in
    let here : r.first ≡ n = p.1 in
    let room : n + parts r ≤ used a = sound-used a n r e in
    ap (sound b) (sym here)
    ∙ sound_finds b r p.0 (omega (arith, used-one a b f, used_le_sectors b))
    (λ k h. ap (λ (m : ℕ). at b (m + k)) here ∙ sym (f (n + k)) ∙ p.3 k h)

pub sound-alike : (a b : Bytes) → Alike a b → (n : ℕ) → sound a n ≡ sound b n
sound-alike a b f n = go (sound a n) (sound b n) refl refl
  where
    go : (x y : Option Row) → sound a n ≡ x → sound b n ≡ y → x ≡ y
    go (some r) y p q = sym (sound-one a b f n r p) ∙ q
    go none none p q = refl
    go none (some r) p q = sym p ∙ sound-one b a (λ m. sym (f m)) n r q
