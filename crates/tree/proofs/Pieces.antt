-- A piece of a block within one payload, and a buffer filled piece by piece.
use mathlib.Core.Path.{◌≡◌, refl, sym, ap, ap₂, ◌∙◌}
use mathlib.Core.List.{◌++◌}
use Prim.Native.Nat.{ℕ, ◌+◌, ◌-◌, ◌*◌, ◌/◌, ◌%◌, ◌≤◌, ◌<◌, min}
use native.Mathlib.Nat.{sub-zero, add-zero, zero-add, mod-lt, div-add-mod, add-mul-div_left, div-eq_of_lt}
use native.Mathlib.Omega.{arith}
use lib.ListN.{length, get_or, take, drop, replicate, length-take, length-drop, length-replicate, take-append-drop, drop_of_length-le}
use lib.Seq.{ext_get_or, get_or-take, get_or-drop, drop-drop, length-take-le}
use Rattle.buffer.specs.Bytes.{Bytes, put}
use Rattle.buffer.proofs.Put.{put_next, put_whole, put_mid_lem}
use Rattle.buffer.proofs.Put.{put-none as put-nothing}
use Rattle.sector.specs.Sector.{payload_of, filled}
use Rattle.sector.proofs.Encode.{length-filled}
use Rattle.block.specs.declared.Block.{Block}
use Rattle.block.specs.Block.{parts_in}
use Rattle.block.specs.Log.{at, payloads, bytes_of}
use Rattle.block.proofs.At.{length_at}
use Rattle.block.proofs.Facts.{part_of}
use Rattle.block.proofs.Payloads.{payloads_get_d}
use Rattle.reader.proofs.Pieces.{length-bytes}
use Rattle.tree.proofs.Filled.{filled_none, filled-front}

-- ---- one piece

pub least-bounds : (m x y z : ℕ) → m ≡ min x (min y z) → (m ≤ x) × (m ≤ y)
least-bounds m x y z e = (omega arith, omega arith)

-- i bytes further, within the same part of p bytes
module _ (p k i : ℕ) (pos : 0 < p) (h : k % p + i < p) where
  same_part : (k + i) / p ≡ k / p
  same_part =
      let e : k + i ≡ k % p + i + p * (k / p) = omega (arith, div-add-mod k p) in
      ap (λ (x : ℕ). x / p) e ∙ add-mul-div_left (k % p + i) (k / p) pos ∙ ap (λ (x : ℕ). x + k / p) (div-eq_of_lt h) ∙ zero-add (k / p)

  same_place : (k + i) % p ≡ k % p + i
  same_place =
      let e : p * ((k + i) / p) ≡ p * (k / p) = ap (λ (x : ℕ). p * x) same_part in
      omega (arith, e, div-add-mod k p, div-add-mod (k + i) p)

module _ (log : Bytes) (b : Block) (short : b.label < 499) (p : ℕ) (e : p ≡ payload_of b.label) where
  pos : 0 < p
  pos = omega arith

  -- byte k is in part k / p
  pub part_in : (k : ℕ) → k < b.size → k / p < parts_in b
  part_in k h = rw (← e) (part_of p pos k b.size h)

  -- it is byte k % p of the payload there
  pub byte_in : (k : ℕ) → k < b.size → get_or (bytes_of log b) k 0 ≡ get_or (at log (b.first.0 + k / p)) (b.label + k % p) 0
  byte_in k h =
      let z : k ≡ payload_of b.label * (k / p) + k % p = sym (div-add-mod k p) ∙ ap (λ (x : ℕ). x * (k / p) + k % p) e in
      let i : k % p < payload_of b.label = omega (arith, mod-lt k pos) in
      let s = at log (b.first.0 + k / p) in
      get_or-take b.size (payloads b.label log (parts_in b) b.first.0) k 0 h
      ∙ ap (λ (x : ℕ). get_or (payloads b.label log (parts_in b) b.first.0) x 0) z
      ∙ payloads_get_d b.label short log (parts_in b) b.first.0 (k / p) (k % p) (part_in k h) i
      ∙ get_or-take (payload_of b.label) (drop b.label s) (k % p) 0 i
      ∙ get_or-drop b.label s (k % p) 0

  -- the sector's bytes there are the block's
  pub piece-here : (k m : ℕ) (s : Bytes) → s ≡ at log (b.first.0 + k / p) → m ≤ p - k % p → m ≤ b.size - k → k < b.size
      → take (b.label + k % p + m - (b.label + k % p)) (drop (b.label + k % p) s) ≡ take m (drop k (bytes_of log b))
  piece-here k m s g u v h =
      let o = b.label + k % p in
      let bytes = bytes_of log b in
      let w : o + m - o ≡ m = omega arith in
      let ls : length s ≡ 512 = ap length g ∙ length_at log (b.first.0 + k / p) in
      let left : length (take m (drop o s)) ≡ m = length-take-le m (drop o s) (omega (arith, length-drop o s, mod-lt k pos)) in
      let rest : length (drop k bytes) ≡ b.size - k = length-drop k bytes ∙ ap (λ (x : ℕ). x - k) (length-bytes log b short) in
      let right : length (take m (drop k bytes)) ≡ m = length-take-le m (drop k bytes) (omega arith) in
      ap (λ (x : ℕ). take x (drop o s)) w
      ∙ ext_get_or 0 (take m (drop o s)) (take m (drop k bytes)) (left ∙ sym right)
      (λ i j. let lt : i < m = omega arith in
      let within : k % p + i < p = omega (arith, mod-lt k pos) in
      let q : (k + i) / p ≡ k / p = same_part p k i pos within in
      let r : b.label + (k + i) % p ≡ o + i = omega (arith, same_place p k i pos within) in
      get_or-take m (drop o s) i 0 lt ∙ get_or-drop o s i 0
      ∙ ap₂ (λ (x : Bytes) (y : ℕ). get_or x y 0) (g ∙ ap (λ (x : ℕ). at log (b.first.0 + x)) (sym q)) (sym r)
      ∙ sym (byte_in (k + i) (omega arith))
      ∙ sym (get_or-take m (drop k bytes) i 0 lt ∙ get_or-drop k bytes i 0))

-- ---- filled piece by piece

-- what is left to be filled in behind `done` bytes
abbrev pub Left : Bytes → ℕ → Bytes → Bytes → ℕ → Type 0
Left b from d₀ d done = put d done (filled (length d₀ - done) (drop (from + done) b)) ≡ filled (length d₀) (drop from b)

-- a piece p for place `done` of the buffer d: some bytes, which fit, and behind them is left what was
pub record Piece (b : Bytes) (from : ℕ) (d₀ d p : Bytes) (done : ℕ) : Type 0 where
  pub is_some : done < done + length p
  pub fits : done + length p ≤ length d
  pub behind : (d' : Bytes) → d' ≡ put d done p → Left b from d₀ d done → Left b from d₀ d' (done + length p)

module _ (b : Bytes) (from : ℕ) (d₀ : Bytes) where
  pub left-all : Left b from d₀ d₀ 0
  left-all =
      rw (sub-zero (length d₀), add-zero from) (put_whole d₀ (filled (length d₀) (drop from b)) (length-filled (length d₀) (drop from b)))

  pub left-none : (d : Bytes) (done : ℕ) → length d₀ ≤ done → Left b from d₀ d done → d ≡ filled (length d₀) (drop from b)
  unfolding filled
  left-none d done h f =
      let z : length d₀ - done ≡ 0 = omega arith in
      sym (ap (λ (n : ℕ). put d done (filled n (drop (from + done) b))) z ∙ put-nothing d done) ∙ f

  pub left-zeros : (d z : Bytes) (done : ℕ) → done ≤ length d → length d ≡ length d₀ → length b ≤ from + done
      → z ≡ replicate (length (take (length d - done) (drop done d))) 0 → Left b from d₀ d done
      → take done d ++ (z ++ drop (length d - done) (drop done d)) ≡ filled (length d₀) (drop from b)
  left-zeros d z done l e h q f =
      let k : length (take (length d - done) (drop done d)) ≡ length d - done = simp (length-take, length-drop) (omega arith) in
      let r : z ≡ replicate (length d - done) 0 = q ∙ ap (λ (x : ℕ). replicate x 0) k in
      let n : length z ≡ length d - done = ap length r ∙ length-replicate {A = ℕ} (length d - done) 0 in
      put_mid_lem d z done (length d) l n
      ∙ ap (put d done) (r ∙ ap (λ (x : ℕ). replicate (x - done) 0) e ∙ sym (filled_none (length d₀ - done))
      ∙ ap (filled (length d₀ - done)) (sym (drop_of_length-le b h)))
      ∙ f

  -- one piece p more, of m bytes
  module _ (d p : Bytes) (done m : ℕ) (l : done + m ≤ length d) (e : length d ≡ length d₀) (h : from + done + m ≤ length b) (q : p ≡ take m (drop (from + done) b)) where
    length-piece : length p ≡ m
    length-piece = ap length q ∙ length-take-le m (drop (from + done) b) (simp length-drop (omega arith))

    left-piece : (d' : Bytes) → d' ≡ put d done p → Left b from d₀ d done → Left b from d₀ d' (done + length p)
    left-piece d' g f =
        let x = drop (from + done) b in
        let w = length d₀ - done in
        let tail = drop (from + (done + length p)) b in
        let rest = filled (length d₀ - (done + length p)) tail in
        let front : p ≡ take (length p) x = q ∙ ap (λ (n : ℕ). take n x) (sym length-piece) in
        let o : from + done + length p ≡ from + (done + length p) = omega arith in
        let v : w - length p ≡ length d₀ - (done + length p) = omega arith in
        let behind : tail ≡ drop (length p) x = ap (λ (n : ℕ). drop n b) (sym o) ∙ sym (drop-drop (length p) (from + done) b) in
        let parts : p ++ tail ≡ x = ap₂ (λ (y z : Bytes). y ++ z) front behind ∙ take-append-drop (length p) x in
        let whole : p ++ rest ≡ filled w x =
        sym (ap (filled w) (sym parts) ∙ filled-front w p tail (omega (arith, length-piece)) ∙ ap (λ (n : ℕ). p ++ filled n tail) v) in
        ap (λ (y : Bytes). put y (done + length p) rest) g
        ∙ put_next d done (done + length p) p rest refl (omega (arith, length-piece, length-filled (length d₀ - (done + length p)) tail))
        ∙ ap (put d done) whole ∙ f

  -- one piece more, up to the end of its payload of w bytes, of the block or of the buffer
  module _ (w : ℕ) (pos : 0 < w) (d p : Bytes) (done : ℕ) (l : done < length d) (e : length d ≡ length d₀) (h : from + done < length b)
      (q : p ≡ take (min (w - (from + done) % w) (min (length b - (from + done)) (length d - done))) (drop (from + done) b)) where
    m : ℕ
    m = min (w - (from + done) % w) (min (length b - (from + done)) (length d - done))

    least-room : (x y z : ℕ) → 0 < x → 0 < y → 0 < z → (0 < min x (min y z)) × (min x (min y z) ≤ y) × (min x (min y z) ≤ z)
    least-room x y z f g i = (omega arith, omega arith, omega arith)

    some-room : (0 < m) × (m ≤ length b - (from + done)) × (m ≤ length d - done)
    unfolding m
    some-room = least-room (w - (from + done) % w) (length b - (from + done)) (length d - done) (omega (arith, mod-lt (from + done) pos)) (omega arith) (omega arith)

    long : length p ≡ m
    unfolding m
    long = length-piece d p done m (omega (arith, some-room.2)) e (omega (arith, some-room.1)) q

    pub piece : Piece b from d₀ d p done
    unfolding m
    piece = record {
      is_some = omega (arith, long, some-room.0);
      fits = omega (arith, long, some-room.2);
      behind = left-piece d p done m (omega (arith, some-room.2)) e (omega (arith, some-room.1)) q;
    }
