-- A run of sectors passes the tests of a sound block exactly if it is, byte for byte, the image of a valid row at its place.
use mathlib.Core.Path.{◌≡◌, refl, sym, ap, ap₂, ◌∙◌}
use mathlib.Core.Bool.{true}
use mathlib.Core.List.{◌++◌}
use mathlib.Core.Option.{some}
use Prim.Native.Nat.{ℕ, ◌+◌, ◌-◌, ◌*◌, ◌≤◌, ◌<◌}
use native.Mathlib.Omega.{arith}
use lib.ListN.{length, get_or, take, drop, take-append-drop}
use lib.Seq.{ext_get_or, get_or-drop, take-add, length-take-le}
use Rattle.buffer.specs.Bytes.{Bytes}
use Rattle.hexadecimal.specs.Hex.{hex_value, read_bytes}
use Rattle.hexadecimal.proofs.HexLaws.{hex_value-hex, read_bytes-hex_bytes}
use Rattle.kind.specs.Kind.{sha1_of}
use Rattle.kind.proofs.ZeroScore.{digest_length, digest_bytes}
use Rattle.sector.specs.Sector.{dated_label, label_length, payload_of, date_field, behind, fits, filled, kind_field, size_field, score_field}
use Rattle.sector.proofs.Encode.{encode-whole, length-filled}
use Rattle.sector.proofs.Editions.{label-lengths, length-dated}
use Rattle.sector.proofs.Unfit.{fits-reads}
use Rattle.block.specs.Block.{Row, parts, label_at, row_label, image, valid}
use Rattle.block.specs.Log.{sectors, at, sound_as, sound}
use Rattle.block.proofs.Facts.{parts-bounds, Facts, valid_facts, facts_valid, parts_pos}
use Rattle.block.proofs.Image.{image-fits, image-date, image-label, image-kind, image-size, image-score}
use Rattle.block.proofs.Payloads.{zero-tail, filled_get_d, load, length-load, length-payloads, payloads_get_d, take-payloads, drop-payloads}
use Rattle.block.proofs.Passed.{parts_by, payloads_by, row_at, Passed, passed_as}
use Rattle.kind.proofs.Types.{lawful_lt}

-- the sectors from n on are the image of a valid row that starts there
abbrev pub Stands : Bytes → ℕ → Row → Type 0
Stands log n r = (valid r ≡ true) × (r.first ≡ n) × (n + parts r ≤ sectors (length log)) × ((k : ℕ) → k < parts r → at log (n + k) ≡ image r k)

-- what passes the tests stands there

module _ (log : Bytes) (n kind : ℕ) (score date : Bytes) (size : ℕ) (P : Passed log n kind score date size) where
  abbrev ℓ : ℕ
  ℓ = label_length date

  abbrev p : ℕ
  p = payload_of ℓ

  short : label_length date < 499
  short = omega (arith, label-lengths date P.dated)

  pos : 0 < payload_of (label_length date)
  pos = omega (arith, short)

  bytes : Bytes
  bytes = take size (payloads_by log n date size)

  row : Row
  row = row_at log n kind score date size

  length-bytes : length bytes ≡ size
  unfolding bytes
  length-bytes = length-take-le size (payloads_by log n date size) (omega (arith, length-payloads ℓ short log (parts_by date size) n, parts-bounds p pos size))

  length-score : length score ≡ 20
  length-score = ap length (sym P.scored) ∙ digest_length (take size (payloads_by log n date size))

  row-valid : valid row ≡ true
  unfolding row bytes
  row-valid = facts_valid row record {
    lawful-kind = P.lawful-kind;
    some_bytes = omega (arith, length-bytes, P.some_bytes);
    not_many = omega (arith, length-bytes, P.not_many);
    of-bytes = P.of-bytes;
    scored = sym P.scored;
    can_be_named = omega (arith, ap (parts_by date) length-bytes, P.can_be_named);
    dated = P.dated;
  }

  -- the payload of a sector is that part of the bytes, filled up with zeros
  load_is : (k : ℕ) → k < parts_by date size → load ℓ short log (n + k) ≡ filled p (drop (p * k) bytes)
  unfolding bytes
  load_is k h =
      ext_get_or 0 (load ℓ short log (n + k)) (filled p (drop (p * k) bytes)) (length-load ℓ short log (n + k) ∙ sym (length-filled p (drop (p * k) bytes)))
      (λ i lt. let g : i < p = omega (arith, length-load ℓ short log (n + k)) in
      sym (payloads_get_d ℓ short log (parts_by date size) n k i h g)
      ∙ ap (λ (x : Bytes). get_or x (p * k + i) 0) (sym (take-append-drop size (payloads_by log n date size)))
      ∙ zero-tail bytes (drop size (payloads_by log n date size)) (p * k + i) P.unused
      ∙ sym (filled_get_d p (drop (p * k) bytes) i g ∙ get_or-drop (p * k) bytes i 0))

  sector_is : (k : ℕ) → k < parts_by date size → at log (n + k) ≡ image row k
  unfolding row bytes image
  sector_is k h =
      let s = at log (n + k) in
      let e : take ℓ s ≡ row_label row k = P.labels k h ∙ ap (λ (m : ℕ). dated_label date (label_at (parts_by date m) n k kind m) score) (sym length-bytes) in
      let w : p ≡ 499 - length (row_label row k) = ap (λ (m : ℕ). 499 - m) (sym (length-dated date (label_at (parts_by date (length bytes)) n k kind (length bytes)) score length-score)) in
      let z : ℓ + p ≡ 499 = omega (arith, short) in
      encode-whole s (row_label row k) (drop (p * k) bytes) (fits-reads s (P.checks k h))
      (ap (λ (m : ℕ). take m s) (sym z) ∙ take-add ℓ p s ∙ ap₂ ◌++◌ e (load_is k h ∙ ap (λ (m : ℕ). filled m (drop (p * k) bytes)) w))

  pub passed_stands : Stands log n (row_at log n kind score date size)
  unfolding row bytes
  passed_stands =
      let e : parts row ≡ parts_by date size = ap (parts_by date) length-bytes in
      (row-valid, refl, omega (arith, P.in_log), λ k h. sector_is k (omega arith))

-- what stands there passes the tests

module _ (log : Bytes) (n : ℕ) (r : Row) (S : Stands log n r) where
  F : Facts r
  F = valid_facts r S.0

  pub first_sector : at log n ≡ image r 0
  first_sector =
      let m : n ≡ n + 0 = omega arith in
      ap (at log) m ∙ S.3 0 (parts_pos r S.0)

  pub date-here : date_field (at log n) ≡ r.date
  date-here = ap date_field first_sector ∙ image-date r 0 S.0

  size_is : size_field (behind (at log n)) ≡ length r.bytes
  size_is = ap (λ (s : Bytes). size_field (behind s)) first_sector ∙ ap hex_value (image-size r 0 S.0) ∙ hex_value-hex 4 (length r.bytes) (omega (arith, F.not_many))

  kind-is : kind_field (behind (at log n)) ≡ r.kind
  kind-is = ap (λ (s : Bytes). kind_field (behind s)) first_sector ∙ ap hex_value (image-kind r 0 S.0) ∙ hex_value-hex 2 r.kind (lawful_lt r.kind F.lawful-kind)

  score-is : score_field (behind (at log n)) ≡ r.score
  score-is =
      ap (λ (s : Bytes). score_field (behind s)) first_sector ∙ ap read_bytes (image-score r 0 S.0)
      ∙ read_bytes-hex_bytes r.score (rw F.scored (digest_bytes r.bytes))

  stands_passed : Passed log n r.kind r.score r.date (length r.bytes)
  stands_passed = record {
    dated = F.dated;
    some_bytes = F.some_bytes;
    not_many = F.not_many;
    lawful-kind = F.lawful-kind;
    in_log = S.2;
    can_be_named = omega (arith, F.can_be_named, S.1);
    labels = λ k h. ap (take (label_length r.date)) (S.3 k h) ∙ image-label r k S.0
        ∙ ap (λ (m : ℕ). dated_label r.date (label_at (parts r) m k r.kind (length r.bytes)) r.score) S.1;
    checks = λ k h. ap fits (S.3 k h) ∙ image-fits r k S.0;
    unused = drop-payloads log n r S.0 S.3;
    of-bytes = rw (take-payloads log n r S.0 S.3) F.of-bytes;
    scored = ap sha1_of (take-payloads log n r S.0 S.3) ∙ sym F.scored;
  }

  row_is : row_at log n r.kind r.score r.date (length r.bytes) ≡ r
  row_is = λ i. record { kind = r.kind; score = r.score; bytes = take-payloads log n r S.0 S.3 i; first = sym S.1 i; date = r.date }

  pub stands_as : sound_as log n r.kind r.score ≡ some r
  stands_as =
      passed_as log n r.kind r.score (rw (size_is, date-here) stands_passed)
      ∙ ap₂ (λ (d : Bytes) (m : ℕ). some (row_at log n r.kind r.score d m)) date-here size_is ∙ ap (λ (s : Row). some s) row_is

  pub stands-sound : sound log n ≡ some r
  unfolding sound
  stands-sound = ap₂ (sound_as log n) kind-is score-is ∙ stands_as
