-- "eight decimal digits": which dates are lawful, at the borders.
use Rattle.std.specs.Prelude.{◌≡◌, true, false, [], ◌∷◌, replicate}
use Rattle.std.proofs.Math.Option.{none, some}
use Rattle.sector.specs.Sector.{is_date, label_length, payload_of}
use Rattle.request.specs.Step.{date_allowed}

pub record Dates : Type 0 where
  -- 00000000, 99999999 and 20240230: no calendar
  pub zeros : is_date (replicate 8 0x30) ≡ true
  pub nines : is_date (replicate 8 0x39) ≡ true
  pub no_day : is_date (0x32 ∷ 0x30 ∷ 0x32 ∷ 0x34 ∷ 0x30 ∷ 0x32 ∷ 0x33 ∷ 0x30 ∷ []) ≡ true
  -- seven digits, nine, none
  pub seven : is_date (replicate 7 0x30) ≡ false
  pub nine : is_date (replicate 9 0x30) ≡ false
  pub nothing : is_date [] ≡ false
  -- the bytes before 0 and behind 9, as the first digit and as the last
  pub low : is_date (0x2f ∷ replicate 7 0x30) ≡ false
  pub high : is_date (0x3a ∷ replicate 7 0x30) ≡ false
  pub low-last : is_date (0x30 ∷ 0x30 ∷ 0x30 ∷ 0x30 ∷ 0x30 ∷ 0x30 ∷ 0x30 ∷ 0x2f ∷ []) ≡ false
  pub high-last : is_date (0x30 ∷ 0x30 ∷ 0x30 ∷ 0x30 ∷ 0x30 ∷ 0x30 ∷ 0x30 ∷ 0x3a ∷ []) ≡ false
  -- a request of the first edition has no date, and one that lends nothing as its date is refused
  pub without : date_allowed none ≡ true
  pub empty : date_allowed (some []) ≡ false
  -- "so its label is 110 bytes and its payload 389"; 96 and 403 before
  pub label : label_length (replicate 8 0x30) ≡ 110
  pub payload : payload_of (label_length (replicate 8 0x30)) ≡ 389
  pub first-label : label_length [] ≡ 96
  pub first-payload : payload_of (label_length []) ≡ 403
