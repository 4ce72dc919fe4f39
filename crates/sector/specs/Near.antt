-- Damage to one sector: bytes that differ only within four neighbouring places.
use Rattle.std.specs.Prelude.{◌≡◌, true, false, ◌≢◌, length}
use Rattle.buffer.specs.Bytes.{Bytes, zeros}
use Rattle.digits.specs.Number.{small}
use Rattle.crc32_rule.specs.Burst.{ByteBurst}
use Rattle.sector.specs.Sector.{fits, blank, sector_length}

-- "differs only within four neighbouring bytes": t is of bytes, and as long as s, which it equals outside of four neighbouring places
pub record Near (s t : Bytes) : Type 0 where
  pub burst : ByteBurst s t
  pub of-bytes : small t ≡ true

-- a sector that fits its check, changed within four neighbouring bytes, no longer fits
abbrev pub NearShows : Type 0
NearShows = (s t : Bytes) → length s ≡ sector_length → small s ≡ true → fits s ≡ true → Near s t → t ≢ s → fits t ≡ false

-- nor does a blank one so changed
abbrev pub BlankNearShows : Type 0
BlankNearShows = (t : Bytes) → Near blank t → zeros t ≡ false → fits t ≡ false
