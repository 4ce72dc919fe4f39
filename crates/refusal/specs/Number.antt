-- The number of each refusal, by the table "When the desk says no".
use Rattle.std.specs.Prelude.{ℕ, Some, None, Option as Optional}
use Rattle.refusal.specs.declared.Refusal.{Refusal}
use Rattle.refusal.specs.declared.Refusal.TheVariants.{Frame, Buffer, LogLength, Closed, MessageType, Body, NoHello, Hello, BlockType, DataLength, NotHeld, NotKnown}
use Rattle.refusal.specs.declared.Refusal.TheVariants.{OverCount, NoRoom, Clash, Entry, Offset, Pointers, Page, Nest, Spent, Pad, Allowance, Date, Card, Query}
use Rattle.sector_number.specs.declared.SectorNumber.{SectorNumber}

abbrev pub number_of : Refusal → ℕ
number_of Frame = 1
number_of Buffer = 2
number_of LogLength = 3
number_of Closed = 4
number_of MessageType = 5
number_of Body = 6
number_of NoHello = 7
number_of Hello = 8
number_of BlockType = 9
number_of DataLength = 10
number_of NotHeld = 11
number_of (NotKnown sector) = 12
number_of OverCount = 13
number_of NoRoom = 14
number_of Clash = 15
number_of Entry = 16
number_of Offset = 17
number_of Pointers = 18
number_of Page = 19
number_of Nest = 20
number_of Spent = 21
number_of Pad = 22
number_of Allowance = 23
number_of Date = 24
-- "Ill-formed cards are 25, ill-formed queries 26"
number_of Card = 25
number_of Query = 26

-- "Look-up's refusal 12 must also carry the first doubtful sector's number"; no other carries one
abbrev pub doubt_of : Refusal → Optional SectorNumber
doubt_of Frame = None
doubt_of Buffer = None
doubt_of LogLength = None
doubt_of Closed = None
doubt_of MessageType = None
doubt_of Body = None
doubt_of NoHello = None
doubt_of Hello = None
doubt_of BlockType = None
doubt_of DataLength = None
doubt_of NotHeld = None
doubt_of (NotKnown sector) = Some sector
doubt_of OverCount = None
doubt_of NoRoom = None
doubt_of Clash = None
doubt_of Entry = None
doubt_of Offset = None
doubt_of Pointers = None
doubt_of Page = None
doubt_of Nest = None
doubt_of Spent = None
doubt_of Pad = None
doubt_of Allowance = None
doubt_of Date = None
doubt_of Card = None
doubt_of Query = None

-- the sector that is told, 0 where none is
abbrev pub sector_at : Optional SectorNumber → ℕ
sector_at (Some sector) = sector.0
sector_at None = 0

abbrev pub told_sector : Refusal → ℕ
told_sector w = sector_at (doubt_of w)
