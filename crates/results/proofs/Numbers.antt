-- The numbers of refusals are 1 to 26: none is the 0 for no refusal, and each fits in 8 bits.
use Prim.Native.Nat.{◌≤◌}
use native.Mathlib.Omega.{arith}
use Rattle.refusal.specs.declared.Refusal.{Refusal}
use Rattle.refusal.specs.declared.Refusal.TheVariants.{Frame, Buffer, LogLength, Closed, MessageType, Body, NoHello, Hello, BlockType, DataLength, NotHeld, NotKnown}
use Rattle.refusal.specs.declared.Refusal.TheVariants.{OverCount, NoRoom, Clash, Entry, Offset, Pointers, Page, Nest, Spent, Pad, Allowance, Date, Card, Query}
use Rattle.refusal.specs.Number.{number_of}

pub number-bounds : (w : Refusal) → (1 ≤ number_of w) × (number_of w ≤ 26)
number-bounds Frame = (omega arith, omega arith)
number-bounds Buffer = (omega arith, omega arith)
number-bounds LogLength = (omega arith, omega arith)
number-bounds Closed = (omega arith, omega arith)
number-bounds MessageType = (omega arith, omega arith)
number-bounds Body = (omega arith, omega arith)
number-bounds NoHello = (omega arith, omega arith)
number-bounds Hello = (omega arith, omega arith)
number-bounds BlockType = (omega arith, omega arith)
number-bounds DataLength = (omega arith, omega arith)
number-bounds NotHeld = (omega arith, omega arith)
number-bounds (NotKnown sector) = (omega arith, omega arith)
number-bounds OverCount = (omega arith, omega arith)
number-bounds NoRoom = (omega arith, omega arith)
number-bounds Clash = (omega arith, omega arith)
number-bounds Entry = (omega arith, omega arith)
number-bounds Offset = (omega arith, omega arith)
number-bounds Pointers = (omega arith, omega arith)
number-bounds Page = (omega arith, omega arith)
number-bounds Nest = (omega arith, omega arith)
number-bounds Spent = (omega arith, omega arith)
number-bounds Pad = (omega arith, omega arith)
number-bounds Allowance = (omega arith, omega arith)
number-bounds Date = (omega arith, omega arith)
number-bounds Card = (omega arith, omega arith)
number-bounds Query = (omega arith, omega arith)
