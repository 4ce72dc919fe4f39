-- Every refusal but 12 tells of no doubt.
use mathlib.Core.Path.{◌≡◌, refl}
use mathlib.Core.List.{List, [], ◌∷◌}
use Prim.Native.Nat.{ℕ}
use types.Run.{OneOf, miss}
use denote.Enum.Declared.{tag_of as variant}
use Rattle.refusal.specs.declared.Refusal.{Refusal}
use Rattle.refusal.specs.declared.Refusal.TheVariants.{Frame, Buffer, LogLength, Closed, MessageType, Body, NoHello, Hello, BlockType, DataLength, NotHeld, NotKnown}
use Rattle.refusal.specs.declared.Refusal.TheVariants.{OverCount, NoRoom, Clash, Entry, Offset, Pointers, Page, Nest, Spent, Pad, Allowance, Date, Card, Query}
use Rattle.refusal.specs.Number.{doubt_of}
use Rattle.refusal.specs.contracts.Refusal.{the_type}
use Rattle.std.specs.Prelude.{None}

-- the places of all variants but the twelfth
abbrev pub others : List ℕ
others = 0 ∷ 1 ∷ 2 ∷ 3 ∷ 4 ∷ 5 ∷ 6 ∷ 7 ∷ 8 ∷ 9 ∷ 10 ∷ 12 ∷ 13 ∷ 14 ∷ 15 ∷ 16 ∷ 17 ∷ 18 ∷ 19 ∷ 20 ∷ 21 ∷ 22 ∷ 23 ∷ 24 ∷ 25 ∷ []

pub nowhere : (w : Refusal) → OneOf others (variant the_type w) → None ≡ doubt_of w
nowhere Frame k = refl
nowhere Buffer k = refl
nowhere LogLength k = refl
nowhere Closed k = refl
nowhere MessageType k = refl
nowhere Body k = refl
nowhere NoHello k = refl
nowhere Hello k = refl
nowhere BlockType k = refl
nowhere DataLength k = refl
nowhere NotHeld k = refl
nowhere (NotKnown sector) k = absurd (miss others 11 tt k)
nowhere OverCount k = refl
nowhere NoRoom k = refl
nowhere Clash k = refl
nowhere Entry k = refl
nowhere Offset k = refl
nowhere Pointers k = refl
nowhere Page k = refl
nowhere Nest k = refl
nowhere Spent k = refl
nowhere Pad k = refl
nowhere Allowance k = refl
nowhere Date k = refl
nowhere Card k = refl
nowhere Query k = refl
