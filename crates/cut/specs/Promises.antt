-- What is promised of cutting and padding.
use Rattle.std.specs.Prelude.{◌≡◌, Ok, ◌++◌, ℕ, ◌-◌, ◌/◌, ◌≤◌, length, take, drop}
use Rattle.buffer.specs.Bytes.{Bytes}
use Rattle.cut.specs.Cut.{unit_of, repeat, cut_of}
use Rattle.cut.specs.Pad.{after_pad, pad_of}

-- "keeps the shortest beginning whose rest is all zero bytes; for pointer types, whose rest is all zero scores": the rest is all units,
abbrev pub CutRestIsUnits : Type 0
CutRestIsUnits = (kind : ℕ) (b : Bytes) (n : ℕ) → cut_of kind b ≡ Ok n → b ≡ take n b ++ repeat (unit_of kind) ((length b - n) / length (unit_of kind))

-- and no shorter beginning has such a rest
abbrev pub CutKeepsShortest : Type 0
CutKeepsShortest = (kind : ℕ) (b : Bytes) (n : ℕ) → cut_of kind b ≡ Ok n → (m j : ℕ) → m ≤ length b → drop m b ≡ repeat (unit_of kind) j → n ≤ m

-- "cutting zeros and padding back gives the old bytes": in any buffer whose front is what was kept, and that is long enough; behind them it stays
abbrev pub CutThenPad : Type 0
CutThenPad = (kind : ℕ) (b : Bytes) (n : ℕ) → cut_of kind b ≡ Ok n
    → (d : Bytes) → length b ≤ length d → take n d ≡ take n b → pad_of kind d n (length b) ≡ after_pad (Ok tt) (b ++ drop (length b) d)

-- "padding, then cutting, gives what cutting alone gives"
abbrev pub PadThenCut : Type 0
PadThenCut = (kind : ℕ) (d : Bytes) (len target : ℕ) (x : Bytes) → pad_of kind d len target ≡ after_pad (Ok tt) x → cut_of kind (take target x) ≡ cut_of kind (take len d)
