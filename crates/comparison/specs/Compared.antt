-- What a comparison answers: "the answer is number, count and units up to there".
use Rattle.std.specs.Prelude.{ℕ, zero, suc, ◌+◌, ◌-◌, Ok, Err, Result, ⊤}
use Rattle.refusal.specs.declared.Refusal.{Refusal}
use Rattle.comparison.specs.declared.Compared.{Compared}

-- the differences counted, the units spent, and how it ended
abbrev pub compared : ℕ → ℕ → Result ⊤ Refusal → Compared
compared m n e = record { count = m; units = n; end = e }

-- nothing counted, nothing spent
abbrev pub none : Compared
none = compared 0 0 (Ok tt)

-- refused before anything is counted or spent
abbrev pub refused : Refusal → Compared
refused w = compared 0 0 (Err w)

-- one unit more
abbrev pub one_unit : Compared → Compared
one_unit c = record { count = c.count; units = c.units + 1; end = c.end }

-- "The first refusal stops all": the end of a part, the count and the units up to there, and what goes on from them
abbrev pub and_then : Result ⊤ Refusal → ℕ → ℕ → (ℕ → ℕ → Compared) → Compared
and_then (Ok tt) m n next = next m n
and_then (Err w) m n next = compared m n (Err w)

-- k positions from i on, in order, each with what is left of the allowance when n units are spent; m differences were counted
unfoldable pub in_order : (ℕ → ℕ → Compared) → ℕ → ℕ → ℕ → ℕ → ℕ → Compared
in_order at left zero i m n = compared m n (Ok tt)
in_order at left (suc k) i m n =
    and_then (at i (left - n)).end (m + (at i (left - n)).count) (n + (at i (left - n)).units) (λ m n. in_order at left k (suc i) m n)
