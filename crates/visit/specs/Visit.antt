-- One visit of "Walking from a root score", by look-up's definition.
use Rattle.std.specs.Prelude.{cond, ℕ, ◌+◌, eqb, ltb, length, Ok, Err, Result, ⊤}
use Rattle.bedrock.specs.Choice.{on}
use Rattle.buffer.specs.Bytes.{Bytes}
use Rattle.refusal.specs.declared.Refusal.TheVariants.{OverCount, Nest, Spent}
use Rattle.refusal.specs.Number.{number_of}
use Rattle.sector_log.specs.LookUp.{held, absence}
use Rattle.visit.specs.declared.Walked.{Walked}
use Rattle.refusal.specs.declared.Refusal.{Refusal}

-- "The answer is the number and the visits spent"
abbrev pub walked : ℕ → Result ⊤ Refusal → Walked
walked n e = record { visits = n; end = e }

-- the number of an end, 0 for none
abbrev pub end_number : Result ⊤ Refusal → ℕ
end_number (Ok tt) = 0
end_number (Err why) = number_of why

-- one visit more
abbrev pub more : Walked → Walked
more w = record { visits = w.visits + 1; end = w.end }

-- "A visit refuses 20, then 21, then spends one, then looks up" (count: 13); what goes on has the block's bytes
unfoldable pub visiting : Bytes → ℕ → ℕ → ℕ → ℕ → Bytes → (Bytes → Walked) → Walked
visiting log nest left kind count score next =
    cond (ltb 16 nest) (walked 0 (Err Nest))
    (cond (eqb left 0) (walked 0 (Err Spent))
    (on (held log kind score) (walked 1 (Err (absence log)))
    (λ r. cond (ltb count (length r.bytes)) (walked 1 (Err OverCount)) (more (next r.bytes)))))
