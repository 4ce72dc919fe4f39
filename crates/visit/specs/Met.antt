-- What one visit hands back in the program: the visits spent on it, and a place in the log or a reason.
use Rattle.std.specs.Prelude.{cond, ℕ, eqb, ltb, Ok, Err, Result, ⊤}
use Rattle.buffer.specs.Bytes.{Bytes}
use Rattle.refusal.specs.declared.Refusal.TheVariants.{Nest, Spent}
use Rattle.sector_log.specs.LookUp.{look_up, counted}
use Rattle.visit.specs.declared.Walked.{Walked}
use Rattle.visit.specs.declared.Met.{Met}
use Rattle.block.specs.declared.Block.{Block}
use Rattle.refusal.specs.declared.Refusal.{Refusal}

abbrev pub met : ℕ → Result Block Refusal → Met
met n l = record { spent = n; look = l }

unfoldable pub met_of : Bytes → ℕ → ℕ → ℕ → ℕ → Bytes → Met
met_of log nest left kind count score =
    cond (ltb 16 nest) (met 0 (Err Nest)) (cond (eqb left 0) (met 0 (Err Spent)) (met 1 (counted count (look_up log kind score))))

-- how a walk ends that ends with a look-up
abbrev pub end_of : Result Block Refusal → Result ⊤ Refusal
end_of (Ok b) = (Ok tt)
end_of (Err why) = Err why

abbrev pub answer_of : Met → Walked
answer_of m = record { visits = m.spent; end = end_of m.look }
