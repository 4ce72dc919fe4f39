-- What a caller reads back: each claim of specs/Unpacked.antt.
use mathlib.Core.Path.{◌≡◌}
use native.Mathlib.Omega.{arith}
use Rattle.sector_log.specs.LookUp.{look_number}
use Rattle.hint.specs.Hint.{look_up_by_asked}
use Rattle.index_calls.specs.Hints.{SmallLook, look_result}
use Rattle.index_calls.specs.Unpacked as claims
use Rattle.results.specs.Unpacked.{number_in}
use Rattle.results.proofs.Numbers.{number-bounds}
use Rattle.index_calls.proofs.HintLaws.{asked-small}
use Rattle.std.specs.Prelude.{Ok, Err, Result}
use Rattle.block.specs.declared.Block.{Block}
use Rattle.refusal.specs.declared.Refusal.{Refusal}

look_parts : (l : Result Block Refusal) → SmallLook l
    → (number_in (look_result l) ≡ look_number l) × (claims.size_in (look_result l) ≡ claims.size_found l) × (claims.first_in (look_result l) ≡ claims.first_told l)
look_parts (Ok b) S = (omega arith, omega (arith, S.0), omega (arith, S.0))
look_parts (Err w) S = (omega (arith, (number-bounds w).1), omega (arith, (number-bounds w).1), omega (arith, (number-bounds w).1))

pub look_unpacks : claims.LookUnpacks
look_unpacks log waiting index t s = look_parts (look_up_by_asked log waiting index t s) (asked-small log waiting index t s)
