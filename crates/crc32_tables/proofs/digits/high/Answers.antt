use mathlib.Core.Path.{refl}
use Rattle.crc32_rule.specs.Crc32.{bit, bits}
use Rattle.crc32_tables.specs.Digits.{row}
use Rattle.crc32_tables.proofs.Rows.{by_steps}
use Rattle.crc32_tables.proofs.digits.high.Goals as goal

-- `crc32_tables::digits::high` meets its contract: its rows go by steps, by one computation over the 256 entries.
-- Assumes nothing.
pub returns : goal.returns
unfolding bit bits row
returns c = by_steps 0 15 _ refl refl
