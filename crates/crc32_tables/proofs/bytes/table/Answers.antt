use mathlib.Core.Path.{refl}
use Rattle.crc32_rule.specs.Crc32.{bit, bits, entries, table}
use Rattle.crc32_tables.proofs.bytes.table.Goals as goal

-- `crc32_tables::bytes::table` meets its contract: the table is what the bitwise rule gives, by one computation over its 256 entries.
-- Assumes nothing.
pub returns : goal.returns
unfolding bit bits entries table
returns c = refl
