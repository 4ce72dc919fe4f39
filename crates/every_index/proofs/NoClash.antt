-- Where intact rows of one type and score have the same bytes, no two sound blocks of the log clash: each is an intact row. So it is where no two rows have the
-- same type and score.
use mathlib.Core.Path.{◌≡◌, ap}
use mathlib.Core.List.{Memᴰ}
use mathlib.Core.Option.{some}
use Rattle.block.specs.Block.{Row}
use Rattle.sector_log.specs.Parts.{Lent, one_log}
use Rattle.hint.specs.Promises.{NoClash}
use Rattle.ledger.specs.Ledger.{intact}
use Rattle.ledger.specs.History.{Books}
use Rattle.ledger.specs.Reflects.{Reflects}
use Rattle.ledger.proofs.Intact.{intact_in}
use Rattle.ledger.proofs.Reflects.{sound-row}
use Rattle.demands.specs.Instance.{archive}
use Rattle.demands.proofs.Lawful.{lawful}
use Rattle.demands.proofs.NewNames.{name_of}
use Rattle.every_index.specs.EveryIndex.{Agreed}
use Rattle.every_index.proofs.Names.{OneOfAName}

-- intact rows of which no two have the same name have the same bytes where they have
pub one_agreed : (b : Books archive) → OneOfAName archive name_of b.ledger → Agreed b
one_agreed b O r x m n k s = ap (λ (y : Row). y.bytes) (O r x m n (λ i. (k i, s i)))

pub no_clash : (log : Lent) (b : Books archive) → Reflects archive log b.ledger → Agreed b → NoClash (one_log log)
no_clash log b R A x y p q k s = A x y (row x p) (row y q) k s
  where
    row : (r : Row) → archive.sound log r.first ≡ some r → Memᴰ r (intact archive b.ledger)
    row r e = let L = b.ledger in
        let t = sound-row archive lawful log L R r.first r e in intact_in archive L.changed L.rows r t.0 t.1
