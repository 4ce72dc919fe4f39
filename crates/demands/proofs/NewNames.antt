-- A row that a request adds has a name, type and score, that no intact row has.
use mathlib.Core.Path.{ap}
use Prim.Native.Nat.{ℕ}
use Rattle.buffer.specs.Bytes.{Bytes}
use Rattle.block.specs.Block.{Row}
use Rattle.ledger.specs.Ledger.{intact}
use Rattle.ledger.specs.Named.{AddsNewNames}
use Rattle.demands.specs.Instance.{archive}
use Rattle.demands.proofs.First.{first-none_out}
use Rattle.demands.proofs.TellAdds.{tell-fits}

-- rows by their names: type and score
abbrev pub name_of : Row → ℕ × Bytes
name_of r = (r.kind, r.score)

pub adds-new-names : AddsNewNames archive name_of
adds-new-names L x s q r small-so e y m same =
    let f = tell-fits L x s q r small-so e in
    first-none_out r.kind r.score (intact archive L) f.alone y m (ap (λ (n : ℕ × Bytes). n.0) same) (ap (λ (n : ℕ × Bytes). n.1) same)
