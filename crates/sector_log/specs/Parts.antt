-- A log and the sectors that wait behind its used part, read as one log.
use Rattle.std.specs.Prelude.{Bool, true, ◌&&◌, ◌++◌, ℕ, ◌+◌, ◌-◌, ◌*◌, leb, length, take, drop, replicate}
use Rattle.std.proofs.Math.Option.{Option, none, some}
use Rattle.bedrock.specs.Choice.{on}
use Rattle.buffer.specs.Bytes.{Bytes, put}
use Rattle.block.specs.Block.{Row, parts, images, written}
use Rattle.block.specs.Log.{sectors, joined, used}
use Rattle.sector.specs.Sector.{sector_length}

-- "the log's used part and then the waiting part as one log": its sectors are numbered on from the end of the used part
abbrev pub tape : Bytes → Bytes → Bytes
tape log waiting = joined (used log) log waiting

-- a row written among the waiting sectors, which are numbered on from sector `from`
unfoldable pub written_from : ℕ → Bytes → Row → Bytes
written_from from waiting r =
    take (sector_length * (r.first - from)) waiting ++ (images r (parts r) 0 ++ drop (sector_length * (r.first - from + parts r)) waiting)

-- "moves them in order into the log": the log with the waiting part's used sectors right after its own
unfoldable pub moved : Bytes → Bytes → Bytes
moved log waiting = put log (sector_length * used log) (take (sector_length * used waiting) waiting)

-- what is lent as a log: the log and, from its first lending on, the waiting part
pub record Lent : Type 0 where
  pub log : Bytes
  pub waiting : Option Bytes

-- a log for which no waiting part is lent, as the first requests of a history may come; and one with its waiting part
abbrev pub alone : Bytes → Lent
alone log = record { log = log; waiting = none }

abbrev pub beside : Bytes → Bytes → Lent
beside log waiting = record { log = log; waiting = some waiting }

-- "Look-up, soundness and doubt take the log's used part and then the waiting part as one log"
abbrev pub one_log : Lent → Bytes
one_log L = on L.waiting L.log (tape L.log)

-- "A block gets 14 exactly when the log has too few sectors beyond the used ones of both parts, or the waiting part has too few blank
-- ones left": the contrary, for a block of k sectors
unfoldable pub room_for : Lent → ℕ → Bool
room_for L k =
    on L.waiting (leb (used L.log + k) (sectors (length L.log)))
    (λ w. leb (used L.log + used w + k) (sectors (length L.log)) && leb (used w + k) (sectors (length w)))

-- "a write appends there": among the waiting sectors; to the log itself where no waiting part is lent
unfoldable pub append_row : Lent → Row → Lent
append_row L r = on L.waiting (alone (written L.log r)) (λ w. beside L.log (written_from (used L.log) w r))

-- whether the sectors that wait fit into the log
unfoldable pub can_settle : Lent → Bool
can_settle L = on L.waiting true (λ w. leb (used L.log + used w) (sectors (length L.log)))

-- "sync ... moves them in order into the log" and "leaves the waiting part all blank"
unfoldable pub settled : Lent → Lent
settled L = on L.waiting L (λ w. beside (moved L.log w) (replicate (length w) 0))
