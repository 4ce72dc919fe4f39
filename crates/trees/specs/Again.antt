-- "reading a file again after appends gives the same run", and so of a walk and of a comparison: what an archive answered about a tree it answers again, on any log.
use Rattle.std.specs.Prelude.{◌≡◌, true, List, [], ℕ, length, Ok}
use Rattle.std.proofs.Math.Option.{Option}
use Rattle.bedrock.specs.Choice.{on}
use Rattle.buffer.specs.Bytes.{Bytes}
use Rattle.digits.specs.Number.{small}
use Rattle.sector_log.specs.LookUp.{lent_allowed}
use Rattle.sector_log.specs.Parts.{tape, Lent}
use Rattle.request.specs.Step.{step}
use Rattle.request.specs.declared.Session.{Session}
use Rattle.ledger.specs.History.{Item, AllOfBytes}
use Rattle.demands.specs.Instance.{archive}
use Rattle.promises.specs.Histories.{Keeps, afterwards}
use Rattle.file.specs.File.{extent_at, located}
use Rattle.file_laws.specs.Path.{Answers}
use Rattle.file_laws.specs.Bytes.{run_bytes}
use Rattle.walk.specs.Walk.{walk_of}
use Rattle.visit.specs.Visit.{walked}
use Rattle.comparison.specs.Differences.{differences_of}

-- the waiting part, as reading and walking are lent it: an empty one where none is
abbrev pub waiting_of : Lent → Bytes
waiting_of L = on L.waiting [] (λ w. w)

-- a file that answers at an offset answers there alike later: the same run, by its place in the log and the waiting part read as one, and by its bytes
abbrev pub ReadsAlike : Lent → Lent → Type 0
ReadsAlike L later =
    (page entry : Bytes) (offset : ℕ) → Answers (located L.log (waiting_of L) page entry offset)
    → let lent = lent_allowed (length L.log) (length (waiting_of L)) in
    (extent_at lent (tape later.log (waiting_of later)) page entry offset ≡ extent_at lent (tape L.log (waiting_of L)) page entry offset)
    × (run_bytes later.log (waiting_of later) page (located later.log (waiting_of later) page entry offset)
    ≡ run_bytes L.log (waiting_of L) page (located L.log (waiting_of L) page entry offset))

-- a walk that ends does so later with as many visits
abbrev pub WalksAlike : Lent → Lent → Type 0
WalksAlike L later = (score : Bytes) (allowance visits : ℕ)
    → walk_of L.log (waiting_of L) score allowance ≡ walked visits (Ok tt) → walk_of later.log (waiting_of later) score allowance ≡ walked visits (Ok tt)

-- a comparison that ends with number 0 does so later with the same count and units
abbrev pub ComparesAlike : Lent → Lent → Type 0
ComparesAlike L later = (x y : Bytes) (allowance : ℕ) → (differences_of L.log (waiting_of L) x y allowance).end ≡ Ok tt
    → differences_of later.log (waiting_of later) x y allowance ≡ differences_of L.log (waiting_of L) x y allowance

-- all four
pub record Alike (L later : Lent) : Type 0 where
  pub keeps : Keeps L later
  pub reads : ReadsAlike L later
  pub walks : WalksAlike L later
  pub compares : ComparesAlike L later

-- after any request, with any date or none, on any log; and after any list of requests
abbrev pub AfterOne : Type 0
AfterOne = (s : Session) (m : Bytes) (date : Option Bytes) (L : Lent) (buffer : Bytes) → small m ≡ true → Alike L (step s m date L buffer).lent

abbrev pub AfterAny : Type 0
AfterAny = (L : Lent) (past : List Session) (qs : List (Item archive)) → AllOfBytes archive qs → Alike L (afterwards L past qs)
