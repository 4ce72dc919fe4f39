-- The archive as the ledger's theorem looks at it: its log with the waiting part, sectors and blocks, its step, and its ledger.
use Rattle.std.specs.Prelude.{◌≡◌, true, false, not, ◌++◌, ℕ, ◌+◌, ◌*◌, ◌%◌, eqb, length, replicate}
use Rattle.std.proofs.Math.Option.{Option, none, some}
use Rattle.bedrock.specs.Choice.{on}
use Rattle.buffer.specs.Bytes.{Bytes, same, zeros}
use Rattle.digits.specs.Number.{small}
use Rattle.kind.specs.Kind.{zero_score}
use Rattle.sector.specs.Sector.{fits, blank, sector_length}
use Rattle.sector.specs.Near.{Near}
use Rattle.block.specs.Block.{Row, parts, image, valid}
use Rattle.block.specs.Log.{sectors, at, used, sound}
use Rattle.sector_log.specs.Parts.{Lent, one_log, append_row, settled}
use Rattle.request.specs.Step.{step}
use Rattle.request.specs.declared.Session.{Session}
use Rattle.request.specs.declared.Session.TheVariants.{Fresh}
use Rattle.ledger.specs.Archive.{Archive, Seen}
use Rattle.demands.specs.Ledger.{Asked, Answer, Extent, room_from, tell}

-- the step of the archive, as it is seen: the answer, the session, the log and its waiting part. The request call's contract is `step_by`, whose outcome this is
-- with any index where no two sound blocks clash, and on any log with an empty one
abbrev pub served : Lent → Session → Asked → Seen Answer Session Lent
served L s q =
    let o = step s q.message q.date L q.buffer in
    record { answer = record { number = o.number; buffer = o.reply }; session = o.session; log = o.lent }

-- how much of it there is, if there is any
abbrev pub length_of : Option Bytes → Option ℕ
length_of o = on o none (λ w. some (length w))

-- "The waiting part begins all blank": of a length, or none
abbrev pub blank_part : Option ℕ → Option Bytes
blank_part o = on o none (λ m. some (replicate m 0))

-- what the ledger is told of what is lent
abbrev pub extent_of : Lent → Extent
extent_of L = record { size = length L.log; waiting = length_of L.waiting }

-- a log of any length, all zeros, with a blank waiting part of any length, or none
abbrev pub void : Extent → Lent
void x = record { log = replicate x.size 0; waiting = blank_part x.waiting }

-- what a stop leaves: "the log alone", lent on with any blank waiting part, or none
abbrev pub relent : Option ℕ → Lent → Lent
relent o L = record { log = L.log; waiting = blank_part o }

-- a log of whole sectors lent on with k more of them, all blank
unfoldable pub grown : ℕ → Bytes → Bytes
grown k log = log ++ replicate (sector_length * k) 0

abbrev pub archive : Archive
archive = record {
  Log = Lent;
  Extent = Extent;
  Sector = Bytes;
  extent = extent_of;
  sectors = λ x. sectors x.size;
  void = void;
  at = λ L. at (one_log L);
  blank = blank;
  is_blank = zeros;
  fits = fits;
  Near = Near;
  used = λ L. used (one_log L);
  waits = λ x. on x.waiting false (λ m. true);
  start = λ L. used L.log;
  settled = settled;
  Loan = Option ℕ;
  alone = relent;
  lent = λ o x. record { size = x.size; waiting = o };
  Growth = ℕ;
  grown = λ k L. record { log = grown k L.log; waiting = L.waiting };
  wider = λ k x. record { size = x.size + sector_length * k; waiting = x.waiting };
  growable = λ x. eqb (x.size % sector_length) 0;
  Row = Row;
  first = λ r. r.first;
  parts = parts;
  image = image;
  valid = valid;
  has_room = λ x e r. room_from x e r.first (parts r);
  owned = λ r. not (same r.score zero_score);
  sound = λ L. sound (one_log L);
  written = append_row;
  Request = Asked;
  Answer = Answer;
  Session = Session;
  OfBytes = λ q. small q.message ≡ true;
  fresh = Fresh;
  serve = served;
  tell = tell;
}
