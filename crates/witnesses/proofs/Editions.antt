-- A hello, a write without a date and one with a date, byte for byte: look-up finds a block of each edition.
use mathlib.Core.Path.{◌≡◌, refl, sym, ap, ◌∙◌}
use mathlib.Core.Bool.{true, true≢false}
use mathlib.Core.List.{[], ◌∷◌}
use mathlib.Core.Logic.{◌≢◌}
use mathlib.Core.Option.{none, some}
use Prim.Native.Nat.{ℕ}
use Rattle.buffer.specs.Bytes.{Bytes, same}
use Rattle.buffer.proofs.Bytes.{same_refl}
use Rattle.digits.specs.Number.{small}
use Rattle.sha1_digest.specs.Sha1.{sha1_of}
use Rattle.kind.specs.Kind.{lawful, zero_score}
use Rattle.sector.specs.Sector.{is_date}
use Rattle.block.specs.Block.{Row, parts_of}
use Rattle.sector_log.specs.LookUp.{held}
use Rattle.sector_log.specs.Parts.{one_log}
use Rattle.sector_log.specs.Store.{parts_for}
use Rattle.request.specs.declared.Session.{Session}
use Rattle.request.specs.declared.Session.TheVariants.{Greeted}
use Rattle.ledger.specs.Archive.{Effect, adds, Ruling}
use Rattle.ledger.specs.Ledger.{Ledger, empty, intact, end, note}
use Rattle.ledger.specs.History.{ruling}
use Rattle.ledger.specs.Events.{ask, books_then}
use Rattle.demands.specs.Ledger.{Extent, Answer, Decision, room_from, ruling_of, first_row, tell}
use Rattle.demands.specs.Instance.{archive}
use Rattle.events.specs.Events.{Past, log_then, ledger_then}
use Rattle.witnesses.specs.CanBe as claims
use Rattle.demands.proofs.TellAdds.{row_of}
use Rattle.promises.proofs.Moment.{held-row}
use Rattle.events.proofs.Events.{mirrors}
use Rattle.witnesses.proofs.Stored as first

-- a day, and the same letters as a block of type 1, with this date
day : Bytes
day = 0x32 ∷ 0x30 ∷ 0x32 ∷ 0x36 ∷ 0x31 ∷ 0x31 ∷ 0x31 ∷ 0x36 ∷ []

is-day : is_date day ≡ true
unfolding day is_date
is-day = refl

one-lawful : lawful 1 ≡ true
unfolding lawful
one-lawful = refl

two-parts : parts_for day first.letters ≡ 2
unfolding day first.letters parts_of
two-parts = refl

-- the log of four sectors, without a waiting part; the ledger after the first write
abbrev size : Extent
size = first.size none first.alone-allowed first.alone_fit

abbrev before : Past
before = first.two none first.alone-allowed first.alone_fit

abbrev undated : Ledger archive
undated = note archive size (adds first.stored) (empty archive)

is-undated : ledger_then before ≡ undated
is-undated = first.ledger-two none first.alone-allowed first.alone_fit

abbrev dated : Row
dated = row_of day 1 first.letters (end archive undated)

fits : room_from size undated.start (end archive undated) 2 ≡ true
unfolding room_from
fits = rw first.two-parts

-- the second write
adds-dated : (ruling archive (books_then archive before) (first.asked-put 1 (some day))).effect ≡ adds dated
unfolding first.two first.asked-put first_row
adds-dated =
    ap (λ (s : Session). (tell (ledger_then before).rows (ledger_then before).changed (ledger_then before).start size s (first.asked-put 1 (some day)).request).effect)
    (ap (λ (u : Ruling Answer Session Row). u.session) (first.greeted-ruling none first.alone-allowed first.alone_fit))
    ∙ ap (λ (L : Ledger archive). (tell L.rows L.changed L.start size Greeted (first.asked-put 1 (some day)).request).effect) is-undated
    ∙ ap (λ (d : Decision). (ruling_of Greeted (first.put 1) first.room d).effect)
    (first.put_decides none first.alone-allowed first.alone_fit 1 (some day) (intact archive undated) (end archive undated) undated.start one-lawful is-day refl two-parts fits)

put_small : small (first.put 1) ≡ true
unfolding first.put
put_small = refl

after : Past
unfolding first.asked-hello first.asked-put
after = record {
  size = first.lengths none;
  events = ask first.asked-hello ∷ ask (first.asked-put 13 none) ∷ ask (first.asked-put 1 (some day)) ∷ [];
  possible = (first.hello-small, (first.put_small, (put_small, tt)));
}

both : Ledger archive
both = note archive size (adds dated) undated

is-both : ledger_then after ≡ both
unfolding after both first.two
is-both =
    ap (λ (a : Effect Row). note archive size a (ledger_then before)) adds-dated
    ∙ ap (note archive size (adds dated)) is-undated

not-zero : sha1_of first.letters ≢ zero_score
not-zero e = true≢false (sym (same_refl zero_score) ∙ ap (λ (s : Bytes). same s zero_score) (sym e) ∙ first.other_score)

found : (t : ℕ) → held (one_log (log_then after)) t (sha1_of first.letters) ≡ first_row t (sha1_of first.letters) (intact archive both)
found t =
    held-row (log_then after) (ledger_then after) (mirrors after) t (sha1_of first.letters) not-zero
    ∙ ap (λ (L : Ledger archive). first_row t (sha1_of first.letters) (intact archive L)) is-both

pub both_editions_can_be : claims.BothEditionsCanBe
unfolding both first_row
both_editions_can_be = (
  after,
  first.stored,
  dated,
  found 13 ∙ rw (same_refl (sha1_of first.letters)),
  refl,
  not-zero,
  found 1 ∙ rw (same_refl (sha1_of first.letters)),
  is-day,
)
