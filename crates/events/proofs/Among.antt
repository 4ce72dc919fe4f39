-- A history of demand 3 as events: requests, one damage, requests.
use mathlib.Core.Path.{◌≡◌, sym, ap, subst, ◌∙◌}
use mathlib.Core.List.{List, ◌∷◌, ◌++◌, map}
use Rattle.block.specs.Log.{at}
use Rattle.sector_log.specs.Parts.{one_log}
use Rattle.ledger.specs.Trace.{trace, Along}
use Rattle.ledger.specs.History.{Standing, Books, blank-log, blank_books, harmed, harmed_books, first-log, first_books}
use Rattle.ledger.specs.Events.{Event, ask, harm, happen, recount_event, Possible}
use Rattle.ledger.proofs.Trace.{along_append, left-append}
use Rattle.ledger.proofs.Harm.{damage_zeroing}
use Rattle.ledger.proofs.Asks.{happen-left, recount-left, possible-asks}
use Rattle.ledger.proofs.After.{none-waits-first, zeroing_first}
use Rattle.demands.specs.Instance.{archive}
use Rattle.promises.specs.Histories.{History, log_of, ledger_of}
use Rattle.events.specs.Events as claims
use Rattle.events.specs.Events.{Past, log_then, ledger_then}
use Rattle.demands.proofs.Lawful.{lawful}

module _ (h : History) where
  abbrev after : List (Event archive)
  after = harm h.changed h.hurt ∷ map ask h.later

  may : Possible archive (first_books archive h.size h.before) (harm h.changed h.hurt)
  may =
      let clean = at (one_log (first-log archive h.size h.before).log) in (
        none-waits-first archive lawful h.size h.before h.before-of-bytes h.rests,
        zeroing_first archive lawful h.size h.before h.before-of-bytes h.changed h.hurt (damage_zeroing archive lawful clean h.size h.changed h.hurt h.damage),
      )

  pub events-of : Past
  events-of = record {
    size = h.size;
    events = map ask h.before ++ after;
    possible = along_append (recount_event archive) (Possible archive) (blank_books archive h.size) (map ask h.before) after
        (possible-asks archive (blank_books archive h.size) h.before h.before-of-bytes)
        (subst (λ (m : Books archive). Along (Possible archive) (recount_event archive) m after) (sym (recount-left archive (blank_books archive h.size) h.before))
        (may, possible-asks archive (harmed_books archive h.changed h.hurt (first_books archive h.size h.before)) h.later h.later-of-bytes));
  }

  same_log : log_then events-of ≡ log_of h
  unfolding events-of
  same_log =
      ap (λ (s : Standing archive). s.log)
      (left-append (happen archive) (blank-log archive h.size) (map ask h.before) after
      ∙ ap (λ (s : Standing archive). (trace (happen archive) s after).left) (happen-left archive (blank-log archive h.size) h.before)
      ∙ happen-left archive (harmed archive h.hurt (first-log archive h.size h.before)) h.later)

  same-ledger : ledger_then events-of ≡ ledger_of h
  unfolding events-of
  same-ledger =
      ap (λ (b : Books archive). b.ledger)
      (left-append (recount_event archive) (blank_books archive h.size) (map ask h.before) after
      ∙ ap (λ (b : Books archive). (trace (recount_event archive) b after).left) (recount-left archive (blank_books archive h.size) h.before)
      ∙ recount-left archive (harmed_books archive h.changed h.hurt (first_books archive h.size h.before)) h.later)

pub histories_are_among : claims.HistoriesAreAmong
histories_are_among h = (events-of h, same_log h, same-ledger h)
