-- What holds of every history: the log reflects the ledger, and the ledger before and after the damage.
use mathlib.Core.Path.{◌≡◌}
use mathlib.Core.List.{[]}
use Rattle.ledger.specs.Ledger.{Ledger, told}
use Rattle.ledger.specs.Reflects.{Reflects, Waits}
use Rattle.ledger.specs.History.{Books, blank_books, harmed_books, first_books}
use Rattle.ledger.proofs.Lists.{Stands, changed-after}
use Rattle.ledger.proofs.After.{extent-first, reflects_clean, stands-hurt, second_list}
use Rattle.demands.specs.Instance.{extent_of, archive}
use Rattle.promises.specs.Histories.{History, clean_log, at_damage, log_of, ledger_of, Reflected, Keeps}
use Rattle.demands.proofs.Lawful.{lawful}
use Rattle.promises.proofs.Lost.{Single, single_after, single_empty}
use Rattle.promises.proofs.Keeps.{list_keeps}

pub reflected : Reflected
reflected h = (second_list archive lawful h.size h.before h.before-of-bytes h.changed h.hurt h.damage h.later h.later-of-bytes).left.mirrors

pub waiting_none : (h : History) → Waits archive (log_of h) (ledger_of h)
waiting_none h = (second_list archive lawful h.size h.before h.before-of-bytes h.changed h.hurt h.damage h.later h.later-of-bytes).left.waiting

module _ (h : History) where
  -- the books when the damage has been told
  abbrev pub told_books : Books archive
  told_books = harmed_books archive h.changed h.hurt (first_books archive h.size h.before)

  pub stands-told : Stands archive (at_damage h) told_books
  stands-told = stands-hurt archive lawful h.size h.before h.before-of-bytes h.changed h.hurt h.damage

  pub changed-of : (ledger_of h).changed ≡ h.changed
  changed-of = (changed-after archive told_books h.later h.later-of-bytes).0

  -- before the damage
  abbrev pub clean_ledger : Ledger archive
  clean_ledger = (first_books archive h.size h.before).ledger

  pub clean : Reflects archive (clean_log h) (told archive [] clean_ledger)
  clean = reflects_clean archive lawful h.size h.before h.before-of-bytes

  pub clean_single : Single clean_ledger
  clean_single = single_after (blank_books archive h.size) h.before h.before-of-bytes single_empty

  pub length_clean : extent_of (clean_log h) ≡ h.size
  length_clean = extent-first archive lawful h.size h.before h.before-of-bytes

  -- the requests after the damage hide nothing that look-up finds
  pub later-keeps : Keeps h.hurt (log_of h)
  later-keeps = list_keeps (at_damage h) h.later h.later-of-bytes
