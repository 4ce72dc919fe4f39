-- The tests before the card is read, one after the other.
use mathlib.Core.Path.{◌≡◌, refl, sym, ◌∙◌}
use mathlib.Core.Bool.{Bool, true, false}
use Prim.Native.Nat.{◌≤◌, ◌<◌}
use borrow.Author.Tests.{le-leb, lt-leb}
use lib.ListN.{length}
use Rattle.std.specs.Prelude.{Result, Err}
use Rattle.buffer.specs.Bytes.{Bytes}
use Rattle.kleene.specs.declared.Value.{Value}
use Rattle.refusal.specs.declared.Refusal.{Refusal}
use Rattle.refusal.specs.declared.Refusal.TheVariants as why
use Rattle.sector_log.specs.LookUp.{lent_allowed}
use Rattle.entry.specs.declared.Entry.{Entry}
use Rattle.entry.specs.Entry.{entry_of}
use Rattle.file.specs.File.{page_allowed, entry_readable}
use Rattle.card_answer.specs.CardAnswer.{once_read}
use Rattle.search.specs.Search.{longest_card, card_of, search_of}

module _ (log waiting page entry query : Bytes) (a : Bool) (ea : a ≡ lent_allowed (length log) (length waiting)) where
  pub search_log : a ≡ false → Err why.LogLength ≡ search_of log waiting page entry query
  unfolding search_of
  search_log q = rw (sym ea ∙ q)

  module _ (ta : a ≡ true) (g : Bool) (eg : g ≡ page_allowed page) where
    pub search_page : g ≡ false → Err why.Page ≡ search_of log waiting page entry query
    unfolding search_of
    search_page q = rw (sym ea ∙ ta, sym eg ∙ q)

    module _ (tg : g ≡ true) (r : Bool) (er : r ≡ entry_readable entry) where
      pub search_entry : r ≡ false → Err why.Entry ≡ search_of log waiting page entry query
      unfolding search_of
      search_entry q = rw (sym ea ∙ ta, sym eg ∙ tg, sym er ∙ q)

      module _ (tr : r ≡ true) (e : Entry) (ee : e ≡ entry_of entry) where
        pub search_long : longest_card < e.size → Err why.Card ≡ search_of log waiting page entry query
        unfolding search_of
        search_long h = rw (sym ea ∙ ta, sym eg ∙ tg, sym er ∙ tr, ← ee, lt-leb e.size longest_card h)

        pub search_reads : e.size ≤ longest_card → (x : Result Value Refusal) → x ≡ once_read (card_of log waiting entry).stop (card_of log waiting entry).bytes query → x ≡ search_of log waiting page entry query
        unfolding search_of
        search_reads h x f = f ∙ sym (rw (sym ea ∙ ta, sym eg ∙ tg, sym er ∙ tr, ← ee, le-leb e.size longest_card h) refl)
