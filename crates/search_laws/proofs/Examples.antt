-- The examples: computed, and by the law of unreadable cards.
use mathlib.Core.Path.{◌≡◌, refl}
use mathlib.Core.Bool.{true, false}
use mathlib.Core.List.{map}
use native.Mathlib.Omega.{arith}
use lib.ListN.{length}
use Rattle.std.specs.Prelude.{Err}
use Rattle.digits.specs.Number.{digits, value_from}
use Rattle.buffer.specs.Bytes.{Bytes}
use Rattle.refusal.specs.declared.Refusal.{Refusal}
use Rattle.refusal.specs.declared.Refusal.TheVariants as why
use Rattle.sector_log.specs.LookUp.{lent_allowed}
use Rattle.entry.specs.Entry.{entry_of, well_formed}
use Rattle.file.specs.File.{page_allowed, entry_readable, located}
use Rattle.file.specs.declared.Located.TheVariants as run
use Rattle.fill.specs.Fill.{gathered}
use Rattle.antigen.specs.Name.{letter_or_digit, reserved, is_name}
use Rattle.card.specs.Card.{text, good_from, lines_at, front_lines, well_formed as is_card, say, value_in}
use Rattle.query.specs.Grammar.{words, after, name_at, list_read_at, reading_of}
use Rattle.query.specs.Value.{value_of}
use Rattle.card_answer.specs.CardAnswer.{judged}
use Rattle.search.specs.Search.{search_of}
use Rattle.search_laws.specs.Examples.{Example, card_entry, one_page, table, Examples}
use Rattle.search_laws.proofs.Unreadable.{unreadable_is-refused}

bad-log : (log waiting page entry query : Bytes) → lent_allowed (length log) (length waiting) ≡ false → search_of log waiting page entry query ≡ Err why.LogLength
unfolding search_of
bad-log log waiting page entry query e = rw e

computed : (log waiting : Bytes) → lent_allowed (length log) (length waiting) ≡ true
    → map (λ (e : Example). search_of log waiting e.page e.entry e.query) table ≡ map (λ (e : Example). e.answer) table
unfolding digits value_from entry_of well_formed page_allowed entry_readable gathered letter_or_digit reserved is_name text good_from lines_at front_lines is_card say value_in words after name_at list_read_at reading_of value_of judged search_of
computed log waiting e = rw e refl

longest : (log waiting query : Bytes) (w : Refusal) → located log waiting one_page (card_entry 4096) 0 ≡ Err w → search_of log waiting one_page (card_entry 4096) query ≡ Err w
unfolding digits value_from entry_of
longest log waiting query w e = unreadable_is-refused log waiting one_page (card_entry 4096) query 0 w (omega arith) (omega arith) (λ p h. absurd (omega arith)) e

longer : (log waiting query : Bytes) → lent_allowed (length log) (length waiting) ≡ true → search_of log waiting one_page (card_entry 4097) query ≡ Err why.Card
unfolding digits value_from entry_of well_formed page_allowed entry_readable search_of
longer log waiting query e = rw e

pub examples : Examples
examples = record { bad-log = bad-log; computed = computed; longest = longest; longer = longer }
