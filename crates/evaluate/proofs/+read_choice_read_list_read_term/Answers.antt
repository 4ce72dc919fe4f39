-- The three functions that call each other meet their contracts: the bytes that are left get fewer.
use mathlib.Core.Path.{refl, sym, ◌∙◌}
use native.Mathlib.Omega.{arith}
use Rattle.query.specs.Reading.{not_word, open_word, and_word, or_word}
use Rattle.query.proofs.Places.{next_known}
use Rattle.evaluate.proofs.Steps.{ahead-done, join_ill, join_alone, join_more}
use Rattle.evaluate.proofs.Terms.{choice_joins, list_joins, not-read, none_may_open, brackets-read, name-read}
use Rattle.evaluate.proofs.+read_choice_read_list_read_term.Goals as goal

-- `evaluate::read_choice`: by its first term, and by the word behind it
pub read_choice-returns-in_err-term : goal.read_choice-returns-in_err-term
read_choice-returns-in_err-term t c =
    let a = c.args in
    rw c.from_residual.ensures (join_ill (choice_joins a.card.now a.room) a.text.now a.at c.read_term.ensures c.in_err-term.was)

pub read_choice-returns-then-not-next_is : goal.read_choice-returns-then-not-next_is
read_choice-returns-then-not-next_is t c =
    let a = c.args in
    join_alone (choice_joins a.card.now a.room) a.text.now a.at c.read_term.ensures c.in_ok-term.was
    (sym c.next_is.ensures ∙ c.if-not-next_is.true)

pub read_choice-overflow_add-term : goal.read_choice-overflow_add-term
read_choice-overflow_add-term t c =
    omega (arith, (next_known c.args.text.now _ and_word (sym c.next_is.ensures ∙ c.if-not-next_is.false)).inside)

pub read_choice-read_choice-requires : goal.read_choice-read_choice-requires
read_choice-read_choice-requires t c =
    let a = c.args in
    let h = (next_known a.text.now _ and_word (sym c.next_is.ensures ∙ c.if-not-next_is.false)).inside in
    let k = ahead-done a.at c.read_term.ensures.ahead c.in_ok-term.was in
    (omega arith, tt)

pub read_choice-returns : goal.read_choice-returns
read_choice-returns t c =
    let a = c.args in
    join_more (choice_joins a.card.now a.room) a.text.now a.at c.read_term.ensures c.in_ok-term.was
    (sym c.next_is.ensures ∙ c.if-not-next_is.false) refl c.read_choice.ensures c.both.ensures

-- `evaluate::read_list`: by its first choice, and by the word behind it
pub read_list-returns-in_err-choice : goal.read_list-returns-in_err-choice
read_list-returns-in_err-choice t c =
    let a = c.args in
    rw c.from_residual.ensures (join_ill (list_joins a.card.now a.room) a.text.now a.at c.read_choice.ensures c.in_err-choice.was)

pub read_list-returns-then-not-next_is : goal.read_list-returns-then-not-next_is
read_list-returns-then-not-next_is t c =
    let a = c.args in
    join_alone (list_joins a.card.now a.room) a.text.now a.at c.read_choice.ensures c.in_ok-choice.was
    (sym c.next_is.ensures ∙ c.if-not-next_is.true)

pub read_list-overflow_add-choice : goal.read_list-overflow_add-choice
read_list-overflow_add-choice t c =
    omega (arith, (next_known c.args.text.now _ or_word (sym c.next_is.ensures ∙ c.if-not-next_is.false)).inside)

pub read_list-read_list-requires : goal.read_list-read_list-requires
read_list-read_list-requires t c =
    let a = c.args in
    let h = (next_known a.text.now _ or_word (sym c.next_is.ensures ∙ c.if-not-next_is.false)).inside in
    let k = ahead-done a.at c.read_choice.ensures.ahead c.in_ok-choice.was in
    (omega arith, tt)

pub read_list-returns : goal.read_list-returns
read_list-returns t c =
    let a = c.args in
    join_more (list_joins a.card.now a.room) a.text.now a.at c.read_choice.ensures c.in_ok-choice.was
    (sym c.next_is.ensures ∙ c.if-not-next_is.false) refl c.read_list.ensures c.either.ensures

-- `evaluate::read_term`: by its first word
pub read_term-overflow_add-at : goal.read_term-overflow_add-at
read_term-overflow_add-at t c =
    let a = c.args in
    omega (arith, (next_known a.text.now a.at not_word (sym c.next_is.ensures ∙ c.if-next_is.true)).inside)

pub read_term-read_term-requires : goal.read_term-read_term-requires
read_term-read_term-requires t c =
    let a = c.args in
    let h = (next_known a.text.now a.at not_word (sym c.next_is.ensures ∙ c.if-next_is.true)).inside in
    (omega arith, tt)

pub read_term-returns-then-next_is : goal.read_term-returns-then-next_is
read_term-returns-then-next_is t c =
    let a = c.args in
    not-read a.card.now a.text.now a.at a.room (sym c.next_is.ensures ∙ c.if-next_is.true) c.read_term.ensures c.negated.ensures

pub read_term-returns-then-room-eq0 : goal.read_term-returns-then-room-eq0
read_term-returns-then-room-eq0 t c =
    let a = c.args in
    none_may_open a.card.now a.text.now a.at a.room (sym c.next_is-2.ensures ∙ c.if-next_is-2.true) c.if-room-eq0.true

pub read_term-overflow_add-at-then-next_is-2 : goal.read_term-overflow_add-at-then-next_is-2
read_term-overflow_add-at-then-next_is-2 t c =
    let a = c.args in
    omega (arith, (next_known a.text.now a.at open_word (sym c.next_is-2.ensures ∙ c.if-next_is-2.true)).inside)

pub read_term-read_list-requires : goal.read_term-read_list-requires
read_term-read_list-requires t c =
    let a = c.args in
    let h = (next_known a.text.now a.at open_word (sym c.next_is-2.ensures ∙ c.if-next_is-2.true)).inside in
    (omega arith, tt)

pub read_term-returns-then-next_is-2 : goal.read_term-returns-then-next_is-2
read_term-returns-then-next_is-2 t c =
    let a = c.args in
    brackets-read a.card.now a.text.now a.at a.room (sym c.next_is-2.ensures ∙ c.if-next_is-2.true) c.if-room-eq0.false
    c.read_list.ensures c.closed.ensures

pub read_term-returns : goal.read_term-returns
read_term-returns t c =
    let a = c.args in
    name-read a.card.now a.text.now a.at a.room (sym c.next_is.ensures ∙ c.if-next_is.false) (sym c.next_is-2.ensures ∙ c.if-next_is-2.false)
    c.read_name.ensures
