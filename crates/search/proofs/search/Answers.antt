use mathlib.Core.Path.{sym, ap, ◌∙◌}
use native.Mathlib.Omega.{arith}
use borrow.Author.Tests.{not-true, not-false}
use Rattle.entry.specs.declared.Entry.{Entry}
use Rattle.file.proofs.Tests.{entry_whole, readable-length}
use Rattle.search.proofs.Tests.{search_log, search_page, search_entry, search_long, search_reads}
use Rattle.search.proofs.search.Goals as goal

pub returns-then-not-are_allowed : goal.returns-then-not-are_allowed
returns-then-not-are_allowed c =
    let a = c.args in
    let are-allowed = c.are_allowed in
    let if1 = c.if-not-are_allowed in
    search_log a.log.now a.waiting.now a.page.now a.entry.now a.query.now _ are-allowed.ensures if1.true

pub returns-then-not-is_page : goal.returns-then-not-is_page
returns-then-not-is_page c =
    let a = c.args in
    let are-allowed = c.are_allowed in
    let if1 = c.if-not-are_allowed in
    let is-page = c.is_page in
    let if2 = c.if-not-is_page in
    search_page a.log.now a.waiting.now a.page.now a.entry.now a.query.now _ are-allowed.ensures if1.false _ is-page.ensures if2.true

pub returns-then-not-is_readable : goal.returns-then-not-is_readable
returns-then-not-is_readable c =
    let a = c.args in
    let are-allowed = c.are_allowed in
    let if1 = c.if-not-are_allowed in
    let is-page = c.is_page in
    let if2 = c.if-not-is_page in
    let is-readable = c.is_readable in
    let if3 = c.if-not-is_readable in
    search_entry a.log.now a.waiting.now a.page.now a.entry.now a.query.now _ are-allowed.ensures if1.false
    _ is-page.ensures if2.false _ is-readable.ensures if3.true

pub entry_at-e-requires : goal.entry_at-e-requires
entry_at-e-requires c =
    let a = c.args in
    let is-readable = c.is_readable in
    let if3 = c.if-not-is_readable in
    omega (arith, readable-length a.entry.now _ is-readable.ensures if3.false)

pub returns-then-e-gt4096 : goal.returns-then-e-gt4096
returns-then-e-gt4096 c =
    let a = c.args in
    let are-allowed = c.are_allowed in
    let if1 = c.if-not-are_allowed in
    let is-page = c.is_page in
    let if2 = c.if-not-is_page in
    let is-readable = c.is_readable in
    let if3 = c.if-not-is_readable in
    let entry_at = c.entry_at-e in
    let if4 = c.if-e-gt4096 in
    let l = readable-length a.entry.now _ is-readable.ensures if3.false in
    search_long a.log.now a.waiting.now a.page.now a.entry.now a.query.now _ are-allowed.ensures if1.false
    _ is-page.ensures if2.false _ is-readable.ensures if3.false
    _ (entry_whole a.entry.now _ l entry_at.ensures) if4.true

pub read_and_judge-requires : goal.read_and_judge-requires
read_and_judge-requires c =
    let a = c.args in
    let are-allowed = c.are_allowed in
    let if1 = c.if-not-are_allowed in
    let is-readable = c.is_readable in
    let if3 = c.if-not-is_readable in
    let entry_at = c.entry_at-e in
    let if4 = c.if-e-gt4096 in
    let l = readable-length a.entry.now _ is-readable.ensures if3.false in (
      sym are-allowed.ensures ∙ if1.false,
      sym is-readable.ensures ∙ if3.false,
      ap (λ (e : Entry). e.size) (entry_whole a.entry.now _ l entry_at.ensures),
      omega arith,
    )

pub returns : goal.returns
returns c =
    let a = c.args in
    let are-allowed = c.are_allowed in
    let if1 = c.if-not-are_allowed in
    let is-page = c.is_page in
    let if2 = c.if-not-is_page in
    let is-readable = c.is_readable in
    let if3 = c.if-not-is_readable in
    let entry_at = c.entry_at-e in
    let if4 = c.if-e-gt4096 in
    let read-and-judge = c.read_and_judge in
    let l = readable-length a.entry.now _ is-readable.ensures if3.false in
    search_reads a.log.now a.waiting.now a.page.now a.entry.now a.query.now _ are-allowed.ensures if1.false
    _ is-page.ensures if2.false _ is-readable.ensures if3.false
    _ (entry_whole a.entry.now _ l entry_at.ensures) if4.false _ read-and-judge.ensures
