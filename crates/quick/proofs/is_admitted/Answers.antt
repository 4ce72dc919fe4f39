use borrow.Author.Tests.{not-true, not-false}
use Rattle.quick.proofs.Admission.{test-frame, test-buffer, test-log, test-session, test-date}
use Rattle.quick.proofs.is_admitted.Goals as goal

pub returns-then-not-is_framed : goal.returns-then-not-is_framed
returns-then-not-is_framed c =
    let is_framed = c.is_framed in
    let if1 = c.if-not-is_framed in
    let a = c.args in
    test-frame a.session a.message.now a.date.now a.log a.waiting a.room _ is_framed.ensures if1.true

pub returns-then-room-lt-REPLY_ROOM : goal.returns-then-room-lt-REPLY_ROOM
returns-then-room-lt-REPLY_ROOM c =
    let is_framed = c.is_framed in
    let if1 = c.if-not-is_framed in
    let if2 = c.if-room-lt-REPLY_ROOM in
    let a = c.args in
    test-buffer a.session a.message.now a.date.now a.log a.waiting a.room _ is_framed.ensures if1.false if2.true

pub returns-then-not-are_allowed : goal.returns-then-not-are_allowed
returns-then-not-are_allowed c =
    let is_framed = c.is_framed in
    let if1 = c.if-not-is_framed in
    let if2 = c.if-room-lt-REPLY_ROOM in
    let are-allowed = c.are_allowed in
    let if3 = c.if-not-are_allowed in
    let a = c.args in
    test-log a.session a.message.now a.date.now a.log a.waiting a.room _ is_framed.ensures if1.false if2.false _ are-allowed.ensures
    if3.true

pub returns-then-not-is_greeted : goal.returns-then-not-is_greeted
returns-then-not-is_greeted c =
    let is_framed = c.is_framed in
    let if1 = c.if-not-is_framed in
    let if2 = c.if-room-lt-REPLY_ROOM in
    let are-allowed = c.are_allowed in
    let if3 = c.if-not-are_allowed in
    let is-greeted = c.is_greeted in
    let if4 = c.if-not-is_greeted in
    let a = c.args in
    test-session a.session a.message.now a.date.now a.log a.waiting a.room _ is_framed.ensures if1.false if2.false _ are-allowed.ensures
    if3.false
    _ is-greeted.ensures if4.true

pub returns : goal.returns
returns c =
    let is_framed = c.is_framed in
    let if1 = c.if-not-is_framed in
    let if2 = c.if-room-lt-REPLY_ROOM in
    let are-allowed = c.are_allowed in
    let if3 = c.if-not-are_allowed in
    let is-greeted = c.is_greeted in
    let if4 = c.if-not-is_greeted in
    let is-date = c.is_date in
    let a = c.args in
    test-date a.session a.message.now a.date.now a.log a.waiting a.room _ is_framed.ensures if1.false if2.false _ are-allowed.ensures
    if3.false
    _ is-greeted.ensures if4.false _ is-date.ensures
