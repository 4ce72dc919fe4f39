use mathlib.Core.Path.{◌∙◌}
use Rattle.message.proofs.Replies.{error_doubt, error_plain}
use Rattle.reply.proofs.write_error.Goals as goal

pub returns-in-Some : goal.returns-in-Some
returns-in-Some c = let args = c.args in
    let doubt-of = c.doubt_of-doubt in
    let doubt-text = c.doubt_text-body in
    let number = c.number-n in
    let write-reply = c.write_reply in
    let a = args in
    write-reply.ensures
    ∙ error_doubt a.buffer.now a.tag number.result a.why doubt-of.result number.ensures doubt-of.ensures _ _
    c.in-Some.is doubt-text.ensures

pub returns : goal.returns
returns c = let args = c.args in
    let doubt-of = c.doubt_of-doubt in
    let number = c.number-n in
    let write-reply2 = c.write_reply-2 in
    let a = args in
    write-reply2.ensures
    ∙ error_plain a.buffer.now a.tag number.result a.why doubt-of.result number.ensures doubt-of.ensures
    c.in_default.is
