use Rattle.renewal.proofs.Renewed.{stays, anew}
use Rattle.renewal.proofs.renew.Goals as goal

pub returns-then-belongs : goal.returns-then-belongs
returns-then-belongs c =
    let belongs = c.belongs in
    let if1 = c.if-belongs in
    let a = c.args in record { fits = (stays a.known a.log.now a.waiting.now a.index.now _ belongs.ensures if1.true).0; anew = (stays a.known a.log.now a.waiting.now a.index.now _ belongs.ensures if1.true).1 }

pub returns : goal.returns
returns c =
    let belongs = c.belongs in
    let if1 = c.if-belongs in
    let learn = c.learn in
    let a = c.args in record { fits = (anew a.known a.log.now a.waiting.now a.index.now _ belongs.ensures if1.false _ learn.ensures).0; anew = (anew a.known a.log.now a.waiting.now a.index.now _ belongs.ensures if1.false _ learn.ensures).1 }
