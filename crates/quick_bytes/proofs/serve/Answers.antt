use Rattle.quick_bytes.proofs.Served.{served_by}
use Rattle.quick_bytes.proofs.serve.Goals as goal

pub write_served-requires : goal.write_served-requires
write_served-requires c =
    let q = c.requires in
    q

pub returns : goal.returns
returns c =
    let a = c.args in
    let read_Known = c.read_known-now in
    let serve = c.serve-served in
    let write-served = c.write_served in record {
      answered = (served_by a.known.now a.session a.message.now a.date.now a.index.now a.log.now a.waiting.now a.reply.now _ read_Known.ensures serve.result _ _ _ _
          serve.ensures _ write-served.ensures.answered _ write-served.ensures.told).0;
      told = (served_by a.known.now a.session a.message.now a.date.now a.index.now a.log.now a.waiting.now a.reply.now _ read_Known.ensures serve.result _ _ _ _
          serve.ensures _ write-served.ensures.answered _ write-served.ensures.told).1;
    }
