use Rattle.buffer.proofs.Bytes.{small_all}
use Rattle.block_tested.proofs.are_bytes.Goals as goal

pub returns-clause-log : goal.returns-clause-log
returns-clause-log c = small_all c.args.log.now (λ m. (c.type_inv.log m).fits)

pub returns-clause-waiting : goal.returns-clause-waiting
returns-clause-waiting c = small_all c.args.waiting.now (λ m. (c.type_inv.waiting m).fits)
