use Rattle.message.specs.Message.{request_of}
use Rattle.message.proofs.Returns.{unknown}
use Rattle.message.proofs.parse.Goals as goal

pub returns-in-2 : goal.returns-in-2
unfolding request_of
returns-in-2 c = rw c.in-2.is c.exactly.ensures

pub returns-in-4 : goal.returns-in-4
unfolding request_of
returns-in-4 c = rw (c.in-4.is, ← c.hello_end.ensures) c.exactly-in-4.ensures

pub returns-in-6 : goal.returns-in-6
unfolding request_of
returns-in-6 c = rw c.in-6.is c.exactly-in-6.ensures

pub returns-in-12 : goal.returns-in-12
unfolding request_of
returns-in-12 c = rw c.in-12.is c.read_of.ensures

pub returns-in-14 : goal.returns-in-14
unfolding request_of
returns-in-14 c = rw c.in-14.is c.write_of.ensures

pub returns-in-16 : goal.returns-in-16
unfolding request_of
returns-in-16 c = rw c.in-16.is c.exactly-in-16.ensures

pub returns-in_default : goal.returns-in_default
returns-in_default c = let m = c.in_default.in_default-own.rest in unknown _ m.0.0.0.0.0.1 m.0.0.0.0.1 m.0.0.0.1 m.0.0.1 m.0.1 m.1
