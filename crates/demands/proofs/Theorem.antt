-- Whatever happens, demand 3, the whole of it, and demand 2.
use Rattle.ledger.proofs.Happens.{all_that_happens}
use Rattle.ledger.proofs.Theorem.{demand2, demand3, any_damage, any_zeroing, stop-answers}
use Rattle.demands.specs.Instance.{archive}
use Rattle.demands.specs.Theorem.{Demand, Blank, Whatever, DamageAgain, ZeroedAgain, AfterAStop}
use Rattle.demands.proofs.Lawful.{lawful}

pub demand : Demand
demand = demand3 archive lawful

pub blank : Blank
blank = demand2 archive lawful

pub whatever : Whatever
whatever = all_that_happens archive lawful

pub damage_again : DamageAgain
damage_again = any_damage archive lawful

pub zeroed_again : ZeroedAgain
zeroed_again = any_zeroing archive lawful

pub after-a-stop : AfterAStop
after-a-stop = stop-answers archive lawful
