-- The induction over the events of the machine.
use Rattle.proof_world.proofs.FactsKept.{event_keeps, events_keep}
use Rattle.proof_world.proofs.machine.the_machine_keeps_facts.Goals as goal

pub returns-clause-first : goal.returns-clause-first
returns-clause-first c = λ keys records devices. c.first_facts_hold.ensures keys

pub returns-clause-each : goal.returns-clause-each
returns-clause-each c = event_keeps c.events_keep_facts.ensures.each c.asides_keep_facts.ensures c.restarts_keep_facts.ensures.one

pub returns-clause-all : goal.returns-clause-all
returns-clause-all c = events_keep c.events_keep_facts.ensures.each c.asides_keep_facts.ensures c.restarts_keep_facts.ensures.one
