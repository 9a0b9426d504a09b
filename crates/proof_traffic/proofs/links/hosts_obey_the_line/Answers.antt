-- Each clause is a lemma on events of the host.
use Rattle.std.proofs.Common.{[]}
use Rattle.proof_device.specs.world_model.State.{first_machine}
use Rattle.proof_traffic.proofs.HostLinks.{first_keeps, opened_keeps, event_keeps, event_units, run_keeps}
use Rattle.proof_traffic.proofs.links.hosts_obey_the_line.Goals as goal

pub returns-clause-first : goal.returns-clause-first
returns-clause-first c = first_keeps

pub returns-clause-opened : goal.returns-clause-opened
returns-clause-opened c = opened_keeps

pub returns-clause-each : goal.returns-clause-each
returns-clause-each c = event_keeps

pub returns-clause-units : goal.returns-clause-units
returns-clause-units c = event_units

pub returns-clause-run : goal.returns-clause-run
returns-clause-run c = λ keys records devices events may asks. run_keeps [] (first_machine keys records devices) events (first_keeps keys) may asks
