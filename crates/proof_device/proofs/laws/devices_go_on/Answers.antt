-- Each clause is a lemma on events.
use Rattle.proof_device.proofs.MovedDevices.{one_moves}
use Rattle.proof_device.proofs.DevicePlaces.{outside_goes, machine_goes, run_goes}
use Rattle.proof_device.proofs.laws.devices_go_on.Goals as goal

pub returns-clause-one : goal.returns-clause-one
returns-clause-one c = one_moves

pub returns-clause-outside : goal.returns-clause-outside
returns-clause-outside c = outside_goes

pub returns-clause-each : goal.returns-clause-each
returns-clause-each c = machine_goes

pub returns-clause-all : goal.returns-clause-all
returns-clause-all c = run_goes
