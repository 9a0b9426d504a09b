-- Each clause is a lemma on one device or on a list.
use Rattle.proof_device.proofs.KeptKinds.{event_same}
use Rattle.proof_device.proofs.DevicePlaces.{go_same}
use Rattle.proof_device.proofs.laws.devices_stay_the_same.Goals as goal

pub returns-clause-event : goal.returns-clause-event
returns-clause-event c = event_same

pub returns-clause-all : goal.returns-clause-all
returns-clause-all c = go_same
