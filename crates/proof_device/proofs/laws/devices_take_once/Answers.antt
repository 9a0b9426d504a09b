-- What one event keeps, all events keep.
use Rattle.proof_device.proofs.DevicePlaces.{go_in_order}
use Rattle.proof_device.proofs.Once.{take_once}
use Rattle.proof_device.proofs.laws.devices_take_once.Goals as goal

pub returns-clause-kept : goal.returns-clause-kept
returns-clause-kept c = go_in_order c.sessions_rise.ensures.kept

pub returns-clause-once : goal.returns-clause-once
returns-clause-once c = take_once
