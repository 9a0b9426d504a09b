-- Event by event: only a lock draws, and a lock neither falls asleep nor wakes.
use Rattle.proof_devices.proofs.Now.{lived_is_now}
use Rattle.proof_devices.proofs.devices.devices_are_as_shown.Goals as goal

pub returns : goal.returns
returns c = λ ticks came old new lived. lived_is_now ticks came old new lived
