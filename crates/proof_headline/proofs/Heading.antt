-- Devices go on over lines.
use Rattle.std.proofs.Common.{List, [], ◌∷◌}
use Rattle.std.specs.List.{AllByRecursion}
use Rattle.device_sim.specs.State.{State}
use Rattle.proof_spoken.specs.proof_device.GoingOn.{GoOn}
use Rattle.world_model.specs.State.{Machine}
use Rattle.world_model.specs.Events.{Event}
use Rattle.world_model.specs.Did.{happens_all}
use Rattle.proof_spoken.specs.proof_once.InSessions.{ChangesInSessions}
use Rattle.world_lines.specs.Spoken.{Spoken, after, after_all}

-- devices that have changed in sessions alone still have so
module _ (goes : (m : Machine) (events : List Event) → GoOn m.outside.devices (happens_all m events).outside.devices)
    (still : (old new : List State) → GoOn old new → AllByRecursion ChangesInSessions old → AllByRecursion ChangesInSessions new) where
  pub lines_still : (m : Machine) (lines : List Spoken) → AllByRecursion ChangesInSessions m.outside.devices → AllByRecursion ChangesInSessions (after_all m lines).outside.devices
  lines_still m [] are = are
  lines_still m (spoken ∷ more) are = lines_still (after m spoken) more (still m.outside.devices (after m spoken).outside.devices (goes m spoken.events) are)
