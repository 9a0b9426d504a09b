-- The same of the machine (this project's own): what its host does is done by hosts.
use Rattle.std.specs.Prelude.{List}
use Rattle.proof_walk.specs.world_model.State.{Machine}
use Rattle.proof_walk.specs.world_model.Events.{Event, Host_does}
use Rattle.proof_walk.specs.world_model.Did.{AllAlong}
use Rattle.proof_work.specs.Doing.{IsDone}

-- at an event of the machine; what items of the chip make the host do is by those items
abbrev pub DoesWell : Machine → Event → Type 0
DoesWell m (Host_does event) = IsDone event
DoesWell m event = Unit {0}

-- at each of these events
abbrev pub AllDoWell : Machine → List Event → Type 0
AllDoWell = AllAlong DoesWell
