-- The events of a schedule as a path through the phases of a line (this project's own rule).
use Rattle.std.specs.Prelude.{List, [], ◌∷◌}
use Rattle.proof_device.specs.world_model.State.{Machine}
use Rattle.proof_device.specs.world_model.Events.{Event, happens}
use Rattle.proof_device.specs.world_model.Did.{Schedule}
use Rattle.proof_walk.specs.Phases.{Phase, Turns, Goes}

-- From a phase, with the machine as it is there, these events lead to a last phase: each may come where it comes, and parts begin between them.
pub data Path (last : Phase) : (here : Phase) (m : Machine) (events : List Event) → Type 0 where
  Ends : {m : Machine} → Path last last m []
  Turned : {here next : Phase} {m : Machine} {events : List Event} → Turns here m next → Path last next m events → Path last here m events
  Stepped : {here next : Phase} {m : Machine} {event : Event} {events : List Event} → Goes here m event next → Path last next (happens m event) events →
      Path last here m (event ∷ events)

-- the events of a schedule lead from one phase to another
abbrev pub Leads : Phase → Schedule → Phase → Type 0
Leads here Kind last = (m : Machine) (events : List Event) → Kind m events → Path last here m events

-- they lead somewhere
abbrev pub GoesOn : Phase → Machine → List Event → Type 0
GoesOn here m events = (last : Phase) × Path last here m events

abbrev pub Begins : Phase → Schedule → Type 0
Begins here Kind = (m : Machine) (events : List Event) → Kind m events → GoesOn here m events
