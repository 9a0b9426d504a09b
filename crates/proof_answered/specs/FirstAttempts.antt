-- First attempts (this project's own rule): where each payload of the host is heard, an attempt ends without a report only as its wait runs out.
use Rattle.std.specs.Prelude.{◌≡◌, ◌≢◌, List}
use Rattle.std.specs.List.{AllByRecursion}
use Rattle.zw_text.specs.declared.entry.Entry.{Entry}
use Rattle.host_node.specs.State.{NodeState}
use Rattle.host_node.specs.declared.series.Series.TheVariants as series
use Rattle.host_model.specs.State.{HostState, node_of}
use Rattle.host_model.specs.Events.{HostEvent, Node_ticks}
use Rattle.world_model.specs.State.{Machine}
use Rattle.world_model.specs.Events.{Event, Host_does}
use Rattle.proof_calm.specs.proof_work.proof_walk.Phases.{Phase}

-- a series of the node that is due or runs is at its first attempt
abbrev pub IsFirst : NodeState → Type 0
IsFirst n = n.series ≢ series.Idle → n.book.attempts ≡ 0

-- so it is of each node
abbrev pub AllFirst : HostState → Type 0
AllFirst h = AllByRecursion IsFirst h.nodes

-- ---- what is assumed of events

-- the wait of no attempt runs out in a tick of its node
abbrev pub IsInTimeAt : HostState → HostEvent → Type 0
IsInTimeAt h (Node_ticks n) = (node_of h n).attempt_wait ≢ 1
IsInTimeAt h event = Unit {0}

abbrev pub IsInTime : Machine → Event → Type 0
IsInTime m (Host_does event) = IsInTimeAt m.host.state event
IsInTime m event = Unit {0}

-- beside what else is assumed
abbrev pub AndInTime : (Machine → Event → Type 0) → Machine → Event → Type 0
AndInTime Has m event = Has m event × IsInTime m event

-- ---- at each phase

-- beside what else is known, of such a stretch
abbrev pub KnowFirst : (List Entry → Type 0) → (Phase → List Entry → Machine → Type 0) → Phase → List Entry → Machine → Type 0
KnowFirst Is Ground here past m = Ground here past m × (Is past → AllFirst m.host.state)
