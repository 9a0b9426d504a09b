-- What the lines of a scenario ask of the host (this project's own), and that nothing else is asked.
use Rattle.std.specs.Prelude.{◌≡◌, ◌≤◌, true, List, length}
use Rattle.host_requests.specs.Events.{RequestsEvent}
use Rattle.host_requests.specs.Events.RequestsEvent.{Pushes, PushesInterview}
use Rattle.host_requests.specs.declared.task.Task.{Task}
use Rattle.host_requests.specs.declared.task.Task.TheVariants.{Plain, Offer, Segment, First, Second}
use Rattle.proof_host.specs.host_model.State.{HostState, node_of}
use Rattle.proof_host.specs.host_model.Events.{HostEvent, Queues, Queues_interview, Requests_do, Interviews, Finishes, Gives, Spends, Spends_unread, Takes_nonce}
use Rattle.proof_device.specs.world_model.State.{Machine}
use Rattle.proof_device.specs.world_model.Events.{Event, Host_does}
use Rattle.proof_device.specs.world_model.Did.{AllAlong}

-- a message of a user's own, that fits a frame of the radio, or a question; an interview is asked for as a whole
abbrev pub IsErrand : Task → Type 0
IsErrand (Plain n payload) = length payload ≤ 46
IsErrand (Offer n nonce) = ⊥
IsErrand (Segment n payload) = ⊥
IsErrand (First n) = ⊥
IsErrand (Second n) = ⊥
IsErrand task = Unit {0}

-- the requests are asked for nothing after the host's back
abbrev pub AsksNothing : RequestsEvent → Type 0
AsksNothing (Pushes task) = ⊥
AsksNothing (PushesInterview n) = ⊥
AsksNothing event = Unit {0}

-- What the host does of itself or for a line: an interview is asked of a node that is joined, and a task that is asked for is an errand. It is nothing that only the chip's bytes bring.
abbrev pub IsAsked : HostState → HostEvent → Type 0
IsAsked h (Queues task) = IsErrand task
IsAsked h (Queues_interview n) = (node_of h n).joined ≡ true
IsAsked h (Requests_do event moment) = AsksNothing event
IsAsked h (Interviews n listens classes update) = ⊥
IsAsked h (Finishes n session id command status wake_request) = ⊥
IsAsked h (Gives n drawn) = ⊥
IsAsked h (Spends n) = ⊥
IsAsked h (Spends_unread n payload) = ⊥
IsAsked h (Takes_nonce n seen text) = ⊥
IsAsked h event = Unit {0}

-- so at an event of the machine. What the chip's bytes make the host do is by those bytes
abbrev pub AsksWell : Machine → Event → Type 0
AsksWell m (Host_does event) = IsAsked m.host.state event
AsksWell m event = Unit {0}

-- so for each of these events
abbrev pub AllAsked : Machine → List Event → Type 0
AllAsked = AllAlong AsksWell
