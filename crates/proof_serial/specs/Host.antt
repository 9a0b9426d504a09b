-- What the host may write (this project's own): payloads of the radio have at most 46 bytes, and nonces eight, so its frames are short.
use Rattle.std.specs.Prelude.{ℕ, ◌≤◌, List, [], ◌∷◌, length, Option, Some, None, IsSome}
use Rattle.std.specs.List.{AllByRecursion}
use Rattle.s0_session.specs.declared.account.Account.{Account}
use Rattle.world_model.specs.host_requests.Events.{RequestsEvent}
use Rattle.world_model.specs.host_requests.Events.RequestsEvent.{Pushes}
use Rattle.world_model.specs.host_requests.declared.task.Task.{Task}
use Rattle.world_model.specs.host_requests.declared.task.Task.TheVariants.{Plain, Offer, Segment}
use Rattle.world_model.specs.host_node.State.{NodeState}
use Rattle.world_model.specs.host_model.State.{HostState}
use Rattle.world_model.specs.host_model.Events.{HostEvent, Queues, Requests_do, Takes_nonce}
use Rattle.world_model.specs.State.{Machine}
use Rattle.world_model.specs.Events.{Event, Host_does, Host_takes, Restarts, happens}
use Rattle.proof_serial.specs.Chip.{HasFrame}

-- ---- what the host keeps

-- what a task brings fits a frame of the radio
abbrev pub FitsTask : Task → Type 0
FitsTask (Plain n payload) = length payload ≤ 46
FitsTask (Offer n nonce) = length nonce ≤ 8
FitsTask (Segment n payload) = length payload ≤ 46
FitsTask task = Unit {0}

-- where there are bytes, they are at most so many
abbrev pub FitsIn : ℕ → Option (List ℕ) → Type 0
FitsIn most None = Unit {0}
FitsIn most (Some bytes) = length bytes ≤ most

-- the sealed text that an attempt is to give, and the nonce that is live
abbrev pub HasShortText : NodeState → Type 0
HasShortText n = FitsIn 46 n.text

abbrev pub HasShortNonce : Account → Type 0
HasShortNonce account = FitsIn 8 account.live

-- the frame on the line, the tasks that wait, the sealed texts and the live nonces
pub record HostFits (h : HostState) : Type 0 where
  pub turn : HasFrame h.side.turn
  pub queue : AllByRecursion FitsTask h.requests.queue
  pub texts : AllByRecursion HasShortText h.nodes
  pub nonces : AllByRecursion HasShortNonce h.nonces

-- ---- what is assumed of a run

-- what is asked for fits, and so does what a text is sealed to: of these the machine says no length
abbrev pub FitsRequest : RequestsEvent → Type 0
FitsRequest (Pushes task) = FitsTask task
FitsRequest event = Unit {0}

abbrev pub FitsEvent : HostEvent → Type 0
FitsEvent (Queues task) = FitsTask task
FitsEvent (Requests_do event moment) = FitsRequest event
FitsEvent (Takes_nonce n seen text) = length text ≤ 46
FitsEvent event = Unit {0}

-- so for what the host does at an event of the machine; and where a host starts again, the keeper tells its records
abbrev pub AsksWell : Machine → Event → Type 0
AsksWell m (Host_does event) = FitsEvent event
AsksWell m (Host_takes count rest items events) = AllByRecursion FitsEvent events
AsksWell m (Restarts state) = IsSome m.records
AsksWell m event = Unit {0}

-- so for each of these events
abbrev pub AllAskWell : Machine → List Event → Type 0
AllAskWell m [] = Unit {0}
AllAskWell m (event ∷ events) = AsksWell m event × AllAskWell (happens m event) events
