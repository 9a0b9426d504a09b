-- What may happen to a host, one event at a time (this project's own rules on the Serial API and on the Supervision, Security 0, Transport
-- Service and Wake Up Command Classes). An event carries what is chosen: drawn bytes, and by its name whether a record was kept.
use Rattle.std.specs.Prelude.{◌≡◌, ℕ, Bool, List}
use Rattle.zw_base.specs.declared.property.Property.{Property}
use Rattle.zw_base.specs.declared.property.Setting.{Setting}
use Rattle.zw_base.specs.declared.order.Order.{Order}
use Rattle.serial_frame.specs.declared.item.Item.{Item}
use Rattle.chip_functions.specs.declared.notice.Update.{Update}
use Rattle.host_requests.specs.declared.task.Task.{Task}
use Rattle.host_requests.specs.Events.{RequestsEvent}
use Rattle.host_requests.specs.Events.RequestsEvent.{Ticks as request_ticks}
use Rattle.host_node.specs.declared.attempt.Moment.{Moment}
use Rattle.host_node.specs.declared.attempt.Plan.{Plan}
use Rattle.host_keep.specs.declared.final_status.FinalStatus.{FinalStatus}
use Rattle.host_orders.specs.declared.carriage.Carriage.{Carriage}

pub data HostEvent : Type 0 where
  -- an order is accepted as the next command, a command that waits is cancelled, a node joins; requests are to be made
  Accepts : (order : Order) (carriage : Carriage) → HostEvent
  Cancels : (command : ℕ) → HostEvent
  Joins : (node : ℕ) → HostEvent
  Queues : (task : Task) → HostEvent
  Queues_interview : (node : ℕ) → HostEvent
  Queues_probe : HostEvent
  -- an item of the chip is judged and answered; the request under way hears of it, or of a tick, and may end
  Hears : (item : Item) → HostEvent
  Requests_do : (event : RequestsEvent) (moment : Moment) → HostEvent
  -- an interview ends well; its record is not kept
  Interviews : (node : ℕ) (listens : Bool) (classes : List ℕ) (update : Update) → HostEvent
  Interview_unkept : (node : ℕ) (update : Update) → HostEvent
  -- a payload of a node tells nothing; what it would do is not done, since its record was not kept
  Unreads : (node : ℕ) (payload : List ℕ) → HostEvent
  Is_unkept : (node : ℕ) → HostEvent
  -- a Supervision Report: of no open session; of one that is at work; of one that it ends
  Reports_old : (node id : ℕ) → HostEvent
  Works : (node id : ℕ) → HostEvent
  Finishes : (node session id command : ℕ) (status : FinalStatus) (wake_request : Bool) → HostEvent
  -- a Nonce Get: the live nonce is offered; a new one is given and offered
  Offers : (node : ℕ) → HostEvent
  Gives : (node : ℕ) (drawn : List ℕ) → HostEvent
  -- a Security message spends the live nonce, and is opened; or it is spent and the message does not open
  Spends : (node : ℕ) → HostEvent
  Spends_unread : (node : ℕ) (payload : List ℕ) → HostEvent
  -- a Nonce Report: the pending plain text is sealed to this, and so many nonces were seen
  Takes_nonce : (node seen : ℕ) (text : List ℕ) → HostEvent
  -- a Wake Up Notification; a Segment Request; a value that is reported, and one for which there is no room
  Notifies : (node : ℕ) → HostEvent
  Resends : (node : ℕ) (payload : List ℕ) → HostEvent
  Hears_value : (node : ℕ) (setting : Setting) → HostEvent
  Has_no_room : (node : ℕ) (property : Property) → HostEvent
  -- a tick of the line, and of a node
  Line_ticks : HostEvent
  Node_ticks : (node : ℕ) → HostEvent
  -- No More Information is to be sent to a node, or finds the queue full
  Queues_no_more : (node : ℕ) → HostEvent
  Drops_no_more : (node : ℕ) → HostEvent
  -- a request is submitted: the owed abort, the task that waited longest, the first of an attempt, its sealed text, a further segment
  Submits_abort : HostEvent
  Submits_front : HostEvent
  Starts : (node : ℕ) (plan : Plan) (more : Bool) (payload : List ℕ) → HostEvent
  Gives_text : (node : ℕ) (payload : List ℕ) → HostEvent
  Gives_segment : (node : ℕ) (more : Bool) (payload : List ℕ) → HostEvent
  -- a session begins for the command that waited longest; its record is not kept
  Begins : (node session command : ℕ) → HostEvent
  Begin_unkept : (node : ℕ) → HostEvent

-- what a host does of itself, in a pump and in a tick
abbrev pub IsOwn : HostEvent → Type 0
IsOwn Line_ticks = Unit {0}
IsOwn (Requests_do event moment) = event ≡ request_ticks
IsOwn (Node_ticks n) = Unit {0}
IsOwn (Queues_no_more n) = Unit {0}
IsOwn (Drops_no_more n) = Unit {0}
IsOwn Submits_abort = Unit {0}
IsOwn Submits_front = Unit {0}
IsOwn (Starts n plan more payload) = Unit {0}
IsOwn (Gives_text n payload) = Unit {0}
IsOwn (Gives_segment n more payload) = Unit {0}
IsOwn (Begins n session command) = Unit {0}
IsOwn (Begin_unkept n) = Unit {0}
IsOwn event = ⊥
