-- When each event may happen (this project's own rules). What the line and the chip bring may come at any time.
use Rattle.std.specs.Prelude.{◌≡◌, ◌≢◌, ℕ, ◌+◌, ◌≤◌, ◌<◌, nat_lt, Bool, false, List, [], ◌∷◌, length, slice_index, Some, None, IsSome, IsTrue, Contains}
use Rattle.zw_base.specs.declared.order.Order.{Order}
use Rattle.supervision.specs.Host.{begun_of, open_session, told_of, command_at as command_of_session}
use Rattle.supervision.specs.declared.host_node.Told.TheVariants.{Final, Working, Old}
use Rattle.s0_session.specs.Nonces.{live_of}
use Rattle.value_store.specs.Values.{count_with}
use Rattle.chip_functions.specs.declared.notice.Update.{Update}
use Rattle.chip_functions.specs.declared.notice.Update.TheVariants.{Received}
use Rattle.host_requests.specs.Events.{interviewed_by, May as request_may}
use Rattle.host_requests.specs.Events.RequestsEvent.{Pushes as request_pushes, PushesInterview as request_pushes_interview, PushesProbe as request_pushes_probe}
use Rattle.host_node.specs.State.{NodeState, SealsText, count_at, needs_tick}
use Rattle.host_node.specs.Events.NodeEvent.{Begins as node_begins, Gives_segment as node_gives_segment, Starts as node_starts}
use Rattle.host_node.specs.Events.{May as node_may}
use Rattle.host_node.specs.declared.attempt.Plan.{Plan}
use Rattle.host_keep.specs.declared.final_status.FinalStatus.{FinalStatus}
use Rattle.host_keep.specs.Rows.{AreBytes}
use Rattle.host_keep.specs.Status.{status_byte}
use Rattle.host_orders.specs.Refusals.{Known, first_refusal}
use Rattle.host_orders.specs.Settings.{settings, properties_of}
use Rattle.host_orders.specs.Wrapping.{carriage_of}
use Rattle.host_orders.specs.declared.carriage.Carriage.{Carriage}
use Rattle.host_model.specs.State.{HostState, Command, node_of, command_at}
use Rattle.host_model.specs.Sessions.{start_of, open_segment}
use Rattle.host_model.specs.After.{is_busy, is_full, node_for}
use Rattle.host_node.specs.Search.{next_of, first_wanting}
use Rattle.host_model.specs.Events.{HostEvent, Accepts, Cancels, Joins, Queues, Queues_interview, Queues_probe, Hears, Requests_do, Interviews, Interview_unkept, Unreads, Is_unkept, Reports_old, Works, Finishes, Offers, Gives, Spends, Spends_unread, Takes_nonce, Notifies, Resends, Hears_value, Has_no_room, Line_ticks, Node_ticks, Queues_no_more, Drops_no_more, Submits_abort, Submits_front, Starts, Gives_text, Gives_segment, Begins, Begin_unkept}

-- what is known of the node of an order
abbrev pub known_of : NodeState → Known
known_of n = record { joined = n.joined; classes = n.classes; waiting = length n.waiting }

-- an order is refused by no rule, and is carried as its node's classes say
pub record IsAccepted (h : HostState) (order : Order) (carriage : Carriage) : Type 0 where
  pub unrefused : first_refusal (known_of (node_of h order.node)) order ≡ None
  pub classes : List ℕ
  pub listed : (node_of h order.node).classes ≡ Some classes
  pub carried : carriage ≡ carriage_of classes order
  pub few : count_with h.store order.node (properties_of (settings carriage.actuator order)) ≤ 512

-- no request is under way, and the line is free
pub record IsFree (h : HostState) : Type 0 where
  pub none_under_way : h.requests.under_way ≡ None
  pub free_line : is_busy h.side.turn ≡ false

-- a node is served: nothing goes before it, and it is the next that has work
pub record IsServed (h : HostState) (n : ℕ) : Type 0 where
  pub free : IsFree h
  pub paid : h.requests.owes ≡ false
  pub no_task : h.requests.queue ≡ []
  pub next : next_of h.nodes h.served ≡ Some n

-- a node starts an attempt of its open session
pub record IsStart (h : HostState) (n : ℕ) (plan : Plan) (more : Bool) (payload : List ℕ) : Type 0 where
  pub session : ℕ
  pub opened : open_session (node_of h n).book ≡ Some session
  pub command : Command
  pub carried : (number : ℕ) × (command_of_session (node_of h n).book.commands session ≡ Some number) × (command_at h.commands number ≡ Some command)
  pub plan_is : plan ≡ (start_of command session).plan
  pub more_is : more ≡ (start_of command session).more
  pub payload_is : payload ≡ (start_of command session).payload

-- a report ends the open session, whose command this is
pub record IsFinal (h : HostState) (n session id command : ℕ) (status : FinalStatus) : Type 0 where
  pub told : told_of (node_of h n).book id (status_byte status) ≡ Final session
  pub carried : command_of_session (node_of h n).book.commands session ≡ Some command

-- an interview of this node ends well at an update, which tells its classes; bit 7 of the byte that was brought says whether it listens
pub record IsInterviewed (h : HostState) (n : ℕ) (update : Update) (capability : ℕ) (classes : List ℕ) : Type 0 where
  pub brought : interviewed_by h.requests update ≡ Some capability
  pub types : ℕ × ℕ × ℕ
  pub received : update ≡ Received n types.0 types.1 types.2 classes

-- what the node listens to is bit 7 of a capability byte
abbrev pub says_listens : ℕ → Bool
says_listens capability = nat_lt 127 capability

-- when an event may happen
abbrev pub May : HostState → HostEvent → Type 0
May h (Accepts order carriage) = IsAccepted h order carriage
May h (Cancels command) = Contains (node_of h (node_for h command)).waiting command
May h (Joins n) = ((node_of h n).joined ≡ false) × (n ≢ 1)
May h (Queues task) = request_may h.requests (request_pushes task)
May h (Queues_interview n) = request_may h.requests (request_pushes_interview n)
May h Queues_probe = request_may h.requests request_pushes_probe
May h (Hears item) = Unit {0}
May h (Requests_do event moment) = request_may h.requests event
May h (Interviews n listens classes update) = (capability : ℕ) × IsInterviewed h n update capability classes × (listens ≡ says_listens capability)
May h (Interview_unkept n update) = IsSome (interviewed_by h.requests update)
May h (Unreads n payload) = Unit {0}
May h (Is_unkept n) = Unit {0}
May h (Reports_old n id) = (status : ℕ) × (told_of (node_of h n).book id status ≡ Old)
May h (Works n id) = told_of (node_of h n).book id 1 ≡ Working
May h (Finishes n session id command status wake_request) = IsFinal h n session id command status
May h (Offers n) = IsSome (live_of h.nonces n)
May h (Gives n drawn) = (live_of h.nonces n ≡ None) × (length drawn ≡ 8) × AreBytes drawn
May h (Spends n) = IsSome (live_of h.nonces n)
May h (Spends_unread n payload) = IsSome (live_of h.nonces n)
May h (Takes_nonce n seen text) =
    (nonce : List ℕ) × (own_nonce : List ℕ) × (count_at (node_of h n) (slice_index nonce 0) ≡ Some seen) × SealsText (node_of h n) h.keys own_nonce nonce text
    × (length own_nonce ≡ 8)
May h (Notifies n) = Unit {0}
May h (Resends n payload) = (k : ℕ) × (open_segment h (node_of h n) (open_session (node_of h n).book) k ≡ Some payload)
May h (Hears_value n setting) = count_with h.store n (setting.property ∷ []) ≤ 512
May h (Has_no_room n property) = 512 < count_with h.store n (property ∷ [])
May h Line_ticks = Unit {0}
May h (Node_ticks n) = IsTrue (needs_tick (node_of h n))
May h (Queues_no_more n) = (first_wanting h.nodes ≡ Some n) × (is_full h ≡ false)
May h (Drops_no_more n) = (first_wanting h.nodes ≡ Some n) × IsTrue (is_full h)
May h Submits_abort = IsFree h × IsTrue h.requests.owes
May h Submits_front = IsFree h × (h.requests.owes ≡ false) × (h.requests.queue ≢ [])
May h (Starts n plan more payload) = IsServed h n × IsStart h n plan more payload × node_may (node_of h n) (node_starts plan)
May h (Gives_text n payload) = IsServed h n × ((node_of h n).text ≡ Some payload)
May h (Gives_segment n more payload) =
    IsServed h n × ((node_of h n).text ≡ None)
    × (open_segment h (node_of h n) (open_session (node_of h n).book) (node_of h n).next_segment ≡ Some payload)
    × (more ≡ nat_lt ((node_of h n).next_segment + 1) (node_of h n).segments)
    × node_may (node_of h n) node_gives_segment
May h (Begins n session command) =
    IsServed h n × node_may (node_of h n) node_begins × (session ≡ begun_of (node_of h n).book + 1) × (command ≡ slice_index (node_of h n).waiting 0)
May h (Begin_unkept n) = IsServed h n × node_may (node_of h n) node_begins
