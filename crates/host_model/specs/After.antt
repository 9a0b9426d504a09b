-- The host after each event (this project's own rules).
use Rattle.std.specs.Prelude.{ℕ, ◌+◌, nat_le, ◌&&◌, Bool, true, false, if◌then◌else◌, List, [], ◌∷◌, ◌++◌, length, slice_set, Option, Some, None}
use Rattle.std.specs.FinMap as finmap
use Rattle.zw_base.specs.declared.property.Setting.{Setting}
use Rattle.zw_base.specs.declared.order.Order.{Order}
use Rattle.zw_text.specs.declared.entry.Outcome.{Outcome}
use Rattle.zw_text.specs.declared.entry.Outcome.TheVariants as outcome
use Rattle.serial_link.specs.State.{hear, tick_side}
use Rattle.serial_link.specs.declared.turn.Turn.{Turn}
use Rattle.serial_link.specs.declared.turn.Turn.TheVariants.{Idle, Copied, Paused}
use Rattle.s0_session.specs.Nonces.{account_of, live_of, after_give}
use Rattle.value_store.specs.Values.{Values, reserving, stored_of}
use Rattle.host_requests.specs.declared.task.Task.{Task}
use Rattle.host_requests.specs.declared.task.Task.TheVariants.{NoMore, Offer, Segment}
use Rattle.host_requests.specs.declared.task.Purpose.{Purpose}
use Rattle.host_requests.specs.declared.task.Purpose.TheVariants.{Housekeeping, Attempt, Abort}
use Rattle.host_requests.specs.Frames.{frame_of}
use Rattle.host_requests.specs.State.{next_id}
use Rattle.host_requests.specs.Events.{RequestsEvent, end_at, after as after_request}
use Rattle.host_requests.specs.Events.RequestsEvent.{BeginsAbort as request_begins_abort, BeginsAttempt as request_begins_attempt, BeginsPrefix as request_begins_prefix, Fails as request_fails, Pushes as request_pushes, PushesInterview as request_pushes_interview, PushesProbe as request_pushes_probe, Updates as request_updates}
use Rattle.host_node.specs.declared.attempt.Moment.{Moment}
use Rattle.host_node.specs.declared.attempt.Moment.TheVariants.{BeforeItsTick}
use Rattle.host_node.specs.State.{is_false}
use Rattle.host_node.specs.Events.{NodeEvent, after as after_node}
use Rattle.host_node.specs.Events.NodeEvent.{Accepts as node_accepts, Begins as node_begins, Blocks as node_blocks, Cancels as node_cancels, Drops_no_more as node_drops_no_more, Gives_segment as node_gives_segment, Gives_text as node_gives_text, Holds as node_holds, Interviews as node_interviews, Joins as node_joins, Notifies as node_notifies, Puts as node_puts, Queues_no_more as node_queues_no_more, Reports as node_reports, Starts as node_starts, Takes_nonce as node_takes_nonce, Ticks as node_ticks}
use Rattle.host_node.specs.Steps.{tick_end}
use Rattle.host_keep.specs.declared.final_status.FinalStatus.{FinalStatus}
use Rattle.host_keep.specs.declared.final_status.FinalStatus.TheVariants as final
use Rattle.host_keep.specs.Status.{status_byte}
use Rattle.host_orders.specs.Settings.{settings, properties_of}
use Rattle.host_orders.specs.declared.carriage.Carriage.{Carriage}
use Rattle.host_model.specs.State.{HostState, Command, node_of, with_node, command_at, with_outcome}
use Rattle.host_model.specs.Sessions.{open_command, settings_with}
use Rattle.host_model.specs.Ends.{after_end_if, attempt_ended}
use Rattle.host_model.specs.Events.{HostEvent, Accepts, Cancels, Joins, Queues, Queues_interview, Queues_probe, Hears, Requests_do, Interviews, Interview_unkept, Unreads, Is_unkept, Reports_old, Works, Finishes, Offers, Gives, Spends, Spends_unread, Takes_nonce, Notifies, Resends, Hears_value, Has_no_room, Line_ticks, Node_ticks, Queues_no_more, Drops_no_more, Submits_abort, Submits_front, Starts, Gives_text, Gives_segment, Begins, Begin_unkept}

-- ---- words

-- something happens to a node
abbrev pub node_does : HostState → ℕ → NodeEvent → HostState
node_does h n event = with_node h n (after_node (node_of h n) event)

-- something happens to the requests, and one of them may end
abbrev pub requests_do : HostState → RequestsEvent → HostState
requests_do h event = record h { requests = after_request h.requests event }

abbrev pub request_does : HostState → RequestsEvent → Moment → HostState
request_does h event moment = after_end_if (requests_do h event) (end_at h.requests event) moment

-- a frame of a purpose goes to the line
abbrev pub submits : HostState → Purpose → RequestsEvent → HostState
submits h purpose event =
    record (requests_do h event) { side = record { turn = Copied (frame_of purpose (next_id h.requests.last_id)) 1 0; collisions = h.side.collisions } }

-- a part of an attempt does, and its node is served last
abbrev pub submits_part : HostState → ℕ → Bool → List ℕ → NodeEvent → HostState
submits_part h n more payload gives =
    node_does (record (submits h (Attempt n more payload) (request_begins_attempt n more payload)) { served = n }) n gives

-- the task that waited longest
abbrev pub task_purpose : List Task → Purpose
task_purpose [] = Abort
task_purpose (task ∷ rest) = Housekeeping task

-- 64 tasks wait
abbrev pub is_full : HostState → Bool
is_full h = nat_le 64 (length h.requests.queue)

-- a task waits after the others, unless 64 do
abbrev pub queues_if_room : HostState → Task → HostState
queues_if_room h task = if is_full h then h else requests_do h (request_pushes task)

-- ---- commands

-- settings of a node are confirmed, one after another
abbrev pub confirming : Values → ℕ → List Setting → Values
confirming store n [] = store
confirming store n (s ∷ more) =
    confirming (finmap.insert store (n, s.property) (record (stored_of store n s.property) { confirmed = Some s.value })) n more

-- a value is heard
abbrev pub hearing : Values → ℕ → Setting → Values
hearing store n s = finmap.insert store (n, s.property) (record (stored_of store n s.property) { heard = Some s.value })

-- an order is the next command: its properties are kept, and it waits for its node
abbrev pub accepting : HostState → Order → Carriage → HostState
accepting h order carriage =
    let taken : Command = record { order = order; carriage = carriage; outcome = outcome.Waiting } in
    node_does (node_does (record h { commands = h.commands ++ taken ∷ []; store = reserving h.store order.node (properties_of (settings carriage.actuator order)) })
    order.node (node_puts (length h.commands + 1))) order.node node_accepts

-- the node of a command, and 0 where there is none
abbrev pub node_with : Option Command → ℕ
node_with None = 0
node_with (Some command) = command.order.node

abbrev pub node_for : HostState → ℕ → ℕ
node_for h command = node_with (command_at h.commands command)

-- ---- reports

-- what a final status is to a command
abbrev pub outcome_of : FinalStatus → Outcome
outcome_of final.NoSupport = outcome.NoSupport
outcome_of final.Fail = outcome.Fail
outcome_of final.Success = outcome.Success

-- a node that asks for it is held awake, unless it listens
abbrev pub is_held : HostState → ℕ → Bool → Bool
is_held h n wake_request = wake_request && is_false (node_of h n).listens

abbrev pub holding : HostState → ℕ → Bool → HostState
holding h n held = if held then node_does h n node_holds else h

-- the open session of a node ends with this status: its command has its outcome, and at success its settings are confirmed
abbrev pub finishing : HostState → ℕ → ℕ → ℕ → FinalStatus → HostState
finishing h n id command status =
    record (node_does h n (node_reports id (status_byte status))) {
      commands = with_outcome h.commands command (outcome_of status);
      store = confirming h.store n (settings_with status (command_at h.commands command));
    }

-- ---- nonces

-- a node is given a new nonce
abbrev pub giving : HostState → ℕ → List ℕ → HostState
giving h n drawn = record h { nonces = slice_set h.nonces n (after_give (account_of h.nonces n) drawn) }

-- its live nonce is spent
abbrev pub spending : HostState → ℕ → HostState
spending h n = record h { nonces = slice_set h.nonces n (record (account_of h.nonces n) { live = None }) }

-- the live nonce of a node is offered to it
abbrev pub offering : HostState → ℕ → Option (List ℕ) → HostState
offering h n None = h
offering h n (Some nonce) = queues_if_room h (Offer n nonce)

-- ---- ticks

-- the frame of the host's own is neither acknowledged nor given up
abbrev pub is_busy : Turn → Bool
is_busy Idle = false
is_busy (Copied f copies ticks) = true
is_busy (Paused f copies ticks) = true

-- it is given up
abbrev pub gives_up : Turn → Turn → Bool
gives_up before after = is_busy before && is_false (is_busy after)

-- the line counts a tick, at which the frame may be given up
abbrev pub line_ticked : HostState → HostState
line_ticked h = record h { side = tick_side h.side }

abbrev pub failing_if : Bool → HostState → HostState
failing_if true h = request_does h request_fails BeforeItsTick
failing_if false h = h

-- ---- the host after an event

abbrev pub after : HostState → HostEvent → HostState
after h (Accepts order carriage) = accepting h order carriage
after h (Cancels command) =
    record (node_does h (node_for h command) (node_cancels command)) { commands = with_outcome h.commands command outcome.Cancelled }
after h (Joins n) = node_does h n node_joins
after h (Queues task) = requests_do h (request_pushes task)
after h (Queues_interview n) = requests_do h (request_pushes_interview n)
after h Queues_probe = requests_do h request_pushes_probe
after h (Hears item) = record h { side = hear h.side item }
after h (Requests_do event moment) = request_does h event moment
after h (Interviews n listens classes update) = node_does (requests_do h (request_updates update)) n (node_interviews listens classes)
after h (Interview_unkept n update) = requests_do h (request_updates update)
after h (Unreads n payload) = h
after h (Is_unkept n) = h
after h (Reports_old n id) = h
after h (Works n id) = node_does h n (node_reports id 1)
after h (Finishes n session id command status wake_request) = holding (finishing h n id command status) n (is_held h n wake_request)
after h (Offers n) = offering h n (live_of h.nonces n)
after h (Gives n drawn) = offering (giving h n drawn) n (live_of (giving h n drawn).nonces n)
after h (Spends n) = spending h n
after h (Spends_unread n payload) = spending h n
after h (Takes_nonce n seen text) = node_does h n (node_takes_nonce seen text)
after h (Notifies n) = node_does h n node_notifies
after h (Resends n payload) = queues_if_room h (Segment n payload)
after h (Hears_value n setting) = record h { store = hearing h.store n setting }
after h (Has_no_room n property) = h
after h Line_ticks = failing_if (gives_up h.side.turn (tick_side h.side).turn) (line_ticked h)
after h (Node_ticks n) = attempt_ended (node_does h n node_ticks) (tick_end (node_of h n)) (open_command (node_of h n))
after h (Queues_no_more n) = requests_do (node_does h n node_queues_no_more) (request_pushes (NoMore n))
after h (Drops_no_more n) = node_does h n node_drops_no_more
after h Submits_abort = submits h Abort request_begins_abort
after h Submits_front = submits h (task_purpose h.requests.queue) request_begins_prefix
after h (Starts n plan more payload) = submits_part h n more payload (node_starts plan)
after h (Gives_text n payload) = submits_part h n false payload node_gives_text
after h (Gives_segment n more payload) = submits_part h n more payload node_gives_segment
after h (Begins n session command) = record (node_does h n node_begins) { commands = with_outcome h.commands command outcome.Begun }
after h (Begin_unkept n) = node_does h n node_blocks
