-- What a host puts out at each event: units for the chip and entries of the transcript (this project's own rules).
use Rattle.std.specs.Prelude.{◌≡◌, ℕ, ◌+◌, Bool, true, false, List, [], ◌∷◌, ◌++◌, length, map, Option, Some, None}
use Rattle.zw_base.specs.declared.property.Setting.{Setting}
use Rattle.zw_text.specs.declared.entry.Entry.{Entry}
use Rattle.zw_text.specs.declared.entry.Entry.TheVariants as entry
use Rattle.zw_text.specs.declared.entry.Ended.{Ended}
use Rattle.zw_text.specs.declared.entry.Ended.TheVariants as ended
use Rattle.serial_frame.specs.Frame.{FrameParts}
use Rattle.serial_frame.specs.declared.item.Item.{Item}
use Rattle.serial_frame.specs.declared.item.Item.TheVariants.{Good, Refused}
use Rattle.serial_frame.specs.declared.item.Refusal.TheVariants.{Stray, BadLength, BadSum, BadKind, Aborted}
use Rattle.serial_frame.specs.declared.unit.Unit.TheVariants.{Ack, Nak, Can, Framed}
use Rattle.serial_link.specs.State.{tick_side, copy_due}
use Rattle.host_requests.specs.declared.task.Purpose.{Purpose}
use Rattle.host_requests.specs.declared.task.Purpose.TheVariants.{Attempt, Abort}
use Rattle.host_requests.specs.Frames.{frame_of}
use Rattle.host_requests.specs.State.{next_id}
use Rattle.host_requests.specs.Events.{RequestsEvent, end_at}
use Rattle.host_requests.specs.Events.RequestsEvent.{Fails as request_fails}
use Rattle.host_node.specs.Steps.{tick_end}
use Rattle.host_keep.specs.declared.final_status.FinalStatus.{FinalStatus}
use Rattle.host_keep.specs.declared.final_status.FinalStatus.TheVariants as final
use Rattle.host_model.specs.declared.out.HostOut.{HostOut}
use Rattle.host_model.specs.declared.out.HostOut.TheVariants.{Write, Note}
use Rattle.host_model.specs.State.{HostState, node_of, command_at}
use Rattle.host_model.specs.Sessions.{open_command, settings_with}
use Rattle.host_model.specs.Ends.{end_entries_if, attempt_entries}
use Rattle.host_model.specs.After.{requests_do, task_purpose, is_full, is_held, gives_up, line_ticked}
use Rattle.host_model.specs.Events.{HostEvent, Accepts, Cancels, Joins, Queues, Queues_interview, Queues_probe, Hears, Requests_do, Interviews, Interview_unkept, Unreads, Is_unkept, Reports_old, Works, Finishes, Offers, Gives, Spends, Spends_unread, Takes_nonce, Notifies, Resends, Hears_value, Has_no_room, Line_ticks, Node_ticks, Queues_no_more, Drops_no_more, Submits_abort, Submits_front, Starts, Gives_text, Gives_segment, Begins, Begin_unkept}

-- the unit that answers an item: ACK for a good frame, NAK for one whose sum or type is wrong
abbrev pub answer_to : Item → List HostOut
answer_to (Good (Framed f)) = Write Ack ∷ []
answer_to (Good Ack) = []
answer_to (Good Nak) = []
answer_to (Good Can) = []
answer_to (Refused (BadSum want got)) = Write Nak ∷ []
answer_to (Refused (BadKind x)) = Write Nak ∷ []
answer_to (Refused (Stray x)) = []
answer_to (Refused (BadLength n)) = []
answer_to (Refused Aborted) = []

-- the frame of a purpose
abbrev pub frame_out : HostState → Purpose → List HostOut
frame_out h purpose = Write (Framed (frame_of purpose (next_id h.requests.last_id))) ∷ []

-- the copy that a tick of the line writes
abbrev pub copy_out : Option FrameParts → List HostOut
copy_out None = []
copy_out (Some f) = Write (Framed f) ∷ []

-- entries
abbrev pub noted : List Entry → List HostOut
noted entries = map Note entries

-- what is entered where the request under way ends at this
abbrev pub request_entries : HostState → RequestsEvent → List Entry
request_entries h event = end_entries_if (requests_do h event) (end_at h.requests event)

-- and where the line gives up its frame
abbrev pub failing_entries : Bool → HostState → List Entry
failing_entries true h = request_entries h request_fails
failing_entries false h = []

-- a message to a node that finds 64 tasks waiting is dropped
abbrev pub dropped_if : Bool → ℕ → List Entry
dropped_if true n = entry.QueueFull n ∷ []
dropped_if false n = []

-- how a command ended
abbrev pub ended_of : FinalStatus → Ended
ended_of final.NoSupport = ended.NoSupport
ended_of final.Fail = ended.Fail
ended_of final.Success = ended.Success

-- the values that are confirmed, and whether the node is held
abbrev pub stored_entries : ℕ → List Setting → List Entry
stored_entries n settings = map (λ s. entry.Store n s) settings

abbrev pub held_entries : ℕ → Bool → List Entry
held_entries n true = entry.Held n ∷ []
held_entries n false = []

abbrev pub outs : HostState → HostEvent → List HostOut
outs h (Accepts order carriage) = []
outs h (Cancels command) = []
outs h (Joins n) = []
outs h (Queues task) = []
outs h (Queues_interview n) = []
outs h Queues_probe = []
outs h (Hears item) = answer_to item
outs h (Requests_do event moment) = noted (request_entries h event)
outs h (Interviews n listens classes update) = Note (entry.Interviewed n) ∷ []
outs h (Interview_unkept n update) = Note (entry.Unkept n) ∷ []
outs h (Unreads n payload) = Note (entry.Unread n payload) ∷ []
outs h (Is_unkept n) = Note (entry.Unkept n) ∷ []
outs h (Reports_old n id) = Note (entry.Old n id) ∷ []
outs h (Works n id) = []
outs h (Finishes n session id command status wake_request) =
    noted (entry.Out command (ended_of status) ∷ (stored_entries n (settings_with status (command_at h.commands command)) ++ held_entries n (is_held h n wake_request)))
outs h (Offers n) = noted (dropped_if (is_full h) n)
outs h (Gives n drawn) = noted (dropped_if (is_full h) n)
outs h (Spends n) = []
outs h (Spends_unread n payload) = Note (entry.Unread n payload) ∷ []
outs h (Takes_nonce n seen text) = []
outs h (Notifies n) = Note (entry.Awake n) ∷ []
outs h (Resends n payload) = noted (dropped_if (is_full h) n)
outs h (Hears_value n setting) = Note (entry.Report n setting) ∷ []
outs h (Has_no_room n property) = Note (entry.Unstored n property) ∷ []
outs h Line_ticks = copy_out (copy_due h.side.turn) ++ noted (failing_entries (gives_up h.side.turn (tick_side h.side).turn) (line_ticked h))
outs h (Node_ticks n) = noted (attempt_entries n (tick_end (node_of h n)) (open_command (node_of h n)))
outs h (Queues_no_more n) = []
outs h (Drops_no_more n) = Note (entry.QueueFull n) ∷ []
outs h Submits_abort = frame_out h Abort
outs h Submits_front = frame_out h (task_purpose h.requests.queue)
outs h (Starts n plan more payload) = frame_out h (Attempt n more payload)
outs h (Gives_text n payload) = frame_out h (Attempt n false payload)
outs h (Gives_segment n more payload) = frame_out h (Attempt n more payload)
outs h (Begins n session command) = Note (entry.Begin n session command) ∷ []
outs h (Begin_unkept n) = Note (entry.Unkept n) ∷ []

-- what is answered to the line that asked for the event, by whoever drives the host: the number of a command that was taken, and that one was
-- cancelled
abbrev pub answers : HostState → HostEvent → List Entry
answers h (Accepts order carriage) = entry.Accepted (length h.commands + 1) order.node ∷ []
answers h (Cancels command) = entry.Out command ended.Cancelled ∷ []
answers h event = []

-- events that answer none, whatever the host
abbrev pub Silent : List HostEvent → Type 0
Silent [] = Unit {0}
Silent (e ∷ es) = ((h : HostState) → answers h e ≡ []) × Silent es
