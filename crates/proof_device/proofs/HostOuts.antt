-- What a host puts out at each event and answers to a line, gone over once for all laws: units, the entry of the event itself, and the entries that events share.
use Rattle.std.proofs.Common.{ℕ, Bool, true, false, Option, Some, None, List, [], ◌∷◌, ◌+◌, ◌++◌, length}
use Rattle.std.specs.List.{AllByRecursion}
use Rattle.zw_base.proofs.Each.{all-append}
use Rattle.zw_base.specs.declared.property.Setting.{Setting}
use Rattle.law_transcript.specs.zw_text.declared.entry.Done.{Done}
use Rattle.law_transcript.specs.zw_text.declared.entry.Ended.TheVariants as ended
use Rattle.law_transcript.specs.zw_text.declared.entry.Entry.{Entry}
use Rattle.law_transcript.specs.zw_text.declared.entry.Entry.TheVariants as entry
use Rattle.chip_functions.specs.declared.response.Response.TheVariants.{GetRoutingInfo, IsFailedNode as failed_node}
use Rattle.serial_frame.specs.Frame.{FrameParts}
use Rattle.serial_frame.specs.declared.item.Item.{Item}
use Rattle.serial_frame.specs.declared.item.Item.TheVariants.{Good, Refused}
use Rattle.serial_frame.specs.declared.item.Refusal.TheVariants.{Stray, BadLength, BadSum, BadKind, Aborted}
use Rattle.serial_frame.specs.declared.unit.Unit.TheVariants.{Ack, Nak, Can, Framed}
use Rattle.serial_link.specs.State.{tick_side, copy_due}
use Rattle.world_model.specs.host_requests.declared.end.End.{End}
use Rattle.world_model.specs.host_requests.declared.end.How.{How}
use Rattle.world_model.specs.host_requests.declared.end.How.TheVariants.{AtResponse}
use Rattle.world_model.specs.host_requests.declared.task.Purpose.{Purpose}
use Rattle.world_model.specs.host_requests.declared.task.Purpose.TheVariants.{Housekeeping, Attempt, Abort}
use Rattle.world_model.specs.host_requests.declared.task.Task.{Task}
use Rattle.world_model.specs.host_requests.declared.task.Task.TheVariants.{Plain, NoMore, Second, Neighbours, IsFailed}
use Rattle.world_model.specs.host_requests.Events.{end_at}
use Rattle.world_model.specs.host_requests.Events.RequestsEvent.{Fails as request_fails}
use Rattle.world_model.specs.host_node.Steps.{tick_end, attempt_end, falls_asleep}
use Rattle.world_model.specs.host_node.declared.attempt.AttemptEnd.{AttemptEnd}
use Rattle.world_model.specs.host_node.declared.attempt.AttemptEnd.TheVariants.{NoneRan, Again, Unanswered}
use Rattle.world_model.specs.host_model.State.{HostState, node_of, command_at}
use Rattle.world_model.specs.host_model.Sessions.{open_command, settings_with}
use Rattle.world_model.specs.host_model.Ends.{PartEnd, Good as part_good, Passed_over, Bad, part_end, done_of, asleep_entry, out_entry, attempt_entries, part_entries, neighbours_entry, failed_entry, task_entries, end_entries, end_entries_if}
use Rattle.world_model.specs.host_model.After.{after, requests_do, is_full, is_held, gives_up, line_ticked}
use Rattle.world_model.specs.host_model.Outs.{answer_to, copy_out, noted, request_entries, failing_entries, dropped_if, stored_entries, held_entries, ended_of, outs, answers}
use Rattle.world_model.specs.host_model.Events.{HostEvent, Accepts, Cancels, Hears, Requests_do, Interviews, Interview_unkept, Unreads, Is_unkept, Reports_old, Finishes, Offers, Gives, Spends_unread, Notifies, Resends, Hears_value, Has_no_room, Line_ticks, Node_ticks, Drops_no_more, Submits_abort, Submits_front, Starts, Gives_text, Gives_segment, Begins, Begin_unkept}
use Rattle.world_model.specs.host_model.Did.{outs_all}
use Rattle.world_model.specs.host_model.declared.out.HostOut.{HostOut}
use Rattle.world_model.specs.host_model.declared.out.HostOut.TheVariants.{Write, Note}

-- its entry, where it is one, is so
abbrev pub OutIs : (Entry → Type 0) → HostOut → Type 0
OutIs Is (Write unit) = Unit {0}
OutIs Is (Note e) = Is e

abbrev pub OutsAre : (Entry → Type 0) → List HostOut → Type 0
OutsAre Is puts = AllByRecursion (OutIs Is) puts

-- the entry of the event itself is so, or the answer to the line
abbrev pub OwnIs : (Entry → Type 0) → HostEvent → Type 0
OwnIs Is (Accepts order carriage) = (number : ℕ) → Is (entry.Accepted number order.node)
OwnIs Is (Cancels command) = Is (entry.Out command ended.Cancelled)
OwnIs Is (Interviews n listens classes update) = Is (entry.Interviewed n)
OwnIs Is (Interview_unkept n update) = Is (entry.Unkept n)
OwnIs Is (Unreads n payload) = Is (entry.Unread n payload)
OwnIs Is (Is_unkept n) = Is (entry.Unkept n)
OwnIs Is (Reports_old n id) = Is (entry.Old n id)
OwnIs Is (Finishes n session id command status wake_request) = Is (entry.Out command (ended_of status))
OwnIs Is (Spends_unread n payload) = Is (entry.Unread n payload)
OwnIs Is (Notifies n) = Is (entry.Awake n)
OwnIs Is (Hears_value n setting) = Is (entry.Report n setting)
OwnIs Is (Has_no_room n property) = Is (entry.Unstored n property)
OwnIs Is (Begins n session command) = Is (entry.Begin n session command)
OwnIs Is (Begin_unkept n) = Is (entry.Unkept n)
OwnIs Is event = Unit {0}

-- what an attempt that ends enters is so
pub record AttemptsAre (Is : Entry → Type 0) : Type 0 where
  pub unanswered : (command : ℕ) → Is (entry.Out command ended.Unanswered)
  pub asleep : (n : ℕ) → Is (entry.Asleep n)

-- and what a request that ends enters
pub record EndsAre (Is : Entry → Type 0) : Type 0 where
  pub attempts : AttemptsAre Is
  pub done : (n : ℕ) (how : Done) → Is (entry.Done n how)
  pub uninterviewed : (n : ℕ) → Is (entry.InterviewFailed n)
  pub neighbours : (n : ℕ) (nodes : List ℕ) → Is (entry.Neighbours n nodes)
  pub failed : (n : ℕ) (is_failed : Bool) → Is (entry.Failed n is_failed)

-- each entry that the event may put out is so
abbrev pub MayPut : (Entry → Type 0) → HostEvent → Type 0
MayPut Is (Accepts order carriage) = Unit {0}
MayPut Is (Cancels command) = Unit {0}
MayPut Is (Requests_do event moment) = EndsAre Is
MayPut Is Line_ticks = EndsAre Is
MayPut Is (Node_ticks n) = AttemptsAre Is
MayPut Is (Finishes n session id command status wake_request) =
    Is (entry.Out command (ended_of status)) × ((setting : Setting) → Is (entry.Store n setting)) × Is (entry.Held n)
MayPut Is (Offers n) = Is (entry.QueueFull n)
MayPut Is (Gives n drawn) = Is (entry.QueueFull n)
MayPut Is (Resends n payload) = Is (entry.QueueFull n)
MayPut Is (Drops_no_more n) = Is (entry.QueueFull n)
MayPut Is event = OwnIs Is event

-- ---- ends of attempts and requests

module _ (Is : Entry → Type 0) (attempts : AttemptsAre Is) where
  pub asleep_is : (fell : Bool) (n : ℕ) → AllByRecursion Is (asleep_entry fell n)
  asleep_is true n = (attempts.asleep n, tt)
  asleep_is false n = tt

  out_is : (command : Option ℕ) → AllByRecursion Is (out_entry command)
  out_is None = tt
  out_is (Some command) = (attempts.unanswered command, tt)

  attempt_are : (n : ℕ) (end : AttemptEnd) (command : Option ℕ) → AllByRecursion Is (attempt_entries n end command)
  attempt_are n NoneRan command = tt
  attempt_are n Again command = tt
  attempt_are n (Unanswered fell) command = all-append Is (out_entry command) (asleep_entry fell n) (out_is command) (asleep_is fell n)

  pub part_are : (h : HostState) (n : ℕ) (end : PartEnd) → AllByRecursion Is (part_entries h n end)
  part_are h n part_good = tt
  part_are h n Passed_over = tt
  part_are h n Bad = attempt_are n (attempt_end (node_of h n)) (open_command (node_of h n))

pub neighbours_are : (Is : Entry → Type 0) → ((n : ℕ) (nodes : List ℕ) → Is (entry.Neighbours n nodes)) → (n : ℕ) (how : How) → AllByRecursion Is (neighbours_entry n how)
neighbours_are Is neighbours n (AtResponse (GetRoutingInfo nodes)) = (neighbours n nodes, tt)
neighbours_are Is neighbours n _ = tt

pub failed_is : (Is : Entry → Type 0) → ((n : ℕ) (is_failed : Bool) → Is (entry.Failed n is_failed)) → (n : ℕ) (how : How) → AllByRecursion Is (failed_entry n how)
failed_is Is fails n (AtResponse (failed_node failed)) = (fails n failed, tt)
failed_is Is fails n _ = tt

module _ (Is : Entry → Type 0) (ends : EndsAre Is) where
  abbrev Are : List Entry → Type 0
  Are entries = AllByRecursion Is entries

  task_are : (h : HostState) (task : Task) (how : How) → Are (task_entries h task how)
  task_are h (Plain n payload) how = (ends.done n (done_of how), tt)
  task_are h (NoMore n) how = asleep_is Is ends.attempts (falls_asleep (node_of h n)) n
  task_are h (Second n) how = (ends.uninterviewed n, tt)
  task_are h (Neighbours n) how = neighbours_are Is ends.neighbours n how
  task_are h (IsFailed n) how = failed_is Is ends.failed n how
  task_are h _ how = tt

  purpose_are : (h : HostState) (purpose : Purpose) (how : How) → Are (end_entries h (record { purpose = purpose; how = how }))
  purpose_are h (Attempt n more payload) how = part_are Is ends.attempts h n (part_end more how)
  purpose_are h (Housekeeping task) how = task_are h task how
  purpose_are h Abort how = tt

  end_are : (h : HostState) (end : Option End) → Are (end_entries_if h end)
  end_are h None = tt
  end_are h (Some end) = purpose_are h end.purpose end.how

  failing_are : (gives : Bool) (h : HostState) → Are (failing_entries gives h)
  failing_are true h = end_are (requests_do h request_fails) (end_at h.requests request_fails)
  failing_are false h = tt

-- ---- what is put out

noted_are : (Is : Entry → Type 0) (told : List Entry) → AllByRecursion Is told → OutsAre Is (noted told)
noted_are Is [] are = tt
noted_are Is (e ∷ told) are = (are.0, noted_are Is told are.1)

answer_are : (Is : Entry → Type 0) (item : Item) → OutsAre Is (answer_to item)
answer_are Is (Good (Framed f)) = (tt, tt)
answer_are Is (Good Ack) = tt
answer_are Is (Good Nak) = tt
answer_are Is (Good Can) = tt
answer_are Is (Refused (BadSum want got)) = (tt, tt)
answer_are Is (Refused (BadKind x)) = (tt, tt)
answer_are Is (Refused (Stray x)) = tt
answer_are Is (Refused (BadLength n)) = tt
answer_are Is (Refused Aborted) = tt

copy_are : (Is : Entry → Type 0) (copy : Option FrameParts) → OutsAre Is (copy_out copy)
copy_are Is None = tt
copy_are Is (Some f) = (tt, tt)

dropped_are : (Is : Entry → Type 0) (full : Bool) (n : ℕ) → Is (entry.QueueFull n) → OutsAre Is (noted (dropped_if full n))
dropped_are Is true n is = (is, tt)
dropped_are Is false n is = tt

held_are : (Is : Entry → Type 0) (n : ℕ) (held : Bool) → Is (entry.Held n) → AllByRecursion Is (held_entries n held)
held_are Is n true is = (is, tt)
held_are Is n false is = tt

stored_are : (Is : Entry → Type 0) (n : ℕ) (settings : List Setting) → ((setting : Setting) → Is (entry.Store n setting)) → AllByRecursion Is (stored_entries n settings)
stored_are Is n [] is = tt
stored_are Is n (setting ∷ settings) is = (is setting, stored_are Is n settings is)

-- after the end of a session
pub session_are : (Is : Entry → Type 0) (n : ℕ) (settings : List Setting) (held : Bool) → ((setting : Setting) → Is (entry.Store n setting)) → Is (entry.Held n)
    → OutsAre Is (noted (stored_entries n settings ++ held_entries n held))
session_are Is n settings held stored is_held =
    noted_are Is (stored_entries n settings ++ held_entries n held)
    (all-append Is (stored_entries n settings) (held_entries n held) (stored_are Is n settings stored) (held_are Is n held is_held))

pub outs_put : (Is : Entry → Type 0) (h : HostState) (event : HostEvent) → MayPut Is event → OutsAre Is (outs h event)
outs_put Is h (Hears item) put = answer_are Is item
outs_put Is h (Requests_do event moment) put = noted_are Is (request_entries h event) (end_are Is put (requests_do h event) (end_at h.requests event))
outs_put Is h (Interviews n listens classes update) put = (put, tt)
outs_put Is h (Interview_unkept n update) put = (put, tt)
outs_put Is h (Unreads n payload) put = (put, tt)
outs_put Is h (Is_unkept n) put = (put, tt)
outs_put Is h (Reports_old n id) put = (put, tt)
outs_put Is h (Finishes n session id command status wake_request) put =
    (put.0, session_are Is n (settings_with status (command_at h.commands command)) (is_held h n wake_request) put.1 put.2)
outs_put Is h (Offers n) put = dropped_are Is (is_full h) n put
outs_put Is h (Gives n drawn) put = dropped_are Is (is_full h) n put
outs_put Is h (Spends_unread n payload) put = (put, tt)
outs_put Is h (Notifies n) put = (put, tt)
outs_put Is h (Resends n payload) put = dropped_are Is (is_full h) n put
outs_put Is h (Hears_value n setting) put = (put, tt)
outs_put Is h (Has_no_room n property) put = (put, tt)
outs_put Is h Line_ticks put =
    let gives = gives_up h.side.turn (tick_side h.side).turn in
    all-append (OutIs Is) (copy_out (copy_due h.side.turn)) (noted (failing_entries gives (line_ticked h)))
    (copy_are Is (copy_due h.side.turn)) (noted_are Is (failing_entries gives (line_ticked h)) (failing_are Is put gives (line_ticked h)))
outs_put Is h (Node_ticks n) put =
    let end = tick_end (node_of h n) in
    let command = open_command (node_of h n) in
    noted_are Is (attempt_entries n end command) (attempt_are Is put n end command)
outs_put Is h (Drops_no_more n) put = (put, tt)
outs_put Is h Submits_abort put = (tt, tt)
outs_put Is h Submits_front put = (tt, tt)
outs_put Is h (Starts n plan more payload) put = (tt, tt)
outs_put Is h (Gives_text n payload) put = (tt, tt)
outs_put Is h (Gives_segment n more payload) put = (tt, tt)
outs_put Is h (Begins n session command) put = (put, tt)
outs_put Is h (Begin_unkept n) put = (put, tt)
outs_put Is h event put = tt

-- ---- where all that events share is so

-- how a request or an attempt ended, what a session confirmed, that a node is held, and that the queue is full
pub record SharedAre (Is : Entry → Type 0) : Type 0 where
  pub unanswered : (command : ℕ) → Is (entry.Out command ended.Unanswered)
  pub asleep : (n : ℕ) → Is (entry.Asleep n)
  pub done : (n : ℕ) (how : Done) → Is (entry.Done n how)
  pub uninterviewed : (n : ℕ) → Is (entry.InterviewFailed n)
  pub neighbours : (n : ℕ) (nodes : List ℕ) → Is (entry.Neighbours n nodes)
  pub failed : (n : ℕ) (is_failed : Bool) → Is (entry.Failed n is_failed)
  pub stored : (n : ℕ) (setting : Setting) → Is (entry.Store n setting)
  pub held : (n : ℕ) → Is (entry.Held n)
  pub full : (n : ℕ) → Is (entry.QueueFull n)

module _ (Is : Entry → Type 0) (shared : SharedAre Is) where
  attempts : AttemptsAre Is
  attempts = record { unanswered = shared.unanswered; asleep = shared.asleep }

  ends : EndsAre Is
  ends = record { attempts = attempts; done = shared.done; uninterviewed = shared.uninterviewed; neighbours = shared.neighbours; failed = shared.failed }

  own_put : (event : HostEvent) → OwnIs Is event → MayPut Is event
  own_put (Accepts order carriage) own = tt
  own_put (Cancels command) own = tt
  own_put (Requests_do event moment) own = ends
  own_put Line_ticks own = ends
  own_put (Node_ticks n) own = attempts
  own_put (Finishes n session id command status wake_request) own = (own, shared.stored n, shared.held n)
  own_put (Offers n) own = shared.full n
  own_put (Gives n drawn) own = shared.full n
  own_put (Resends n payload) own = shared.full n
  own_put (Drops_no_more n) own = shared.full n
  own_put event own = own

  pub outs_are : (h : HostState) (event : HostEvent) → OwnIs Is event → OutsAre Is (outs h event)
  outs_are h event own = outs_put Is h event (own_put event own)

  pub all_outs_are : ((event : HostEvent) → OwnIs Is event) → (h : HostState) (events : List HostEvent) → OutsAre Is (outs_all h events)
  all_outs_are own h [] = tt
  all_outs_are own h (event ∷ events) =
      all-append (OutIs Is) (outs h event) (outs_all (after h event) events) (outs_are h event (own event)) (all_outs_are own (after h event) events)

-- what is answered to the line
pub answers_are : (Is : Entry → Type 0) (h : HostState) (event : HostEvent) → OwnIs Is event → AllByRecursion Is (answers h event)
answers_are Is h (Accepts order carriage) own = (own (length h.commands + 1), tt)
answers_are Is h (Cancels command) own = (own, tt)
answers_are Is h event own = tt
