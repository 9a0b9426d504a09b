-- What follows a frame that the host judges writes nothing, and leaves its own frame on the line as it is.
use Rattle.std.proofs.Common.{◌≡◌, ℕ, Bool, true, false, if◌then◌else◌, List, [], ◌∷◌, ◌++◌, refl, ap, ◌∙◌}
use Rattle.std.specs.Prelude.{Option, Some, None}
use Rattle.std.specs.List.{AllByRecursion}
use Rattle.std.proofs.lemmas.List.Concat.{flat_map-append}
use Rattle.zw_base.proofs.Each.{all-weaker}
use Rattle.zw_text.specs.declared.entry.Entry.TheVariants.{Out}
use Rattle.serial_frame.specs.Frame.{FrameParts}
use Rattle.serial_frame.specs.Items.{unit_text}
use Rattle.serial_frame.specs.declared.unit.Unit.{Unit as LineUnit}
use Rattle.serial_frame.specs.declared.unit.Unit.TheVariants.{Framed}
use Rattle.s0_session.specs.Nonces.{live_of}
use Rattle.serial_link.specs.State.{Side}
use Rattle.host_requests.specs.State.{RequestsState}
use Rattle.host_requests.specs.declared.under_way.UnderWay.{UnderWay}
use Rattle.host_requests.specs.declared.end.End.{End}
use Rattle.host_requests.specs.declared.end.How.{How}
use Rattle.host_requests.specs.declared.task.Task.{Task}
use Rattle.host_requests.specs.declared.task.Task.TheVariants.{NoMore, Offer, Segment}
use Rattle.host_requests.specs.declared.task.Purpose.{Purpose}
use Rattle.host_requests.specs.declared.task.Purpose.TheVariants.{Housekeeping, Attempt, Abort}
use Rattle.host_requests.specs.Events.{end_at}
use Rattle.host_requests.specs.Events.RequestsEvent.{Pushes as request_pushes}
use Rattle.host_node.specs.declared.attempt.Moment.{Moment}
use Rattle.host_node.specs.declared.attempt.AttemptEnd.{AttemptEnd}
use Rattle.host_node.specs.declared.attempt.AttemptEnd.TheVariants.{NoneRan, Again, Unanswered}
use Rattle.host_node.specs.Steps.{tick_end, attempt_end, after_attempt_end}
use Rattle.host_node.specs.Events.NodeEvent.{Ticks as node_ticks}
use Rattle.host_model.specs.State.{HostState, node_of, with_node, command_at}
use Rattle.host_model.specs.Sessions.{open_command, settings_with}
use Rattle.host_model.specs.Ends.{attempt_entries, attempt_ended, PartEnd, Good, Passed_over, Bad, part_end, after_part, after_task, after_end, after_end_if}
use Rattle.host_model.specs.Events.{HostEvent, Hears, Requests_do, Interviews, Interview_unkept, Line_ticks, Submits_abort, Submits_front, Starts, Gives_text, Gives_segment, Finishes, Offers, Gives, Resends, Node_ticks}
use Rattle.host_model.specs.After.{after, requests_do, is_full, is_held, node_does, queues_if_room, offering, giving, holding, finishing}
use Rattle.host_model.specs.Outs.{outs, request_entries, ended_of, stored_entries, held_entries, dropped_if}
use Rattle.host_model.specs.Did.{after_all, outs_all}
use Rattle.host_model.specs.Taking.{FrameEvents}
use Rattle.proof_serial.specs.Line.{host_unit, host_units}
use Rattle.proof_waking.proofs.HostLinks.{no_units}
use Rattle.proof_waking.proofs.Followed.{MayFollow, frame_all}

-- an event that is neither an item, a tick of the line, nor a request that is submitted
abbrev pub IsOff : HostEvent → Type 0
IsOff (Hears item) = ⊥
IsOff Line_ticks = ⊥
IsOff Submits_abort = ⊥
IsOff Submits_front = ⊥
IsOff (Starts n plan more payload) = ⊥
IsOff (Gives_text n payload) = ⊥
IsOff (Gives_segment n more payload) = ⊥
IsOff _ = Unit {0}

abbrev pub AreOff : List HostEvent → Type 0
AreOff events = AllByRecursion IsOff events

may_off : (unit : List ℕ) (event : HostEvent) → MayFollow unit event → IsOff event
may_off unit (Hears item) may = absurd may
may_off unit Line_ticks may = absurd may
may_off unit Submits_abort may = absurd may
may_off unit Submits_front may = absurd may
may_off unit (Starts n plan more payload) may = absurd may
may_off unit (Gives_text n payload) may = absurd may
may_off unit (Gives_segment n more payload) may = absurd may
may_off unit event may = tt

-- ---- it leaves the host's frame, and writes nothing

-- its side of the line, and its requests: the end of an attempt leaves them, and so does that of a request
abbrev pub asks_of : HostState → Side × RequestsState
asks_of h = (h.side, h.requests)

pub attempt_asks : (h : HostState) (end : AttemptEnd) (command : Option ℕ) → asks_of (attempt_ended h end command) ≡ asks_of h
attempt_asks h NoneRan command = refl
attempt_asks h Again command = refl
attempt_asks h (Unanswered fell) None = refl
attempt_asks h (Unanswered fell) (Some command) = refl

part_asks : (h : HostState) (n : ℕ) (end : PartEnd) (moment : Moment) → asks_of (after_part h n end moment) ≡ asks_of h
part_asks h n Good moment = refl
part_asks h n Passed_over moment = refl
part_asks h n Bad moment = attempt_asks (with_node h n (after_attempt_end (node_of h n) moment)) (attempt_end (node_of h n)) (open_command (node_of h n))

task_asks : (h : HostState) (task : Task) → asks_of (after_task h task) ≡ asks_of h
task_asks h (NoMore n) = refl
task_asks h task = refl

end_asks : (h : HostState) (purpose : Purpose) (how : How) (moment : Moment) → asks_of (after_end h (record { purpose = purpose; how = how }) moment) ≡ asks_of h
end_asks h (Attempt n more payload) how moment = part_asks h n (part_end more how) moment
end_asks h (Housekeeping task) how moment = task_asks h task
end_asks h Abort how moment = refl

pub end_if_asks : (h : HostState) (end : Option End) (moment : Moment) → asks_of (after_end_if h end moment) ≡ asks_of h
end_if_asks h None moment = refl
end_if_asks h (Some end) moment = end_asks h end.purpose end.how moment

pub held_asks : (h : HostState) (n : ℕ) (held : Bool) → asks_of (holding h n held) ≡ asks_of h
held_asks h n true = refl
held_asks h n false = refl

abbrev kept_by : Side × RequestsState → Side × Option UnderWay × Bool × ℕ
kept_by p = (p.0, p.1.under_way, p.1.owes, p.1.last_id)

-- its frame on the line, the request under way, whether an abort is owed, and the callback id given last
abbrev pub kept : HostState → Side × Option UnderWay × Bool × ℕ
kept h = kept_by (asks_of h)

pub end_if_kept : (h : HostState) (end : Option End) (moment : Moment) → kept (after_end_if h end moment) ≡ kept h
end_if_kept h end moment = ap kept_by (end_if_asks h end moment)

queued_kept : (h : HostState) (task : Task) → kept (queues_if_room h task) ≡ kept h
queued_kept h task = by (is_full h)
  where
    by : (full : Bool) → kept (if full then h else requests_do h (request_pushes task)) ≡ kept h
    by true = refl
    by false = refl

offered_kept : (h : HostState) (n : ℕ) (live : Option (List ℕ)) → kept (offering h n live) ≡ kept h
offered_kept h n None = refl
offered_kept h n (Some nonce) = queued_kept h (Offer n nonce)

-- such an event that the requests do not hear of
abbrev pub IsApart : HostEvent → Type 0
IsApart (Requests_do event moment) = ⊥
IsApart (Interviews n listens classes update) = ⊥
IsApart (Interview_unkept n update) = ⊥
IsApart event = IsOff event

pub apart_kept : (h : HostState) (event : HostEvent) → IsApart event → kept (after h event) ≡ kept h
apart_kept h (Finishes n session id command status wake) apart = ap kept_by (held_asks (finishing h n id command status) n (is_held h n wake))
apart_kept h (Offers n) apart = offered_kept h n (live_of h.nonces n)
apart_kept h (Gives n drawn) apart = offered_kept (giving h n drawn) n (live_of (giving h n drawn).nonces n)
apart_kept h (Resends n payload) apart = queued_kept h (Segment n payload)
apart_kept h (Node_ticks n) apart = ap kept_by (attempt_asks (node_does h n node_ticks) (tick_end (node_of h n)) (open_command (node_of h n)))
apart_kept h (Requests_do event moment) apart = absurd apart
apart_kept h (Interviews n listens classes update) apart = absurd apart
apart_kept h (Interview_unkept n update) apart = absurd apart
apart_kept h (Hears item) apart = absurd apart
apart_kept h Line_ticks apart = absurd apart
apart_kept h Submits_abort apart = absurd apart
apart_kept h Submits_front apart = absurd apart
apart_kept h (Starts n plan more payload) apart = absurd apart
apart_kept h (Gives_text n payload) apart = absurd apart
apart_kept h (Gives_segment n more payload) apart = absurd apart
apart_kept h event apart = refl

pub all_apart : (h : HostState) (events : List HostEvent) → AllByRecursion IsApart events → kept (after_all h events) ≡ kept h
all_apart h [] apart = refl
all_apart h (event ∷ events) apart = all_apart (after h event) events apart.1 ∙ apart_kept h event apart.0

pub off_side : (h : HostState) (event : HostEvent) → IsOff event → (after h event).side ≡ h.side
off_side h (Requests_do event moment) off = ap (λ (k : Side × Option UnderWay × Bool × ℕ). k.0) (end_if_kept (requests_do h event) (end_at h.requests event) moment)
off_side h (Interviews n listens classes update) off = refl
off_side h (Interview_unkept n update) off = refl
off_side h (Hears item) off = absurd off
off_side h Line_ticks off = absurd off
off_side h Submits_abort off = absurd off
off_side h Submits_front off = absurd off
off_side h (Starts n plan more payload) off = absurd off
off_side h (Gives_text n payload) off = absurd off
off_side h (Gives_segment n more payload) off = absurd off
off_side h event off = ap (λ (k : Side × Option UnderWay × Bool × ℕ). k.0) (apart_kept h event off)

pub off_mute : (h : HostState) (event : HostEvent) → IsOff event → host_units (outs h event) ≡ []
off_mute h (Requests_do event moment) off = no_units (request_entries h event)
off_mute h (Finishes n session id command status wake) off =
    no_units (Out command (ended_of status) ∷ (stored_entries n (settings_with status (command_at h.commands command)) ++ held_entries n (is_held h n wake)))
off_mute h (Offers n) off = no_units (dropped_if (is_full h) n)
off_mute h (Gives n drawn) off = no_units (dropped_if (is_full h) n)
off_mute h (Resends n payload) off = no_units (dropped_if (is_full h) n)
off_mute h (Node_ticks n) off = no_units (attempt_entries n (tick_end (node_of h n)) (open_command (node_of h n)))
off_mute h (Hears item) off = absurd off
off_mute h Line_ticks off = absurd off
off_mute h Submits_abort off = absurd off
off_mute h Submits_front off = absurd off
off_mute h (Starts n plan more payload) off = absurd off
off_mute h (Gives_text n payload) off = absurd off
off_mute h (Gives_segment n more payload) off = absurd off
off_mute h event off = refl

pub all_side : (h : HostState) (events : List HostEvent) → AreOff events → (after_all h events).side ≡ h.side
all_side h [] off = refl
all_side h (event ∷ events) off = all_side (after h event) events off.1 ∙ off_side h event off.0

pub all_mute : (h : HostState) (events : List HostEvent) → AreOff events → host_units (outs_all h events) ≡ []
all_mute h [] off = refl
all_mute h (event ∷ events) off =
    flat_map-append host_unit (outs h event) (outs_all (after h event) events)
    ∙ ap (λ (l : List LineUnit). l ++ host_units (outs_all (after h event) events)) (off_mute h event off.0) ∙ all_mute (after h event) events off.1

-- ---- which events follow a frame

pub frame_off : (h : HostState) (f : FrameParts) (events : List HostEvent) → FrameEvents h f.kind f.func f.body events → AreOff events
frame_off h f events is = all-weaker (MayFollow (unit_text (Framed f))) IsOff (may_off (unit_text (Framed f))) events (frame_all h f events is)
