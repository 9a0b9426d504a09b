-- The host's link obeys the rules of the serial line at each event, and the host writes what its link puts out.
use Rattle.std.proofs.Common.{◌≡◌, ℕ, ◌+◌, ◌-◌, ◌==◌, Bool, true, false, if◌then◌else◌, List, [], ◌∷◌, ◌++◌, refl, sym, ap, ◌∙◌, subst, append_assoc}
use Rattle.std.specs.Prelude.{Option, Some, None, IsSome, nat_lt}
use Rattle.std.specs.List.{flat_map}
use Rattle.std.proofs.lemmas.List.{append-nil}
use Rattle.std.proofs.lemmas.Grind.{flat_map-append}
use Rattle.zw_text.specs.declared.entry.Entry.{Entry}
use Rattle.zw_text.specs.declared.entry.Entry.TheVariants.{Out}
use Rattle.s0_crypto.specs.declared.key_pair.Keys.{Keys}
use Rattle.serial_frame.specs.Frame.{FrameParts}
use Rattle.serial_frame.specs.declared.unit.Unit.{Unit as LineUnit}
use Rattle.serial_frame.specs.declared.unit.Unit.TheVariants.{Ack, Nak, Can, Framed}
use Rattle.serial_frame.specs.declared.item.Item.{Item}
use Rattle.serial_frame.specs.declared.item.Item.TheVariants.{Good, Refused}
use Rattle.serial_frame.specs.declared.item.Refusal.TheVariants.{Stray, BadLength, BadSum, BadKind, Aborted}
use Rattle.serial_link.specs.State.{Side, hear_outs, answer, outs_heard, outs_ticked, collisions_after, pause_after, tick_side, copy_due}
use Rattle.serial_link.specs.Rules.{Step, SideObeys}
use Rattle.serial_link.specs.declared.turn.Turn.{Turn}
use Rattle.serial_link.specs.declared.turn.Turn.TheVariants.{Idle, Copied, Paused}
use Rattle.serial_link.specs.declared.out.LinkOut.{LinkOut}
use Rattle.serial_link.specs.declared.out.LinkOut.TheVariants.{Write as Writes, Failed}
use Rattle.serial_link.proofs.RulesKept.{side_hears_all, side_ticks_after, side_submits}
use Rattle.chip_sim.specs.Link.{link_unit, link_units}
use Rattle.supervision.specs.Host.{command_at as command_of_session}
use Rattle.host_keep.specs.declared.final_status.FinalStatus.{FinalStatus}
use Rattle.host_keep.specs.declared.record.Record.{Record}
use Rattle.host_keep.specs.declared.record.Record.TheVariants as records
use Rattle.host_requests.specs.declared.task.Purpose.TheVariants.{Attempt, Abort}
use Rattle.host_requests.specs.Frames.{frame_of}
use Rattle.host_requests.specs.State.{next_id}
use Rattle.host_requests.specs.Events.{end_at}
use Rattle.host_requests.specs.Events.RequestsEvent.{Fails as request_fails}
use Rattle.host_node.specs.declared.attempt.Moment.TheVariants.{BeforeItsTick}
use Rattle.host_node.specs.Steps.{tick_end}
use Rattle.proof_serial.specs.host_model.declared.out.HostOut.{HostOut}
use Rattle.proof_serial.specs.host_model.State.{HostState, node_of, command_at, first_host}
use Rattle.proof_serial.specs.host_model.Sessions.{open_command, settings_with}
use Rattle.proof_serial.specs.host_model.Ends.{attempt_entries}
use Rattle.proof_serial.specs.host_model.Events.{HostEvent, Hears, Requests_do, Interviews, Interview_unkept, Finishes, Offers, Gives, Resends, Line_ticks, Node_ticks, Submits_abort, Submits_front, Starts, Gives_text, Gives_segment}
use Rattle.proof_serial.specs.host_model.After.{after, requests_do, line_ticked, failing_if, gives_up, is_busy, is_full, is_held, task_purpose}
use Rattle.proof_serial.specs.host_model.Outs.{outs, noted, answer_to, copy_out, dropped_if, ended_of, stored_entries, held_entries, request_entries, failing_entries}
use Rattle.proof_serial.specs.host_model.May.{May as MayHost}
use Rattle.proof_serial.specs.host_model.Did.{MayAll as MayAllHost, after_all}
use Rattle.proof_serial.specs.host_model.Restoring.{restored, ending}
use Rattle.proof_serial.specs.host_model.Opening.{restored_all, opened}
use Rattle.proof_device.specs.world_model.State.{Machine}
use Rattle.proof_device.specs.world_model.Events.{Event, Outside_does, Host_does, Host_takes, Decoder_ticks, Refuses, Shows_values, Restarts, OpensFrom, happens, May}
use Rattle.proof_device.specs.world_model.Did.{MayAll, happens_all}
use Rattle.proof_serial.specs.Line.{host_unit, host_units}
use Rattle.proof_serial.specs.Host.{AllAskWell, AsksWell}
use Rattle.proof_traffic.specs.Links.{KeepsItsLink, host_link_steps, host_link_steps_all, with_steps, steps_since_start}
use Rattle.proof_traffic.proofs.Quiet.{same_end_if, quiet_same}
use Rattle.chip_sim.proofs.Links.{units_refused as refused_mute, units_acknowledged as acknowledged_mute}

-- ---- at a start

fresh_obeys : SideObeys [] (record { turn = Idle; collisions = 0 })
fresh_obeys = record { answers = tt; collisions = refl; turns = record { past = []; now = []; parts = refl; are_past = tt; stands = tt } }

pub first_keeps : (keys : Keys) → KeepsItsLink [] (first_host keys)
first_keeps keys = record { obeys = fresh_obeys; asked_none = refl }

ending_side : (h : HostState) (n session : ℕ) (status : FinalStatus) (command : Option ℕ) → (ending h n session status command).side ≡ h.side
ending_side h n session status None = refl
ending_side h n session status (Some command) = refl

-- what is taken up from a record is nothing of the line
restored_side : (h : HostState) (one : Record) → (restored h one).side ≡ h.side
restored_side h (records.Final n session status) = ending_side h n session status (command_of_session (node_of h n).book.commands session)
restored_side h (records.Accepted command order) = refl
restored_side h (records.Joined n) = refl
restored_side h (records.Classes n listens classes) = refl
restored_side h (records.Begun n session command) = refl
restored_side h (records.Cancelled command) = refl
restored_side h (records.Given n given nonce) = refl
restored_side h (records.Spent n) = refl
restored_side h (records.Seen n seen) = refl

restored_all_side : (h : HostState) (all : List Record) → (restored_all h all).side ≡ h.side
unfolding restored_all
restored_all_side h [] = refl
restored_all_side h (one ∷ more) = restored_all_side (restored h one) more ∙ restored_side h one

pub opened_keeps : (keys : Keys) (all : List Record) → KeepsItsLink [] (opened keys all)
opened_keeps keys all =
    let same : (opened keys all).side ≡ (first_host keys).side = restored_all_side (first_host keys) all in
    record { obeys = subst (λ (s : Side). SideObeys [] s) (sym same) fresh_obeys; asked_none = ap (λ (s : Side). s.collisions) same }

-- ---- one event

still : (steps : List Step) (h g : HostState) → g.side ≡ h.side → KeepsItsLink steps h → KeepsItsLink (steps ++ []) g
still steps h g same keeps = record {
  obeys = subst (λ (t : List Step). SideObeys t g.side) (sym (append-nil steps)) (subst (λ (s : Side). SideObeys steps s) (sym same) keeps.obeys);
  asked_none = ap (λ (s : Side). s.collisions) same ∙ keeps.asked_none;
}

still_none : (count : ℕ) (item : Item) → count ≡ 0 → collisions_after count item ≡ 0
still_none count (Good Ack) none = none
still_none count (Good Nak) none = none
still_none count (Good Can) none = none
still_none count (Good (Framed f)) none = ap (λ (n : ℕ). n - 1) none
still_none count (Refused refusal) none = none

idle_of : (turn : Turn) → is_busy turn ≡ false → turn ≡ Idle
idle_of Idle free = refl
idle_of (Copied f copies ticks) free = absurd cc
idle_of (Paused f copies ticks) free = absurd cc

failing_side : (b : Bool) (h : HostState) → (failing_if b h).side ≡ h.side
failing_side true h = (same_end_if (requests_do h request_fails) (end_at h.requests request_fails) BeforeItsTick).side
failing_side false h = refl

pub event_keeps : (h : HostState) (event : HostEvent) (steps : List Step) → KeepsItsLink steps h → MayHost h event → KeepsItsLink (steps ++ host_link_steps h event) (after h event)
event_keeps h (Hears item) steps keeps may =
    record { obeys = side_hears_all steps h.side (item ∷ []) keeps.obeys; asked_none = still_none h.side.collisions item keeps.asked_none }
event_keeps h Line_ticks steps keeps may =
    let same : (after h Line_ticks).side ≡ tick_side h.side = failing_side (gives_up h.side.turn (tick_side h.side).turn) (line_ticked h) in
    record {
      obeys = subst (λ (s : Side). SideObeys (steps ++ host_link_steps h Line_ticks) s) (sym same) (side_ticks_after steps h.side [] keeps.obeys);
      asked_none = ap (λ (s : Side). s.collisions) same ∙ keeps.asked_none;
    }
event_keeps h (Requests_do event moment) steps keeps may =
    still steps h (after h (Requests_do event moment)) (same_end_if (requests_do h event) (end_at h.requests event) moment).side keeps
event_keeps h (Interviews n listens classes update) steps keeps may = still steps h (after h (Interviews n listens classes update)) refl keeps
event_keeps h (Interview_unkept n update) steps keeps may = still steps h (after h (Interview_unkept n update)) refl keeps
event_keeps h Submits_abort steps keeps may =
    record { obeys = side_submits steps h.side (frame_of Abort (next_id h.requests.last_id)) (idle_of h.side.turn may.0.free_line) keeps.obeys; asked_none = keeps.asked_none }
event_keeps h Submits_front steps keeps may =
    record {
      obeys = side_submits steps h.side (frame_of (task_purpose h.requests.queue) (next_id h.requests.last_id)) (idle_of h.side.turn may.0.free_line) keeps.obeys;
      asked_none = keeps.asked_none;
    }
event_keeps h (Starts n plan more payload) steps keeps may =
    record {
      obeys = side_submits steps h.side (frame_of (Attempt n more payload) (next_id h.requests.last_id)) (idle_of h.side.turn may.0.free.free_line) keeps.obeys;
      asked_none = keeps.asked_none;
    }
event_keeps h (Gives_text n payload) steps keeps may =
    record {
      obeys = side_submits steps h.side (frame_of (Attempt n false payload) (next_id h.requests.last_id)) (idle_of h.side.turn may.0.free.free_line) keeps.obeys;
      asked_none = keeps.asked_none;
    }
event_keeps h (Gives_segment n more payload) steps keeps may =
    record {
      obeys = side_submits steps h.side (frame_of (Attempt n more payload) (next_id h.requests.last_id)) (idle_of h.side.turn may.0.free.free_line) keeps.obeys;
      asked_none = keeps.asked_none;
    }
event_keeps h event steps keeps may = still steps h (after h event) (quiet_same h event tt).side keeps

-- ---- events of the machine

events_keep : (h : HostState) (events : List HostEvent) (steps : List Step) → KeepsItsLink steps h → MayAllHost h events
    → KeepsItsLink (steps ++ host_link_steps_all h events) (after_all h events)
events_keep h [] steps keeps may = still steps h h refl keeps
events_keep h (event ∷ events) steps keeps may =
    subst (λ (t : List Step). KeepsItsLink t (after_all (after h event) events)) (append_assoc steps (host_link_steps h event) (host_link_steps_all (after h event) events))
    (events_keep (after h event) events (steps ++ host_link_steps h event) (event_keeps h event steps keeps may.0) may.1)

opens_keeps : (keys : Keys) (told : Option (List (List ℕ))) (state : HostState) → OpensFrom keys told state → IsSome told → KeepsItsLink [] state
opens_keeps keys None state opens some = let bad : false ≡ true = some in absurd cc
opens_keeps keys (Some texts) state (all, are, legal, is) some = subst (λ (h : HostState). KeepsItsLink [] h) (sym is) (opened_keeps keys all)

one_keeps : (steps : List Step) (m : Machine) (event : Event) → KeepsItsLink steps m.host.state → May m event → AsksWell m event
    → KeepsItsLink (with_steps steps m event) (happens m event).host.state
unfolding happens May
one_keeps steps m (Outside_does event) keeps may asks = keeps
one_keeps steps m (Host_does event) keeps may asks = events_keep m.host.state (event ∷ []) steps keeps may
one_keeps steps m (Host_takes count rest items events) keeps may asks = events_keep m.host.state events steps keeps may.may
one_keeps steps m Decoder_ticks keeps may asks = keeps
one_keeps steps m (Refuses line refusal) keeps may asks = keeps
one_keeps steps m (Shows_values node) keeps may asks = keeps
one_keeps steps m (Restarts state) keeps may asks = opens_keeps m.keys m.records state may asks

pub run_keeps : (steps : List Step) (m : Machine) (events : List Event) → KeepsItsLink steps m.host.state → MayAll m events → AllAskWell m events
    → KeepsItsLink (steps_since_start steps m events) (happens_all m events).host.state
run_keeps steps m [] keeps may asks = keeps
run_keeps steps m (event ∷ events) keeps may asks =
    run_keeps (with_steps steps m event) (happens m event) events (one_keeps steps m event keeps may.0 asks.0) may.1 asks.1

-- ---- what is written

pub no_units : (entries : List Entry) → host_units (noted entries) ≡ []
no_units [] = refl
no_units (entry ∷ entries) = no_units entries

ended_mute : (given_up : Bool) → flat_map link_unit (if given_up then Failed 4 ∷ [] else []) ≡ []
ended_mute true = refl
ended_mute false = refl

heard_units : (turn : Turn) (item : Item) → host_units (answer_to item) ≡ flat_map link_unit (answer false item ++ outs_heard turn item)
heard_units turn (Good Ack) = sym (acknowledged_mute turn)
heard_units turn (Good Nak) = sym (refused_mute turn)
heard_units turn (Good Can) = sym (refused_mute turn)
heard_units turn (Good (Framed f)) = refl
heard_units turn (Refused (Stray x)) = refl
heard_units turn (Refused (BadLength n)) = refl
heard_units turn (Refused (BadSum want got)) = refl
heard_units turn (Refused (BadKind x)) = refl
heard_units turn (Refused Aborted) = refl

-- the one step of an event puts out just these
one_step : (units : List LineUnit) (outs : List LinkOut) → units ≡ flat_map link_unit outs → units ≡ flat_map link_unit (outs ++ [])
one_step units outs are = are ∙ ap (λ (l : List LinkOut). flat_map link_unit l) (sym (append-nil outs))

waited_mute : (over given_up : Bool) → [] ≡ flat_map link_unit (if over then (if given_up then Failed 4 ∷ [] else []) else [])
waited_mute true given_up = sym (ended_mute given_up)
waited_mute false given_up = refl

paused_units : (due : Bool) (f : FrameParts) → host_units (copy_out (if due then Some f else None)) ≡ flat_map link_unit (if due then Writes (Framed f) ∷ [] else [])
paused_units true f = refl
paused_units false f = refl

ticked_units : (turn : Turn) → host_units (copy_out (copy_due turn)) ≡ flat_map link_unit (outs_ticked turn)
ticked_units Idle = refl
ticked_units (Copied f copies ticks) = waited_mute (ticks == 14) (copies == 4)
ticked_units (Paused f copies ticks) = paused_units (ticks + 1 == pause_after copies) f

failing_units : (h : HostState) (copy : List HostOut) (entries : List Entry) → host_units (copy ++ noted entries) ≡ host_units copy
failing_units h copy entries =
    flat_map-append host_unit copy (noted entries) ∙ ap (λ (l : List LineUnit). host_units copy ++ l) (no_units entries) ∙ append-nil (host_units copy)

pub event_units : (h : HostState) (event : HostEvent) → h.side.collisions ≡ 0 → host_units (outs h event) ≡ link_units (host_link_steps h event)
event_units h (Hears item) none =
    one_step (host_units (answer_to item)) (hear_outs h.side item)
    (heard_units h.side.turn item ∙ ap (λ (b : Bool). flat_map link_unit (answer b item ++ outs_heard h.side.turn item)) (sym (ap (λ (n : ℕ). nat_lt 0 n) none)))
event_units h Line_ticks none =
    one_step (host_units (outs h Line_ticks)) (outs_ticked h.side.turn)
    (failing_units h (copy_out (copy_due h.side.turn)) (failing_entries (gives_up h.side.turn (tick_side h.side).turn) (line_ticked h)) ∙ ticked_units h.side.turn)
event_units h (Requests_do event moment) none = no_units (request_entries h event)
event_units h (Finishes n session id command status wake) none =
    no_units (Out command (ended_of status) ∷ (stored_entries n (settings_with status (command_at h.commands command)) ++ held_entries n (is_held h n wake)))
event_units h (Offers n) none = no_units (dropped_if (is_full h) n)
event_units h (Gives n drawn) none = no_units (dropped_if (is_full h) n)
event_units h (Resends n payload) none = no_units (dropped_if (is_full h) n)
event_units h (Node_ticks n) none = no_units (attempt_entries n (tick_end (node_of h n)) (open_command (node_of h n)))
event_units h event none = refl
