-- What is due to the chip stays told at each event of a line or tick: an answer by which it takes a payload, or is to ask what a node lists, is written at once, waits, or is dropped.
use Rattle.std.proofs.Common.{◌≡◌, ◌⊎◌, ◌≤◌, ℕ, zero, suc, ◌-◌, ◌==◌, ◌&&◌, nat_le, Bool, true, false, if◌then◌else◌, inl, inr, List, [], ◌∷◌, ◌++◌, length, refl, sym, ap, ◌∙◌, subst, arith}
use Rattle.std.specs.Prelude.{Option, Some, None, slice_set}
use Rattle.std.specs.Option.{unwrap_or}
use Rattle.std.specs.List.{AllByRecursion}
use Rattle.zw_base.proofs.Each.{all-append, all-left, all-right, all-weaker}
use Rattle.serial_frame.specs.Frame.{FrameParts}
use Rattle.serial_frame.specs.Stream.{after_tick}
use Rattle.serial_frame.specs.declared.item.Item.{Item}
use Rattle.serial_frame.specs.declared.item.Item.TheVariants.{Good}
use Rattle.serial_frame.specs.declared.unit.Unit.TheVariants.{Ack, Framed}
use Rattle.serial_link.specs.State.{Side as LinkSide, copy_due}
use Rattle.serial_link.specs.declared.turn.Turn.{Turn}
use Rattle.serial_link.specs.declared.turn.Turn.TheVariants.{Idle, Copied, Paused}
use Rattle.serial_pipes.specs.Events.{Takes}
use Rattle.serial_pipes.specs.Events as way
use Rattle.route_table.specs.Network.{linked}
use Rattle.route_table.specs.declared.route.Route.{Route}
use Rattle.device_sim.specs.State.{State}
use Rattle.device_sim.specs.Event.{DeviceEvent, device_after}
use Rattle.chip_functions.specs.Notice.{status_of}
use Rattle.chip_functions.specs.declared.notice.Notice.TheVariants.{ApplicationCommandHandler, ApplicationUpdate}
use Rattle.chip_functions.specs.declared.notice.TransmitStatus.{TransmitStatus}
use Rattle.chip_functions.specs.declared.notice.TransmitStatus.TheVariants.{Fail, NoRoute as no_route_status}
use Rattle.chip_functions.specs.declared.request.Request.{Request}
use Rattle.chip_functions.specs.declared.request.Request.TheVariants.{SendData, SendDataAbort, RequestNodeInfo}
use Rattle.chip_functions.specs.declared.response.Response.TheVariants.{SendData as SendDataAnswer, RequestNodeInfo as NodeInfoAnswer}
use Rattle.chip_sim.specs.State.{ChipState}
use Rattle.chip_sim.specs.Answers.{notice_frame, response_frame, takes}
use Rattle.chip_sim.specs.Waiting.{PortState, is_full, next_at, queued, queued_at, queued_outs, queued_outs_at, served_at, ticked, written}
use Rattle.chip_sim.specs.Requests.{abort_frame, answer_outs, asked as asked_of, callback_frame, given, given_if, given_outs, heard, judged_frame, judged_outs, passed, reply_to, requested, requested_outs, sent, stopped}
use Rattle.chip_sim.specs.Events.{ChipEvent, Judged, Ticked, Heard as chip_hears, Done, Informed, Forgets, after, collides, ended, outs, update_of}
use Rattle.chip_sim.specs.declared.out.Sending.{Sending}
use Rattle.chip_sim.specs.declared.out.ChipOut.{ChipOut}
use Rattle.chip_sim.specs.declared.out.ChipOut.TheVariants.{Write, AskInfo, Full}
use Rattle.mesh_sim.specs.Fates.{place_of}
use Rattle.mesh_sim.specs.Steps.{mesh_after}
use Rattle.mesh_sim.specs.declared.event.AirEvent.{AirEvent}
use Rattle.mesh_sim.specs.declared.event.AirEvent.TheVariants as air_event
use Rattle.zw_words.specs.declared.side.Side.TheVariants.{Host as by_host, Chip as by_chip}
use Rattle.zw_text.specs.declared.entry.Entry.{Entry}
use Rattle.zw_text.specs.declared.entry.Entry.TheVariants as entry
use Rattle.law_transcript.specs.Lists.{EachAfter}
use Rattle.law_wire.specs.Asked.{clock_of}
use Rattle.outside_model.specs.declared.waits.Due.{Due}
use Rattle.outside_model.specs.declared.waits.Due.TheVariants.{Info, NoRoute as no_route_due}
use Rattle.outside_model.specs.State.{OuterState, Outcome, Outside, and_then, each, outside, silent, tells, with_chip}
use Rattle.outside_model.specs.Chip.{chip_does, put_out}
use Rattle.outside_model.specs.Results.{call_back, device_at, forgets, frame_ends, gives, leading, no_route, no_routes, owes_call, profile_for, without_no_route}
use Rattle.outside_model.specs.Nodes.{all_pairs}
use Rattle.outside_model.specs.Air.{change_at, change_entries, deals, sent_entries}
use Rattle.outside_model.specs.Devices.{acts}
use Rattle.outside_model.specs.Events.{OuterEvent, Begins_line, Begins_tick, Host_notes, Chip_takes, Arrives, Gives, Device_ticks, Chip_ticks, Repeats, Wakes_device, Sets_device, Marks_loss, Marks_change, Clears_pipe, Collides_next, mesh_of, outcome, ticked_entry}
use Rattle.world_model.specs.State.{Machine}
use Rattle.world_model.specs.Events.{Event, May, entries, happens}
use Rattle.proof_host.proofs.Over.{each-right}
use Rattle.proof_air.specs.proof_walk.Outside.{Comes, CoversOuter, IsSimple, Knowing, Moves, Outer, awaits_number, session_begins}
use Rattle.proof_air.proofs.Counting.{each-left}
use Rattle.proof_air.proofs.Entering.{IsOwn, acts_own, change_own}
use Rattle.proof_air.proofs.Machines.{machine_keeps}
use Rattle.proof_air.proofs.SentBefore.{number_clock, same_clock}
use Rattle.proof_air.proofs.Times.{IsWithin, does_chip, does_time, outcome_time}
use Rattle.proof_air.proofs.Untimed.{AreUntimed, IsUntimed, note_untimed, outcome_untimed}
use Rattle.proof_air.proofs.LandingWalk.{hosts}
use Rattle.proof_chip.specs.Knowing.{AnyEntry}
use Rattle.proof_chip.specs.Told.{IsTold, NoneWaits, TakesNone, Tells, ToldBefore}
use Rattle.proof_chip.proofs.Answered.{answered_outs}
use Rattle.proof_chip.proofs.Asides.{simple_port}
use Rattle.proof_chip.proofs.Giving.{done_rests}
use Rattle.proof_chip.proofs.Items.{quiet_rests}
use Rattle.proof_chip.proofs.Judged.{decided, none_passed, put_untimed}
use Rattle.proof_chip.proofs.Learning.{any_each}
use Rattle.proof_chip.proofs.Owing.{without_call, without_due}
use Rattle.proof_chip.proofs.Quieting.{IsUnanswered}
use Rattle.proof_chip.proofs.Resting.{LeavesAll, each_rests, given_leaves, queued_leaves, written_leaves}
use Rattle.proof_chip.proofs.Telling.{IsPut, puts_both, puts_put}

-- ---- entries

abbrev TellsNone : Entry → Type 0
TellsNone e = Tells e → ⊥

abbrev TellNone : List Entry → Type 0
TellNone told = AllByRecursion TellsNone told

-- of what is entered at that clock nothing does
untold : (clock : ℕ) (told past : List Entry) → clock_of past ≡ clock → AreUntimed told → EachAfter (ToldBefore clock) past told → TellNone told
untold clock [] past now untimed each = tt
untold clock (e ∷ told) past now untimed each = (
  λ tells. let below = each.0 tells in omega (arith, below, now),
  untold clock told (past ++ e ∷ []) (same_clock past (e ∷ []) (untimed.0, tt) ∙ now) untimed.1 each.1,
)

-- ---- outputs

-- a frame that is written takes nothing, where nothing tells of it; and none is dropped
wrote : (o : OuterState) (f : FrameParts) (puts : List ChipOut) → TellNone (each put_out o (Write (Framed f) ∷ puts)).entries → TakesNone f
wrote o f puts told taking = told.0 (f, taking, refl)

last_told : (first last : List ChipOut) (o : OuterState) → TellNone (each put_out o (first ++ last)).entries → TellNone (each put_out (each put_out o first).outer last).entries
last_told first last o told =
    all-right TellsNone (each put_out o first).entries (each put_out (each put_out o first).outer last).entries (subst (λ (l : List Entry). TellNone l) (puts_both first last o) told)

-- ---- the frames that wait

abbrev WaitNone : List FrameParts → Type 0
WaitNone frames = AllByRecursion TakesNone frames

abbrev with_one : PortState → FrameParts → PortState
with_one port f = record { side = port.side; waiting = port.waiting ++ f ∷ [] }

-- where a frame is queued, those that waited still do
queued_waits : (turn : Turn) (port : PortState) (f : FrameParts) → WaitNone (queued_at turn port f).waiting → WaitNone port.waiting
queued_waits turn port f waits = by turn waits
  where
    more : (b : Bool) → WaitNone (if b then port else with_one port f).waiting → WaitNone port.waiting
    more true waits = waits
    more false waits = all-left TakesNone port.waiting (f ∷ []) waits

    by : (turn : Turn) → WaitNone (queued_at turn port f).waiting → WaitNone port.waiting
    by Idle waits = waits
    by (Copied g copies ticks) waits = more (is_full port.waiting) waits
    by (Paused g copies ticks) waits = more (is_full port.waiting) waits

-- and that takes nothing, where none that waits then does and nothing tells of it
queued_takes : (turn : Turn) (port : PortState) (f : FrameParts) (o : OuterState) (puts : List ChipOut) → TellNone (each put_out o (queued_outs_at turn port f ++ puts)).entries
    → WaitNone (queued_at turn port f).waiting → TakesNone f
queued_takes turn port f o puts told waits = by turn told waits
  where
    more : (b : Bool) → TellNone (each put_out o ((if b then Full ∷ [] else []) ++ puts)).entries → WaitNone (if b then port else with_one port f).waiting → TakesNone f
    more true told waits = absurd (told.0 tt)
    more false told waits = (all-right TakesNone port.waiting (f ∷ []) waits).0

    by : (turn : Turn) → TellNone (each put_out o (queued_outs_at turn port f ++ puts)).entries → WaitNone (queued_at turn port f).waiting → TakesNone f
    by Idle told waits = wrote o f puts told
    by (Copied g copies ticks) told waits = more (is_full port.waiting) told waits
    by (Paused g copies ticks) told waits = more (is_full port.waiting) told waits

given_waits : (s : ChipState) (reply : Option FrameParts) → WaitNone (given_if s reply).port.waiting → WaitNone s.port.waiting
given_waits s None waits = waits
given_waits s (Some f) waits = queued_waits s.port.side.turn s.port f waits

-- one that is served is written
served_waits : (turn : Turn) (waiting : List FrameParts) (side : LinkSide) (o : OuterState) → TellNone (each put_out o (written (next_at turn waiting))).entries → WaitNone (served_at turn waiting side).waiting
    → WaitNone waiting
served_waits Idle [] side o told waits = tt
served_waits Idle (f ∷ waiting) side o told waits = (wrote o f [] told, waits)
served_waits (Copied g copies ticks) waiting side o told waits = waits
served_waits (Paused g copies ticks) waiting side o told waits = waits

-- ---- requests

stopped_port : (sending : Option Sending) (s : ChipState) → (stopped sending s).port ≡ s.port
stopped_port None s = refl
stopped_port (Some parts) s = refl

-- what waited, and what is due after these outputs
abbrev Leaves : ChipState → OuterState → List ChipOut → Type 0
Leaves s o puts = WaitNone s.port.waiting × ((each put_out o puts).outer.due ≡ o.due)

replied : (s : ChipState) (o : OuterState) (reply : Option FrameParts) → WaitNone (given_if s reply).port.waiting → Leaves s o (given_outs s reply ++ [])
replied s o reply waits =
    let rests = each_rests (given_outs s reply ++ []) o (all-append LeavesAll (given_outs s reply) [] (given_leaves s reply) tt) in
    (given_waits s reply waits, rests.due)

-- a SendData that is taken is told of
sent_goes : (s : ChipState) (o : OuterState) (node : ℕ) (payload : List ℕ) (id : ℕ) (route : Option Route) (b : Bool)
    → TellNone (each put_out o (queued_outs s.port (response_frame (SendDataAnswer (if b then 1 else 0))) ++ (if b then sent node payload route else []))).entries
    → WaitNone (if b then record (given s (response_frame (SendDataAnswer (if b then 1 else 0)))) { sending = Some (record { node = node; callback_id = id }) }
    else given s (response_frame (SendDataAnswer (if b then 1 else 0)))).port.waiting
    → Leaves s o (queued_outs s.port (response_frame (SendDataAnswer (if b then 1 else 0))) ++ (if b then sent node payload route else []))
sent_goes s o node payload id route true told waits =
    absurd (queued_takes s.port.side.turn s.port (response_frame (SendDataAnswer 1)) o (sent node payload route) told waits (inl refl))
sent_goes s o node payload id route false told waits = replied s o (Some (response_frame (SendDataAnswer 0))) waits

request_goes : (s : ChipState) (o : OuterState) (asked : Option Request) (route : Option Route) → TellNone (each put_out o (requested_outs asked s route)).entries → WaitNone (requested asked s).port.waiting
    → Leaves s o (requested_outs asked s route)
request_goes s o None route told waits = (waits, refl)
request_goes s o (Some (SendData node payload options id)) route told waits = sent_goes s o node payload id route (takes s node payload) told waits
request_goes s o (Some SendDataAbort) route told waits =
    let replies : ChipState = given_if s (abort_frame s.sending) in
    replied s o (abort_frame s.sending) (subst (λ (port : PortState). WaitNone port.waiting) (stopped_port replies.sending replies) waits)
request_goes s o (Some (RequestNodeInfo node)) route told waits =
    absurd (queued_takes s.port.side.turn s.port (response_frame (NodeInfoAnswer 1)) o (AskInfo node ∷ []) told waits (inr refl))
request_goes s o (Some request) route told waits = replied s o (reply_to s request) waits

-- ---- an event of the chip

abbrev Goes : OuterState → ChipEvent → Type 0
Goes o event = TellNone (chip_does o event).entries → WaitNone (after o.chip.state event).port.waiting → NoneWaits o × ((chip_does o event).outer.due ≡ o.due)

given_goes : (o : OuterState) (f : FrameParts) → WaitNone (queued o.chip.state.port f).waiting
    → NoneWaits o × ((each put_out (with_chip o (given o.chip.state f)) (queued_outs o.chip.state.port f)).outer.due ≡ o.due)
given_goes o f waits =
    let port : PortState = o.chip.state.port in
    let rests = each_rests (queued_outs port f) (with_chip o (given o.chip.state f)) (queued_leaves port.side.turn port f) in
    (queued_waits port.side.turn port f waits, rests.due)

heard_goes : (o : OuterState) (node : ℕ) (payload : List ℕ) → Goes o (chip_hears node payload)
unfolding chip_does
heard_goes o node payload told waits = given_goes o (notice_frame (ApplicationCommandHandler 0 node payload)) waits

informed_goes : (o : OuterState) (there : List State) (node : ℕ) (route : Option Route) → Goes o (Informed node (profile_for o.air there node route))
unfolding chip_does
informed_goes o there node route told waits = given_goes o (notice_frame (ApplicationUpdate (update_of node (profile_for o.air there node route)))) waits

done_goes : (o : OuterState) (status : TransmitStatus) → Goes o (Done status)
done_goes o status told waits = (by (o.chip.state.aborted == 0) o.chip.state.sending waits, (done_rests o status).due)
  where
    by : (b : Bool) (sending : Option Sending) → WaitNone (if b then ended sending o.chip.state status else record o.chip.state { aborted = o.chip.state.aborted - 1 }).port.waiting → NoneWaits o
    by true None waits = waits
    by true (Some parts) waits = queued_waits o.chip.state.port.side.turn o.chip.state.port (callback_frame parts status) waits
    by false sending waits = waits

ticked_goes : (o : OuterState) → Goes o Ticked
unfolding chip_does
ticked_goes o told waits =
    let port : PortState = o.chip.state.port in
    let first : List ChipOut = written (copy_due port.side.turn) in
    let last : List ChipOut = written (next_at (ticked port).side.turn port.waiting) in
    let from : OuterState = with_chip o (after o.chip.state Ticked) in
    let rests =
    each_rests (first ++ last) from (all-append LeavesAll first last (written_leaves (copy_due port.side.turn)) (written_leaves (next_at (ticked port).side.turn port.waiting))) in
    (served_waits (ticked port).side.turn port.waiting (ticked port).side (each put_out from first).outer (last_told first last from told) waits, rests.due)

-- an item that answers no frame, or a frame
unanswered_goes : (o : OuterState) (item : Item) (route : Option Route) → IsUnanswered (collides o.chip.state) (Judged item route) → Goes o (Judged item route)
unfolding chip_does
unanswered_goes o item route none told waits =
    let b : Bool = collides o.chip.state in
    let s : ChipState = heard o.chip.state item in
    let from : OuterState = with_chip o (after o.chip.state (Judged item route)) in
    let last : List ChipOut = judged_outs None s route in
    let passes = none_passed b item route none in
    let puts = subst (λ (p : Option FrameParts). TellNone (each put_out from (answer_outs b item ++ judged_outs p s route)).entries) passes told in
    let waits_so = subst (λ (p : Option FrameParts). WaitNone (judged_frame p s).port.waiting) passes waits in
    let rests = quiet_rests o item route none in
    (served_waits s.port.side.turn o.chip.state.port.waiting s.port.side (each put_out from (answer_outs b item)).outer (last_told (answer_outs b item) last from puts) waits_so, rests.due)

answered_goes : (o : OuterState) (f : FrameParts) (route : Option Route) → collides o.chip.state ≡ false → Goes o (Judged (Good (Framed f)) route)
unfolding chip_does
answered_goes o f route free told waits =
    let s : ChipState = heard o.chip.state (Good (Framed f)) in
    let from : OuterState = with_chip o (after o.chip.state (Judged (Good (Framed f)) route)) in
    let acked : OuterState = (put_out from (Write Ack)).outer in
    let is = answered_outs o.chip.state f route free in
    let puts : TellNone (each put_out from (Write Ack ∷ requested_outs (asked_of f) s route)).entries = subst (λ (l : List ChipOut). TellNone (each put_out from l).entries) is told in
    let waits_so = subst (λ (b : Bool). WaitNone (judged_frame (passed b (Good (Framed f))) s).port.waiting) free waits in
    let got =
    request_goes s acked (asked_of f) route
    (all-right TellsNone (put_out from (Write Ack)).entries (each put_out acked (requested_outs (asked_of f) s route)).entries puts) waits_so in
    (got.0, ap (λ (l : List ChipOut). (each put_out from l).outer.due) is ∙ got.1)

item_goes : (o : OuterState) (item : Item) (route : Option Route) → Goes o (Judged item route)
item_goes o item route = by (decided (collides o.chip.state) item route)
  where
    by : IsUnanswered (collides o.chip.state) (Judged item route) ⊎ ((f : FrameParts) × (item ≡ Good (Framed f)) × (collides o.chip.state ≡ false)) → Goes o (Judged item route)
    by (inl none) = unanswered_goes o item route none
    by (inr (f, same, free)) = subst (λ (i : Item). Goes o (Judged i route)) (sym same) (answered_goes o f route free)

-- ---- what comes of an event

-- if nothing of it tells of an answer, and none waits then, none waited before; and nothing becomes due
record Kept (o : OuterState) (x : Outcome) : Type 0 where
  untimed : AreUntimed x.entries
  clock : x.outer.clock ≡ o.clock
  goes : TellNone x.entries → NoneWaits x.outer → NoneWaits o × (o.due ≡ [] → x.outer.due ≡ [])

does : (o : OuterState) (event : ChipEvent) → Goes o event → Kept o (chip_does o event)
unfolding chip_does
does o event so = record {
  untimed = all-weaker IsPut IsUntimed put_untimed (chip_does o event).entries (puts_put (outs o.chip.state event) (with_chip o (after o.chip.state event)));
  clock = ap (λ (t : Bool × Bool × ℕ). t.2) (does_time o event);
  goes = λ told waits. let got = so told (subst (λ (s : ChipState). WaitNone s.port.waiting) (does_chip o event) waits) in (got.0, λ none. got.1 ∙ none);
}

same_kept : (o p : OuterState) (told : List Entry) → AreUntimed told → p.clock ≡ o.clock → p.chip.state.port.waiting ≡ o.chip.state.port.waiting → (o.due ≡ [] → p.due ≡ []) → Kept o (tells p told)
same_kept o p told untimed clock waiting due = record { untimed = untimed; clock = clock; goes = λ none waits. (subst (λ (l : List FrameParts). WaitNone l) waiting waits, due) }

later_kept : (o p : OuterState) (x : Outcome) → p.clock ≡ o.clock → p.chip.state.port.waiting ≡ o.chip.state.port.waiting → (o.due ≡ [] → p.due ≡ []) → Kept p x → Kept o x
later_kept o p x clock waiting due kept = record {
  untimed = kept.untimed;
  clock = kept.clock ∙ clock;
  goes = λ told waits. let got = kept.goes told waits in (subst (λ (l : List FrameParts). WaitNone l) waiting got.0, λ none. got.1 (due none));
}

both_kept : (o : OuterState) (first : Outcome) (next : OuterState → Outcome) → Kept o first → Kept first.outer (next first.outer) → Kept o (and_then first next)
both_kept o first next one later = record {
  untimed = all-append IsUntimed first.entries (next first.outer).entries one.untimed later.untimed;
  clock = later.clock ∙ one.clock;
  goes = λ told waits.
      let two = later.goes (all-right TellsNone first.entries (next first.outer).entries told) waits in
      let got = one.goes (all-left TellsNone first.entries (next first.outer).entries told) two.0 in
      (got.0, λ none. two.1 (got.1 none));
}

-- ---- results

call_kept : (o : OuterState) (status : TransmitStatus) → Kept o (call_back o status)
call_kept o status = by (owes_call o.chip.state)
  where
    by : (b : Bool) → Kept o (if b then chip_does (without_call o) (Done status) else silent (without_call o))
    by true = later_kept o (without_call o) (chip_does (without_call o) (Done status)) refl refl (λ none. none) (does (without_call o) (Done status) (done_goes (without_call o) status))
    by false = same_kept o (without_call o) [] tt refl refl (λ none. none)

route_kept : (o : OuterState) → Kept o (no_route o)
route_kept o = later_kept o (without_due o) (no_route o) refl refl (λ none. ap without_no_route none) (call_kept (without_due o) no_route_status)

routes_kept : (count : ℕ) (o : OuterState) → Kept o (no_routes count o)
routes_kept zero o = same_kept o o [] tt refl refl (λ none. none)
routes_kept (suc count) o = both_kept o (no_route o) (λ later. no_routes count later) (route_kept o) (routes_kept count (no_route o).outer)

forgets_kept : (o : OuterState) (dead : Option (ℕ × ℕ)) → Kept o (forgets o dead)
forgets_kept o None = same_kept o o [] tt refl refl (λ none. none)
forgets_kept o (Some hop) = by (linked o.chip.state.table hop.0 hop.1)
  where
    by : (b : Bool) → Kept o (if b then tells (with_chip o (after o.chip.state (Forgets hop.0 hop.1))) (entry.Forget hop.0 hop.1 ∷ []) else silent o)
    by true = same_kept o (with_chip o (after o.chip.state (Forgets hop.0 hop.1))) (entry.Forget hop.0 hop.1 ∷ []) (tt, tt) refl refl (λ none. none)
    by false = same_kept o o [] tt refl refl (λ none. none)

ends_kept : (o : OuterState) (status : ℕ) (dead : Option (ℕ × ℕ)) → Kept o (frame_ends o status dead)
ends_kept o status dead =
    let result : TransmitStatus = unwrap_or (status_of status) Fail in
    let forgot : OuterState = (forgets o dead).outer in
    both_kept o (forgets o dead) (λ p. and_then (no_routes (leading p.calls) p) (λ later. call_back later result)) (forgets_kept o dead)
    (both_kept forgot (no_routes (leading forgot.calls) forgot) (λ later. call_back later result) (routes_kept (leading forgot.calls) forgot)
    (call_kept (no_routes (leading forgot.calls) forgot).outer result))

gives_kept : (o : OuterState) (there : List State) (due : List Due) (route : Option Route) → o.due ≡ due → Kept o (gives o there due route)
gives_kept o there [] route is = same_kept o o [] tt refl refl (λ none. none)
gives_kept o there (no_route_due ∷ due) route is = route_kept o
gives_kept o there (Info node ∷ due) route is =
    let p : OuterState = record o { due = due } in
    later_kept o p (gives o there (Info node ∷ due) route) refl refl (λ none. absurd (let no : Info node ∷ due ≡ [] = sym is ∙ none in cc))
    (does p (Informed node (profile_for p.air there node route)) (informed_goes p there node route))

-- ---- the air and the devices

own_untimed : (node : ℕ) (e : Entry) → IsOwn node e → IsUntimed e
own_untimed node (entry.Said words) own = absurd own
own_untimed node (entry.Time tick) own = absurd own
own_untimed node e own = tt

deal_kept : (there : List State) (o : OuterState) (event : AirEvent) → Kept o (deals there o event)
deal_kept there o (air_event.Heard frame) = same_kept o o (entry.Heard frame ∷ []) (tt, tt) refl refl (λ none. none)
deal_kept there o (air_event.Lost frame) = same_kept o o (entry.Lost frame ∷ []) (tt, tt) refl refl (λ none. none)
deal_kept there o (air_event.Unheard frame) = same_kept o o (entry.Unheard frame ∷ []) (tt, tt) refl refl (λ none. none)
deal_kept there o (air_event.Sent frame from to route payload) = same_kept o o (sent_entries (air_event.Sent frame from to route payload)) (tt, tt) refl refl (λ none. none)
deal_kept there o (air_event.Changed node at) =
    let change = change_at (device_at there (place_of node there)) at in
    same_kept o o (change_entries node change) (all-weaker (IsOwn node) IsUntimed (own_untimed node) (change_entries node change) (change_own node change)) refl refl (λ none. none)
deal_kept there o (air_event.ToChip frame from payload) = by (nat_le 1 (length payload) && nat_le (length payload) 46)
  where
    by : (b : Bool) → Kept o (if b then chip_does o (chip_hears from payload) else silent o)
    by true = does o (chip_hears from payload) (heard_goes o from payload)
    by false = same_kept o o [] tt refl refl (λ none. none)
deal_kept there o (air_event.Done frame status dead) = ends_kept o status dead

acts_kept : (o : OuterState) (device : State) (event : DeviceEvent) (route : Option Route) → Kept o (acts o device event route)
acts_kept o device event route = record {
  untimed = all-weaker (IsOwn device.node) IsUntimed (own_untimed device.node) (acts o device event route).entries (acts_own o device event route);
  clock = refl;
  goes = λ told waits. (waits, λ none. none);
}

-- ---- an event that does one thing

simple_waiting : (w : Outside) (event : OuterEvent) → IsSimple event → (outcome w event).outer.chip.state.port.waiting ≡ w.outer.chip.state.port.waiting
unfolding outcome
simple_waiting w Collides_next simple = refl
simple_waiting w event simple = ap (λ (port : PortState). port.waiting) (simple_port w event simple (λ is. cc))

simple_due : (w : Outside) (event : OuterEvent) → IsSimple event → (outcome w event).outer.due ≡ w.outer.due
unfolding outcome all_pairs
simple_due w (Marks_loss by_host) simple = refl
simple_due w (Marks_loss by_chip) simple = refl
simple_due w (Marks_change by_host garble) simple = refl
simple_due w (Marks_change by_chip garble) simple = refl
simple_due w (Clears_pipe by_host) simple = refl
simple_due w (Clears_pipe by_chip) simple = refl
simple_due w (Chip_takes count rest ways) simple = absurd simple
simple_due w (Arrives drawn route) simple = absurd simple
simple_due w (Gives route) simple = absurd simple
simple_due w (Device_ticks place drawn route) simple = absurd simple
simple_due w Chip_ticks simple = absurd simple
simple_due w (Repeats number drawn route) simple = absurd simple
simple_due w (Wakes_device node route) simple = absurd simple
simple_due w (Sets_device node value route) simple = absurd simple
simple_due w event simple = refl

simple_untimed : (w : Outside) (event : OuterEvent) → IsSimple event → AreUntimed (outcome w event).entries
unfolding outcome
simple_untimed w (Host_notes note) simple = (note_untimed note simple.0, tt)
simple_untimed w event simple = outcome_untimed w event tt

simple_within : (event : OuterEvent) → IsSimple event → IsWithin event
simple_within Begins_line simple = absurd simple
simple_within Begins_tick simple = absurd simple
simple_within event simple = tt

simple_kept : (w : Outside) (event : OuterEvent) → IsSimple event → Kept w.outer (outcome w event)
simple_kept w event simple = record {
  untimed = simple_untimed w event simple;
  clock = ap (λ (t : Bool × Bool × ℕ). t.2) (outcome_time w event (simple_within event simple));
  goes = λ told waits. (subst (λ (l : List FrameParts). WaitNone l) (simple_waiting w event simple) waits, λ none. simple_due w event simple ∙ none);
}

-- ---- what is known outside the host

-- the clock is that of the entries, once the number of the running tick is entered
pub record Clocked (awaits : Bool) (past : List Entry) (clock : ℕ) : Type 0 where
  pub begun : clock_of past ≤ clock
  pub now : awaits ≡ false → clock_of past ≡ clock

abbrev Knows : Knowing
Knows awaits past w = Clocked awaits past w.outer.clock × IsTold past w.outer

comes : (w : Outside) (x : Outcome) (there : List State) → Kept w.outer x → Comes AnyEntry Knows w x there Knows
comes w x there kept awaits past silent_if known = (any_each past x.entries, (clocked, is_told))
  where
    same : clock_of (past ++ x.entries) ≡ clock_of past
    same = same_clock past x.entries kept.untimed

    clocked : Clocked awaits (past ++ x.entries) x.outer.clock
    clocked = record {
      begun = let at = same in let clock = kept.clock in let begun = known.0.begun in omega (arith, at, clock, begun);
      now = λ is. same ∙ (known.0.now is ∙ sym kept.clock);
    }

    none : (b : Bool) → awaits ≡ b → EachAfter (ToldBefore w.outer.clock) past x.entries → TellNone x.entries
    none true is each_told = subst (λ (l : List Entry). TellNone l) (sym (silent_if is)) tt
    none false is each_told = untold w.outer.clock x.entries past (known.0.now is) kept.untimed each_told

    is_told : IsTold (past ++ x.entries) x.outer
    is_told each_told waits =
        let all = subst (λ (n : ℕ). EachAfter (ToldBefore n) [] (past ++ x.entries)) kept.clock each_told in
        let got = kept.goes (none awaits refl (each-right (ToldBefore w.outer.clock) [] past x.entries all)) waits in
        got.1 (known.1 (each-left (ToldBefore w.outer.clock) [] past x.entries all) got.0)

-- nothing is entered
quietly : (w : Outside) (p : OuterState) (there : List State) → p.clock ≡ w.outer.clock → p.chip.state.port.waiting ≡ w.outer.chip.state.port.waiting → p.due ≡ w.outer.due
    → Moves AnyEntry Knows w [] Knows (outside p there)
quietly w p there clock waiting due = comes w (silent p) there (same_kept w.outer p [] tt clock waiting (λ none. due ∙ none))

numbered : (past : List Entry) (w : Outside) → Knows true past w → Knows false (past ++ entry.Time w.outer.clock ∷ []) w
numbered past w known =
    let at = number_clock past w.outer.clock known.0.begun in (
      record { begun = omega (arith, at); now = λ is. at },
      λ each_told waits. known.1 (each-left (ToldBefore w.outer.clock) [] past (entry.Time w.outer.clock ∷ []) each_told) waits,
    )

told_law : Outer AnyEntry (λ pending. Knows) IsWithin
told_law = record {
  line = λ covers. absurd covers;
  tick = λ covers. absurd covers;
  number = numbered;
  stamps = λ awaits stamped past w known. known;
  simple = λ w event simple covers. comes w (outcome w event) w.devices (simple_kept w event simple);
  session = λ w node session command.
      let x : Outcome = session_begins w.outer node session command in
      comes w x w.devices (same_kept w.outer x.outer x.entries (tt, tt) refl refl (λ none. none));
  takes = λ w count rest ways may. quietly w (record w.outer { to_chip = way.after w.outer.to_chip (Takes count); chip = record { decoder = rest; state = w.outer.chip.state } }) w.devices refl refl refl;
  judges = λ w one ways may. comes w (chip_does w.outer (Judged one.0 one.1)) w.devices (does w.outer (Judged one.0 one.1) (item_goes w.outer one.0 one.1));
  judged = λ awaits past w known. known;
  ticks = λ w.
      let fed : OuterState = record w.outer { chip = record { decoder = after_tick w.outer.chip.decoder; state = w.outer.chip.state } } in
      comes w (chip_does fed Ticked) w.devices (later_kept w.outer fed (chip_does fed Ticked) refl refl (λ none. none) (does fed Ticked (ticked_goes fed)));
  gives = λ w route may. comes w (gives w.outer w.devices w.outer.due route) w.devices (gives_kept w.outer w.devices w.outer.due route refl);
  steps = λ w step hearing may. quietly w (record w.outer { air = (mesh_after (mesh_of w) step).air }) (mesh_after (mesh_of w) step).devices refl refl refl;
  deals = λ w event events. comes w (deals w.devices w.outer event) w.devices (deal_kept w.devices w.outer event);
  acts = λ w place device event route found may. comes w (acts w.outer device event route) (slice_set w.devices place (device_after device event)) (acts_kept w.outer device event route);
}

-- ---- an event of the machine

pub event_told : (past : List Entry) (m : Machine) (event : Event) → CoversOuter IsWithin event → May m event → Clocked (awaits_number m.outside.outer) past m.outside.outer.clock
    → IsTold past m.outside.outer → IsTold (past ++ entries m event) (happens m event).outside.outer
event_told past m event covers may clocked told =
    let known = machine_keeps AnyEntry (λ pending. Knows) IsWithin told_law hosts m event covers may past ((clocked, told), any_each past (ticked_entry m.outside.outer)) in
    known.1.0.1
