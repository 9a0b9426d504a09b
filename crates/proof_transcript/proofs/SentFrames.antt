-- Outside the host the chip alone puts frames of the controller on the air, and only where it judges items that ask for them.
use Rattle.std.proofs.Common.{◌≡◌, ◌≢◌, ℕ, zero, suc, ◌+◌, ◌-◌, Bool, true, false, if◌then◌else◌, inl, List, [], ◌∷◌, ◌++◌, length, map, filter, refl, sym, ap, ap₂, subst, ◌∙◌}
use Rattle.std.specs.Prelude.{Option, Some, None, Result, Ok, Err, slice_get}
use Rattle.std.specs.Option.{option_map}
use Rattle.std.specs.List.{flat_map, AllByRecursion}
use Rattle.zw_base.proofs.Each.{all-append, all-weaker}
use Rattle.serial_frame.specs.Frame.{checksum, framed, kind_code}
use Rattle.serial_frame.specs.Stream.{after_tick}
use Rattle.serial_frame.specs.Items.{counted_of, unit_text}
use Rattle.serial_frame.specs.declared.frame.Kind.{Kind}
use Rattle.serial_frame.specs.declared.frame.Kind.TheVariants.{Request as of_request, Response as of_response}
use Rattle.serial_frame.specs.declared.unit.Unit.TheVariants.{Ack, Nak, Can, Framed}
use Rattle.serial_frame.specs.declared.item.Item.{Item}
use Rattle.serial_frame.specs.declared.item.Item.TheVariants.{Good, Refused}
use Rattle.serial_pipes.specs.State.{fits, garbled}
use Rattle.serial_pipes.specs.Events.{told_by}
use Rattle.serial_pipes.specs.State as pipes
use Rattle.serial_pipes.specs.declared.marks.Mark.{Mark}
use Rattle.serial_pipes.specs.declared.marks.Mark.TheVariants.{Free, Lost, Changed}
use Rattle.route_table.specs.declared.route.Route.{Route}
use Rattle.air_frames.specs.declared.frame.Heading.{Heading}
use Rattle.air_frames.specs.declared.frame.Heading.TheVariants.{Outward, Homeward}
use Rattle.air_frames.specs.declared.ages.Refusal.{Refusal as RepeatRefusal}
use Rattle.air_frames.specs.declared.ages.Refusal.TheVariants.{NeverSent, Forgotten, Stale}
use Rattle.air_frames.specs.Ages.{refusal_of}
use Rattle.air_frames.specs.Flown.{Flown}
use Rattle.air_frames.specs.Frames.{next_of, remembered}
use Rattle.chip_functions.specs.declared.fault.BodyFault.{BodyFault}
use Rattle.chip_functions.specs.declared.request.Request.{Request}
use Rattle.chip_functions.specs.declared.request.Request.TheVariants.{GetInitData, GetCapabilities, SendData, GetVersion, SendDataAbort, MemoryGetId, GetNodeProtocolInfo, AddNode, RequestNodeInfo, IsFailedNode, GetRoutingInfo}
use Rattle.chip_functions.specs.Request.{request_of}
use Rattle.chip_sim.specs.State.{ChipState}
use Rattle.chip_sim.specs.Answers.{takes}
use Rattle.chip_sim.specs.Requests.{asked, asked_by, heard, passed, read_of, sent}
use Rattle.chip_sim.specs.Events.{ChipEvent, Judged, Ticked, after, collides, outs}
use Rattle.chip_sim.specs.Did.{judged_all}
use Rattle.chip_sim.specs.Rules.{is_start, judged_starts, requested_starts, starts}
use Rattle.chip_sim.specs.declared.out.ChipOut.{ChipOut}
use Rattle.chip_sim.specs.declared.out.ChipOut.TheVariants.{Write, OnAir, NoRoute, AskInfo, Full}
use Rattle.device_sim.specs.State.{State}
use Rattle.device_sim.specs.Event.{DeviceEvent, Hears, Ticks, Wakes, Sets, device_after, device_replies}
use Rattle.proof_air.specs.mesh_sim.declared.event.AirEvent.{AirEvent}
use Rattle.proof_air.specs.mesh_sim.declared.event.AirEvent.TheVariants as air_event
use Rattle.proof_air.specs.mesh_sim.declared.fate.Fate.{Fate}
use Rattle.proof_air.specs.mesh_sim.declared.fate.Fate.TheVariants as fate
use Rattle.proof_air.specs.mesh_sim.Air.{AirState, departing, is_joined}
use Rattle.proof_air.specs.mesh_sim.Fates.{Mesh, fate_of, listener_of, place_of}
use Rattle.proof_air.specs.mesh_sim.Routes.{backwards}
use Rattle.proof_air.specs.mesh_sim.Steps.{AirStep, acknowledged, answers, answers_if, arrival_outs, arrival_outs_as, changed, done_of, landed, mesh_after, mesh_outs, outs_again, outs_at, repeat_outs, repeat_outs_by, status_of}
use Rattle.proof_air.specs.mesh_sim.Steps as mesh
use Rattle.zw_words.specs.declared.side.Side.TheVariants.{Host as by_host, Chip as by_chip}
use Rattle.zw_text.specs.declared.entry.Entry.{Entry}
use Rattle.zw_text.specs.declared.entry.Entry.TheVariants as entry
use Rattle.law_host.specs.law_transcript.Lists.{listed}
use Rattle.law_host.specs.law_transcript.Nodes.{controller}
use Rattle.law_host.specs.law_transcript.Units.{Carried, read_well, sending_in, sending_of}
use Rattle.law_host.specs.law_transcript.Carrying.{ArePicked, sent_out}
use Rattle.proof_air.specs.outside_model.State.{OuterState, Outcome, Outside, each, with_chip}
use Rattle.proof_air.specs.outside_model.Chip.{chip_does, put_out}
use Rattle.proof_air.specs.outside_model.Results.{device_at}
use Rattle.proof_air.specs.outside_model.Air.{change_at, deals, sent_entries}
use Rattle.proof_air.specs.outside_model.Devices.{acts, acts_at, acts_by_hand, changes_entries, new_changes}
use Rattle.proof_air.specs.outside_model.Events.{OuterEvent, Host_writes, Host_takes, Host_notes, Host_begins, Chip_takes, Arrives, Gives, Device_ticks, Chip_ticks, Repeats, Wakes_device, Sets_device, Shows, Marks_loss, Marks_change, Clears_pipe, is_own, mesh_of, outcome, repeats, steps, IsCleared}
use Rattle.proof_spoken.proofs.Entered.{IsChange, IsShown, all_cleared, all_shown, change_entered, changes_entered}
use Rattle.proof_spoken.proofs.Results.{Gives as GivesOn, IsGiven, ends_go, gives_go, to_chip_goes}
use Rattle.proof_air.proofs.Bodies.{body_is}
use Rattle.proof_air.proofs.Judging.{JudgesNone, NoFrame, StartsSo, none_flies}
use Rattle.proof_transcript.specs.Carrying.{sends_in, sends_of}
use Rattle.proof_transcript.proofs.Picked.{AreQuiet, IsNoFrame, IsNoUnit, IsQuiet, none_sent, quiet_no_frame, quiet_no_unit, sent-append}
use Rattle.proof_air.proofs.Picked.{picked_both}
use Rattle.law_host.proofs.Deciding.{not_true as not_own}

-- an event at which the chip takes no bytes
abbrev pub TakesNone : OuterEvent → Type 0
TakesNone (Chip_takes count rest ways) = ⊥
TakesNone event = Unit {0}

-- ---- what a frame asks to be sent, and what goes on the air for it

-- a request is read as the chip reads it
text_asks : (kind : Kind) (func : ℕ) (body : List ℕ) (sum : ℕ) → sending_in (framed (kind_code kind ∷ func ∷ body) sum) ≡ flat_map sending_of (listed (asked_by kind func body))
text_asks of_request func body sum = ap (λ (b : List ℕ). flat_map sending_of (read_well (request_of func b))) (body_is body func sum) ∙ reads (request_of func body)
  where
    reads : (read : Result Request BodyFault) → flat_map sending_of (read_well read) ≡ flat_map sending_of (listed (read_of read))
    reads (Ok request) = refl
    reads (Err fault) = refl
text_asks of_response func body sum = refl

-- the frame of an output for the air
abbrev aired : ChipOut → List Carried
aired (OnAir to route payload) = record { node = to; payload = payload } ∷ []
aired _ = []

data_aired : (n : ℕ) (payload : List ℕ) (way : Option Route) (taken : Bool)
    → ArePicked (flat_map aired (if taken then sent n payload way else [])) (record { node = n; payload = payload } ∷ [])
data_aired n payload (Some route) true = inl (refl, tt)
data_aired n payload None true = tt
data_aired n payload way false = tt

request_aired : (request : Option Request) (s : ChipState) (way : Option Route) → ArePicked (flat_map aired (requested_starts request s way)) (flat_map sending_of (listed request))
request_aired None s way = tt
request_aired (Some GetInitData) s way = tt
request_aired (Some GetCapabilities) s way = tt
request_aired (Some (SendData n payload options id)) s way = data_aired n payload way (takes s n payload)
request_aired (Some GetVersion) s way = tt
request_aired (Some SendDataAbort) s way = tt
request_aired (Some MemoryGetId) s way = tt
request_aired (Some (GetNodeProtocolInfo n)) s way = tt
request_aired (Some (AddNode mode id)) s way = tt
request_aired (Some (RequestNodeInfo n)) s way = tt
request_aired (Some (IsFailedNode n)) s way = tt
request_aired (Some (GetRoutingInfo n x y z)) s way = tt

item_aired : (collides : Bool) (item : Item) (s : ChipState) (way : Option Route) → ArePicked (flat_map aired (judged_starts (passed collides item) s way)) (sends_in item)
item_aired true item s way = tt
item_aired false (Good Ack) s way = tt
item_aired false (Good Nak) s way = tt
item_aired false (Good Can) s way = tt
item_aired false (Good (Framed f)) s way =
    subst (λ (l : List Carried). ArePicked (flat_map aired (requested_starts (asked f) s way)) l) (sym (text_asks f.kind f.func f.body (checksum (counted_of f)))) (request_aired (asked f) s way)
item_aired false (Refused refusal) s way = tt

-- those that begin a SendData have them all
starts_aired : (puts : List ChipOut) → flat_map aired (filter is_start puts) ≡ flat_map aired puts
starts_aired [] = refl
starts_aired (Write unit ∷ puts) = starts_aired puts
starts_aired (OnAir to route payload ∷ puts) = ap (λ (l : List Carried). record { node = to; payload = payload } ∷ l) (starts_aired puts)
starts_aired (NoRoute ∷ puts) = starts_aired puts
starts_aired (AskInfo node ∷ puts) = starts_aired puts
starts_aired (Full ∷ puts) = starts_aired puts

-- ---- what the chip puts out

overrun_quiet : (room : Bool) → AreQuiet (if room then [] else entry.Overrun by_chip ∷ [])
overrun_quiet true = tt
overrun_quiet false = (tt, tt)

marks_quiet : (bytes : List ℕ) (mark : Mark) (text : List ℕ) → AreQuiet (told_by by_chip bytes mark text)
marks_quiet bytes Free text = overrun_quiet (fits bytes text)
marks_quiet bytes Lost text = (tt, tt)
marks_quiet bytes (Changed garble) text = (tt, overrun_quiet (fits bytes (garbled garble text)))

put_quiet : (o : OuterState) (out : ChipOut) → NoFrame out → AreQuiet (put_out o out).entries
put_quiet o (Write unit) none = (tt, marks_quiet o.to_host.bytes (pipes.mark_for o.to_host.marks unit) (unit_text unit))
put_quiet o (OnAir to route payload) none = absurd none
put_quiet o NoRoute none = tt
put_quiet o (AskInfo node) none = tt
put_quiet o Full none = (tt, tt)

puts_quiet : (puts : List ChipOut) (o : OuterState) → AllByRecursion NoFrame puts → AreQuiet (each put_out o puts).entries
puts_quiet [] o none = tt
puts_quiet (out ∷ puts) o none =
    all-append IsQuiet (put_out o out).entries (each put_out (put_out o out).outer puts).entries (put_quiet o out none.0) (puts_quiet puts (put_out o out).outer none.1)

put_no_unit : (o : OuterState) (out : ChipOut) → AllByRecursion IsNoUnit (put_out o out).entries
put_no_unit o (Write unit) = all-weaker IsQuiet IsNoUnit quiet_no_unit (put_out o (Write unit)).entries (put_quiet o (Write unit) tt)
put_no_unit o (OnAir to route payload) = (tt, tt)
put_no_unit o NoRoute = tt
put_no_unit o (AskInfo node) = tt
put_no_unit o Full = (tt, tt)

puts_no_units : (puts : List ChipOut) (o : OuterState) → AllByRecursion IsNoUnit (each put_out o puts).entries
puts_no_units [] o = tt
puts_no_units (out ∷ puts) o =
    all-append IsNoUnit (put_out o out).entries (each put_out (put_out o out).outer puts).entries (put_no_unit o out) (puts_no_units puts (put_out o out).outer)

put_sent : (o : OuterState) (out : ChipOut) → sent_out (put_out o out).entries ≡ aired out
put_sent o (Write unit) =
    none_sent (put_out o (Write unit)).entries (all-weaker IsQuiet IsNoFrame quiet_no_frame (put_out o (Write unit)).entries (put_quiet o (Write unit) tt))
put_sent o (OnAir to route payload) = refl
put_sent o NoRoute = refl
put_sent o (AskInfo node) = refl
put_sent o Full = refl

puts_sent : (puts : List ChipOut) (o : OuterState) → sent_out (each put_out o puts).entries ≡ flat_map aired puts
puts_sent [] o = refl
puts_sent (out ∷ puts) o =
    sent-append (put_out o out).entries (each put_out (put_out o out).outer puts).entries
    ∙ ap₂ (λ (a b : List Carried). a ++ b) (put_sent o out) (puts_sent puts (put_out o out).outer)

-- ---- the chip takes bytes

module _ (rules : StartsSo) where
  judged_sent : (o : OuterState) (item : Item) (way : Option Route) → ArePicked (sent_out (chip_does o (Judged item way)).entries) (sends_in item)
  unfolding chip_does
  judged_sent o item way =
      let s = o.chip.state in
      let event = Judged item way in
      let is : sent_out (each put_out (with_chip o (after s event)) (outs s event)).entries ≡ flat_map aired (starts s event)
      = puts_sent (outs s event) (with_chip o (after s event)) ∙ (sym (starts_aired (outs s event)) ∙ ap (λ (l : List ChipOut). flat_map aired l) (rules s event)) in
      subst (λ (l : List Carried). ArePicked l (sends_in item)) (sym is) (item_aired (collides s) item (heard s item) way)

  judged_no_units : (o : OuterState) (item : Item) (way : Option Route) → AllByRecursion IsNoUnit (chip_does o (Judged item way)).entries
  unfolding chip_does
  judged_no_units o item way = puts_no_units (outs o.chip.state (Judged item way)) (with_chip o (after o.chip.state (Judged item way)))

  pub takes_sent : (ways : List (Item × Option Route)) (o : OuterState) → ArePicked (sent_out (each chip_does o (judged_all ways)).entries) (sends_of (map (λ (one : Item × Option Route). one.0) ways))
  takes_sent [] o = tt
  takes_sent (way ∷ ways) o =
      let one : Outcome = chip_does o (Judged way.0 way.1) in
      let rest : List Entry = (each chip_does one.outer (judged_all ways)).entries in
      subst (λ (l : List Carried). ArePicked l (sends_in way.0 ++ sends_of (map (λ (one : Item × Option Route). one.0) ways))) (sym (sent-append one.entries rest))
      (picked_both (sent_out one.entries) (sent_out rest) (sends_in way.0) (sends_of (map (λ (one : Item × Option Route). one.0) ways)) (judged_sent o way.0 way.1) (takes_sent ways one.outer))

  pub takes_no_units : (ways : List (Item × Option Route)) (o : OuterState) → AllByRecursion IsNoUnit (each chip_does o (judged_all ways)).entries
  takes_no_units [] o = tt
  takes_no_units (way ∷ ways) o =
      let one : Outcome = chip_does o (Judged way.0 way.1) in
      all-append IsNoUnit one.entries (each chip_does one.outer (judged_all ways)).entries (judged_no_units o way.0 way.1) (takes_no_units ways one.outer)

  -- ---- what else it does

  does_quiet : (o : OuterState) (event : ChipEvent) → JudgesNone event → AreQuiet (chip_does o event).entries
  unfolding chip_does
  does_quiet o event none = puts_quiet (outs o.chip.state event) (with_chip o (after o.chip.state event)) (none_flies rules o.chip.state event none)

  given_none : (event : ChipEvent) → IsGiven event → JudgesNone event
  given_none (Judged item way) is = absurd is
  given_none event is = tt

  abbrev Tells_quietly : OuterState → Outcome → Type 0
  Tells_quietly o x = AreQuiet x.entries

  results : GivesOn Tells_quietly
  results = record {
    still = λ o p is. tt;
    both = λ o first next one later. all-append IsQuiet first.entries (next first.outer).entries one (later first.outer);
    later = λ o p x is goes. goes;
    does = λ o event is. does_quiet o event (given_none event is);
    forgotten = λ o a b. (tt, tt);
  }

  -- ---- the air

  -- a frame that a device sends
  abbrev IsFromNode : AirEvent → Type 0
  IsFromNode (air_event.Sent number from to route payload) = from ≢ controller
  IsFromNode event = Unit {0}

  abbrev AreFromNodes : List AirEvent → Type 0
  AreFromNodes events = AllByRecursion IsFromNode events

  change_quiet : (e : Entry) → IsChange e → IsQuiet e
  change_quiet (entry.Dev node by setting) change = tt
  change_quiet e change = absurd change

  deals_quiet : (devices : List State) (o : OuterState) (event : AirEvent) → IsFromNode event → AreQuiet (deals devices o event).entries
  deals_quiet devices o (air_event.Heard number) from = (tt, tt)
  deals_quiet devices o (air_event.Lost number) from = (tt, tt)
  deals_quiet devices o (air_event.Unheard number) from = (tt, tt)
  deals_quiet devices o (air_event.Sent number sender to route payload) from = (from, tt)
  deals_quiet devices o (air_event.Changed node at) from =
      all-weaker IsChange IsQuiet change_quiet _ (change_entered node (change_at (device_at devices (place_of node devices)) at))
  deals_quiet devices o (air_event.ToChip number sender payload) from = to_chip_goes Tells_quietly results o sender payload
  deals_quiet devices o (air_event.Done number status dead) from = ends_go Tells_quietly results o status dead

  all_deals_quiet : (devices : List State) (events : List AirEvent) (o : OuterState) → AreFromNodes events → AreQuiet (each (deals devices) o events).entries
  all_deals_quiet devices [] o from = tt
  all_deals_quiet devices (event ∷ events) o from =
      let one : Outcome = deals devices o event in
      all-append IsQuiet one.entries (each (deals devices) one.outer events).entries (deals_quiet devices o event from.0) (all_deals_quiet devices events one.outer from.1)

  done_from : (heading : Heading) (number status : ℕ) (dead : Option (ℕ × ℕ)) → AreFromNodes (done_of heading number status dead)
  done_from Outward number status dead = (tt, tt)
  done_from Homeward number status dead = tt

  changed_from : (node first count : ℕ) → AreFromNodes (changed node first count)
  changed_from node first zero = tt
  changed_from node first (suc count) = (tt, changed_from node (first + 1) count)

  answers_from : (air : AirState) (node : ℕ) (way : Option Route) (replies : List (List ℕ)) → node ≢ controller → AreFromNodes (answers air node way replies)
  answers_from air node way [] apart = tt
  answers_from air node way (reply ∷ replies) apart = (apart, answers_from (departing air node Homeward way reply) node way replies apart)

  -- a node that is joined is not the controller, which is not
  answers_if_from : (joined : Bool) (air : AirState) (node : ℕ) (way : Option Route) (replies : List (List ℕ)) → is_joined air node ≡ joined → is_joined air controller ≡ false
      → AreFromNodes (answers_if joined air node way replies)
  answers_if_from true air node way replies is home =
      answers_from air node way replies
      (λ (same : node ≡ controller). let bad : true ≡ false = sym is ∙ (ap (λ (n : ℕ). is_joined air n) same ∙ home) in absurd cc)
  answers_if_from false air node way replies is home = tt

  device_from : (base : Mesh) (found : Option State) (number node : ℕ) (route : Option Route) (event : DeviceEvent) → is_joined base.air controller ≡ false
      → AreFromNodes (outs_at base found number node route event)
  device_from base None number node route event home = tt
  device_from base (Some device) number node route event home = (
    tt,
    all-append IsFromNode (changed node (length device.journal) (length (device_after device event).journal - length device.journal)) _
        (changed_from node (length device.journal) (length (device_after device event).journal - length device.journal))
        (answers_if_from (is_joined base.air node) base.air node (option_map backwards route) (device_replies device event) refl home),
  )

  module _ (w : Outside) (home : is_joined w.outer.air controller ≡ false) where
    arrives_as : (frame : Flown) (x : Fate) (drawn : List ℕ) (route : Option Route) → AreFromNodes (arrival_outs_as (mesh_of w) (w.outer.air.frames.landed + 1) frame x drawn route)
    arrives_as frame fate.Lost drawn route = (tt, done_from frame.heading (w.outer.air.frames.landed + 1) 1 None)
    arrives_as frame (fate.Dead from to) drawn route = (tt, done_from frame.heading (w.outer.air.frames.landed + 1) 1 (Some (from, to)))
    arrives_as frame fate.Missed drawn route = (tt, done_from frame.heading (w.outer.air.frames.landed + 1) 1 None)
    arrives_as frame fate.AtChip drawn route = (tt, (tt, tt))
    arrives_as frame (fate.AtDevice place) drawn route =
        let number : ℕ = w.outer.air.frames.landed + 1 in
        let base : Mesh = record { air = landed (acknowledged w.outer.air); devices = w.devices } in
        let hears : DeviceEvent = Hears frame.payload drawn in
        all-append IsFromNode (outs_at base (slice_get w.devices place) number frame.node route hears) (air_event.Done number (status_of w.outer.air) None ∷ [])
        (device_from base (slice_get w.devices place) number frame.node route hears home) (tt, tt)

    arrives_from : (found : Option Flown) (drawn : List ℕ) (route : Option Route) → AreFromNodes (arrival_outs (mesh_of w) found drawn route)
    arrives_from None drawn route = tt
    arrives_from (Some frame) drawn route = arrives_as frame (fate_of w.outer.air.network w.devices frame) drawn route

    again_from : (place : Option ℕ) (number node : ℕ) (route : Option Route) (event : DeviceEvent) → AreFromNodes (outs_again (mesh_of w) place number node route event)
    again_from None number node route event = tt
    again_from (Some place) number node route event = device_from (mesh_of w) (slice_get w.devices place) number node route event home

    repeats_by : (heading : Heading) (number : ℕ) (frame : Flown) (drawn : List ℕ) (route : Option Route) → AreFromNodes (repeat_outs_by heading (mesh_of w) number frame drawn route)
    repeats_by Homeward number frame drawn route = (tt, (tt, tt))
    repeats_by Outward number frame drawn route = again_from (listener_of frame.node w.devices) number frame.node route (Hears frame.payload drawn)

    repeats_from : (number : ℕ) (found : Option Flown) (drawn : List ℕ) (route : Option Route) → AreFromNodes (repeat_outs (mesh_of w) number found drawn route)
    repeats_from number None drawn route = tt
    repeats_from number (Some frame) drawn route = repeats_by frame.heading number frame drawn route

    step_from : (step : AirStep) → AreFromNodes (mesh_outs (mesh_of w) step)
    unfolding mesh_outs
    step_from (mesh.Arrives drawn route) = arrives_from (next_of w.outer.air.frames) drawn route
    step_from (mesh.Repeats number drawn route) = repeats_from number (remembered w.outer.air.frames number) drawn route
    step_from step = tt

    steps_quiet : (step : AirStep) → AreQuiet (steps w step).entries
    steps_quiet step =
        all_deals_quiet (mesh_after (mesh_of w) step).devices (mesh_outs (mesh_of w) step) (record w.outer { air = (mesh_after (mesh_of w) step).air }) (step_from step)

    again_quiet : (refused : Option RepeatRefusal) (step : AirStep) → AreQuiet (repeats w refused step).entries
    again_quiet None step = steps_quiet step
    again_quiet (Some NeverSent) step = (tt, tt)
    again_quiet (Some Forgotten) step = (tt, tt)
    again_quiet (Some (Stale later)) step = (tt, tt)

    -- ---- devices

    sends_quiet : (events : List AirEvent) → AreFromNodes events → AreQuiet (flat_map sent_entries events)
    sends_quiet [] from = tt
    sends_quiet (air_event.Heard number ∷ events) from = sends_quiet events from.1
    sends_quiet (air_event.Lost number ∷ events) from = sends_quiet events from.1
    sends_quiet (air_event.Unheard number ∷ events) from = sends_quiet events from.1
    sends_quiet (air_event.Sent number sender to route payload ∷ events) from = (from.0, sends_quiet events from.1)
    sends_quiet (air_event.Changed node at ∷ events) from = sends_quiet events from.1
    sends_quiet (air_event.ToChip number sender payload ∷ events) from = sends_quiet events from.1
    sends_quiet (air_event.Done number status dead ∷ events) from = sends_quiet events from.1

    acts_quiet : (device : State) (event : DeviceEvent) (route : Option Route) → AreQuiet (acts w.outer device event route).entries
    acts_quiet device event route =
        let sends : List AirEvent = answers_if (is_joined w.outer.air device.node) w.outer.air device.node (option_map backwards route) (device_replies device event) in
        all-append IsQuiet (changes_entries device.node (new_changes device event)) (flat_map sent_entries sends)
        (all-weaker IsChange IsQuiet change_quiet _ (changes_entered device.node (new_changes device event)))
        (sends_quiet sends (answers_if_from (is_joined w.outer.air device.node) w.outer.air device.node (option_map backwards route) (device_replies device event) refl home))

    at_quiet : (found : Option State) (event : DeviceEvent) (route : Option Route) → AreQuiet (acts_at w.outer found event route).entries
    at_quiet None event route = tt
    at_quiet (Some device) event route = acts_quiet device event route

    hand_quiet : (place : Option ℕ) (event : DeviceEvent) (route : Option Route) → AreQuiet (acts_by_hand w.outer w.devices place event route).entries
    hand_quiet None event route = (tt, tt)
    hand_quiet (Some place) event route = at_quiet (slice_get w.devices place) event route

    -- ---- all that happens outside of itself, but that the chip takes bytes

    shown_quiet : (e : Entry) → IsShown e → IsQuiet e
    shown_quiet (entry.Device node setting) shown = tt
    shown_quiet (entry.Refused refusal) shown = tt
    shown_quiet e shown = absurd shown

    cleared_quiet : (e : Entry) → IsCleared e → IsQuiet e
    cleared_quiet (entry.Cleared side count) cleared = tt
    cleared_quiet e cleared = absurd cleared

    pub outcome_quiet : (event : OuterEvent) → is_own event ≡ true → TakesNone event → AreQuiet (outcome w event).entries
    unfolding outcome
    outcome_quiet (Host_writes unit) own none = absurd (not_own own)
    outcome_quiet (Host_takes count) own none = absurd (not_own own)
    outcome_quiet (Host_notes note) own none = absurd (not_own own)
    outcome_quiet (Host_begins node sessions) own none = absurd (not_own own)
    outcome_quiet (Chip_takes count rest ways) own none = absurd none
    outcome_quiet (Arrives drawn route) own none = steps_quiet (mesh.Arrives drawn route)
    outcome_quiet (Gives route) own none = gives_go Tells_quietly results w.outer w.devices w.outer.due route
    outcome_quiet (Device_ticks place drawn route) own none = at_quiet (slice_get w.devices place) (Ticks drawn) route
    outcome_quiet Chip_ticks own none = does_quiet (record w.outer { chip = record { decoder = after_tick w.outer.chip.decoder; state = w.outer.chip.state } }) Ticked tt
    outcome_quiet (Repeats number drawn route) own none = again_quiet (refusal_of w.outer.air.frames number) (mesh.Repeats number drawn route)
    outcome_quiet (Wakes_device node route) own none = hand_quiet (place_of node w.devices) Wakes route
    outcome_quiet (Sets_device node value route) own none = hand_quiet (place_of node w.devices) (Sets value) route
    outcome_quiet (Shows node) own none =
        all-weaker IsShown IsQuiet shown_quiet _ (all_shown node (device_at w.devices (place_of node w.devices)))
    outcome_quiet (Clears_pipe by_host) own none = all-weaker IsCleared IsQuiet cleared_quiet _ (all_cleared by_host (length w.outer.to_chip.bytes))
    outcome_quiet (Clears_pipe by_chip) own none = all-weaker IsCleared IsQuiet cleared_quiet _ (all_cleared by_chip (length w.outer.to_host.bytes))
    outcome_quiet (Marks_loss by_host) own none = tt
    outcome_quiet (Marks_loss by_chip) own none = tt
    outcome_quiet (Marks_change by_host garble) own none = tt
    outcome_quiet (Marks_change by_chip garble) own none = tt
    outcome_quiet event own none = tt
