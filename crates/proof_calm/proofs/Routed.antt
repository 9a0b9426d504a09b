-- No result is due, and each call that the chip awaits is of a frame, where its table has a walk to each joined node.
use Rattle.std.proofs.Common.{◌≡◌, ◌≢◌, ℕ, ◌&&◌, nat_lt, ap, nat_le, Bool, true, false, if◌then◌else◌, List, [], ◌∷◌, ◌++◌, length, drop, refl, sym, ◌∙◌, subst}
use Rattle.std.specs.Option.{is_some, unwrap_or}
use Rattle.std.specs.Prelude.{Option, Some, None, slice_get}
use Rattle.std.specs.List.{AllByRecursion}
use Rattle.zw_base.proofs.Each.{all-append, all-weaker}
use Rattle.zw_text.specs.declared.entry.Entry.{Entry}
use Rattle.zw_text.specs.declared.entry.Entry.TheVariants as entry
use Rattle.serial_frame.specs.Frame.{FrameParts}
use Rattle.serial_frame.specs.Stream.{Rest, after_tick}
use Rattle.serial_frame.specs.declared.item.Item.{Item}
use Rattle.serial_frame.specs.declared.item.Item.TheVariants.{Good, Refused}
use Rattle.serial_frame.specs.declared.item.Refusal.TheVariants.{Stray, BadLength, BadSum, BadKind, Aborted}
use Rattle.serial_frame.specs.declared.unit.Unit.TheVariants.{Ack, Nak, Can, Framed}
use Rattle.route_table.specs.Network.{Network, linked}
use Rattle.route_table.specs.Walk.{Walk}
use Rattle.route_table.specs.declared.route.Route.{Route}
use Rattle.chip_functions.specs.Notice.{status_of}
use Rattle.chip_functions.specs.declared.notice.TransmitStatus.{TransmitStatus}
use Rattle.chip_functions.specs.declared.notice.TransmitStatus.TheVariants.{Fail}
use Rattle.chip_functions.specs.declared.request.Request.{Request}
use Rattle.chip_functions.specs.declared.request.Request.TheVariants.{GetInitData, GetCapabilities, SendData, GetVersion, SendDataAbort, MemoryGetId, GetNodeProtocolInfo, AddNode, RequestNodeInfo, IsFailedNode, GetRoutingInfo}
use Rattle.chip_sim.specs.Answers.{takes}
use Rattle.chip_sim.specs.Did.{MayAll as ChipMayAll, judged_all}
use Rattle.chip_sim.specs.Requests.{HasWay, IsWay, IsWayIf, JudgedWay, answer_outs, asked, given, given_if, heard, judged_frame, judged_outs, passed, performed, reply_to, requested, sent, stopped}
use Rattle.chip_sim.specs.Waiting.{PortState, next_at, queued_outs}
use Rattle.chip_sim.specs.Events.{collides, Judged, Ticked, Heard as chip_hears, Done, Forgets, May as ChipMay, after, outs}
use Rattle.chip_sim.specs.State.{ChipState}
use Rattle.chip_sim.specs.declared.out.Sending.{Sending}
use Rattle.chip_sim.specs.declared.out.ChipOut.{ChipOut}
use Rattle.chip_sim.specs.declared.out.ChipOut.TheVariants.{Write, OnAir, NoRoute, AskInfo, Full}
use Rattle.device_sim.specs.State.{State}
use Rattle.device_sim.specs.Event.{DeviceEvent, Ticks, Wakes}
use Rattle.mesh_sim.specs.Fates.{place_of}
use Rattle.mesh_sim.specs.Steps.{mesh_after, mesh_outs}
use Rattle.mesh_sim.specs.Steps as mesh
use Rattle.mesh_sim.specs.declared.event.AirEvent.{AirEvent}
use Rattle.mesh_sim.specs.declared.event.AirEvent.TheVariants as air_event
use Rattle.outside_model.specs.declared.waits.Call.{Call}
use Rattle.outside_model.specs.declared.waits.Call.TheVariants.{OfFrame, NoRoute as no_route_call}
use Rattle.outside_model.specs.declared.waits.Due.{Due}
use Rattle.outside_model.specs.State.{OuterState, silent, tells, with_chip, each}
use Rattle.outside_model.specs.Air.{deals, to_chip}
use Rattle.outside_model.specs.Chip.{put_out, chip_does}
use Rattle.outside_model.specs.Devices.{acts_at, acts_by_hand}
use Rattle.outside_model.specs.Events.{OuterEvent, Begins_line, Begins_tick, Arrives, Gives, Device_ticks, Chip_ticks, Chip_takes, Wakes_device, Shows, Cuts, May as MayOutside, outcome, has_entered, mesh_of}
use Rattle.outside_model.specs.Results.{call_back, forgets, frame_ends, gives, leading, no_routes, owes_call}
use Rattle.world_model.specs.State.{Machine}
use Rattle.world_model.specs.Events.{May, Outside_does, happens}
use Rattle.proof_waking.proofs.Calm.{Calm}
use Rattle.proof_waking.proofs.ChipNotices.{AreSaid, IsSaid, Leaves, does_said, done_said, queued_said, said_both, ticked_said, written_said}
use Rattle.proof_work.proofs.Times.{does_chip}
use Rattle.proof_calm.specs.Live.{AreAskedFor, AsksFor, IsAskedFor}
use Rattle.proof_calm.specs.Marks.{HasNoMarks, IsUnmarked}
use Rattle.proof_calm.specs.Passes.{IsTakenBy, TakesEach, TakesOne, chip_taken}
use Rattle.proof_calm.specs.Routed.{IsOfFrame, IsRouted, Reaches}
use Rattle.proof_calm.proofs.ChipAsked.{is_by_turn, response}
use Rattle.proof_calm.proofs.ChipPart.{marks_of, taken}
use Rattle.proof_calm.proofs.Unmarked.{does_none}

-- ---- where it is as it was

routed_as : (o p : OuterState) → p.due ≡ o.due → p.calls ≡ o.calls → IsRouted o → IsRouted p
routed_as o p due calls is = record { none_due = due ∙ is.none_due; of_frames = subst (AllByRecursion IsOfFrame) (sym calls) is.of_frames }

leaves_routed : (o p : OuterState) → Leaves o p → IsRouted o → IsRouted p
leaves_routed o p leaves is = routed_as o p leaves.due leaves.calls is

pub calm_routed : (o p : OuterState) → Calm o p → IsRouted o → IsRouted p
calm_routed o p calm is = routed_as o p calm.due calm.calls is

entered_routed : (o : OuterState) (told : List Entry) → IsRouted o → IsRouted (has_entered o told)
entered_routed o [] is = is
entered_routed o (one ∷ told) is = record { none_due = is.none_due; of_frames = is.of_frames }

-- ---- a call comes

one_less : (calls : List Call) → AllByRecursion IsOfFrame calls → AllByRecursion IsOfFrame (drop 1 calls)
one_less [] all = tt
one_less (call ∷ calls) all = all.1

pub none_lead : (calls : List Call) → AllByRecursion IsOfFrame calls → leading calls ≡ 0
none_lead [] all = refl
none_lead (OfFrame ∷ calls) all = refl
none_lead (no_route_call ∷ calls) all = absurd all.0

call_routed : (o : OuterState) (status : TransmitStatus) → IsRouted o → IsRouted (call_back o status).outer
call_routed o status is = by (owes_call o.chip.state)
  where
    p : OuterState
    p = record o { calls = drop 1 o.calls }

    less : IsRouted p
    less = record { none_due = is.none_due; of_frames = one_less o.calls is.of_frames }

    by : (b : Bool) → IsRouted (if b then chip_does p (Done status) else silent p).outer
    by true = leaves_routed p (chip_does p (Done status)).outer (does_said p (Done status) (done_said o.chip.state status)) less
    by false = less

forgets_routed : (o : OuterState) (dead : Option (ℕ × ℕ)) → IsRouted o → IsRouted (forgets o dead).outer
forgets_routed o None is = is
forgets_routed o (Some hop) is = by (linked o.chip.state.table hop.0 hop.1)
  where
    by : (b : Bool) → IsRouted (if b then tells (with_chip o (after o.chip.state (Forgets hop.0 hop.1))) (entry.Forget hop.0 hop.1 ∷ []) else silent o).outer
    by true = record { none_due = is.none_due; of_frames = is.of_frames }
    by false = is

ends_routed : (o : OuterState) (status : ℕ) (dead : Option (ℕ × ℕ)) → IsRouted o → IsRouted (frame_ends o status dead).outer
ends_routed o status dead is =
    let forgot : OuterState = (forgets o dead).outer in
    let there : IsRouted forgot = forgets_routed o dead is in
    let none : leading forgot.calls ≡ 0 = none_lead forgot.calls there.of_frames in
    subst (λ (count : ℕ). IsRouted (call_back (no_routes count forgot).outer (unwrap_or (status_of status) Fail)).outer) (sym none) (call_routed forgot (unwrap_or (status_of status) Fail) there)

hears_routed : (o : OuterState) (from : ℕ) (payload : List ℕ) → IsRouted o → IsRouted (to_chip o from payload).outer
hears_routed o from payload is = by (nat_le 1 (length payload) && nat_le (length payload) 46)
  where
    by : (b : Bool) → IsRouted (if b then chip_does o (chip_hears from payload) else silent o).outer
    by true = leaves_routed o (chip_does o (chip_hears from payload)).outer (does_said o (chip_hears from payload) (queued_said o.chip.state.port _)) is
    by false = is

deals_routed : (devices : List State) (o : OuterState) (event : AirEvent) → IsRouted o → IsRouted (deals devices o event).outer
deals_routed devices o (air_event.ToChip frame from payload) is = hears_routed o from payload is
deals_routed devices o (air_event.Done frame status dead) is = ends_routed o status dead is
deals_routed devices o (air_event.Heard frame) is = is
deals_routed devices o (air_event.Lost frame) is = is
deals_routed devices o (air_event.Unheard frame) is = is
deals_routed devices o (air_event.Sent frame from to route payload) is = is
deals_routed devices o (air_event.Changed node at) is = is

deal_all : (devices : List State) (o : OuterState) (events : List AirEvent) → IsRouted o → IsRouted (each (deals devices) o events).outer
deal_all devices o [] is = is
deal_all devices o (event ∷ events) is = deal_all devices (deals devices o event).outer events (deals_routed devices o event is)

-- ---- the chip takes payloads that have routes

-- nothing but units and frames
abbrev IsCarried : ChipOut → Type 0
IsCarried (Write unit) = Unit {0}
IsCarried (OnAir to route payload) = Unit {0}
IsCarried NoRoute = ⊥
IsCarried (AskInfo node) = ⊥
IsCarried Full = Unit {0}

put_routed : (o : OuterState) (out : ChipOut) → IsCarried out → IsRouted o → IsRouted (put_out o out).outer
put_routed o (Write unit) carried is = record { none_due = is.none_due; of_frames = is.of_frames }
put_routed o (OnAir to route payload) carried is = record { none_due = is.none_due; of_frames = all-append IsOfFrame o.calls (OfFrame ∷ []) is.of_frames (tt, tt) }
put_routed o NoRoute carried is = absurd carried
put_routed o (AskInfo node) carried is = absurd carried
put_routed o Full carried is = is

puts_routed : (o : OuterState) (outs : List ChipOut) → AllByRecursion IsCarried outs → IsRouted o → IsRouted (each put_out o outs).outer
puts_routed o [] carried is = is
puts_routed o (out ∷ outs) carried is = puts_routed (put_out o out).outer outs carried.1 (put_routed o out carried.0 is)

said_carried : (out : ChipOut) → IsSaid out → IsCarried out
said_carried (Write unit) said = tt
said_carried (OnAir to route payload) said = tt
said_carried NoRoute said = absurd said
said_carried (AskInfo node) said = absurd said
said_carried Full said = tt

sent_carried : (node : ℕ) (payload : List ℕ) (way : Option Route) → is_some way ≡ true → AllByRecursion IsCarried (sent node payload way)
sent_carried node payload None some = absurd cc
sent_carried node payload (Some route) some = (tt, tt)

-- ---- each has one

-- what the chip knows of nodes, when it judges what it hears
abbrev pub Of : ChipState → Network × List Bool
Of s = (s.table, s.joined)

performed_of : (request : Request) (s : ChipState) → Of (performed request s) ≡ Of s
performed_of GetInitData s = refl
performed_of GetCapabilities s = refl
performed_of (SendData n payload options id) s = by (takes s n payload)
  where
    by : (b : Bool) → Of (if b then record s { sending = Some (record { node = n; callback_id = id }) } else s) ≡ Of s
    by true = refl
    by false = refl
performed_of GetVersion s = refl
performed_of SendDataAbort s = by s.sending
  where
    by : (sending : Option Sending) → Of (stopped sending s) ≡ Of s
    by None = refl
    by (Some sending) = refl
performed_of MemoryGetId s = refl
performed_of (GetNodeProtocolInfo n) s = refl
performed_of (AddNode mode id) s = refl
performed_of (RequestNodeInfo n) s = refl
performed_of (IsFailedNode n) s = refl
performed_of (GetRoutingInfo n x y z) s = refl

given_of : (s : ChipState) (reply : Option FrameParts) → Of (given_if s reply) ≡ Of s
given_of s None = refl
given_of s (Some frame) = refl

requested_of : (request : Option Request) (s : ChipState) → Of (requested request s) ≡ Of s
requested_of None s = refl
requested_of (Some request) s = performed_of request (given_if s (reply_to s request)) ∙ given_of s (reply_to s request)

pub judged_of : (frame : Option FrameParts) (s : ChipState) → Of (judged_frame frame s) ≡ Of s
judged_of None s = refl
judged_of (Some frame) s = requested_of (asked frame) s

still_reaches : (these : List Bool) (s : ChipState) (item : Item) (way : Option Route) → Reaches s.table these → Reaches (after s (Judged item way)).table these
still_reaches these s item way reaches = subst (λ (of : Network × List Bool). Reaches of.0 these) (sym (judged_of (passed (collides s) item) (heard s item))) reaches

way_there : (net : Network) (to : ℕ) (way : Option Route) → IsWay net to way → (to ≢ 1) × ((walk : List ℕ) × Walk net to walk) → is_some way ≡ true
way_there net to (Some route) is there = refl
way_there net to None is there = absurd (is there.0 there.1.0 there.1.1)

pub frame_way : (these : List Bool) (s : ChipState) (f : FrameParts) (way : Option Route) → s.port.side.collisions ≡ 0 → IsTakenBy s f → AsksFor these (asked f) → Reaches s.table these
    → ChipMay s (Judged (Good (Framed f)) way) → is_some way ≡ true
frame_way these s f way none taken only reaches may =
    let hs : ChipState = heard s (Good (Framed f)) in
    let passes : passed (collides s) (Good (Framed f)) ≡ Some f = ap (λ (count : ℕ). passed (nat_lt 0 count) (Good (Framed f))) none in
    let asks : HasWay (asked f) hs way = subst (λ (frame : Option FrameParts). JudgedWay frame hs way) passes may in
    let sends : IsWayIf (takes s taken.node taken.payload) s.table taken.node way = subst (λ (request : Option Request). HasWay request hs way) taken.is asks in
    way_there s.table taken.node way (subst (λ (b : Bool). IsWayIf b s.table taken.node way) taken.taken sends) (reaches taken.node (subst (AsksFor these) taken.is only))

request_routed : (o : OuterState) (f : FrameParts) (way : Option Route) → HasNoMarks o → IsTakenBy o.chip.state f → is_some way ≡ true → IsRouted o → IsRouted (chip_does o (Judged (Good (Framed f)) way)).outer
request_routed o f way none taken some is =
    let port : PortState = (heard o.chip.state (Good (Framed f))).port in
    let said : AllByRecursion IsCarried (queued_outs port response) = all-weaker IsSaid IsCarried said_carried (queued_outs port response) (queued_said port response) in
    let then_state : ChipState = record (given (heard o.chip.state (Good (Framed f))) response) { sending = Some (record { node = taken.node; callback_id = taken.id }) } in
    subst IsRouted (sym (is_by_turn o f way none taken))
    (puts_routed (with_chip o then_state) (Write Ack ∷ (queued_outs port response ++ sent taken.node taken.payload way)) (tt, all-append IsCarried (queued_outs port response) (sent taken.node taken.payload way) said (sent_carried taken.node taken.payload way some))
    (record { none_due = is.none_due; of_frames = is.of_frames }))

-- ---- other items

abbrev IsNoFrame : Item → Type 0
IsNoFrame (Good (Framed f)) = ⊥
IsNoFrame item = Unit {0}

answer_said : (collides : Bool) (item : Item) → IsNoFrame item → AreSaid (answer_outs collides item)
answer_said c (Good Ack) no_frame = tt
answer_said c (Good Nak) no_frame = tt
answer_said c (Good Can) no_frame = tt
answer_said c (Good (Framed f)) no_frame = absurd no_frame
answer_said c (Refused (Stray x)) no_frame = tt
answer_said c (Refused (BadLength n)) no_frame = tt
answer_said c (Refused (BadSum want got)) no_frame = (tt, tt)
answer_said c (Refused (BadKind x)) no_frame = (tt, tt)
answer_said c (Refused Aborted) no_frame = tt

none_passed : (collides : Bool) (item : Item) → IsNoFrame item → passed collides item ≡ None
none_passed true item no_frame = refl
none_passed false (Good Ack) no_frame = refl
none_passed false (Good Nak) no_frame = refl
none_passed false (Good Can) no_frame = refl
none_passed false (Good (Framed f)) no_frame = absurd no_frame
none_passed false (Refused r) no_frame = refl

item_routed : (o : OuterState) (item : Item) (way : Option Route) → IsNoFrame item → IsRouted o → IsRouted (chip_does o (Judged item way)).outer
item_routed o item way no_frame is =
    let s : ChipState = o.chip.state in
    let hs : ChipState = heard s item in
    let served : AreSaid (judged_outs (passed (collides s) item) hs way) =
    subst (λ (f : Option FrameParts). AreSaid (judged_outs f hs way)) (sym (none_passed (collides s) item no_frame)) (written_said (next_at hs.port.side.turn hs.port.waiting)) in
    leaves_routed o (chip_does o (Judged item way)).outer
    (does_said o (Judged item way) (said_both (answer_outs (collides s) item) (judged_outs (passed (collides s) item) hs way) (answer_said (collides s) item no_frame) served)) is

-- ---- all items

way_routed : (these : List Bool) (o : OuterState) (item : Item) (way : Option Route) → HasNoMarks o → TakesOne o.chip.state item → IsAskedFor these item → Reaches o.chip.state.table these
    → ChipMay o.chip.state (Judged item way) → IsRouted o → IsRouted (chip_does o (Judged item way)).outer
way_routed these o (Good (Framed f)) way none takes_it only reaches may is = request_routed o f way none takes_it (frame_way these o.chip.state f way none.link takes_it only reaches may) is
way_routed these o (Good Ack) way none takes_it only reaches may is = item_routed o (Good Ack) way tt is
way_routed these o (Good Nak) way none takes_it only reaches may is = item_routed o (Good Nak) way tt is
way_routed these o (Good Can) way none takes_it only reaches may is = item_routed o (Good Can) way tt is
way_routed these o (Refused r) way none takes_it only reaches may is = item_routed o (Refused r) way tt is

ways_routed : (these : List Bool) (o : OuterState) (ways : List (Item × Option Route)) → HasNoMarks o → TakesEach o.chip.state ways → AreAskedFor these ways → Reaches o.chip.state.table these
    → ChipMayAll o.chip.state (judged_all ways) → IsRouted o → IsRouted (each chip_does o (judged_all ways)).outer
ways_routed these o [] none takes_each only reaches may is = is
ways_routed these o (way ∷ ways) none takes_each only reaches may is =
    let same = sym (does_chip o (Judged way.0 way.1)) in
    ways_routed these (chip_does o (Judged way.0 way.1)).outer ways (does_none o (Judged way.0 way.1) tt none)
    (subst (λ (s : ChipState). TakesEach s ways) same takes_each.1) only.1 (subst (λ (s : ChipState). Reaches s.table these) same (still_reaches these o.chip.state way.0 way.1 reaches))
    (subst (λ (s : ChipState). ChipMayAll s (judged_all ways)) same may.1)
    (way_routed these o way.0 way.1 none takes_each.0 only.0 reaches may.0 is)

-- ---- events

outside_routed : (m : Machine) (event : OuterEvent) → IsRouted (outcome m.outside event).outer → IsRouted (happens m (Outside_does event)).outside.outer
unfolding happens
outside_routed m event is = entered_routed (outcome m.outside event).outer (outcome m.outside event).entries is

acts_routed : (o : OuterState) (device : Option State) (event : DeviceEvent) (route : Option Route) → IsRouted o → IsRouted (acts_at o device event route).outer
acts_routed o None event route is = is
acts_routed o (Some device) event route is = record { none_due = is.none_due; of_frames = is.of_frames }

hand_routed : (o : OuterState) (devices : List State) (place : Option ℕ) (event : DeviceEvent) (route : Option Route) → IsRouted o → IsRouted (acts_by_hand o devices place event route).outer
hand_routed o devices None event route is = is
hand_routed o devices (Some place) event route is = acts_routed o (slice_get devices place) event route is

pub line_routed : (m : Machine) → IsRouted m.outside.outer → IsRouted (happens m (Outside_does Begins_line)).outside.outer
unfolding outcome
line_routed m is = outside_routed m Begins_line (record { none_due = is.none_due; of_frames = is.of_frames })

pub tick_routed : (m : Machine) → IsRouted m.outside.outer → IsRouted (happens m (Outside_does Begins_tick)).outside.outer
unfolding outcome
tick_routed m is = outside_routed m Begins_tick (record { none_due = is.none_due; of_frames = is.of_frames })

pub wake_routed : (m : Machine) (node : ℕ) (route : Option Route) → IsRouted m.outside.outer → IsRouted (happens m (Outside_does (Wakes_device node route))).outside.outer
unfolding outcome
wake_routed m node route is = outside_routed m (Wakes_device node route) (hand_routed m.outside.outer m.outside.devices (place_of node m.outside.devices) Wakes route is)

pub show_routed : (m : Machine) (node : ℕ) → IsRouted m.outside.outer → IsRouted (happens m (Outside_does (Shows node))).outside.outer
unfolding outcome
show_routed m node is = outside_routed m (Shows node) is

pub cut_routed : (m : Machine) (size : ℕ) → IsRouted m.outside.outer → IsRouted (happens m (Outside_does (Cuts size))).outside.outer
unfolding outcome
cut_routed m size is = outside_routed m (Cuts size) (record { none_due = is.none_due; of_frames = is.of_frames })

pub arrives_routed : (m : Machine) (drawn : List ℕ) (route : Option Route) → IsRouted m.outside.outer → IsRouted (happens m (Outside_does (Arrives drawn route))).outside.outer
unfolding outcome
arrives_routed m drawn route is =
    outside_routed m (Arrives drawn route)
    (deal_all (mesh_after (mesh_of m.outside) (mesh.Arrives drawn route)).devices (record m.outside.outer { air = (mesh_after (mesh_of m.outside) (mesh.Arrives drawn route)).air }) (mesh_outs (mesh_of m.outside) (mesh.Arrives drawn route))
    (record { none_due = is.none_due; of_frames = is.of_frames }))

pub gives_routed : (m : Machine) (route : Option Route) → IsRouted m.outside.outer → IsRouted (happens m (Outside_does (Gives route))).outside.outer
unfolding outcome
gives_routed m route is =
    outside_routed m (Gives route) (subst (λ (due : List Due). IsRouted (gives m.outside.outer m.outside.devices due route).outer) (sym is.none_due) is)

pub device_routed : (m : Machine) (place : ℕ) (drawn : List ℕ) (route : Option Route) → IsRouted m.outside.outer → IsRouted (happens m (Outside_does (Device_ticks place drawn route))).outside.outer
unfolding outcome
device_routed m place drawn route is = outside_routed m (Device_ticks place drawn route) (acts_routed m.outside.outer (slice_get m.outside.devices place) (Ticks drawn) route is)

pub counts_routed : (m : Machine) → IsRouted m.outside.outer → IsRouted (happens m (Outside_does Chip_ticks)).outside.outer
unfolding outcome
counts_routed m is =
    let at : OuterState = record m.outside.outer { chip = record { decoder = after_tick m.outside.outer.chip.decoder; state = m.outside.outer.chip.state } } in
    outside_routed m Chip_ticks (leaves_routed at (chip_does at Ticked).outer (does_said at Ticked (ticked_said m.outside.outer.chip.state.port)) (record { none_due = is.none_due; of_frames = is.of_frames }))

pub takes_routed : (these : List Bool) (m : Machine) (rest : Rest) (ways : List (Item × Option Route)) → IsUnmarked m → May m (Outside_does (Chip_takes (length m.outside.outer.to_chip.bytes) rest ways))
    → TakesEach m.outside.outer.chip.state ways → AreAskedFor these ways → Reaches m.outside.outer.chip.state.table these → IsRouted m.outside.outer → IsRouted (chip_taken m rest ways).outside.outer
unfolding outcome May MayOutside
takes_routed these m rest ways none may takes_each only reaches is =
    outside_routed m (Chip_takes (length m.outside.outer.to_chip.bytes) rest ways)
    (ways_routed these (taken m.outside.outer rest) ways (marks_of m.outside.outer rest none) takes_each only reaches may.1.judges (record { none_due = is.none_due; of_frames = is.of_frames }))
