-- At each event of quiet lines and ticks at which the chip is asked for some nodes alone, no frame of the host or of the device of one of these is lost or has a dead hop; so the chip forgets no link.
use Rattle.std.proofs.Common.{◌≡◌, ◌≢◌, ◌||◌, nat_le, nat_lt, if◌then◌else◌, ℕ, ◌+◌, ◌-◌, ◌==◌, Bool, true, false, List, [], ◌∷◌, ◌++◌, length, reverse, take, drop, refl, sym, ap, ◌∙◌, subst, arith}
use Rattle.std.proofs.lemmas.List.{length-reverse, length-take-le, reverse-append, take_at}
use Rattle.std.specs.Prelude.{Option, Some, None, option_map, slice_get}
use Rattle.std.specs.Option.{is_none, unwrap_or}
use Rattle.std.specs.List.{AllByRecursion}
use Rattle.zw_base.proofs.Each.{all-append, all-weaker}
use Rattle.serial_frame.specs.Frame.{FrameParts}
use Rattle.serial_frame.specs.Stream.{after_tick}
use Rattle.serial_pipes.specs.Events.{Takes}
use Rattle.serial_pipes.specs.Events as way
use Rattle.serial_frame.specs.declared.item.Item.{Item}
use Rattle.serial_frame.specs.declared.item.Item.TheVariants.{Good, Refused}
use Rattle.serial_frame.specs.declared.item.Refusal.TheVariants.{Stray, BadLength, BadSum, BadKind, Aborted}
use Rattle.serial_frame.specs.declared.unit.Unit.TheVariants.{Ack, Nak, Can, Framed}
use Rattle.route_table.specs.Network.{Network, linked}
use Rattle.route_table.specs.Route.{via}
use Rattle.route_table.specs.Walk.{Hops, Walk}
use Rattle.route_table.specs.declared.route.Route.{Route}
use Rattle.route_table.proofs.Networks.{linked-both_ways}
use Rattle.air_frames.specs.Flown.{Flown}
use Rattle.air_frames.specs.Frames.{next_of, peer_of}
use Rattle.air_frames.specs.declared.frame.Departure.{Departure}
use Rattle.air_frames.specs.declared.frame.Heading.{Heading}
use Rattle.air_frames.specs.declared.frame.Heading.TheVariants.{Outward, Homeward}
use Rattle.chip_functions.specs.declared.request.Request.{Request}
use Rattle.chip_functions.specs.declared.request.Request.TheVariants.{GetInitData, GetCapabilities, SendData, GetVersion, SendDataAbort, MemoryGetId, GetNodeProtocolInfo, AddNode, RequestNodeInfo, IsFailedNode, GetRoutingInfo}
use Rattle.chip_functions.specs.declared.notice.TransmitStatus.{TransmitStatus}
use Rattle.chip_sim.specs.Answers.{takes}
use Rattle.chip_sim.specs.Events.{ChipEvent, Judged, Ticked, Heard as chip_hears, Done, Informed, May as ChipMay, after, collides, ended, outs}
use Rattle.chip_sim.specs.Did.{MayAll as ChipMayAll, judged_all}
use Rattle.chip_sim.specs.Nodes.{is_marked}
use Rattle.chip_sim.specs.Requests.{HasWay as ChipWay, IsRoute as IsChipRoute, IsWayIf, JudgedWay, answer_outs, asked, given_outs, heard, judged_outs, passed, performed_outs, reply_to, requested_outs, sent}
use Rattle.chip_sim.specs.State.{ChipState}
use Rattle.chip_sim.specs.Waiting.{next_at}
use Rattle.chip_sim.specs.declared.out.ChipOut.{ChipOut}
use Rattle.chip_sim.specs.declared.out.ChipOut.TheVariants.{Write, OnAir, NoRoute, AskInfo, Full}
use Rattle.chip_sim.specs.declared.out.Sending.{Sending}
use Rattle.device_sim.specs.State.{State}
use Rattle.device_sim.specs.Event.{DeviceEvent, Hears, Ticks, Wakes, device_replies}
use Rattle.mesh_sim.specs.Air.{AirState, beginning, departing, is_joined, no_route}
use Rattle.mesh_sim.specs.Fates.{Mesh, dead_hop, dead_hop_by, dead_hop_of, fate_by, fate_of, listener_of, place_of}
use Rattle.mesh_sim.specs.Routes.{IsRoute, backwards}
use Rattle.mesh_sim.specs.Steps.{MayArrive, MayArriveIf, MayHappen, acknowledged, answered, answered_if, arrival_outs, arrival_outs_as, arriving, arriving_as, done_of, heard_at, landed, mesh_after, mesh_outs, outs_at}
use Rattle.mesh_sim.specs.Steps as mesh
use Rattle.mesh_sim.specs.declared.event.AirEvent.{AirEvent}
use Rattle.mesh_sim.specs.declared.event.AirEvent.TheVariants as air_event
use Rattle.mesh_sim.specs.declared.fate.Fate.{Fate}
use Rattle.mesh_sim.specs.declared.fate.Fate.TheVariants.{Lost, Dead, Missed, AtChip, AtDevice}
use Rattle.zw_text.specs.declared.entry.Entry.{Entry}
use Rattle.zw_text.specs.declared.entry.Entry.TheVariants as entry
use Rattle.outside_model.specs.State.{OuterState, Outside, Outcome, with_chip, each}
use Rattle.outside_model.specs.Air.{deals}
use Rattle.outside_model.specs.Chip.{put_out, chip_does}
use Rattle.outside_model.specs.Devices.{HasWay, MayAct, MayActByHand, acts_at, acts_by_hand}
use Rattle.outside_model.specs.Events.{OuterEvent, Begins_line, Begins_tick, Host_writes, Host_takes, Host_notes, Host_begins, Chip_takes, Arrives, Gives, Device_ticks, Chip_ticks, Wakes_device, Shows, Cuts, May as MayOutside, begins, has_entered, is_own, mesh_of, outcome, steps, happens as happens_outside, entries as entries_outside}
use Rattle.outside_model.specs.Results.{frame_ends}
use Rattle.proof_work.proofs.Times.{does_chip}
use Rattle.proof_work.proofs.Results.{Calls, IsResult, IsSameChip, calls_go, due_goes, payload_goes}
use Rattle.world_model.specs.State.{Machine}
use Rattle.world_model.specs.Events.{Event, Outside_does, happens, May}
use Rattle.proof_work.specs.proof_walk.Outside.{CoversOuter}
use Rattle.proof_work.proofs.proof_walk_Machines.{covers_answer, covers_host, machine_goes}
use Rattle.proof_waking.proofs.ChipNotices.{AreSaid, IsSaid, done_said, queued_said, ticked_said, written_said}
use Rattle.proof_waking.specs.proof_traffic.OnAir.{on_air}
use Rattle.proof_calm.specs.Live.{AreAskedFor, AsksFor, HasLive, IsAskedAt, IsAskedFor, IsAskedOutside, IsLive, IsLiveOf, IsReached, LiveBy}
use Rattle.proof_calm.specs.Marks.{IsQuietEvent}
use Rattle.proof_calm.proofs.Counting.{outs_all}
use Rattle.proof_calm.proofs.Aloft.{IsSized, land_all, land_sized, next_all, put_all, put_sized}
use Rattle.proof_calm.proofs.Routed.{Of, judged_of}
use Rattle.proof_calm.proofs.Unmarked.{hosts}

-- ---- ways

-- a way over links of a table is live, where each of these is a link of the air
pub live_way : (table net : Network) → ((a b : ℕ) → linked table a b ≡ true → linked net a b ≡ true) → (from : ℕ) (over : List ℕ) (to : ℕ) → Hops table from over to → dead_hop net from over to ≡ None
live_way table net known from [] to hops = ap (λ (l : Bool). if l then None else Some (from, to)) (known from to hops)
live_way table net known from (next ∷ over) to hops =
    ap (λ (l : Bool). if l then dead_hop net next over to else Some (from, next)) (known from next hops.0) ∙ live_way table net known next over to hops.1

one_more : (net : Network) (b : ℕ) (over : List ℕ) (c a : ℕ) → Hops net b over c → linked net c a ≡ true → Hops net b (over ++ c ∷ []) a
one_more net b [] c a hops last = (hops, last)
one_more net b (x ∷ over) c a hops last = (hops.0, one_more net x over c a hops.1 last)

-- and back again
turned : (net : Network) (a : ℕ) (over : List ℕ) (b : ℕ) → Hops net a over b → Hops net b (reverse over) a
turned net a [] b hops = linked-both_ways net b a ∙ hops
turned net a (c ∷ over) b hops =
    subst (λ (l : List ℕ). Hops net b l a) (sym (reverse-append (c ∷ []) over)) (one_more net b (reverse over) c a (turned net c over b hops.1) (linked-both_ways net c a ∙ hops.0))

-- a way home that there is
abbrev IsGood : Network → ℕ → Option Route → Type 0
IsGood net node way = (is_none way ≡ false) × (dead_hop net node (via (unwrap_or way no_route)) 1 ≡ None)

-- so a node that the air has a walk to has one
way_good : (net : Network) (node : ℕ) (route : Option Route) → IsRoute net node route → (node ≢ 1) × ((walk : List ℕ) × Walk net node walk) → IsGood net node (option_map backwards route)
way_good net node None is there = absurd (is there.0 there.1.0 there.1.1)
way_good net node (Some route) least there =
    let few = least.few in
    let places = least.places in
    let taken : length (take route.count route.hops) ≡ route.count = length-take-le route.count route.hops (omega (arith, few, places)) in
    let first : via (backwards route) ≡ reverse (via route) = take_at (reverse (via route)) (drop route.count route.hops) route.count (length-reverse (via route) ∙ taken) in
    (refl, ap (λ (l : List ℕ). dead_hop net node l 1) first ∙ live_way net net (λ a b is. is) node (reverse (via route)) 1 (turned net 1 (via route) node least.walk.hops))

-- ---- the air

module _ (these : List Bool) where
  -- to each of these there is a way
  abbrev HaveWays : Network → Type 0
  HaveWays net = (n : ℕ) → is_marked these n ≡ true → (n ≢ 1) × ((walk : List ℕ) × Walk net n walk)

  abbrev Alive : AirState → Type 0
  Alive air = AllByRecursion (IsLiveOf these air.network) (on_air air.frames) × HaveWays air.network × (air.losing ≡ 0) × IsSized air.frames

  -- where it is a frame of the host, or of one of these, it has a way without dead hops
  departs_alive : (air : AirState) (node : ℕ) (heading : Heading) (route : Option Route) (payload : List ℕ)
      → ((heading ≡ Homeward → is_marked these node ≡ true) → (is_none route ≡ false) × (dead_hop_by heading air.network node (via (unwrap_or route no_route)) ≡ None)) → Alive air
      → Alive (departing air node heading route payload)
  departs_alive air node heading route payload good alive =
      let d : Departure = record { node = node; heading = heading; route = unwrap_or route no_route; lost = nat_lt 0 air.losing || is_none route; payload = payload } in
      (put_all (IsLiveOf these air.network) air.frames d (λ of. (ap (λ (count : ℕ). nat_lt 0 count || is_none route) alive.2 ∙ (good of).0, (good of).1)) alive.0, alive.1, ap (λ (count : ℕ). count - 1) alive.2, put_sized air.frames d)

  lands_alive : (air : AirState) → Alive air → Alive (landed air)
  lands_alive air alive = (land_all (IsLiveOf these air.network) air.frames alive.0, alive.1, alive.2, land_sized air.frames)

  answers_alive : (air : AirState) (node : ℕ) (way : Option Route) (replies : List (List ℕ)) → (is_marked these node ≡ true → IsGood air.network node way) → Alive air → Alive (answered air node way replies)
  answers_alive air node way [] good alive = alive
  answers_alive air node way (reply ∷ replies) good alive =
      answers_alive (departing air node Homeward way reply) node way replies good (departs_alive air node Homeward way reply (λ of. good (of refl)) alive)

  answers_if_alive : (b : Bool) (air : AirState) (node : ℕ) (route : Option Route) (replies : List (List ℕ)) → IsRoute air.network node route → Alive air
      → Alive (answered_if b air node (option_map backwards route) replies)
  answers_if_alive true air node route replies way alive = answers_alive air node (option_map backwards route) replies (λ marked. way_good air.network node route way (alive.1 node marked)) alive
  answers_if_alive false air node route replies way alive = alive

  -- a device that does something of itself has a way where it says something
  acts_alive : (b : Bool) (air : AirState) (node : ℕ) (route : Option Route) (replies : List (List ℕ)) → HasWay air.network node replies route → Alive air
      → Alive (answered_if b air node (option_map backwards route) replies)
  acts_alive false air node route replies has alive = alive
  acts_alive true air node route [] has alive = alive
  acts_alive true air node route (reply ∷ replies) has alive = answers_if_alive true air node route (reply ∷ replies) has alive

  heard_alive : (at : Mesh) (place : ℕ) (device : Option State) (node : ℕ) (route : Option Route) (event : DeviceEvent) → IsRoute at.air.network node route → Alive at.air → Alive (heard_at at place device node route event).air
  heard_alive at place None node route event is alive = alive
  heard_alive at place (Some device) node route event is alive =
      answers_if_alive (is_joined at.air node) at.air node route (device_replies device event) is alive

  arrives_alive : (at : Mesh) (frame : Flown) (fate : Fate) (drawn : List ℕ) (route : Option Route) → MayArrive at frame fate route → Alive at.air → Alive (arriving_as at frame fate drawn route).air
  arrives_alive at frame Lost drawn route may alive = lands_alive at.air alive
  arrives_alive at frame (Dead from to) drawn route may alive = lands_alive at.air alive
  arrives_alive at frame Missed drawn route may alive = lands_alive at.air alive
  arrives_alive at frame AtChip drawn route may alive = lands_alive at.air alive
  arrives_alive at frame (AtDevice place) drawn route may alive =
      heard_alive (record at { air = landed (acknowledged at.air) }) place (slice_get at.devices place) frame.node route (Hears frame.payload drawn) may (lands_alive (acknowledged at.air) alive)

  next_alive : (at : Mesh) (frame : Option Flown) (drawn : List ℕ) (route : Option Route) → MayArriveIf at frame route → Alive at.air → Alive (arriving at frame drawn route).air
  next_alive at None drawn route may alive = alive
  next_alive at (Some frame) drawn route may alive = arrives_alive at frame (fate_of at.air.network at.devices frame) drawn route may alive

  step_alive : (at : Mesh) (drawn : List ℕ) (route : Option Route) → MayHappen at (mesh.Arrives drawn route) → Alive at.air → Alive (mesh_after at (mesh.Arrives drawn route)).air
  unfolding mesh_after MayHappen
  step_alive at drawn route may alive = next_alive at (next_of at.air.frames) drawn route may.0 alive

-- its network stays
network_answers : (air : AirState) (node : ℕ) (way : Option Route) (replies : List (List ℕ)) → (answered air node way replies).network ≡ air.network
network_answers air node way [] = refl
network_answers air node way (reply ∷ replies) = network_answers (departing air node Homeward way reply) node way replies

network_if : (b : Bool) (air : AirState) (node : ℕ) (way : Option Route) (replies : List (List ℕ)) → (answered_if b air node way replies).network ≡ air.network
network_if true air node way replies = network_answers air node way replies
network_if false air node way replies = refl

network_heard : (at : Mesh) (place : ℕ) (device : Option State) (node : ℕ) (route : Option Route) (event : DeviceEvent) → (heard_at at place device node route event).air.network ≡ at.air.network
network_heard at place None node route event = refl
network_heard at place (Some device) node route event = network_if (is_joined at.air node) at.air node (option_map backwards route) (device_replies device event)

network_arrives : (at : Mesh) (frame : Flown) (fate : Fate) (drawn : List ℕ) (route : Option Route) → (arriving_as at frame fate drawn route).air.network ≡ at.air.network
network_arrives at frame Lost drawn route = refl
network_arrives at frame (Dead from to) drawn route = refl
network_arrives at frame Missed drawn route = refl
network_arrives at frame AtChip drawn route = refl
network_arrives at frame (AtDevice place) drawn route =
    network_heard (record at { air = landed (acknowledged at.air) }) place (slice_get at.devices place) frame.node route (Hears frame.payload drawn)

network_next : (at : Mesh) (frame : Option Flown) (drawn : List ℕ) (route : Option Route) → (arriving at frame drawn route).air.network ≡ at.air.network
network_next at None drawn route = refl
network_next at (Some frame) drawn route = network_arrives at frame (fate_of at.air.network at.devices frame) drawn route

arrives_network : (at : Mesh) (drawn : List ℕ) (route : Option Route) → (mesh_after at (mesh.Arrives drawn route)).air.network ≡ at.air.network
unfolding mesh_after
arrives_network at drawn route = network_next at (next_of at.air.frames) drawn route

-- ---- what is told

-- no hop of a frame was dead
abbrev pub IsUnbroken : AirEvent → Type 0
IsUnbroken (air_event.Done frame status dead) = dead ≡ None
IsUnbroken event = Unit {0}

abbrev AreUnbroken : List AirEvent → Type 0
AreUnbroken events = AllByRecursion IsUnbroken events

done_unbroken : (heading : Heading) (number status : ℕ) → AreUnbroken (done_of heading number status None)
done_unbroken Outward number status = (refl, tt)
done_unbroken Homeward number status = tt

outs_unbroken : (at : Mesh) (device : Option State) (number node : ℕ) (route : Option Route) (event : DeviceEvent) → AreUnbroken (outs_at at device number node route event)
outs_unbroken at device number node route event = outs_all IsUnbroken (λ frame. tt) (λ changed place. tt) (λ frame from to way payload. tt) at device number node route event

dead_none : (dead : Option (ℕ × ℕ)) (heading : Heading) (listener : Option ℕ) (from to : ℕ) → dead ≡ None → fate_by dead heading listener ≡ Dead from to → ⊥
dead_none (Some hop) heading listener from to none is = cc
dead_none None Homeward listener from to none is = cc
dead_none None Outward (Some place) from to none is = cc
dead_none None Outward None from to none is = cc

never_dead : (net : Network) (devices : List State) (frame : Flown) (from to : ℕ) → IsLive net frame → fate_of net devices frame ≡ Dead from to → ⊥
never_dead net devices frame from to live is = by frame.lost refl is
  where
    by : (lost : Bool) → frame.lost ≡ lost → (if lost then Lost else fate_by (dead_hop_of net frame) frame.heading (listener_of frame.node devices)) ≡ Dead from to → ⊥
    by true lost same = cc
    by false kept same = dead_none (dead_hop_of net frame) frame.heading (listener_of frame.node devices) from to live.1 same

fate_unbroken : (at : Mesh) (number : ℕ) (frame : Flown) (fate : Fate) (drawn : List ℕ) (route : Option Route) → fate_of at.air.network at.devices frame ≡ fate
    → (frame.heading ≡ Outward → IsLive at.air.network frame) → AreUnbroken (arrival_outs_as at number frame fate drawn route)
fate_unbroken at number frame Lost drawn route is live = (tt, done_unbroken frame.heading number 1)
fate_unbroken at number frame (Dead from to) drawn route is live = (tt, by frame.heading refl)
  where
    by : (heading : Heading) → frame.heading ≡ heading → AreUnbroken (done_of heading number 1 (Some (from, to)))
    by Outward out = absurd (never_dead at.air.network at.devices frame from to (live out) is)
    by Homeward home = tt
fate_unbroken at number frame Missed drawn route is live = (tt, done_unbroken frame.heading number 1)
fate_unbroken at number frame AtChip drawn route is live = (tt, (tt, tt))
fate_unbroken at number frame (AtDevice place) drawn route is live =
    let hears : Mesh = record at { air = landed (acknowledged at.air) } in
    let told : List AirEvent = outs_at hears (slice_get at.devices place) number frame.node route (Hears frame.payload drawn) in
    all-append IsUnbroken told (air_event.Done number _ None ∷ []) (outs_unbroken hears (slice_get at.devices place) number frame.node route (Hears frame.payload drawn)) (refl, tt)

-- a frame of the host is of these
out_live : (these : List Bool) (net : Network) (frame : Flown) → IsLiveOf these net frame → frame.heading ≡ Outward → IsLive net frame
out_live these net frame live out = live (λ home. absurd (let same : Outward ≡ Homeward = sym out ∙ home in cc))

next_unbroken : (these : List Bool) (at : Mesh) (drawn : List ℕ) (route : Option Route) → IsSized at.air.frames → AllByRecursion (IsLiveOf these at.air.network) (on_air at.air.frames)
    → AreUnbroken (arrival_outs at (next_of at.air.frames) drawn route)
next_unbroken these at drawn route sized fly = by (next_of at.air.frames) refl
  where
    by : (frame : Option Flown) → next_of at.air.frames ≡ frame → AreUnbroken (arrival_outs at frame drawn route)
    by None is = tt
    by (Some frame) is =
        fate_unbroken at (at.air.frames.landed + 1) frame (fate_of at.air.network at.devices frame) drawn route refl
        (out_live these at.air.network frame (next_all (IsLiveOf these at.air.network) at.air.frames frame sized is fly))

step_unbroken : (these : List Bool) (at : Mesh) (drawn : List ℕ) (route : Option Route) → IsSized at.air.frames → AllByRecursion (IsLiveOf these at.air.network) (on_air at.air.frames)
    → AreUnbroken (mesh_outs at (mesh.Arrives drawn route))
unfolding mesh_outs
step_unbroken these at drawn route sized fly = next_unbroken these at drawn route sized fly

-- ---- what the chip puts out goes to these, over routes of its table

module _ (these : List Bool) where
  abbrev GoesOver : Network → ChipOut → Type 0
  GoesOver table (OnAir to route payload) = IsChipRoute table to route × (is_marked these to ≡ true)
  GoesOver table out = Unit {0}

  abbrev AllGoOver : Network → List ChipOut → Type 0
  AllGoOver table puts = AllByRecursion (GoesOver table) puts

  said_goes : (table : Network) (out : ChipOut) → IsSaid out → GoesOver table out
  said_goes table (Write unit) said = tt
  said_goes table (OnAir to route payload) said = absurd said
  said_goes table NoRoute said = tt
  said_goes table (AskInfo node) said = tt
  said_goes table Full said = tt

  said_go : (table : Network) (puts : List ChipOut) → AreSaid puts → AllGoOver table puts
  said_go table puts said = all-weaker IsSaid (GoesOver table) (said_goes table) puts said

  answer_goes : (table : Network) (c : Bool) (item : Item) → AllGoOver table (answer_outs c item)
  answer_goes table c (Good Ack) = tt
  answer_goes table c (Good Nak) = tt
  answer_goes table c (Good Can) = tt
  answer_goes table true (Good (Framed f)) = (tt, tt)
  answer_goes table false (Good (Framed f)) = (tt, tt)
  answer_goes table c (Refused (Stray x)) = tt
  answer_goes table c (Refused (BadLength n)) = tt
  answer_goes table c (Refused (BadSum want got)) = (tt, tt)
  answer_goes table c (Refused (BadKind x)) = (tt, tt)
  answer_goes table c (Refused Aborted) = tt

  module _ (s : ChipState) where
    given_goes : (reply : Option FrameParts) → AllGoOver s.table (given_outs s reply)
    given_goes None = tt
    given_goes (Some f) = said_go s.table _ (queued_said s.port f)

    data_goes : (b : Bool) (n : ℕ) (payload : List ℕ) (way : Option Route) → IsWayIf b s.table n way → is_marked these n ≡ true → AllGoOver s.table (if b then sent n payload way else [])
    data_goes true n payload None has marked = (tt, tt)
    data_goes true n payload (Some route) has marked = ((has, marked), tt)
    data_goes false n payload way has marked = tt

    performed_goes : (request : Request) (way : Option Route) → ChipWay (Some request) s way → AsksFor these (Some request) → AllGoOver s.table (performed_outs request s way)
    performed_goes GetInitData way has only = tt
    performed_goes GetCapabilities way has only = tt
    performed_goes (SendData n payload options id) way has only = data_goes (takes s n payload) n payload way has only
    performed_goes GetVersion way has only = tt
    performed_goes SendDataAbort way has only = tt
    performed_goes MemoryGetId way has only = tt
    performed_goes (GetNodeProtocolInfo n) way has only = tt
    performed_goes (AddNode mode id) way has only = tt
    performed_goes (RequestNodeInfo n) way has only = (tt, tt)
    performed_goes (IsFailedNode n) way has only = tt
    performed_goes (GetRoutingInfo n x y z) way has only = tt

    requested_goes : (request : Option Request) (way : Option Route) → ChipWay request s way → AsksFor these request → AllGoOver s.table (requested_outs request s way)
    requested_goes None way has only = tt
    requested_goes (Some request) way has only =
        all-append (GoesOver s.table) (given_outs s (reply_to s request)) (performed_outs request s way) (given_goes (reply_to s request)) (performed_goes request way has only)

    abbrev AsksIf : Option FrameParts → Type 0
    AsksIf None = Unit {0}
    AsksIf (Some f) = AsksFor these (asked f)

    judged_goes : (frame : Option FrameParts) (way : Option Route) → JudgedWay frame s way → AsksIf frame → AllGoOver s.table (judged_outs frame s way)
    judged_goes None way has only = said_go s.table _ (written_said (next_at s.port.side.turn s.port.waiting))
    judged_goes (Some f) way has only = requested_goes (asked f) way has only

  passed_for : (s : ChipState) (c : Bool) (item : Item) → IsAskedFor these item → AsksIf s (passed c item)
  passed_for s true item only = tt
  passed_for s false (Good (Framed f)) only = only
  passed_for s false (Good Ack) only = tt
  passed_for s false (Good Nak) only = tt
  passed_for s false (Good Can) only = tt
  passed_for s false (Refused r) only = tt

  item_goes : (s : ChipState) (item : Item) (way : Option Route) → ChipMay s (Judged item way) → IsAskedFor these item → AllGoOver s.table (outs s (Judged item way))
  item_goes s item way may only =
      all-append (GoesOver s.table) (answer_outs (collides s) item) (judged_outs (passed (collides s) item) (heard s item) way) (answer_goes s.table (collides s) item)
      (judged_goes (heard s item) (passed (collides s) item) way may (passed_for (heard s item) (collides s) item only))

  -- ---- what is outside the host

  alive_of : (o : OuterState) → HasLive these o → Alive these o.air
  alive_of o live = (live.fly, (λ n marked. let reached = live.reached n marked in (reached.apart, (reached.back, reached.way))), live.none_marked, live.sized)

  -- with another air over the same network
  air_live : (o : OuterState) (air : AirState) → air.network ≡ o.air.network → Alive these air → HasLive these o → HasLive these (record o { air = air })
  air_live o air same alive live = record {
    fly = alive.0;
    sized = alive.3;
    reached = subst (λ (net : Network). (n : ℕ) → is_marked these n ≡ true → IsReached o.chip.state.table net n) (sym same) live.reached;
    none_marked = alive.2;
  }

  puts_live : (o : OuterState) (out : ChipOut) → GoesOver o.chip.state.table out → HasLive these o → HasLive these (put_out o out).outer
  puts_live o (Write unit) over live = live
  puts_live o (OnAir to route payload) over live =
      air_live o (departing o.air to Outward (Some route) payload) refl
      (departs_alive these o.air to Outward (Some route) payload (λ of. (refl, (live.reached to over.1).live route over.0)) (alive_of o live)) live
  puts_live o NoRoute over live = live
  puts_live o (AskInfo node) over live = live
  puts_live o Full over live = live

  put_table : (o : OuterState) (out : ChipOut) → (put_out o out).outer.chip.state.table ≡ o.chip.state.table
  put_table o (Write unit) = refl
  put_table o (OnAir to route payload) = refl
  put_table o NoRoute = refl
  put_table o (AskInfo node) = refl
  put_table o Full = refl

  puts_all_live : (o : OuterState) (puts : List ChipOut) → AllGoOver o.chip.state.table puts → HasLive these o → HasLive these (each put_out o puts).outer
  puts_all_live o [] over live = live
  puts_all_live o (out ∷ puts) over live = puts_all_live (put_out o out).outer puts (subst (λ (t : Network). AllGoOver t puts) (sym (put_table o out)) over.1) (puts_live o out over.0 live)

  does_live : (o : OuterState) (event : ChipEvent) → Of (after o.chip.state event) ≡ Of o.chip.state → AllGoOver o.chip.state.table (outs o.chip.state event) → HasLive these o → HasLive these (chip_does o event).outer
  unfolding chip_does
  does_live o event keeps over live =
      puts_all_live (with_chip o (after o.chip.state event)) (outs o.chip.state event) (subst (λ (of : Network × List Bool). AllGoOver of.0 (outs o.chip.state event)) (sym keeps) over)
      (subst (λ (of : Network × List Bool). LiveBy these of.0 o.air.network o.air.losing o.air.frames) (sym keeps) live)

  abbrev Leaves : OuterState → Outcome → Type 0
  Leaves o x = HasLive these o → HasLive these x.outer

  ended_of : (sending : Option Sending) (s : ChipState) (status : TransmitStatus) → Of (ended sending s status) ≡ Of s
  ended_of None s status = refl
  ended_of (Some sending) s status = refl

  done_of_chip : (b : Bool) (s : ChipState) (status : TransmitStatus) → Of (if b then ended s.sending s status else record s { aborted = s.aborted - 1 }) ≡ Of s
  done_of_chip true s status = ended_of s.sending s status
  done_of_chip false s status = refl

  result_live : (o : OuterState) (event : ChipEvent) → IsResult event → Leaves o (chip_does o event)
  result_live o (Done status) is live = does_live o (Done status) (done_of_chip (o.chip.state.aborted == 0) o.chip.state status) (said_go o.chip.state.table _ (done_said o.chip.state status)) live
  result_live o (Informed node profile) is live = does_live o (Informed node profile) refl (said_go o.chip.state.table _ (queued_said o.chip.state.port _)) live
  result_live o event is live = absurd is

  hears_live : (o : OuterState) (from : ℕ) (payload : List ℕ) → Leaves o (chip_does o (chip_hears from payload))
  hears_live o from payload live = does_live o (chip_hears from payload) refl (said_go o.chip.state.table _ (queued_said o.chip.state.port _)) live

  with_air_of : (o p : OuterState) → IsSameChip o p → HasLive these o → HasLive these p
  with_air_of o p is live =
      subst (λ (s : ChipState). LiveBy these s.table p.air.network p.air.losing p.air.frames) (sym is.chip)
      (subst (λ (air : AirState). LiveBy these o.chip.state.table air.network air.losing air.frames) (sym is.air) live)

  calls : Calls Leaves
  calls = record {
    still = λ o p is live. with_air_of o p is live;
    both = λ o first next one later live. later first.outer (one live);
    later = λ o p x is goes live. goes (with_air_of o p is live);
    result = result_live;
  }

  ends_live : (o : OuterState) (status : ℕ) (dead : Option (ℕ × ℕ)) → dead ≡ None → Leaves o (frame_ends o status dead)
  ends_live o status None none live = calls_go Leaves calls o status live
  ends_live o status (Some hop) none live = absurd cc

  deals_live : (devices : List State) (o : OuterState) (event : AirEvent) → IsUnbroken event → Leaves o (deals devices o event)
  deals_live devices o (air_event.ToChip frame from payload) unbroken live = payload_goes Leaves calls hears_live o from payload live
  deals_live devices o (air_event.Done frame status dead) unbroken live = ends_live o status dead unbroken live
  deals_live devices o (air_event.Heard frame) unbroken live = live
  deals_live devices o (air_event.Lost frame) unbroken live = live
  deals_live devices o (air_event.Unheard frame) unbroken live = live
  deals_live devices o (air_event.Sent frame from to route payload) unbroken live = live
  deals_live devices o (air_event.Changed node at) unbroken live = live

  deal_all_live : (devices : List State) (o : OuterState) (events : List AirEvent) → AreUnbroken events → HasLive these o → HasLive these (each (deals devices) o events).outer
  deal_all_live devices o [] unbroken live = live
  deal_all_live devices o (event ∷ events) unbroken live = deal_all_live devices (deals devices o event).outer events unbroken.1 (deals_live devices o event unbroken.0 live)

  begins_live : (o : OuterState) (node sessions : ℕ) → HasLive these o → HasLive these (record o { air = begins o.air node sessions })
  unfolding on_air
  begins_live o node sessions live = by (nat_le (peer_of o.air.frames node).begun sessions)
    where
      by : (b : Bool) → HasLive these (record o { air = if b then beginning o.air node sessions else o.air })
      by true = record { fly = live.fly; sized = live.sized; reached = live.reached; none_marked = live.none_marked }
      by false = live

  -- ---- each event outside

  ways_live : (o : OuterState) (ways : List (Item × Option Route)) → ChipMayAll o.chip.state (judged_all ways) → AreAskedFor these ways → HasLive these o → HasLive these (each chip_does o (judged_all ways)).outer
  ways_live o [] may only live = live
  ways_live o (way ∷ ways) may only live =
      ways_live (chip_does o (Judged way.0 way.1)).outer ways (subst (λ (s : ChipState). ChipMayAll s (judged_all ways)) (sym (does_chip o (Judged way.0 way.1))) may.1) only.1
      (does_live o (Judged way.0 way.1) (judged_of (passed (collides o.chip.state) way.0) (heard o.chip.state way.0)) (item_goes o.chip.state way.0 way.1 may.0 only.0) live)

  at_live : (o : OuterState) (device : Option State) (event : DeviceEvent) (route : Option Route) → MayAct o device event route → HasLive these o → HasLive these (acts_at o device event route).outer
  at_live o None event route may live = absurd may
  at_live o (Some device) event route may live =
      air_live o (answered_if (is_joined o.air device.node) o.air device.node (option_map backwards route) (device_replies device event))
      (network_if (is_joined o.air device.node) o.air device.node (option_map backwards route) (device_replies device event))
      (acts_alive these (is_joined o.air device.node) o.air device.node route (device_replies device event) may (alive_of o live)) live

  hand_live : (o : OuterState) (devices : List State) (place : Option ℕ) (event : DeviceEvent) (route : Option Route) → MayActByHand o devices place event route → HasLive these o
      → HasLive these (acts_by_hand o devices place event route).outer
  hand_live o devices None event route may live = live
  hand_live o devices (Some place) event route may live = at_live o (slice_get devices place) event route may live

  step_live : (w : Outside) (drawn : List ℕ) (route : Option Route) → MayHappen (mesh_of w) (mesh.Arrives drawn route) → HasLive these w.outer → HasLive these (steps w (mesh.Arrives drawn route)).outer
  step_live w drawn route may live =
      let at : Mesh = mesh_of w in
      let air : AirState = (mesh_after at (mesh.Arrives drawn route)).air in
      deal_all_live (mesh_after at (mesh.Arrives drawn route)).devices (record w.outer { air = air }) (mesh_outs at (mesh.Arrives drawn route)) (step_unbroken these at drawn route live.sized live.fly)
      (air_live w.outer air (arrives_network at drawn route) (step_alive these at drawn route may (alive_of w.outer live)) live)

  outside_live : (w : Outside) (event : OuterEvent) → IsQuietEvent event → MayOutside w event → IsAskedOutside these event → HasLive these w.outer → HasLive these (outcome w event).outer
  unfolding outcome MayOutside
  outside_live w Begins_line quiet may only live = live
  outside_live w Begins_tick quiet may only live = live
  outside_live w (Host_writes unit) quiet may only live = live
  outside_live w (Host_takes count) quiet may only live = live
  outside_live w (Host_notes entry) quiet may only live = live
  outside_live w (Host_begins node sessions) quiet may only live = begins_live w.outer node sessions live
  outside_live w (Chip_takes count rest ways) quiet may only live =
      ways_live (record w.outer { to_chip = way.after w.outer.to_chip (Takes count); chip = record { decoder = rest; state = w.outer.chip.state } }) ways may.judges only live
  outside_live w (Arrives drawn route) quiet may only live = step_live w drawn route may live
  outside_live w (Gives route) quiet may only live = due_goes Leaves calls w.outer w.devices w.outer.due route live
  outside_live w (Device_ticks place drawn route) quiet may only live = at_live w.outer (slice_get w.devices place) (Ticks drawn) route may live
  outside_live w Chip_ticks quiet may only live =
      does_live (record w.outer { chip = record { decoder = after_tick w.outer.chip.decoder; state = w.outer.chip.state } }) Ticked refl (said_go w.outer.chip.state.table _ (ticked_said w.outer.chip.state.port)) live
  outside_live w (Wakes_device node route) quiet may only live = hand_live w.outer w.devices (place_of node w.devices) Wakes route may live
  outside_live w (Shows node) quiet may only live = live
  outside_live w (Cuts size) quiet may only live = live
  outside_live w event quiet may only live = absurd quiet

  entered_live : (o : OuterState) (told : List Entry) → HasLive these o → HasLive these (has_entered o told)
  entered_live o [] live = live
  entered_live o (entry ∷ told) live = live

  -- ---- what the host does

  abbrev Keeps : Outside → List Entry → Outside → Type 0
  Keeps w told v = HasLive these w.outer → HasLive these v.outer

  one_live : (w : Outside) (event : OuterEvent) → HasLive these (outcome w event).outer → HasLive these (happens_outside w event).outer
  one_live w event live = entered_live (outcome w event).outer (outcome w event).entries live

  session_live : (w : Outside) (node session command : ℕ)
      → Keeps w (entries_outside w (Host_begins node session) ++ entries_outside (happens_outside w (Host_begins node session)) (Host_notes (entry.Begin node session command)))
      (happens_outside (happens_outside w (Host_begins node session)) (Host_notes (entry.Begin node session command)))
  unfolding outcome
  session_live w node session command live = one_live (happens_outside w (Host_begins node session)) (Host_notes (entry.Begin node session command)) (begins_live w.outer node session live)

  abbrev Covers : OuterEvent → Type 0
  Covers event = IsQuietEvent event × IsAskedOutside these event

  own_covered : (event : OuterEvent) → is_own event ≡ false → Covers event
  own_covered event own = (hosts event own, by event own)
    where
      by : (event : OuterEvent) → is_own event ≡ false → IsAskedOutside these event
      by (Chip_takes count rest ways) own = absurd (let bad : true ≡ false = own in cc)
      by event own = tt

  both_covered : (event : Event) → CoversOuter IsQuietEvent event → IsAskedAt these event → CoversOuter Covers event
  both_covered (Outside_does event) covers only = (covers, only)
  both_covered event covers only = tt

  -- so each event of the machine leaves it so
  pub event_lives : (m : Machine) (event : Event) → CoversOuter IsQuietEvent event → IsAskedAt these event → May m event → HasLive these m.outside.outer
      → HasLive these (happens m event).outside.outer
  event_lives m event covers only may live =
      machine_goes Covers (covers_host Covers own_covered) Keeps (λ w live. live) (λ w u v xs ys first then_it live. then_it (first live))
      (λ w event covers fits may live. one_live w event (outside_live w event covers.0 may covers.1 live)) session_live m event (both_covered event covers only)
      (covers_answer Covers (λ note is. own_covered (Host_notes note) refl) event) may live
