-- Where the chip is asked for some nodes alone, each frame of the host on the air is for one of these, at each phase of quiet lines and ticks.
use Rattle.std.proofs.Common.{◌≡◌, ◌≤◌, ◌<◌, ℕ, zero, suc, ◌+◌, ◌-◌, Bool, true, false, nat_lt, if◌then◌else◌, List, [], ◌∷◌, ◌++◌, length, refl, sym, ap, ◌∙◌, subst, append_assoc, arith}
use Rattle.std.proofs.lemmas.List.{append-nil}
use Rattle.std.specs.Prelude.{◌||◌, Option, Some, None, option_map, slice_get}
use Rattle.std.specs.Option.{is_none, unwrap_or}
use Rattle.std.specs.List.{AllByRecursion}
use Rattle.zw_base.proofs.Each.{all-append, all-get, all-weaker}
use Rattle.zw_text.specs.declared.entry.Entry.{Entry}
use Rattle.serial_frame.specs.Frame.{FrameParts}
use Rattle.serial_frame.specs.Stream.{Rest}
use Rattle.serial_frame.specs.declared.item.Item.{Item}
use Rattle.serial_frame.specs.declared.item.Item.TheVariants.{Good, Refused}
use Rattle.serial_frame.specs.declared.item.Refusal.TheVariants.{Aborted, BadKind, BadLength, BadSum, Stray}
use Rattle.serial_frame.specs.declared.unit.Unit.TheVariants.{Ack, Can, Framed, Nak}
use Rattle.route_table.specs.declared.route.Route.{Route}
use Rattle.chip_functions.specs.declared.request.Request.{Request}
use Rattle.chip_functions.specs.declared.request.Request.TheVariants.{AddNode, GetCapabilities, GetInitData, GetNodeProtocolInfo, GetRoutingInfo, GetVersion, IsFailedNode, MemoryGetId, RequestNodeInfo, SendData, SendDataAbort}
use Rattle.chip_sim.specs.Answers.{takes}
use Rattle.chip_sim.specs.Did.{judged_all}
use Rattle.chip_sim.specs.Events.{ChipEvent, Judged, after, collides, outs}
use Rattle.chip_sim.specs.Nodes.{is_marked}
use Rattle.chip_sim.specs.Requests.{answer_outs, asked, given_outs, heard, judged_outs, passed, performed_outs, reply_to, requested_outs, sent}
use Rattle.chip_sim.specs.State.{ChipState}
use Rattle.chip_sim.specs.Waiting.{next_at}
use Rattle.chip_sim.specs.declared.out.ChipOut.{ChipOut}
use Rattle.chip_sim.specs.declared.out.ChipOut.TheVariants.{Write, OnAir, NoRoute, AskInfo, Full}
use Rattle.air_frames.specs.Flown.{Flown}
use Rattle.air_frames.specs.Frames.{FramesState, next_of}
use Rattle.air_frames.specs.History.{Mark, Goes as goes_mark}
use Rattle.air_frames.specs.declared.frame.Departure.{Departure}
use Rattle.air_frames.specs.declared.frame.Heading.{Heading}
use Rattle.air_frames.specs.declared.frame.Heading.TheVariants.{Outward, Homeward}
use Rattle.device_sim.specs.Event.{DeviceEvent, Ticks, Wakes, device_replies}
use Rattle.device_sim.specs.State.{State}
use Rattle.mesh_sim.specs.Air.{AirState, is_joined, no_route}
use Rattle.mesh_sim.specs.Fates.{place_of}
use Rattle.mesh_sim.specs.Routes.{backwards}
use Rattle.mesh_sim.specs.Steps.{MayArriveIf, MayHappen}
use Rattle.outside_model.specs.Chip.{chip_does, put_out}
use Rattle.outside_model.specs.Devices.{acts_at, acts_by_hand}
use Rattle.outside_model.specs.State.{OuterState, Outside, Outcome, each, with_chip}
use Rattle.outside_model.specs.Events.{OuterEvent, Begins_line, Begins_tick, Host_writes, Host_takes, Host_notes, Host_begins, Arrives, Gives, Device_ticks, Chip_ticks, Chip_takes, Wakes_device, Shows, Cuts, has_entered, mesh_of, outcome, happens as happens_outside, May as MayOutside}
use Rattle.world_model.specs.Events.{Event, Outside_does, Host_does, Host_takes as Host_takes_all, Decoder_ticks, Refuses as refuses_line, Restarts, Shows_values, happens, May}
use Rattle.world_model.specs.State.{Machine}
use Rattle.proof_device.specs.GoingOn.{AreSame, GoOn}
use Rattle.proof_calm.specs.proof_work.proof_walk.Outside.{CoversOuter}
use Rattle.proof_calm.specs.proof_work.proof_walk.Phases.{Phase, Between, Said_line, Begun, Doing, To_tick, Ticked, Arriving, Giving, Ticking_devices, Ticking_chip, Ticking_decoder, Ticking_host, Sleeping, Submitting, Moving, Moved, Goes}
use Rattle.proof_calm.proofs.Aloft.{next_all}
use Rattle.proof_calm.proofs.Times.{does_chip}
use Rattle.proof_calm.specs.proof_traffic.Flights.{Fly, flown_now}
use Rattle.proof_calm.specs.proof_traffic.OnAir.{fed_chip, on_air}
use Rattle.proof_calm.specs.proof_traffic.OutsideTraffic.{one_outward, outward}
use Rattle.proof_calm.proofs.ArrivedFrames.{arrives_home}
use Rattle.proof_calm.proofs.Arrivals.{Homes, answered_if_homes}
use Rattle.proof_calm.proofs.Calm.{Calm, does_calm, takes_calm, enters_calm}
use Rattle.proof_calm.proofs.ChipNotices.{AreSaid, IsSaid, entered_leaves, given_first, queued_said, written_said}
use Rattle.proof_calm.proofs.Flights.{flights_are}
use Rattle.proof_calm.proofs.proof_traffic_Parts.{Airs}
use Rattle.proof_calm.specs.Awaited.{Awaits, AwaitsAt}
use Rattle.proof_calm.specs.Live.{AreAskedFor, AsksFor, HasLive, IsAskedFor, IsLive, IsLiveOf}
use Rattle.proof_calm.specs.Marks.{IsQuietEvent}
use Rattle.proof_calm.specs.Quiet.{AreQuiet}
use Rattle.proof_calm.proofs.Peopled.{covers_of}
use Rattle.proof_answered.specs.Few.{Knows}
use Rattle.proof_answered.specs.Outward.{AllFor, AllGoTo, AllListen, EachGoesTo, GoesTo, IsFor, IsOf, IsSentTo}
use Rattle.proof_answered.proofs.Flying.{chip_counts}
use Rattle.proof_answered.proofs.Listeners.{all_stay}

-- ---- frames of devices

none_later : (heading : Heading) (n : ℕ) → one_outward heading + n ≡ 0 → n ≡ 0
none_later heading n none = omega (arith, none)

-- where it is one of the host, that is so
abbrev pub IsOut : (Flown → Type 0) → Flown → Type 0
IsOut P frame = frame.heading ≡ Outward → P frame

is_home : (P : Flown → Type 0) (frame : Flown) (n : ℕ) (heading : Heading) → frame.heading ≡ heading → one_outward heading + n ≡ 0 → IsOut P frame
is_home P frame n Homeward is none = λ out. absurd (let no : Homeward ≡ Outward = sym is ∙ out in cc)
is_home P frame n Outward is none = absurd (let no : 1 + n ≡ 0 = none in omega (arith, no))

pub home_out : (P : Flown → Type 0) (frames : List Flown) → outward frames ≡ 0 → AllByRecursion (IsOut P) frames
home_out P [] none = tt
home_out P (frame ∷ frames) none = (is_home P frame (outward frames) frame.heading refl none, home_out P frames (none_later frame.heading (outward frames) none))

-- ---- what the chip puts on the air is for these

said_to : (these : List Bool) (out : ChipOut) → IsSaid out → GoesTo these out
said_to these (Write unit) said = tt
said_to these (OnAir to route payload) said = absurd said
said_to these NoRoute said = tt
said_to these (AskInfo node) said = tt
said_to these Full said = tt

all_said_to : (these : List Bool) (puts : List ChipOut) → AreSaid puts → AllGoTo these puts
all_said_to these puts said = all-weaker IsSaid (GoesTo these) (said_to these) puts said

answer_to : (these : List Bool) (c : Bool) (item : Item) → AllGoTo these (answer_outs c item)
answer_to these c (Good Ack) = tt
answer_to these c (Good Nak) = tt
answer_to these c (Good Can) = tt
answer_to these true (Good (Framed f)) = (tt, tt)
answer_to these false (Good (Framed f)) = (tt, tt)
answer_to these c (Refused (Stray x)) = tt
answer_to these c (Refused (BadLength n)) = tt
answer_to these c (Refused (BadSum want got)) = (tt, tt)
answer_to these c (Refused (BadKind x)) = (tt, tt)
answer_to these c (Refused Aborted) = tt

abbrev IsFrameFor : List Bool → Option FrameParts → Type 0
IsFrameFor these None = Unit {0}
IsFrameFor these (Some f) = AsksFor these (asked f)

module _ (these : List Bool) (s : ChipState) where
  given_to : (reply : Option FrameParts) → AllGoTo these (given_outs s reply)
  given_to None = tt
  given_to (Some f) = all_said_to these _ (queued_said s.port f)

  data_to : (b : Bool) (n : ℕ) (payload : List ℕ) (way : Option Route) → (b ≡ true → is_marked these n ≡ true) → AllGoTo these (if b then sent n payload way else [])
  data_to true n payload None marked = (tt, tt)
  data_to true n payload (Some route) marked = (marked refl, tt)
  data_to false n payload way marked = tt

  performed_to : (request : Request) (way : Option Route) → AsksFor these (Some request) → AllGoTo these (performed_outs request s way)
  performed_to (SendData n payload options id) way is_for = data_to (takes s n payload) n payload way (λ taken. is_for)
  performed_to (RequestNodeInfo n) way is_for = (tt, tt)
  performed_to GetInitData way is_for = tt
  performed_to GetCapabilities way is_for = tt
  performed_to GetVersion way is_for = tt
  performed_to SendDataAbort way is_for = tt
  performed_to MemoryGetId way is_for = tt
  performed_to (GetNodeProtocolInfo n) way is_for = tt
  performed_to (AddNode mode id) way is_for = tt
  performed_to (IsFailedNode n) way is_for = tt
  performed_to (GetRoutingInfo n x y z) way is_for = tt

  requested_to : (request : Option Request) (way : Option Route) → AsksFor these request → AllGoTo these (requested_outs request s way)
  requested_to None way is_for = tt
  requested_to (Some request) way is_for = all-append (GoesTo these) (given_outs s (reply_to s request)) (performed_outs request s way) (given_to (reply_to s request)) (performed_to request way is_for)

  judged_to : (frame : Option FrameParts) (way : Option Route) → IsFrameFor these frame → AllGoTo these (judged_outs frame s way)
  judged_to None way is_for = all_said_to these _ (written_said (next_at s.port.side.turn s.port.waiting))
  judged_to (Some f) way is_for = requested_to (asked f) way is_for

item_to : (these : List Bool) (s : ChipState) (item : Item) (way : Option Route) → IsFrameFor these (passed (collides s) item) → AllGoTo these (outs s (Judged item way))
item_to these s item way is_for =
    all-append (GoesTo these) (answer_outs (collides s) item) (judged_outs (passed (collides s) item) (heard s item) way) (answer_to these (collides s) item) (judged_to these (heard s item) (passed (collides s) item) way is_for)

-- of an item, where it is asked for these alone
item_for : (these : List Bool) (c : Bool) (item : Item) → IsAskedFor these item → IsFrameFor these (passed c item)
item_for these true item only = tt
item_for these false (Good (Framed f)) only = only
item_for these false (Good Ack) only = tt
item_for these false (Good Nak) only = tt
item_for these false (Good Can) only = tt
item_for these false (Refused r) only = tt

-- and of all
each_for : (these : List Bool) (s : ChipState) (ways : List (Item × Option Route)) → AreAskedFor these ways → EachGoesTo these s ways
each_for these s [] only = tt
each_for these s (way ∷ ways) only = (item_to these s way.0 way.1 (item_for these (collides s) way.0 only.0), each_for these (after s (Judged way.0 way.1)) ways only.1)

-- ---- frames more

-- after these, and each of them is so
pub record Adds (Is : Flown → Type 0) (log : List Mark) (flights : List Flown) (frames : FramesState) : Type 0 where
  pub more : List Mark
  pub added : List Flown
  pub fly : Fly (log ++ more) (flights ++ added) frames
  pub are_so : AllByRecursion Is added

pub adds_none : (Is : Flown → Type 0) (log : List Mark) (flights : List Flown) (frames : FramesState) → Fly log flights frames → Adds Is log flights frames
adds_none Is log flights frames fly = record {
  more = [];
  added = [];
  fly = subst (λ (l : List Mark). Fly l (flights ++ []) frames) (sym (append-nil log)) (subst (λ (fs : List Flown). Fly log fs frames) (sym (append-nil flights)) fly);
  are_so = tt;
}

pub adds_both : (Is : Flown → Type 0) (log : List Mark) (flights : List Flown) (a b : FramesState) (first : Adds Is log flights a) → Adds Is (log ++ first.more) (flights ++ first.added) b → Adds Is log flights b
adds_both Is log flights a b first later = record {
  more = first.more ++ later.more;
  added = first.added ++ later.added;
  fly = subst (λ (l : List Mark). Fly l (flights ++ (first.added ++ later.added)) b) (append_assoc log first.more later.more)
      (subst (λ (fs : List Flown). Fly ((log ++ first.more) ++ later.more) fs b) (append_assoc flights first.added later.added) later.fly);
  are_so = all-append Is first.added later.added first.are_so later.are_so;
}

pub adds_weaker : (A B : Flown → Type 0) → ((frame : Flown) → A frame → B frame) → (log : List Mark) (flights : List Flown) (frames : FramesState) → Adds A log flights frames → Adds B log flights frames
adds_weaker A B weaker log flights frames adds = record { more = adds.more; added = adds.added; fly = adds.fly; are_so = all-weaker A B weaker adds.added adds.are_so }

-- the chip's are for nodes of these
abbrev pub IsSentFor : List Bool → Flown → Type 0
IsSentFor these frame = IsOf these frame × (frame.heading ≡ Outward)

pub marked_within : (marks : List Bool) (n : ℕ) → is_marked marks n ≡ true → n < length marks
marked_within [] n marked = absurd cc
marked_within (mark ∷ marks) zero marked = omega arith
marked_within (mark ∷ marks) (suc n) marked = let less = marked_within marks n marked in omega (arith, less)

module _ (airs : Airs) (these : List Bool) (many : length these ≡ 233) where
  put_adds : (log : List Mark) (flights : List Flown) (o : OuterState) (out : ChipOut) → GoesTo these out → Fly log flights o.air.frames → Adds (IsSentFor these) log flights (put_out o out).outer.air.frames
  put_adds log flights o (Write unit) goes fly = adds_none (IsSentFor these) log flights o.air.frames fly
  put_adds log flights o (OnAir to route payload) goes fly =
      let d : Departure = record { node = to; heading = Outward; route = unwrap_or (Some route) no_route; lost = nat_lt 0 o.air.losing || is_none (Some route); payload = payload } in
      let less = marked_within these to goes in
      record { more = goes_mark d ∷ []; added = flown_now log d ∷ []; fly = airs.goes log flights o.air.frames d (omega (arith, less, many)) fly; are_so = ((goes, refl), tt) }
  put_adds log flights o NoRoute goes fly = adds_none (IsSentFor these) log flights o.air.frames fly
  put_adds log flights o (AskInfo node) goes fly = adds_none (IsSentFor these) log flights o.air.frames fly
  put_adds log flights o Full goes fly = adds_none (IsSentFor these) log flights o.air.frames fly

  all_add : (log : List Mark) (flights : List Flown) (o : OuterState) (puts : List ChipOut) → AllGoTo these puts → Fly log flights o.air.frames → Adds (IsSentFor these) log flights (each put_out o puts).outer.air.frames
  all_add log flights o [] goes fly = adds_none (IsSentFor these) log flights o.air.frames fly
  all_add log flights o (out ∷ puts) goes fly =
      let p : OuterState = (put_out o out).outer in
      let one = put_adds log flights o out goes.0 fly in
      adds_both (IsSentFor these) log flights p.air.frames (each put_out p puts).outer.air.frames one (all_add (log ++ one.more) (flights ++ one.added) p puts goes.1 one.fly)

  does_add : (log : List Mark) (flights : List Flown) (o : OuterState) (event : ChipEvent) → AllGoTo these (outs o.chip.state event) → Fly log flights o.air.frames → Adds (IsSentFor these) log flights (chip_does o event).outer.air.frames
  unfolding chip_does
  does_add log flights o event goes fly = all_add log flights (with_chip o (after o.chip.state event)) (outs o.chip.state event) goes fly

  judges_to : (log : List Mark) (flights : List Flown) (o : OuterState) (ways : List (Item × Option Route)) → EachGoesTo these o.chip.state ways → Fly log flights o.air.frames
      → Adds (IsSentFor these) log flights (each chip_does o (judged_all ways)).outer.air.frames
  judges_to log flights o [] goes fly = adds_none (IsSentFor these) log flights o.air.frames fly
  judges_to log flights o (way ∷ ways) goes fly =
      let p : OuterState = (chip_does o (Judged way.0 way.1)).outer in
      let one = does_add log flights o (Judged way.0 way.1) goes.0 fly in
      let later : EachGoesTo these p.chip.state ways = subst (λ (s : ChipState). EachGoesTo these s ways) (sym (does_chip o (Judged way.0 way.1))) goes.1 in
      adds_both (IsSentFor these) log flights p.air.frames (each chip_does p (judged_all ways)).outer.air.frames one (judges_to (log ++ one.more) (flights ++ one.added) p ways later one.fly)

  pub judges_add : (log : List Mark) (flights : List Flown) (o : OuterState) (ways : List (Item × Option Route)) → AreAskedFor these ways → Fly log flights o.air.frames
      → Adds (IsSentFor these) log flights (each chip_does o (judged_all ways)).outer.air.frames
  judges_add log flights o ways only fly = judges_to log flights o ways (each_for these o.chip.state ways only) fly

-- ---- each event

-- the frame that arrives next is the first of those on the air
pub next_flight : (airs : Airs) (log : List Mark) (flights : List Flown) (frames : FramesState) (frame : Flown) → Fly log flights frames → next_of frames ≡ Some frame → (rest : List Flown) × (flights ≡ frame ∷ rest)
next_flight airs log [] frames frame fly next = by (nat_lt frames.landed frames.sent) refl next
  where
    by : (b : Bool) → nat_lt frames.landed frames.sent ≡ b → (if b then slice_get frames.frames (frames.landed - (frames.sent - length frames.frames)) else None) ≡ Some frame → (rest : List Flown) × ([] ≡ frame ∷ rest)
    by true less found =
        let none : 0 ≡ frames.sent - frames.landed = airs.count log [] frames fly in
        let some : frames.landed < frames.sent = grind (arith, less) in
        absurd (let no : 1 ≤ 0 = omega (arith, none, some) in omega (arith, no))
    by false less found = absurd cc
next_flight airs log (flight ∷ rest) frames frame fly next =
    let both : Some flight ≡ Some frame = sym (airs.next log flight rest frames fly) ∙ next in
    let same : flight ≡ frame = cc in
    (rest, ap (λ (f : Flown). f ∷ rest) same)

module _ (P : Flown → Type 0) where
  -- those of a machine
  abbrev AreOut : OuterState → Type 0
  AreOut o = AllByRecursion (IsOut P) (on_air o.air.frames)

  same_for : (o p : OuterState) → p.air ≡ o.air → AreOut o → AreOut p
  same_for o p air all = subst (λ (a : AirState). AllByRecursion (IsOut P) (on_air a.frames)) (sym air) all

  calm_for : (o p : OuterState) → Calm o p → AreOut o → AreOut p
  calm_for o p calm all = subst (AllByRecursion (IsOut P)) (sym calm.on) all

  homes_for : (log : List Mark) (flights : List Flown) (frames : FramesState) → Homes log flights frames → AllByRecursion (IsOut P) flights → AllByRecursion (IsOut P) (on_air frames)
  homes_for log flights frames homes all =
      subst (AllByRecursion (IsOut P)) (flights_are (log ++ homes.more) (flights ++ homes.home) frames homes.fly)
      (all-append (IsOut P) flights homes.home all (home_out P homes.home homes.none_outward))

  module _ (airs : Airs) (m : Machine) (is : Awaits m) (all : AreOut m.outside.outer) where
    fly : Fly is.log (on_air m.outside.outer.air.frames) m.outside.outer.air.frames
    fly = is.follows.fly

    arrives_for : (drawn : List ℕ) (route : Option Route) (frame : Flown) → next_of m.outside.outer.air.frames ≡ Some frame → AreOut (happens_outside m.outside (Arrives drawn route)).outer
    arrives_for drawn route frame next =
        let first = next_flight airs is.log (on_air m.outside.outer.air.frames) m.outside.outer.air.frames frame fly next in
        let there : Fly is.log (frame ∷ first.0) m.outside.outer.air.frames = subst (λ (fs : List Flown). Fly is.log fs m.outside.outer.air.frames) first.1 fly in
        let homes = arrives_home airs is.log frame first.0 m.outside drawn route there in
        let v : Outside = happens_outside m.outside (Arrives drawn route) in
        subst (AllByRecursion (IsOut P)) (flights_are (is.log ++ homes.more) (first.0 ++ homes.home) v.outer.air.frames homes.fly)
        (all-append (IsOut P) first.0 homes.home (subst (AllByRecursion (IsOut P)) first.1 all).1 (home_out P homes.home homes.none_outward))

    acts_for : (place : ℕ) (found : Option State) (event : DeviceEvent) (route : Option Route) → slice_get m.outside.devices place ≡ found → AreOut (acts_at m.outside.outer found event route).outer
    acts_for place None event route there = all
    acts_for place (Some device) event route there =
        let o : OuterState = m.outside.outer in
        let within : device.node < 233 = all-get (λ (d : State). d.node < 233) m.outside.devices place device is.nodes there in
        homes_for is.log (on_air o.air.frames) (acts_at o (Some device) event route).outer.air.frames
        (answered_if_homes airs.goes is.log (on_air o.air.frames) (is_joined o.air device.node) o.air device.node (option_map backwards route) (device_replies device event) within fly) all

    hand_for : (place : Option ℕ) (event : DeviceEvent) (route : Option Route) → AreOut (acts_by_hand m.outside.outer m.outside.devices place event route).outer
    hand_for None event route = all
    hand_for (Some place) event route = acts_for place (slice_get m.outside.devices place) event route refl

    entered_for : (x : Outcome) → AreOut x.outer → (told : List Entry) → AreOut (has_entered x.outer told)
    entered_for x are told = same_for x.outer (has_entered x.outer told) (entered_leaves x.outer told).air are

    -- where they are as the chip takes bytes
    abbrev TakenOut : OuterEvent → Type 0
    TakenOut event = (count : ℕ) (rest : Rest) (ways : List (Item × Option Route)) → event ≡ Chip_takes count rest ways → AreOut (outcome m.outside (Chip_takes count rest ways)).outer

    outside_for : (event : OuterEvent) → IsQuietEvent event → May m (Outside_does event) → TakenOut event → AreOut (happens_outside m.outside event).outer
    unfolding outcome May MayOutside MayHappen
    outside_for Begins_line quiet may taken = all
    outside_for Begins_tick quiet may taken = all
    outside_for (Chip_takes count rest ways) quiet may taken = entered_for (outcome m.outside (Chip_takes count rest ways)) (taken count rest ways refl) (outcome m.outside (Chip_takes count rest ways)).entries
    outside_for (Arrives drawn route) quiet may taken = by (next_of m.outside.outer.air.frames) refl may.1.0
      where
        by : (frame : Option Flown) → next_of m.outside.outer.air.frames ≡ frame → MayArriveIf (mesh_of m.outside) frame route → AreOut (happens_outside m.outside (Arrives drawn route)).outer
        by None next may_arrive = absurd may_arrive
        by (Some frame) next may_arrive = arrives_for drawn route frame next
    outside_for (Gives route) quiet may taken = same_for m.outside.outer (happens_outside m.outside (Gives route)).outer (given_first m.outside route).air all
    outside_for (Device_ticks place drawn route) quiet may taken =
        entered_for (acts_at m.outside.outer (slice_get m.outside.devices place) (Ticks drawn) route) (acts_for place (slice_get m.outside.devices place) (Ticks drawn) route refl)
        (outcome m.outside (Device_ticks place drawn route)).entries
    outside_for Chip_ticks quiet may taken = same_for m.outside.outer (happens_outside m.outside Chip_ticks).outer (chip_counts m.outside).0 all
    outside_for (Wakes_device node route) quiet may taken =
        entered_for (acts_by_hand m.outside.outer m.outside.devices (place_of node m.outside.devices) Wakes route) (hand_for (place_of node m.outside.devices) Wakes route)
        (outcome m.outside (Wakes_device node route)).entries
    outside_for (Shows node) quiet may taken = entered_for (outcome m.outside (Shows node)) all (outcome m.outside (Shows node)).entries
    outside_for (Cuts size) quiet may taken = all
    outside_for (Host_writes unit) quiet may taken = absurd (let no : false ≡ true = may.0 in cc)
    outside_for (Host_takes count) quiet may taken = absurd (let no : false ≡ true = may.0 in cc)
    outside_for (Host_notes note) quiet may taken = absurd (let no : false ≡ true = may.0 in cc)
    outside_for (Host_begins node sessions) quiet may taken = absurd (let no : false ≡ true = may.0 in cc)
    outside_for event quiet may taken = absurd quiet

    -- so at each event
    pub outs_on : (event : Event) → CoversOuter IsQuietEvent event → May m event
        → ((count : ℕ) (rest : Rest) (ways : List (Item × Option Route)) → event ≡ Outside_does (Chip_takes count rest ways) → AreOut (outcome m.outside (Chip_takes count rest ways)).outer) → AreOut (happens m event).outside.outer
    unfolding happens
    outs_on (Outside_does event) covers may taken = outside_for event covers may (λ count rest ways is. taken count rest ways (ap (λ (e : OuterEvent). Outside_does e) is))
    outs_on (Host_does event) covers may taken = calm_for m.outside.outer (happens m (Host_does event)).outside.outer (does_calm airs m event) all
    outs_on (Host_takes_all count rest items events) covers may taken =
        calm_for m.outside.outer (happens m (Host_takes_all count rest items events)).outside.outer (takes_calm airs m count rest items events) all
    outs_on Decoder_ticks covers may taken = all
    outs_on (refuses_line line refusal) covers may taken = calm_for m.outside.outer (happens m (refuses_line line refusal)).outside.outer (enters_calm airs m _) all
    outs_on (Shows_values node) covers may taken = calm_for m.outside.outer (happens m (Shows_values node)).outside.outer (enters_calm airs m _) all
    outs_on (Restarts state) covers may taken = all

-- ---- so the device of each hears it

-- none is lost, and no hop of it is dead
pub next_is_live : (these : List Bool) (o : OuterState) → HasLive these o → (frame : Flown) → next_of o.air.frames ≡ Some frame → (frame.heading ≡ Homeward → is_marked these frame.node ≡ true) → IsLive o.air.network frame
next_is_live these o live frame next home = next_all (IsLiveOf these o.air.network) o.air.frames frame live.sized next live.fly home

-- ---- from phase to phase

pub awaits_of : (here : Phase) (m : Machine) → AwaitsAt here m → Awaits m
awaits_of Between m at = at
awaits_of (Said_line line) m at = at
awaits_of (Begun line) m at = at
awaits_of (Doing line left) m at = at
awaits_of (To_tick ticks) m at = at
awaits_of (Ticked ticks) m at = at
awaits_of (Arriving frames ticks) m at = at.awaits
awaits_of (Giving results ticks) m at = at.awaits
awaits_of (Ticking_devices place count ticks) m at = at.awaits
awaits_of (Ticking_chip ticks) m at = at.awaits
awaits_of (Ticking_decoder ticks) m at = at.awaits
awaits_of (Ticking_host events ticks) m at = at.awaits
awaits_of (Sleeping passes ticks) m at = at
awaits_of (Submitting passes ticks) m at = at
awaits_of (Moving passes ticks) m at = at
awaits_of (Moved b passes ticks) m at = at

module _ (airs : Airs) (these : List Bool) (many : length these ≡ 233) where
  pub takes_for : (m : Machine) (is : Awaits m) → AllFor these m → (count : ℕ) (rest : Rest) (ways : List (Item × Option Route)) → AreAskedFor these ways
      → AllByRecursion (IsFor these) (on_air (outcome m.outside (Chip_takes count rest ways)).outer.air.frames)
  unfolding outcome
  takes_for m is all count rest ways sent =
      let o : OuterState = m.outside.outer in
      let p : OuterState = (each chip_does (fed_chip o count rest) (judged_all ways)).outer in
      let adds = judges_add airs these many is.log (on_air o.air.frames) (fed_chip o count rest) ways sent is.follows.fly in
      subst (AllByRecursion (IsFor these)) (flights_are (is.log ++ adds.more) (on_air o.air.frames ++ adds.added) p.air.frames adds.fly)
      (all-append (IsFor these) (on_air o.air.frames) adds.added all (all-weaker (IsSentFor these) (IsFor these) (λ frame sent out. sent.0) adds.added adds.are_so))

  pub frames_on : (here next : Phase) (past : List Entry) (m : Machine) (event : Event) → Goes here m event next → May m event → AreQuiet past → Knows these here past m → IsSentTo these m event → AllFor these m → AllFor these (happens m event)
  frames_on here next past m event goes may quiet known sent all =
      let tied = known.tied quiet in
      let is = awaits_of here m tied.1 in
      outs_on (λ frame. is_marked these frame.node ≡ true) airs m is all event (covers_of here next m event goes tied.0) may (λ count rest ways takes. takes_for m is all count rest ways (subst (IsSentTo these m) takes sent))

  module _ (go : (m : Machine) (event : Event) → GoOn m.outside.devices (happens m event).outside.devices) (same_nodes : (old new : List State) → GoOn old new → AreSame old new) where
    pub listens_on : (here next : Phase) (past : List Entry) (m : Machine) (event : Event) → Goes here m event next → May m event → AreQuiet past → Knows these here past m → IsSentTo these m event → AllListen these m → AllListen these (happens m event)
    listens_on here next past m event goes may quiet known sent listen =
        let n : Machine = happens m event in
        record {
          frames = frames_on here next past m event goes may quiet known sent listen.frames;
          nodes = λ node marked. all_stay node m.outside.devices n.outside.devices (go m event) (same_nodes m.outside.devices n.outside.devices (go m event)) (listen.nodes node marked);
        }
