-- Where lines and the host are for some nodes alone, these alone speak on the air.
use Rattle.std.proofs.Common.{◌≡◌, ◌≤◌, ◌<◌, ℕ, nat_lt, Bool, true, false, if◌then◌else◌, inl, inr, List, [], ◌∷◌, ◌++◌, drop, length, refl, sym, ap, ◌∙◌, subst, arith}
use Rattle.std.specs.Prelude.{◌⊎◌, ◌||◌, Option, Some, None, option_map, slice_get, slice_index}
use Rattle.std.specs.Option.{is_none, unwrap_or}
use Rattle.std.specs.List.{AllByRecursion}
use Rattle.std.proofs.lemmas.List.{append-nil}
use Rattle.zw_base.proofs.Each.{all-append, all-get, all-weaker}
use Rattle.zw_text.specs.declared.entry.Entry.{Entry}
use Rattle.serial_frame.specs.Frame.{FrameParts}
use Rattle.serial_frame.specs.Stream.{Rest}
use Rattle.serial_frame.specs.declared.item.Item.{Item}
use Rattle.route_table.specs.Network.{Network}
use Rattle.route_table.specs.declared.route.Route.{Route}
use Rattle.chip_functions.specs.declared.notice.Notice.TheVariants.{ApplicationCommandHandler, ApplicationUpdate}
use Rattle.chip_functions.specs.declared.notice.TransmitStatus.{TransmitStatus}
use Rattle.chip_functions.specs.declared.notice.Update.{Update}
use Rattle.chip_sim.specs.Answers.{notice_frame}
use Rattle.chip_sim.specs.Did.{judged_all}
use Rattle.chip_sim.specs.Nodes.{is_marked}
use Rattle.chip_sim.specs.Requests.{callback_frame}
use Rattle.chip_sim.specs.declared.out.Sending.{Sending}
use Rattle.air_frames.specs.Flown.{Flown}
use Rattle.air_frames.specs.Frames.{FramesState, landing, next_of}
use Rattle.air_frames.specs.History.{Mark, Goes as goes_mark}
use Rattle.air_frames.specs.declared.frame.Departure.{Departure}
use Rattle.air_frames.specs.declared.frame.Heading.{Heading}
use Rattle.air_frames.specs.declared.frame.Heading.TheVariants.{Outward, Homeward}
use Rattle.device_sim.specs.Event.{DeviceEvent, Hears, Ticks, Wakes, device_after, device_replies}
use Rattle.device_sim.specs.State.{State}
use Rattle.mesh_sim.specs.Air.{AirState, departing, is_joined, no_route}
use Rattle.mesh_sim.specs.Fates.{Mesh, dead_hop_of, fate_by, fate_of, listener_of, place_of}
use Rattle.mesh_sim.specs.Routes.{backwards}
use Rattle.mesh_sim.specs.Steps.{acknowledged, answered, answered_if, arriving, arriving_as, heard_at, landed, mesh_after, MayArriveIf, MayHappen}
use Rattle.mesh_sim.specs.Steps as mesh
use Rattle.mesh_sim.specs.declared.fate.Fate.{Fate}
use Rattle.mesh_sim.specs.declared.fate.Fate.TheVariants.{Lost, Dead, Missed, AtChip, AtDevice}
use Rattle.outside_model.specs.Chip.{chip_does}
use Rattle.outside_model.specs.Devices.{acts_at, acts_by_hand, device_set, set_by_hand}
use Rattle.outside_model.specs.State.{OuterState, Outside, Outcome, each}
use Rattle.outside_model.specs.Events.{OuterEvent, Begins_line, Begins_tick, Host_writes, Host_takes, Host_notes, Host_begins, Arrives, Gives, Device_ticks, Chip_ticks, Chip_takes, Wakes_device, Shows, Cuts, devices_after, has_entered, mesh_of, outcome, happens as happens_outside, May as MayOutside}
use Rattle.world_model.specs.Events.{Event, Outside_does, Host_does, Host_takes as Host_takes_all, Decoder_ticks, Refuses as refuses_line, Restarts, Shows_values, happens, May}
use Rattle.world_model.specs.State.{Machine}
use Rattle.proof_device.specs.GoingOn.{IsSame}
use Rattle.proof_device.proofs.ChangesOutside.{listener_is, place_is}
use Rattle.proof_serial.proofs.HostFits.{all-set}
use Rattle.proof_calm.specs.proof_work.proof_walk.Outside.{CoversOuter}
use Rattle.proof_calm.specs.proof_traffic.Flights.{Fly, flown_now}
use Rattle.proof_calm.specs.proof_traffic.OnAir.{fed_chip, on_air}
use Rattle.proof_calm.specs.proof_work.proof_walk.Phases.{Goes, Phase}
use Rattle.proof_calm.specs.Awaited.{Awaits, AwaitsAt}
use Rattle.proof_calm.specs.Calls.{answer_taken}
use Rattle.proof_calm.specs.Marks.{IsQuietEvent}
use Rattle.proof_calm.specs.Resting.{LineAt}
use Rattle.proof_calm.specs.Routed.{IsRouted}
use Rattle.proof_calm.specs.Live.{AreAskedFor}
use Rattle.proof_calm.specs.Tied.{RoomAt, TieAt, unheard}
use Rattle.proof_calm.proofs.Calm.{does_calm, enters_calm, takes_calm}
use Rattle.proof_calm.proofs.ChipNotices.{arrived_air, entered_leaves, given_first}
use Rattle.proof_calm.proofs.Flights.{flights_are}
use Rattle.proof_calm.proofs.proof_traffic_Parts.{Airs}
use Rattle.proof_answered.specs.Outward.{IsOf, IsOfSaying, IsSentTo}
use Rattle.proof_answered.specs.Said.{SaysAt, SaysThen}
use Rattle.proof_answered.specs.Workers.{IsAway, IsCalledFor, IsFromSaying, IsLineFor}
use Rattle.proof_answered.proofs.Flying.{chip_counts}
use Rattle.proof_answered.proofs.Outwards.{Adds, IsSentFor, adds_both, adds_none, adds_weaker, judges_add, marked_within, next_flight}
use Rattle.proof_answered.proofs.Unheard.{all_behind, all_piled, arrives_says, event_says}
use Rattle.proof_answered.proofs.Works.{ticks_say, ticks_work}

-- ---- a device of another node

-- what is proved of a device
abbrev pub Same : Type 0
Same = (device : State) (event : DeviceEvent) → IsSame device (device_after device event)

pub either_mark : (these : List Bool) (n : ℕ) → (is_marked these n ≡ true) ⊎ (is_marked these n ≡ false)
either_mark these n = by (is_marked these n) refl
  where
    by : (b : Bool) → is_marked these n ≡ b → (is_marked these n ≡ true) ⊎ (is_marked these n ≡ false)
    by true is = inl is
    by false is = inr is

not_both : (b : Bool) → b ≡ true → b ≡ false → ⊥
not_both b is is_not = let wrong : true ≡ false = sym is ∙ is_not in cc

module _ (same : Same) (these : List Bool) where
  -- a device of one of these may be at work
  marked_away : (device : State) (event : DeviceEvent) → is_marked these device.node ≡ true → IsAway these (device_after device event)
  marked_away device event marked = λ other. absurd (not_both (is_marked these device.node) marked (ap (λ (n : ℕ). is_marked these n) (sym (same device event).node) ∙ other))

  ticks_away : (device : State) (drawn : List ℕ) → IsAway these device → IsAway these (device_after device (Ticks drawn))
  ticks_away device drawn away = λ other. let less = ticks_work device drawn in let none = away (ap (λ (n : ℕ). is_marked these n) (sym (same device (Ticks drawn)).node) ∙ other) in omega (arith, less, none)

  -- it says nothing as it ticks
  ticks_quiet : (device : State) (drawn : List ℕ) → IsAway these device → (is_marked these device.node ≡ true) ⊎ (device_replies device (Ticks drawn) ≡ [])
  ticks_quiet device drawn away = by (either_mark these device.node) (ticks_say device drawn)
    where
      by : (is_marked these device.node ≡ true) ⊎ (is_marked these device.node ≡ false) → (device_replies device (Ticks drawn) ≡ []) ⊎ ((device.work_left ≡ 1) × (length (device_replies device (Ticks drawn)) ≤ 1))
          → (is_marked these device.node ≡ true) ⊎ (device_replies device (Ticks drawn) ≡ [])
      by (inl marked) says = inl marked
      by (inr other) (inl none) = inr none
      by (inr other) (inr (one, few)) = absurd (let none = away other in omega (arith, one, none))

-- ---- one frame arrives

-- a device hears what is for its node
pub fate_listens : (lost : Bool) (dead : Option (ℕ × ℕ)) (heading : Heading) (listener : Option ℕ) (place : ℕ) → (if lost then Lost else fate_by dead heading listener) ≡ AtDevice place → listener ≡ Some place
fate_listens true dead heading listener place is = absurd cc
fate_listens false (Some hop) heading listener place is = absurd cc
fate_listens false None Homeward listener place is = absurd cc
fate_listens false None Outward (Some k) place is = let same : k ≡ place = cc in ap (λ (n : ℕ). Some n) same
fate_listens false None Outward None place is = absurd cc

pub hears_at : (net : Network) (devices : List State) (frame : Flown) (place : ℕ) → fate_of net devices frame ≡ AtDevice place → place_of frame.node devices ≡ Some place
hears_at net devices frame place is = listener_is frame.node devices place (fate_listens frame.lost (dead_hop_of net frame) frame.heading (listener_of frame.node devices) place is)

module _ (same : Same) (these : List Bool) where
  heard_away : (devices : List State) (place : ℕ) (found : Option State) (node : ℕ) (event : DeviceEvent) → is_marked these node ≡ true → place_of node devices ≡ Some place → slice_get devices place ≡ found
      → AllByRecursion (IsAway these) devices → AllByRecursion (IsAway these) (device_set devices place found event)
  heard_away devices place None node event marked first there all = all
  heard_away devices place (Some device) node event marked first there all =
      all-set (IsAway these) devices place (device_after device event) all
      (marked_away same these device event (subst (λ (n : ℕ). is_marked these n ≡ true) (sym (place_is node devices place device first there)) marked))

  set_heard : (at : Mesh) (place : ℕ) (found : Option State) (node : ℕ) (route : Option Route) (event : DeviceEvent) → (heard_at at place found node route event).devices ≡ device_set at.devices place found event
  set_heard at place None node route event = refl
  set_heard at place (Some device) node route event = refl

  arriving_away : (at : Mesh) (frame : Flown) (fate : Fate) (drawn : List ℕ) (route : Option Route) → fate_of at.air.network at.devices frame ≡ fate → is_marked these frame.node ≡ true
      → AllByRecursion (IsAway these) at.devices → AllByRecursion (IsAway these) (arriving_as at frame fate drawn route).devices
  arriving_away at frame Lost drawn route is marked all = all
  arriving_away at frame (Dead from to) drawn route is marked all = all
  arriving_away at frame Missed drawn route is marked all = all
  arriving_away at frame AtChip drawn route is marked all = all
  arriving_away at frame (AtDevice place) drawn route is marked all =
      subst (AllByRecursion (IsAway these)) (sym (set_heard (record at { air = landed (acknowledged at.air) }) place (slice_get at.devices place) frame.node route (Hears frame.payload drawn)))
      (heard_away at.devices place (slice_get at.devices place) frame.node (Hears frame.payload drawn) marked (hears_at at.air.network at.devices frame place is) refl all)

  -- ---- each event outside

  module _ (w : Outside) (all : AllByRecursion (IsAway these) w.devices) where
    arrives_away : (drawn : List ℕ) (route : Option Route) → ((frame : Flown) → next_of w.outer.air.frames ≡ Some frame → is_marked these frame.node ≡ true) → AllByRecursion (IsAway these) (mesh_after (mesh_of w) (mesh.Arrives drawn route)).devices
    unfolding mesh_after
    arrives_away drawn route marked = by (next_of w.outer.air.frames) refl
      where
        by : (frame : Option Flown) → next_of w.outer.air.frames ≡ frame → AllByRecursion (IsAway these) (arriving (mesh_of w) frame drawn route).devices
        by None is = all
        by (Some frame) is = arriving_away (mesh_of w) frame (fate_of w.outer.air.network w.devices frame) drawn route refl (marked frame is) all

    ticked_away : (place : ℕ) (found : Option State) (drawn : List ℕ) → slice_get w.devices place ≡ found → AllByRecursion (IsAway these) (device_set w.devices place found (Ticks drawn))
    ticked_away place None drawn there = all
    ticked_away place (Some device) drawn there =
        all-set (IsAway these) w.devices place (device_after device (Ticks drawn)) all (ticks_away same these device drawn (all-get (IsAway these) w.devices place device all there))

    woken_away : (node : ℕ) (place : Option ℕ) → place_of node w.devices ≡ place → is_marked these node ≡ true → AllByRecursion (IsAway these) (set_by_hand w.devices place Wakes)
    woken_away node None first marked = all
    woken_away node (Some place) first marked = heard_away w.devices place (slice_get w.devices place) node Wakes marked first refl all

    pub outside_away : (event : OuterEvent) → IsQuietEvent event → IsCalledFor these event → ((frame : Flown) → next_of w.outer.air.frames ≡ Some frame → is_marked these frame.node ≡ true)
        → AllByRecursion (IsAway these) (devices_after w event)
    unfolding devices_after
    outside_away Begins_line quiet called marked = all
    outside_away Begins_tick quiet called marked = all
    outside_away (Host_writes unit) quiet called marked = all
    outside_away (Host_takes count) quiet called marked = all
    outside_away (Host_notes note) quiet called marked = all
    outside_away (Host_begins node sessions) quiet called marked = all
    outside_away (Chip_takes count rest ways) quiet called marked = all
    outside_away (Arrives drawn route) quiet called marked = arrives_away drawn route marked
    outside_away (Gives route) quiet called marked = all
    outside_away (Device_ticks place drawn route) quiet called marked = ticked_away place (slice_get w.devices place) drawn refl
    outside_away Chip_ticks quiet called marked = all
    outside_away (Wakes_device node route) quiet called marked = woken_away node (place_of node w.devices) refl called
    outside_away (Shows node) quiet called marked = all
    outside_away (Cuts size) quiet called marked = all
    outside_away event quiet called marked = absurd quiet

-- ---- frames on the air

-- what the first device of each of these says where it hears or is woken is so, and what a device of these says in a tick
pub record SpeakSo (these : List Bool) (Says : List ℕ → Type 0) (devices : List State) : Type 0 where
  pub heard : (node place : ℕ) (device : State) (payload drawn : List ℕ) → is_marked these node ≡ true → place_of node devices ≡ Some place → slice_get devices place ≡ Some device → AllByRecursion Says (device_replies device (Hears payload drawn))
  pub woken : (node place : ℕ) (device : State) → is_marked these node ≡ true → place_of node devices ≡ Some place → slice_get devices place ≡ Some device → AllByRecursion Says (device_replies device Wakes)
  pub ticked : (place : ℕ) (device : State) (drawn : List ℕ) → is_marked these device.node ≡ true → slice_get devices place ≡ Some device → AllByRecursion Says (device_replies device (Ticks drawn))

-- where nothing is asked of that
abbrev pub AnyText : List ℕ → Type 0
AnyText payload = Unit {0}

any_texts : (payloads : List (List ℕ)) → AllByRecursion AnyText payloads
any_texts [] = tt
any_texts (payload ∷ payloads) = (tt, any_texts payloads)

pub speak_any : (these : List Bool) (devices : List State) → SpeakSo these AnyText devices
speak_any these devices = record {
  heard = λ node place device payload drawn marked first there. any_texts (device_replies device (Hears payload drawn));
  woken = λ node place device marked first there. any_texts (device_replies device Wakes);
  ticked = λ place device drawn marked there. any_texts (device_replies device (Ticks drawn));
}

-- on the air are these, and some behind them
pub record AirThen (Is : Flown → Type 0) (rest : List Flown) (o : OuterState) : Type 0 where
  pub added : List Flown
  pub are : on_air o.air.frames ≡ rest ++ added
  pub so : AllByRecursion Is added

-- the first has landed
pub record Lands (Is : Flown → Type 0) (m : Machine) (o : OuterState) : Type 0 where
  pub frame : Flown
  pub rest : List Flown
  pub next : next_of m.outside.outer.air.frames ≡ Some frame
  pub are : on_air m.outside.outer.air.frames ≡ frame ∷ rest
  pub later : AirThen Is rest o

pub data AirOn (Is : Flown → Type 0) (m : Machine) (event : Event) : Type 0 where
  Stays : ((drawn : List ℕ) (route : Option Route) → event ≡ Outside_does (Arrives drawn route) → ⊥) → AirThen Is (on_air m.outside.outer.air.frames) (happens m event).outside.outer → AirOn Is m event
  Arrived : (drawn : List ℕ) (route : Option Route) → event ≡ Outside_does (Arrives drawn route) → Lands Is m (happens m event).outside.outer → AirOn Is m event

sent_saying : (these : List Bool) (Says : List ℕ → Type 0) (frame : Flown) → IsSentFor these frame → IsOfSaying these Says frame
sent_saying these Says frame sent = (sent.0, λ home. absurd (let wrong : Outward ≡ Homeward = sym sent.1 ∙ home in cc))

module _ (airs : Airs) (these : List Bool) (Says : List ℕ → Type 0) (many : length these ≡ 233) where
  abbrev Is : Flown → Type 0
  Is = IsOfSaying these Says

  within : (node : ℕ) → is_marked these node ≡ true → node < 233
  within node marked = let less = marked_within these node marked in omega (arith, less, many)

  answers_add : (log : List Mark) (flights : List Flown) (a : AirState) (node : ℕ) (way : Option Route) (replies : List (List ℕ)) → is_marked these node ≡ true → AllByRecursion Says replies → Fly log flights a.frames
      → Adds Is log flights (answered a node way replies).frames
  answers_add log flights a node way [] marked says fly = adds_none Is log flights a.frames fly
  answers_add log flights a node way (reply ∷ replies) marked says fly =
      let d : Departure = record { node = node; heading = Homeward; route = unwrap_or way no_route; lost = nat_lt 0 a.losing || is_none way; payload = reply } in
      let next : AirState = departing a node Homeward way reply in
      let one : Adds Is log flights next.frames =
      record { more = goes_mark d ∷ []; added = flown_now log d ∷ []; fly = airs.goes log flights a.frames d (within node marked) fly; are_so = ((marked, λ home. says.0), tt) } in
      adds_both Is log flights next.frames (answered next node way replies).frames one (answers_add (log ++ one.more) (flights ++ one.added) next node way replies marked says.1 one.fly)

  -- one of these answers so, or none does
  abbrev AnswersSo : ℕ → List (List ℕ) → Type 0
  AnswersSo node replies = ((is_marked these node ≡ true) × AllByRecursion Says replies) ⊎ (replies ≡ [])

  answers_add_if : (joined : Bool) (log : List Mark) (flights : List Flown) (a : AirState) (node : ℕ) (way : Option Route) (replies : List (List ℕ)) → AnswersSo node replies → Fly log flights a.frames
      → Adds Is log flights (answered_if joined a node way replies).frames
  answers_add_if true log flights a node way replies (inl (marked, says)) fly = answers_add log flights a node way replies marked says fly
  answers_add_if true log flights a node way replies (inr none) fly = subst (λ (l : List (List ℕ)). Adds Is log flights (answered a node way l).frames) (sym none) (adds_none Is log flights a.frames fly)
  answers_add_if false log flights a node way replies either fly = adds_none Is log flights a.frames fly

  module _ (log : List Mark) (flight : Flown) (later : List Flown) (m : Mesh) (marked : is_marked these flight.node ≡ true) (fly : Fly log (flight ∷ later) m.air.frames) where
    lands_add : (a : AirState) → a.frames ≡ landing m.air.frames → Adds Is log later a.frames
    lands_add a is = adds_none Is log later a.frames (subst (λ (fs : FramesState). Fly log later fs) (sym is) (airs.lands log flight later m.air.frames fly))

    hears_add : (place : ℕ) (found : Option State) (event : DeviceEvent) (route : Option Route) → ((device : State) → found ≡ Some device → AllByRecursion Says (device_replies device event))
        → Adds Is log later (heard_at (record { air = landed (acknowledged m.air); devices = m.devices }) place found flight.node route event).air.frames
    hears_add place None event route says = lands_add (landed (acknowledged m.air)) refl
    hears_add place (Some device) event route says =
        let before : AirState = landed (acknowledged m.air) in
        answers_add_if (is_joined before flight.node) log later before flight.node (option_map backwards route) (device_replies device event) (inl (marked, says device refl)) (airs.lands log flight later m.air.frames fly)

    -- what the device answers that hears it is so
    abbrev AnswersIt : List ℕ → Type 0
    AnswersIt drawn =
        (place : ℕ) (device : State) → fate_of m.air.network m.devices flight ≡ AtDevice place → slice_get m.devices place ≡ Some device → AllByRecursion Says (device_replies device (Hears flight.payload drawn))

    fate_adds : (x : Fate) (drawn : List ℕ) (route : Option Route) → fate_of m.air.network m.devices flight ≡ x → AnswersIt drawn → Adds Is log later (arriving_as m flight x drawn route).air.frames
    fate_adds Lost drawn route is speak = lands_add (landed m.air) refl
    fate_adds (Dead from to) drawn route is speak = lands_add (landed m.air) refl
    fate_adds Missed drawn route is speak = lands_add (landed m.air) refl
    fate_adds AtChip drawn route is speak = lands_add (landed m.air) refl
    fate_adds (AtDevice place) drawn route is speak =
        hears_add place (slice_get m.devices place) (Hears flight.payload drawn) route (λ device there. speak place device is there)

    arrives_add : (drawn : List ℕ) (route : Option Route) → AnswersIt drawn → Adds Is log later (mesh_after m (mesh.Arrives drawn route)).air.frames
    unfolding mesh_after
    arrives_add drawn route speak = rw (airs.next log flight later m.air.frames fly) (fate_adds (fate_of m.air.network m.devices flight) drawn route refl speak)

  -- ---- each event

  still_add : (o p : OuterState) → on_air p.air.frames ≡ on_air o.air.frames → AirThen Is (on_air o.air.frames) p
  still_add o p same = record { added = []; are = same ∙ sym (append-nil (on_air o.air.frames)); so = tt }

  air_add : (rest : List Flown) (o p : OuterState) → p.air ≡ o.air → AirThen Is rest o → AirThen Is rest p
  air_add rest o p air add = record { added = add.added; are = ap (λ (a : AirState). on_air a.frames) air ∙ add.are; so = add.so }

  entered_add : (rest : List Flown) (x : Outcome) → AirThen Is rest x.outer → (told : List Entry) → AirThen Is rest (has_entered x.outer told)
  entered_add rest x add told = air_add rest x.outer (has_entered x.outer told) (entered_leaves x.outer told).air add

  adds_so : (log : List Mark) (flights : List Flown) (o : OuterState) → Adds Is log flights o.air.frames → AirThen Is flights o
  adds_so log flights o adds = record { added = adds.added; are = sym (flights_are (log ++ adds.more) (flights ++ adds.added) o.air.frames adds.fly); so = adds.are_so }

  module _ (m : Machine) (is : Awaits m) (all : AllByRecursion (IsOf these) (on_air m.outside.outer.air.frames)) where
    abbrev flying : List Flown
    flying = on_air m.outside.outer.air.frames

    fly : Fly is.log flying m.outside.outer.air.frames
    fly = is.follows.fly

    -- the next one is
    next_marked : (frame : Flown) → next_of m.outside.outer.air.frames ≡ Some frame → is_marked these frame.node ≡ true
    next_marked frame next = let first = next_flight airs is.log flying m.outside.outer.air.frames frame fly next in (subst (AllByRecursion (IsOf these)) first.1 all).0

    arrives_lands : (drawn : List ℕ) (route : Option Route) (frame : Flown) → next_of m.outside.outer.air.frames ≡ Some frame → SaysAt these Says m.outside (Arrives drawn route)
        → Lands Is m (happens_outside m.outside (Arrives drawn route)).outer
    arrives_lands drawn route frame next speak =
        let first = next_flight airs is.log flying m.outside.outer.air.frames frame fly next in
        let there : Fly is.log (frame ∷ first.0) m.outside.outer.air.frames = subst (λ (fs : List Flown). Fly is.log fs m.outside.outer.air.frames) first.1 fly in
        let marked = next_marked frame next in
        let adds = arrives_add is.log frame first.0 (mesh_of m.outside) marked there drawn route (λ place device is_at stands. speak frame place device next marked is_at stands) in
        let v : Outside = happens_outside m.outside (Arrives drawn route) in
        record { frame = frame; rest = first.0; next = next; are = first.1; later = adds_so is.log first.0 v.outer (subst (λ (a : AirState). Adds Is is.log first.0 a.frames) (sym (arrived_air m.outside drawn route)) adds) }

    acts_add : (found : Option State) (event : DeviceEvent) (route : Option Route) → ((device : State) → found ≡ Some device → AnswersSo device.node (device_replies device event)) → AirThen Is flying (acts_at m.outside.outer found event route).outer
    acts_add None event route says = still_add m.outside.outer m.outside.outer refl
    acts_add (Some device) event route says =
        let o : OuterState = m.outside.outer in
        adds_so is.log flying (acts_at o (Some device) event route).outer
        (answers_add_if (is_joined o.air device.node) is.log flying o.air device.node (option_map backwards route) (device_replies device event) (says device refl) fly)

    wakes_add : (node : ℕ) (place : Option ℕ) (route : Option Route) → place_of node m.outside.devices ≡ place → is_marked these node ≡ true → SaysAt these Says m.outside (Wakes_device node route)
        → AirThen Is flying (acts_by_hand m.outside.outer m.outside.devices place Wakes route).outer
    wakes_add node None route first marked speak = still_add m.outside.outer m.outside.outer refl
    wakes_add node (Some place) route first marked speak =
        acts_add (slice_get m.outside.devices place) Wakes route
        (λ device there. inl (subst (λ (n : ℕ). is_marked these n ≡ true) (sym (place_is node m.outside.devices place device first there)) marked, speak place device first there))

    takes_add : (count : ℕ) (rest : Rest) (ways : List (Item × Option Route)) → AreAskedFor these ways → AirThen Is flying (outcome m.outside (Chip_takes count rest ways)).outer
    unfolding outcome
    takes_add count rest ways sent =
        let o : OuterState = m.outside.outer in
        let p : OuterState = (each chip_does (fed_chip o count rest) (judged_all ways)).outer in
        adds_so is.log flying p
        (adds_weaker (IsSentFor these) Is (sent_saying these Says) is.log flying p.air.frames (judges_add airs these many is.log flying (fed_chip o count rest) ways sent fly))

    -- a device of these says so in its tick; another says nothing
    ticks_say_so : (same : Same) (place : ℕ) (device : State) (drawn : List ℕ) (route : Option Route) → slice_get m.outside.devices place ≡ Some device → AllByRecursion (IsAway these) m.outside.devices
        → SaysAt these Says m.outside (Device_ticks place drawn route) → AnswersSo device.node (device_replies device (Ticks drawn))
    ticks_say_so same place device drawn route there away speak = by (ticks_quiet same these device drawn (all-get (IsAway these) m.outside.devices place device away there))
      where
        by : (is_marked these device.node ≡ true) ⊎ (device_replies device (Ticks drawn) ≡ []) → AnswersSo device.node (device_replies device (Ticks drawn))
        by (inl marked) = inl (marked, speak device marked there)
        by (inr none) = inr none

    -- what is on the air after an event: what was there, but for one that has landed, and what was said
    stays : (event : Event) → ((drawn : List ℕ) (route : Option Route) → event ≡ Outside_does (Arrives drawn route) → ⊥) → AirThen Is flying (happens m event).outside.outer → AirOn Is m event
    stays event none add = Stays none add

    stays_still : (event : Event) → ((drawn : List ℕ) (route : Option Route) → event ≡ Outside_does (Arrives drawn route) → ⊥) → on_air (happens m event).outside.outer.air.frames ≡ flying → AirOn Is m event
    stays_still event none same = Stays none (still_add m.outside.outer (happens m event).outside.outer same)

    outside_on : (same : Same) (event : OuterEvent) → IsQuietEvent event → May m (Outside_does event) → IsSentTo these m (Outside_does event) → IsCalledFor these event → AllByRecursion (IsAway these) m.outside.devices
        → SaysAt these Says m.outside event → AirOn Is m (Outside_does event)
    unfolding outcome happens May MayOutside MayHappen
    outside_on same Begins_line quiet may sent called away speak = stays_still (Outside_does Begins_line) (λ drawn route no. cc) refl
    outside_on same Begins_tick quiet may sent called away speak = stays_still (Outside_does Begins_tick) (λ drawn route no. cc) refl
    outside_on same (Chip_takes count rest ways) quiet may sent called away speak =
        stays (Outside_does (Chip_takes count rest ways)) (λ drawn route no. cc)
        (entered_add flying (outcome m.outside (Chip_takes count rest ways)) (takes_add count rest ways sent) (outcome m.outside (Chip_takes count rest ways)).entries)
    outside_on same (Arrives drawn route) quiet may sent called away speak = by (next_of m.outside.outer.air.frames) refl may.1.0
      where
        by : (frame : Option Flown) → next_of m.outside.outer.air.frames ≡ frame → MayArriveIf (mesh_of m.outside) frame route → AirOn Is m (Outside_does (Arrives drawn route))
        by None next may_arrive = absurd may_arrive
        by (Some frame) next may_arrive = Arrived drawn route refl (arrives_lands drawn route frame next speak)
    outside_on same (Gives route) quiet may sent called away speak =
        stays_still (Outside_does (Gives route)) (λ drawn way no. cc) (ap (λ (a : AirState). on_air a.frames) (given_first m.outside route).air)
    outside_on same (Device_ticks place drawn route) quiet may sent called away speak =
        stays (Outside_does (Device_ticks place drawn route)) (λ other way no. cc)
        (entered_add flying (acts_at m.outside.outer (slice_get m.outside.devices place) (Ticks drawn) route)
        (acts_add (slice_get m.outside.devices place) (Ticks drawn) route (λ device there. ticks_say_so same place device drawn route there away speak)) (outcome m.outside (Device_ticks place drawn route)).entries)
    outside_on same Chip_ticks quiet may sent called away speak = stays_still (Outside_does Chip_ticks) (λ drawn route no. cc) (ap (λ (a : AirState). on_air a.frames) (chip_counts m.outside).0)
    outside_on same (Wakes_device node route) quiet may sent called away speak =
        stays (Outside_does (Wakes_device node route)) (λ drawn way no. cc)
        (entered_add flying (acts_by_hand m.outside.outer m.outside.devices (place_of node m.outside.devices) Wakes route) (wakes_add node (place_of node m.outside.devices) route refl called speak)
        (outcome m.outside (Wakes_device node route)).entries)
    outside_on same (Shows node) quiet may sent called away speak =
        stays (Outside_does (Shows node)) (λ drawn route no. cc)
        (entered_add flying (outcome m.outside (Shows node)) (still_add m.outside.outer m.outside.outer refl) (outcome m.outside (Shows node)).entries)
    outside_on same (Cuts size) quiet may sent called away speak = stays_still (Outside_does (Cuts size)) (λ drawn route no. cc) refl
    outside_on same (Host_writes unit) quiet may sent called away speak = absurd (let no : false ≡ true = may.0 in cc)
    outside_on same (Host_takes count) quiet may sent called away speak = absurd (let no : false ≡ true = may.0 in cc)
    outside_on same (Host_notes note) quiet may sent called away speak = absurd (let no : false ≡ true = may.0 in cc)
    outside_on same (Host_begins node sessions) quiet may sent called away speak = absurd (let no : false ≡ true = may.0 in cc)
    outside_on same event quiet may sent called away speak = absurd quiet

    pub event_on : (same : Same) (event : Event) → CoversOuter IsQuietEvent event → May m event → IsSentTo these m event → IsLineFor these event → AllByRecursion (IsAway these) m.outside.devices → SaysThen these Says m event → AirOn Is m event
    unfolding happens
    event_on same (Outside_does event) covers may sent called away speak = outside_on same event covers may sent called away speak
    event_on same (Host_does event) covers may sent called away speak = stays_still (Host_does event) (λ drawn route no. cc) (does_calm airs m event).on
    event_on same (Host_takes_all count rest items events) covers may sent called away speak = stays_still (Host_takes_all count rest items events) (λ drawn route no. cc) (takes_calm airs m count rest items events).on
    event_on same Decoder_ticks covers may sent called away speak = stays_still Decoder_ticks (λ drawn route no. cc) refl
    event_on same (refuses_line line refusal) covers may sent called away speak = stays_still (refuses_line line refusal) (λ drawn route no. cc) (enters_calm airs m _).on
    event_on same (Shows_values node) covers may sent called away speak = stays_still (Shows_values node) (λ drawn route no. cc) (enters_calm airs m _).on
    event_on same (Restarts state) covers may sent called away speak = stays_still (Restarts state) (λ drawn route no. cc) refl

  -- so each is, where each was
  on_so : (m : Machine) (event : Event) → AirOn Is m event → AllByRecursion Is (on_air m.outside.outer.air.frames) → AllByRecursion Is (on_air (happens m event).outside.outer.air.frames)
  on_so m event (Stays none add) all = subst (AllByRecursion Is) (sym add.are) (all-append Is (on_air m.outside.outer.air.frames) add.added all add.so)
  on_so m event (Arrived drawn route arrives lands) all =
      let add = lands.later in
      subst (AllByRecursion Is) (sym add.are) (all-append Is lands.rest add.added (subst (AllByRecursion Is) lands.are all).1 add.so)

  module _ (m : Machine) (is : Awaits m) (all : AllByRecursion Is (on_air m.outside.outer.air.frames)) where
    -- the next one is
    pub next_is_so : (frame : Flown) → next_of m.outside.outer.air.frames ≡ Some frame → Is frame
    next_is_so frame next =
        let first = next_flight airs is.log (on_air m.outside.outer.air.frames) m.outside.outer.air.frames frame is.follows.fly next in (subst (AllByRecursion Is) first.1 all).0

    -- so where that is so of whatever they hear
    outside_so : (event : OuterEvent) → IsCalledFor these event → SpeakSo these Says m.outside.devices → SaysAt these Says m.outside event
    outside_so (Arrives drawn route) called speak =
        λ frame place device next marked at there. speak.heard frame.node place device frame.payload drawn marked (hears_at m.outside.outer.air.network m.outside.devices frame place at) there
    outside_so (Device_ticks place drawn route) called speak = λ device marked there. speak.ticked place device drawn marked there
    outside_so (Wakes_device node route) called speak = λ place device first there. speak.woken node place device called first there
    outside_so event called speak = tt

    event_so : (event : Event) → IsLineFor these event → SpeakSo these Says m.outside.devices → SaysThen these Says m event
    event_so (Outside_does event) called speak = outside_so event called speak
    event_so event called speak = tt

    pub event_of : (same : Same) (event : Event) → CoversOuter IsQuietEvent event → May m event → IsSentTo these m event → IsLineFor these event → AllByRecursion (IsAway these) m.outside.devices → SpeakSo these Says m.outside.devices
        → AllByRecursion Is (on_air (happens m event).outside.outer.air.frames)
    event_of same event covers may sent called away speak =
        let marked = all-weaker Is (IsOf these) (λ frame of. of.0) (on_air m.outside.outer.air.frames) all in
        on_so m event (event_on m is marked same event covers may sent called away (event_so event called speak)) all

-- ---- payloads that come to the chip

module _ (Says : ℕ → List ℕ → Type 0) where
  -- where a frame brings a payload of a node, that is so
  abbrev BringsSo : FrameParts → Type 0
  BringsSo frame = (n : ℕ) (payload : List ℕ) → frame ≡ notice_frame (ApplicationCommandHandler 0 n payload) → Says n payload

  pub answer_brings : BringsSo answer_taken
  answer_brings n payload e = let no = ap (λ (f : FrameParts). f.kind) e in absurd cc

  pub update_brings : (update : Update) → BringsSo (notice_frame (ApplicationUpdate update))
  update_brings update n payload e = let no = ap (λ (f : FrameParts). f.func) e in absurd cc

  pub call_brings : (sent : Sending) (status : TransmitStatus) → BringsSo (callback_frame sent status)
  call_brings sent status n payload e = let no = ap (λ (f : FrameParts). f.func) e in absurd cc

  pub payload_brings : (from : ℕ) (payload : List ℕ) → Says from payload → BringsSo (notice_frame (ApplicationCommandHandler 0 from payload))
  payload_brings from payload says n other e =
      let same : from ≡ n = ap (λ (f : FrameParts). slice_index f.body 1) e in
      let text : payload ≡ other = ap (λ (f : FrameParts). drop 3 f.body) e in
      subst (λ (k : ℕ). Says k other) same (subst (λ (l : List ℕ). Says from l) text says)

module _ (these : List Bool) (Says : List ℕ → Type 0) where
  abbrev Comes : FrameParts → Type 0
  Comes = IsFromSaying these Says

  abbrev Both : ℕ → List ℕ → Type 0
  Both n payload = (is_marked these n ≡ true) × Says payload

  -- at each event: a frame that arrives is of one of these, and says so
  pub pending_from : (airs : Airs) (here next : Phase) (m : Machine) (event : Event) → Goes here m event next → May m event → LineAt here m × RoomAt here m × IsRouted m.outside.outer × TieAt here m → AwaitsAt here m → LineAt next (happens m event)
      → ((frame : Flown) → next_of m.outside.outer.air.frames ≡ Some frame → IsOfSaying these Says frame) → AllByRecursion (IsFromSaying these Says) (unheard m.outside.outer)
      → AllByRecursion (IsFromSaying these Says) (unheard (happens m event).outside.outer)
  pending_from airs here next m event goes may at awaits later next_is all =
      event_says Comes (AllByRecursion Comes) (all_piled Comes) airs (answer_brings Both) here next m event (λ judged. all_behind Comes) goes may at
      (λ drawn route arrives given then_given.
      arrives_says Comes (AllByRecursion Comes) (all_piled Comes) (update_brings Both) (call_brings Both) m drawn route given then_given
      (λ frame is home. payload_brings Both frame.node frame.payload ((next_is frame is).0, (next_is frame is).1 home)) all) awaits all later
