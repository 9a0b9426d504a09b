-- What devices do is entered of nodes that have a device, at each event outside the host, and so at each of the machine.
use Rattle.std.proofs.Common.{◌≡◌, ℕ, zero, suc, ◌+◌, ◌==◌, Bool, true, false, if◌then◌else◌, List, [], ◌∷◌, ◌++◌, map, refl, sym, ap, subst, ◌∙◌, append-nil, inl, inr}
use Rattle.std.proofs.lemmas.Bool.{eq-eqb}
use Rattle.std.specs.Prelude.{Option, Some, None, slice_get, is_some}
use Rattle.std.specs.Option.{option_map}
use Rattle.std.specs.List.{AllByRecursion, flat_map}
use Rattle.zw_base.proofs.Each.{all-append, all-weaker}
use Rattle.zw_base.specs.declared.property.By.{By}
use Rattle.zw_base.specs.declared.property.Setting.{Setting}
use Rattle.serial_frame.specs.Stream.{after_tick}
use Rattle.route_table.specs.declared.route.Route.{Route}
use Rattle.air_frames.specs.declared.frame.Heading.{Heading}
use Rattle.air_frames.specs.declared.frame.Heading.TheVariants.{Outward, Homeward}
use Rattle.air_frames.specs.Flown.{Flown}
use Rattle.air_frames.specs.Frames.{next_of, remembered}
use Rattle.chip_sim.specs.Events.{ChipEvent, Ticked, Judged, after}
use Rattle.device_kinds.specs.declared.change.Change.{Change}
use Rattle.law_wire.specs.device_sim.State.{State}
use Rattle.law_wire.specs.device_sim.Event.{DeviceEvent, Hears, device_after, device_replies}
use Rattle.proof_walk.specs.mesh_sim.declared.event.AirEvent.{AirEvent}
use Rattle.proof_walk.specs.mesh_sim.declared.event.AirEvent.TheVariants as air_event
use Rattle.proof_walk.specs.mesh_sim.declared.fate.Fate.{Fate}
use Rattle.proof_walk.specs.mesh_sim.declared.fate.Fate.TheVariants as fate
use Rattle.proof_walk.specs.mesh_sim.Air.{is_joined}
use Rattle.proof_walk.specs.mesh_sim.Fates.{Mesh, dead_hop_of, fate_of, listener_of, place_of}
use Rattle.proof_walk.specs.mesh_sim.Routes.{backwards}
use Rattle.proof_walk.specs.mesh_sim.Steps.{AirStep, acknowledged, answers_if, arrival_outs, arrival_outs_as, arriving, arriving_as, done_of, heard_again, heard_at, landed, mesh_after, mesh_outs, outs_again, outs_at, repeat_outs, repeat_outs_by, repeating, repeating_by, status_of}
use Rattle.proof_walk.specs.mesh_sim.Steps as mesh
use Rattle.zw_text.specs.declared.entry.Entry.{Entry}
use Rattle.zw_text.specs.declared.entry.Entry.TheVariants as entry
use Rattle.law_wire.specs.law_transcript.Nodes.{controller, device_of}
use Rattle.law_wire.specs.Doings.{AreDevices, doers_of}
use Rattle.proof_walk.proofs.Lists.{each-anywhere}
use Rattle.proof_walk.specs.outside_model.State.{OuterState, Outside, outside}
use Rattle.proof_walk.specs.outside_model.Chip.{chip_does, chip_ticks, shown_via}
use Rattle.proof_walk.specs.outside_model.Results.{device_at, gives}
use Rattle.proof_walk.specs.outside_model.Air.{deals, sent_entries, change_at, change_entries}
use Rattle.proof_walk.specs.outside_model.Devices.{acts, changes_entries, new_changes}
use Rattle.proof_walk.specs.outside_model.Events.{OuterEvent, Host_notes, mesh_of, outcome, ticked_entry}
use Rattle.proof_walk.specs.world_model.State.{Machine}
use Rattle.proof_walk.proofs.ChangesOutside.{fate_listens, listener_is, place_set}
use Rattle.proof_walk.proofs.KeptKinds.{event_same}
use Rattle.proof_walk.specs.Outside.{Pending, Judging, nothing, Moves, Outer, IsHearing, IsNote, IsSimple, session_begins}
use Rattle.proof_walk.specs.Walk.{Walk}
use Rattle.proof_walk.proofs.Alone.{Any, covers_any, simple_acts}
use Rattle.proof_walk.proofs.Machines.{machine_keeps}
use Rattle.proof_air.specs.Doing.{AreOfDevices, HasDevice, IsOfDevice, KnownDoers, KnowsDoers, MayDo, TieDoers}
use Rattle.proof_walk.proofs.Entering.{answers_if_are, hearing, hearing_are, Acts, Enters, IsOfChip, IsOfEnd, does_of_chip, due_of_chip, ends_of_end, number_are, outcome_enters, payload_of_chip, flat_all, flat_are}

-- ---- devices of nodes

-- where the first device of a node stands, there is one
has_place : (node : ℕ) (devices : List State) (place : ℕ) → place_of node devices ≡ Some place → HasDevice devices node
has_place node [] place is = absurd cc
has_place node (first ∷ devices) place is = by (first.node == node) (place_of node devices) refl is (λ there stands. has_place node devices there stands)
  where
    by : (b : Bool) (found : Option ℕ) → place_of node devices ≡ found → (if b then Some 0 else option_map suc found) ≡ Some place
        → ((there : ℕ) → place_of node devices ≡ Some there → HasDevice devices node) → is_some (if b then Some first else device_of node devices) ≡ true
    by true found at is later = refl
    by false None at is later = absurd cc
    by false (Some there) at is later = later there at

-- and each of a list is of a node that has a first one
stands : (devices : List State) (place : ℕ) (device : State) → slice_get devices place ≡ Some device → (there : ℕ) × (place_of device.node devices ≡ Some there)
stands [] place device is = absurd cc
stands (first ∷ devices) zero device is =
    let same : first ≡ device = cc in
    (0, ap (λ (b : Bool). if b then Some 0 else option_map suc (place_of device.node devices)) (eq-eqb first.node device.node (ap (λ (d : State). d.node) same)))
stands (first ∷ devices) (suc place) device is = by (first.node == device.node) refl (stands devices place device is)
  where
    by : (b : Bool) → (first.node == device.node) ≡ b → (there : ℕ) × (place_of device.node devices ≡ Some there) → (there : ℕ) × (place_of device.node (first ∷ devices) ≡ Some there)
    by true own later = (0, ap (λ (b : Bool). if b then Some 0 else option_map suc (place_of device.node devices)) own)
    by false own later =
        (suc later.0, ap (λ (b : Bool). if b then Some 0 else option_map suc (place_of device.node devices)) own ∙ ap (option_map suc) later.1)

module _ (olds : List State) where
  abbrev IsDone : Entry → Type 0
  IsDone e = AreDevices olds (doers_of e)

  abbrev AreDone : List Entry → Type 0
  AreDone entered = AllByRecursion IsDone entered

  -- of a node whose first device stands somewhere now
  has_now : (pending : Pending) (devices : List State) (node place : ℕ) → TieDoers olds pending devices → place_of node devices ≡ Some place → HasDevice olds node
  has_now pending devices node place tie is = has_place node olds place (sym (tie.places node) ∙ is)

  -- ---- entries

  note_done : (e : Entry) → IsNote e → IsDone e
  note_done (entry.Dev node by setting) note = absurd note
  note_done (entry.Air frame sender receiver repeaters payload) note = absurd note
  note_done e note = tt

  -- the controller is no device
  controllers_done : (frame sender receiver : ℕ) (repeaters payload : List ℕ) → sender ≡ controller → IsDone (entry.Air frame sender receiver repeaters payload)
  controllers_done frame sender receiver repeaters payload is = subst (λ (b : Bool). AreDevices olds (if b then [] else sender ∷ [])) (sym (eq-eqb sender controller is)) tt

  chip_done : (e : Entry) → IsOfChip e → IsDone e
  chip_done (entry.Dev node by setting) of_chip = absurd of_chip
  chip_done (entry.Air frame sender receiver repeaters payload) of_chip = controllers_done frame sender receiver repeaters payload of_chip
  chip_done e of_chip = tt

  end_done : (e : Entry) → IsOfEnd e → IsDone e
  end_done (entry.Forget a b) of_end = tt
  end_done e of_end = chip_done e of_end

  enters_done : (event : OuterEvent) → (Acts event → ⊥) → (e : Entry) → Enters event e → IsDone e
  enters_done event none (entry.Dev node by setting) enters = absurd (none enters)
  enters_done event none (entry.Air frame sender receiver repeaters payload) (inl of_chip) = controllers_done frame sender receiver repeaters payload of_chip
  enters_done event none (entry.Air frame sender receiver repeaters payload) (inr acting) = absurd (none acting)
  enters_done event none e enters = tt

  -- of a node that has a device
  settings_done : (node : ℕ) (by : By) → HasDevice olds node → (settings : List Setting) → AreDone (map (λ (setting : Setting). entry.Dev node by setting) settings)
  settings_done node by has [] = tt
  settings_done node by has (setting ∷ settings) = ((has, tt), settings_done node by has settings)

  change_done : (node : ℕ) (change : Option Change) → HasDevice olds node → AreDone (change_entries node change)
  change_done node None has = tt
  change_done node (Some change) has = settings_done node change.by has change.settings

  changes_done : (node : ℕ) (changes : List Change) → HasDevice olds node → AreDone (changes_entries node changes)
  changes_done node changes has = flat_are IsDone (λ (change : Change). change_entries node (Some change)) (λ change. change_done node (Some change) has) changes

  air_done : (frame sender receiver : ℕ) (repeaters payload : List ℕ) → HasDevice olds sender → IsDone (entry.Air frame sender receiver repeaters payload)
  air_done frame sender receiver repeaters payload has = by (sender == controller)
    where
      by : (b : Bool) → AreDevices olds (if b then [] else sender ∷ [])
      by true = tt
      by false = (has, tt)

  sent_done : (events : List AirEvent) → AllByRecursion (IsOfDevice olds) events → AreDone (flat_map sent_entries events)
  sent_done events are = flat_all IsDone (IsOfDevice olds) sent_entries one events are
    where
      one : (event : AirEvent) → IsOfDevice olds event → AreDone (sent_entries event)
      one (air_event.Sent frame from to route payload) is = (air_done frame from to (shown_via route) payload is, tt)
      one event is = tt

  -- ---- what chip, line and air do

  does_done : (o : OuterState) (event : ChipEvent) → AreDone (chip_does o event).entries
  does_done o event = all-weaker IsOfChip IsDone chip_done (chip_does o event).entries (does_of_chip o event)

  deals_done : (devices : List State) (o : OuterState) (event : AirEvent) → IsOfDevice olds event → AreDone (deals devices o event).entries
  deals_done devices o (air_event.Heard frame) is = (tt, tt)
  deals_done devices o (air_event.Lost frame) is = (tt, tt)
  deals_done devices o (air_event.Unheard frame) is = (tt, tt)
  deals_done devices o (air_event.Sent frame from to route payload) is = (air_done frame from to (shown_via route) payload is, tt)
  deals_done devices o (air_event.Changed node at) is = change_done node (change_at (device_at devices (place_of node devices)) at) is
  deals_done devices o (air_event.ToChip frame from payload) is = all-weaker IsOfChip IsDone chip_done _ (payload_of_chip o from payload)
  deals_done devices o (air_event.Done frame status dead) is = all-weaker IsOfEnd IsDone end_done _ (ends_of_end o status dead)

  simple_done : (w : Outside) (event : OuterEvent) → IsSimple event → AreDone (outcome w event).entries
  unfolding outcome
  simple_done w (Host_notes note) simple = (note_done note simple.0, tt)
  simple_done w event simple = all-weaker (Enters event) IsDone (enters_done event (simple_acts event simple)) (outcome w event).entries (outcome_enters w event tt)

  -- ---- a frame arrives, or is heard again

  -- the devices stay at their places, and what is told is of nodes that have one
  record Told (devices : List State) (after : Mesh) (events : List AirEvent) : Type 0 where
    places : (node : ℕ) → place_of node after.devices ≡ place_of node devices
    are : AllByRecursion (IsOfDevice olds) events

  done_told : (heading : Heading) (number status : ℕ) (dead : Option (ℕ × ℕ)) → AllByRecursion (IsOfDevice olds) (done_of heading number status dead)
  done_told Outward number status dead = (tt, tt)
  done_told Homeward number status dead = tt

  hears : (m : Mesh) (place number node : ℕ) (found : Option State) (route : Option Route) (event : DeviceEvent) (end : List AirEvent) → slice_get m.devices place ≡ found → HasDevice olds node
      → AllByRecursion (IsOfDevice olds) end → Told m.devices (heard_at m place found node route event) (outs_at m found number node route event ++ end)
  hears m place number node None route event end is has none = record { places = λ one. refl; are = none }
  hears m place number node (Some device) route event end is has none = record {
    places = λ one. place_set one m.devices place device (device_after device event) is (event_same device event).node;
    are = (
      tt,
      all-append (IsOfDevice olds) (hearing m.air node route device event) end (hearing_are (IsOfDevice olds) node (λ at. has) (λ frame over payload. has) m.air route device event) none,
    );
  }

  module _ (w : Outside) (tie : TieDoers olds nothing w.devices) where
    listens : (frame : Flown) (place : ℕ) → listener_of frame.node w.devices ≡ Some place → HasDevice olds frame.node
    listens frame place is = has_now nothing w.devices frame.node place tie (listener_is frame.node w.devices place is)

    arrives_as : (frame : Flown) (x : Fate) (drawn : List ℕ) (route : Option Route) → fate_of w.outer.air.network w.devices frame ≡ x
        → Told w.devices (arriving_as (mesh_of w) frame x drawn route) (arrival_outs_as (mesh_of w) (w.outer.air.frames.landed + 1) frame x drawn route)
    arrives_as frame fate.Lost drawn route is = record { places = λ node. refl; are = (tt, done_told frame.heading (w.outer.air.frames.landed + 1) 1 None) }
    arrives_as frame (fate.Dead from to) drawn route is = record { places = λ node. refl; are = (tt, done_told frame.heading (w.outer.air.frames.landed + 1) 1 (Some (from, to))) }
    arrives_as frame fate.Missed drawn route is = record { places = λ node. refl; are = (tt, done_told frame.heading (w.outer.air.frames.landed + 1) 1 None) }
    arrives_as frame fate.AtChip drawn route is = record { places = λ node. refl; are = (tt, (tt, tt)) }
    arrives_as frame (fate.AtDevice place) drawn route is =
        hears (record { air = landed (acknowledged w.outer.air); devices = w.devices }) place (w.outer.air.frames.landed + 1) frame.node (slice_get w.devices place) route (Hears frame.payload drawn)
        (air_event.Done (w.outer.air.frames.landed + 1) (status_of w.outer.air) None ∷ []) refl
        (listens frame place (fate_listens frame.lost (dead_hop_of w.outer.air.network frame) frame.heading (listener_of frame.node w.devices) place is)) (tt, tt)

    arrives_if : (found : Option Flown) (drawn : List ℕ) (route : Option Route) → Told w.devices (arriving (mesh_of w) found drawn route) (arrival_outs (mesh_of w) found drawn route)
    arrives_if None drawn route = record { places = λ node. refl; are = tt }
    arrives_if (Some frame) drawn route = arrives_as frame (fate_of w.outer.air.network w.devices frame) drawn route refl

    again_at : (place : Option ℕ) (number : ℕ) (frame : Flown) (route : Option Route) (event : DeviceEvent) → listener_of frame.node w.devices ≡ place
        → Told w.devices (heard_again (mesh_of w) place frame.node route event) (outs_again (mesh_of w) place number frame.node route event)
    again_at None number frame route event is = record { places = λ node. refl; are = tt }
    again_at (Some place) number frame route event is =
        subst (λ (l : List AirEvent). Told w.devices (heard_at (mesh_of w) place (slice_get w.devices place) frame.node route event) l)
        (append-nil (outs_at (mesh_of w) (slice_get w.devices place) number frame.node route event))
        (hears (mesh_of w) place number frame.node (slice_get w.devices place) route event [] refl (listens frame place is) tt)

    again_by : (heading : Heading) (number : ℕ) (frame : Flown) (drawn : List ℕ) (route : Option Route)
        → Told w.devices (repeating_by heading (mesh_of w) frame drawn route) (repeat_outs_by heading (mesh_of w) number frame drawn route)
    again_by Homeward number frame drawn route = record { places = λ node. refl; are = (tt, (tt, tt)) }
    again_by Outward number frame drawn route = again_at (listener_of frame.node w.devices) number frame route (Hears frame.payload drawn) refl

    again_if : (number : ℕ) (found : Option Flown) (drawn : List ℕ) (route : Option Route) → Told w.devices (repeating (mesh_of w) found drawn route) (repeat_outs (mesh_of w) number found drawn route)
    again_if number None drawn route = record { places = λ node. refl; are = tt }
    again_if number (Some frame) drawn route = again_by frame.heading number frame drawn route

    step_told : (step : AirStep) → IsHearing step → Told w.devices (mesh_after (mesh_of w) step) (mesh_outs (mesh_of w) step)
    unfolding mesh_after mesh_outs
    step_told (mesh.Arrives drawn route) hearing = arrives_if (next_of w.outer.air.frames) drawn route
    step_told (mesh.Repeats number drawn route) hearing = again_if number (remembered w.outer.air.frames number) drawn route
    step_told step hearing = absurd hearing

  -- ---- all of it

  -- the devices stay as they are
  moves : (before after : Pending) (w later : Outside) (entered : List Entry) → AreDone entered → later.devices ≡ w.devices → (AreOfDevices olds before → AreOfDevices olds after)
      → Moves (MayDo olds) (KnowsDoers olds before) w entered (KnowsDoers olds after) later
  moves before after w later entered are same goes awaits past silent tie = (
    each-anywhere (MayDo olds) IsDone (λ past e is. is) past entered are,
    record { places = λ node. ap (place_of node) same ∙ tie.places node; done = goes tie.done },
  )

  law : Outer (MayDo olds) (KnowsDoers olds) Any
  law = record {
    line = λ covers awaits past w tie. tie;
    tick = λ covers awaits past w tie. (tt, tie);
    number = λ past w tie. tie;
    stamps = λ awaits stamped past w tie. tie;
    simple = λ w event simple covers. moves nothing nothing w (outside (outcome w event).outer w.devices) (outcome w event).entries (simple_done w event simple) refl (λ are. are);
    session = λ w node session command. moves nothing nothing w (outside (session_begins w.outer node session command).outer w.devices) (entry.Begin node session command ∷ []) (tt, tt) refl (λ are. are);
    takes = λ w count rest ways may awaits past silent tie. (tt, record { places = tie.places; done = tt });
    judges = λ w way ways may.
        moves (Judging (way ∷ ways)) (Judging ways) w (outside (chip_does w.outer (Judged way.0 way.1)).outer w.devices) (chip_does w.outer (Judged way.0 way.1)).entries
        (does_done w.outer (Judged way.0 way.1)) refl (λ are. tt);
    judged = λ awaits past w tie. record { places = tie.places; done = tt };
    ticks = λ w. moves nothing nothing w (outside (chip_ticks w.outer).outer w.devices) (chip_ticks w.outer).entries
        (does_done (record w.outer { chip = record { decoder = after_tick w.outer.chip.decoder; state = w.outer.chip.state } }) Ticked) refl (λ are. are);
    gives = λ w route may. moves nothing nothing w (outside (gives w.outer w.devices w.outer.due route).outer w.devices) (gives w.outer w.devices w.outer.due route).entries
        (all-weaker IsOfChip IsDone chip_done _ (due_of_chip w.outer w.devices w.outer.due route)) refl (λ are. are);
    steps = λ w step hearing may awaits past silent tie.
        let said = step_told w tie step hearing in (tt, record { places = λ node. said.places node ∙ tie.places node; done = said.are });
    deals = λ w event events awaits past silent tie. (
      each-anywhere (MayDo olds) IsDone (λ past e is. is) past (deals w.devices w.outer event).entries (deals_done w.devices w.outer event tie.done.0),
      record { places = tie.places; done = tie.done.1 },
    );
    acts = λ w place device event route found may awaits past silent tie.
        let first = stands w.devices place device found in
        let has : HasDevice olds device.node = has_now nothing w.devices device.node first.0 tie first.1 in
        let over : Option Route = option_map backwards route in
        let replies : List (List ℕ) = device_replies device event in
        let events : List AirEvent = answers_if (is_joined w.outer.air device.node) w.outer.air device.node over replies in (
          each-anywhere (MayDo olds) IsDone (λ past e is. is) past (acts w.outer device event route).entries
              (all-append IsDone (changes_entries device.node (new_changes device event)) (flat_map sent_entries events) (changes_done device.node (new_changes device event) has)
              (sent_done events (answers_if_are (IsOfDevice olds) device.node (λ at. has) (λ frame way payload. has) (is_joined w.outer.air device.node) w.outer.air over replies))),
          record { places = λ node. place_set node w.devices place device (device_after device event) found (event_same device event).node ∙ tie.places node; done = tt },
        );
  }

  -- ---- lines

  pub doers_walk : Walk (MayDo olds) (λ here past m. KnownDoers olds past m)
  doers_walk = record {
    said = λ past m words line read known. (tt, (known.0, each-anywhere (MayDo olds) IsDone (λ past e is. is) (past ++ entry.Said words ∷ []) (ticked_entry m.outside.outer) (number_are IsDone (λ tick. tt) m.outside.outer)));
    event = λ here next past m event goes may known. machine_keeps (MayDo olds) (KnowsDoers olds) Any law (λ event own. tt) m event (covers_any event) may past known;
    turn = λ here next past m turns known. known;
  }

pub doers_first : (m : Machine) → KnownDoers m.outside.devices [] m
doers_first m = (
  record { places = λ node. refl; done = tt },
  each-anywhere (MayDo m.outside.devices) (IsDone m.outside.devices) (λ past e is. is) [] (ticked_entry m.outside.outer) (number_are (IsDone m.outside.devices) (λ tick. tt) m.outside.outer),
)
