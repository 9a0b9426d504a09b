-- A frame that arrives meets the fate that is due by the transcript: that is entered first, after the number of the tick, and no other.
use Rattle.std.proofs.Common.{◌≡◌, ◌≢◌, ℕ, ◌+◌, ◌==◌, ◌&&◌, ◌||◌, not, Bool, true, false, if◌then◌else◌, List, [], ◌∷◌, ◌++◌, slice_get, refl, sym, ap, ap₂, subst, ◌∙◌, arith}
use Rattle.std.proofs.lemmas.Bool.{ne_eqb}
use Rattle.std.specs.Prelude.{Option, Some, None, is_some}
use Rattle.std.specs.Option.{is_none}
use Rattle.std.specs.List.{AllByRecursion}
use Rattle.zw_base.proofs.Each.{all-append}
use Rattle.route_table.specs.declared.route.Route.{Route}
use Rattle.route_table.specs.Route.{via}
use Rattle.device_sim.specs.State.{State}
use Rattle.device_sim.specs.Event.{Hears}
use Rattle.air_frames.specs.declared.frame.Heading.{Heading}
use Rattle.air_frames.specs.declared.frame.Heading.TheVariants.{Outward, Homeward}
use Rattle.air_frames.specs.Flown.{Flown}
use Rattle.air_frames.specs.Frames.{next_of}
use Rattle.mesh_sim.specs.declared.event.AirEvent.{AirEvent}
use Rattle.mesh_sim.specs.declared.event.AirEvent.TheVariants as air_event
use Rattle.mesh_sim.specs.declared.fate.Fate.{Fate as AirFate}
use Rattle.mesh_sim.specs.declared.fate.Fate.TheVariants as fate
use Rattle.mesh_sim.specs.Air.{AirState}
use Rattle.mesh_sim.specs.Fates.{Mesh, dead_hop_by, dead_hop_of, fate_by, fate_of, listener_of}
use Rattle.mesh_sim.specs.Steps.{MayArriveIf, MayHappen, mesh_after, mesh_outs, landed, acknowledged, status_of, outs_at, arrival_outs, arrival_outs_as}
use Rattle.mesh_sim.specs.Steps as mesh
use Rattle.zw_text.specs.declared.entry.Entry.{Entry}
use Rattle.zw_text.specs.declared.entry.Entry.TheVariants as entry
use Rattle.zw_text.specs.Transcript.{Fate}
use Rattle.zw_text.specs.Transcript.Fate.{WasHeard, WasLost, WasUnheard}
use Rattle.law_transcript.specs.Lists.{EachAfter}
use Rattle.law_transcript.specs.Nodes.{controller, device_of}
use Rattle.law_transcript.specs.Restarts.{repeats}
use Rattle.law_wire.specs.Arriving.{is_awake}
use Rattle.law_wire.specs.Networks.{air_links}
use Rattle.outside_model.specs.State.{OuterState, Outside, each}
use Rattle.outside_model.specs.Air.{deals}
use Rattle.outside_model.specs.Events.{Arrives, mesh_of, outcome, ticked_entry, entries}
use Rattle.proof_host.proofs.Lists.{each-append, each-anywhere}
use Rattle.proof_air.proofs.ChangesOutside.{fate_listens}
use Rattle.proof_air.proofs.Entering.{hearing}
use Rattle.proof_air.proofs.Fated.{done_none, hearing_none}
use Rattle.proof_air.proofs.Fateless.{IsFateless, AreFateless, TellsNoFate, TellNoFate, all_deals_rest}
use Rattle.proof_routes.specs.Networks.{HasLinks}
use Rattle.proof_routes.specs.Forgetting.{Passage, passages, passage_by, passage_flown, IsApartFrom, HasPassages}
use Rattle.proof_routes.proofs.Arriving.{apart_got}
use Rattle.proof_routes.proofs.Passages.{IsNoFrame, passages_same, links_same, next_passage}
use Rattle.proof_routes.proofs.Turned.{live_is}
use Rattle.proof_devices.specs.Meeting.{fate_over, Meets, IsHeardSo, MayMeetSo}
use Rattle.proof_devices.proofs.FateShown.{listener_stands}
use Rattle.proof_devices.proofs.Stamped.{enters_first}

-- ---- what becomes of it

-- as the transcript tells it
abbrev told_as : AirFate → Fate
told_as fate.Lost = WasLost
told_as (fate.Dead from to) = WasUnheard
told_as fate.Missed = WasUnheard
told_as fate.AtChip = WasHeard
told_as (fate.AtDevice place) = WasHeard

-- the event of it, and its entry
abbrev event_of : AirFate → ℕ → AirEvent
event_of fate.Lost number = air_event.Lost number
event_of (fate.Dead from to) number = air_event.Unheard number
event_of fate.Missed number = air_event.Unheard number
event_of fate.AtChip number = air_event.Heard number
event_of (fate.AtDevice place) number = air_event.Heard number

abbrev entry_of : AirFate → ℕ → Entry
entry_of fate.Lost number = entry.Lost number
entry_of (fate.Dead from to) number = entry.Unheard number
entry_of fate.Missed number = entry.Unheard number
entry_of fate.AtChip number = entry.Heard number
entry_of (fate.AtDevice place) number = entry.Heard number

entered_first : (x : AirFate) (number : ℕ) (devices : List State) (o : OuterState) (rest : List AirEvent)
    → (each (deals devices) o (event_of x number ∷ rest)).entries ≡ entry_of x number ∷ (each (deals devices) o rest).entries
entered_first fate.Lost number devices o rest = refl
entered_first (fate.Dead from to) number devices o rest = refl
entered_first fate.Missed number devices o rest = refl
entered_first fate.AtChip number devices o rest = refl
entered_first (fate.AtDevice place) number devices o rest = refl

-- somebody is there to hear it
abbrev hears_by : Heading → Option ℕ → Bool
hears_by Outward listener = is_some listener
hears_by Homeward listener = true

told_so : (lost : Bool) (dead : Option (ℕ × ℕ)) (heading : Heading) (listener : Option ℕ)
    → (if lost then WasLost else if is_none dead && hears_by heading listener then WasHeard else WasUnheard) ≡ told_as (if lost then fate.Lost else fate_by dead heading listener)
told_so true dead heading listener = refl
told_so false (Some hop) heading listener = refl
told_so false None Homeward listener = refl
told_so false None Outward (Some place) = refl
told_so false None Outward None = refl

-- ---- entries that tell no fate

pub fateless_stand : (devices : List State) (past told : List Entry) → AreFateless told → EachAfter (MayMeetSo devices) past told
fateless_stand devices past told none = each-anywhere (MayMeetSo devices) IsFateless (λ before e is. one before e is) past told none
  where
    one : (before : List Entry) (e : Entry) → IsFateless e → MayMeetSo devices before e
    one before (entry.Heard frame) none = absurd none
    one before (entry.Lost frame) none = absurd none
    one before (entry.Unheard frame) none = absurd none
    one before e none = tt

arrival_is : (w : Outside) (drawn : List ℕ) (route : Option Route) → (outcome w (Arrives drawn route)).entries
    ≡ (each (deals (mesh_after (mesh_of w) (mesh.Arrives drawn route)).devices) (record w.outer { air = (mesh_after (mesh_of w) (mesh.Arrives drawn route)).air }) (mesh_outs (mesh_of w) (mesh.Arrives drawn route))).entries
unfolding outcome
arrival_is w drawn route = refl

-- ---- what is due

module _ (devices : List State) (past : List Entry) (w : Outside) where
  -- with the number of the tick
  abbrev before : List Entry
  before = past ++ ticked_entry w.outer

  ticked_no_frame : AllByRecursion IsNoFrame (ticked_entry w.outer)
  ticked_no_frame = by (w.outer.in_tick && not w.outer.stamped)
    where
      by : (b : Bool) → AllByRecursion IsNoFrame (if b then entry.Time w.outer.clock ∷ [] else [])
      by true = (tt, tt)
      by false = tt

  module _ (hears : HasLinks w.outer.air.network (air_links past)) (has : HasPassages (passages past) w.outer.air.frames) (unrepeated : repeats before ≡ false)
      (listens : (node : ℕ) → node ≢ controller → is_some (listener_of node w.devices) ≡ is_awake before (device_of node devices)) where
    hears_now : HasLinks w.outer.air.network (air_links before)
    hears_now = subst (HasLinks w.outer.air.network) (sym (links_same past (ticked_entry w.outer) ticked_no_frame)) hears

    abbrev over : Passage → Fate
    over passage = fate_over devices before passage.lost passage.sender passage.over passage.receiver

    -- over its way, by its heading
    way_due : (heading : Heading) (node : ℕ) (route : Route) (lost : Bool) → IsApartFrom (passage_by heading node route lost)
        → over (passage_by heading node route lost)
        ≡ told_as (if lost then fate.Lost else fate_by (dead_hop_by heading w.outer.air.network node (via route)) heading (listener_of node w.devices))
    way_due Outward node route lost apart =
        let away : node ≢ controller = λ is. apart (sym is) in
        let heard : ((node == controller) || is_awake before (device_of node devices)) ≡ is_some (listener_of node w.devices)
        = ap (λ (b : Bool). b || is_awake before (device_of node devices)) (ne_eqb node controller away) ∙ sym (listens node away) in
        ap₂ (λ (live heard : Bool). if lost then WasLost else if live && heard then WasHeard else WasUnheard)
        (live_is w.outer.air.network (air_links before) hears_now controller (via route) node) heard
        ∙ told_so lost (dead_hop_by Outward w.outer.air.network node (via route)) Outward (listener_of node w.devices)
    way_due Homeward node route lost apart =
        ap (λ (live : Bool). if lost then WasLost else if live && true then WasHeard else WasUnheard)
        (live_is w.outer.air.network (air_links before) hears_now node (via route) controller)
        ∙ told_so lost (dead_hop_by Homeward w.outer.air.network node (via route)) Homeward (listener_of node w.devices)

    meets : (frame : Flown) → next_of w.outer.air.frames ≡ Some frame → Meets devices before (w.outer.air.frames.landed + 1) (told_as (fate_of w.outer.air.network w.devices frame))
    meets frame next =
        let at : ℕ = w.outer.air.frames.landed in
        let there : slice_get (passages past) at ≡ Some (passage_flown frame) = (next_passage (passages past) w.outer.air.frames frame has next).1 in
        record {
          at = at;
          number_is = omega arith;
          passage = passage_flown frame;
          there = ap (λ (l : List Passage). slice_get l at) (passages_same past (ticked_entry w.outer) ticked_no_frame) ∙ there;
          fate_is = way_due frame.heading frame.node frame.route frame.lost (apart_got (passages past) at (passage_flown frame) has.apart there);
        }

    may_stand : (x : AirFate) (number : ℕ) → Meets devices before number (told_as x) → MayMeetSo devices before (entry_of x number)
    may_stand fate.Lost number due = due
    may_stand (fate.Dead from to) number due = due
    may_stand fate.Missed number due = due
    may_stand fate.AtChip number due = subst (λ (b : Bool). IsHeardSo b devices before number) (sym unrepeated) due
    may_stand (fate.AtDevice place) number due = subst (λ (b : Bool). IsHeardSo b devices before number) (sym unrepeated) due

    -- ---- what is told of it

    -- its fate first, and no other
    abbrev Tells : AirFate → List AirEvent → Type 0
    Tells x events = (rest : List AirEvent) × (events ≡ event_of x (w.outer.air.frames.landed + 1) ∷ rest) × TellNoFate rest

    at_place : (frame : Flown) (place : ℕ) (found : Option State) (drawn : List ℕ) (route : Option Route) → listener_of frame.node w.devices ≡ Some place → slice_get w.devices place ≡ found
        → Tells (fate.AtDevice place)
        (outs_at (record { air = landed (acknowledged w.outer.air); devices = w.devices }) found (w.outer.air.frames.landed + 1) frame.node route (Hears frame.payload drawn)
        ++ air_event.Done (w.outer.air.frames.landed + 1) (status_of w.outer.air) None ∷ [])
    at_place frame place None drawn route listener stands = absurd (listener_stands w.devices frame.node place listener stands)
    at_place frame place (Some device) drawn route listener stands =
        let air : AirState = landed (acknowledged w.outer.air) in
        let heard : List AirEvent = hearing air frame.node route device (Hears frame.payload drawn) in
        let end : List AirEvent = air_event.Done (w.outer.air.frames.landed + 1) (status_of w.outer.air) None ∷ [] in
        (heard ++ end, refl, all-append TellsNoFate heard end (hearing_none air frame.node route device (Hears frame.payload drawn)) (tt, tt))

    tells_as : (frame : Flown) (x : AirFate) (drawn : List ℕ) (route : Option Route) → fate_of w.outer.air.network w.devices frame ≡ x
        → Tells x (arrival_outs_as (mesh_of w) (w.outer.air.frames.landed + 1) frame x drawn route)
    tells_as frame fate.Lost drawn route is = (_, refl, done_none frame.heading (w.outer.air.frames.landed + 1) 1 None)
    tells_as frame (fate.Dead from to) drawn route is = (_, refl, done_none frame.heading (w.outer.air.frames.landed + 1) 1 (Some (from, to)))
    tells_as frame fate.Missed drawn route is = (_, refl, done_none frame.heading (w.outer.air.frames.landed + 1) 1 None)
    tells_as frame fate.AtChip drawn route is = (_, refl, (tt, tt))
    tells_as frame (fate.AtDevice place) drawn route is =
        at_place frame place (slice_get w.devices place) drawn route
        (fate_listens frame.lost (dead_hop_of w.outer.air.network frame) frame.heading (listener_of frame.node w.devices) place is) refl

    -- the next frame, and what is told
    record Arrived (events : List AirEvent) : Type 0 where
      pub frame : Flown
      pub next : next_of w.outer.air.frames ≡ Some frame
      pub tells : Tells (fate_of w.outer.air.network w.devices frame) events

    arrived_if : (found : Option Flown) (drawn : List ℕ) (route : Option Route) → next_of w.outer.air.frames ≡ found → MayArriveIf (mesh_of w) found route
        → Arrived (arrival_outs (mesh_of w) found drawn route)
    arrived_if None drawn route next may = absurd may
    arrived_if (Some frame) drawn route next may =
        record { frame = frame; next = next; tells = tells_as frame (fate_of w.outer.air.network w.devices frame) drawn route refl }

    arrived : (drawn : List ℕ) (route : Option Route) → MayHappen (mesh_of w) (mesh.Arrives drawn route) → Arrived (mesh_outs (mesh_of w) (mesh.Arrives drawn route))
    unfolding mesh_outs MayHappen
    arrived drawn route may = arrived_if (next_of w.outer.air.frames) drawn route refl may.0

    -- ---- as it is entered

    number_stands : EachAfter (MayMeetSo devices) past (ticked_entry w.outer)
    number_stands = by (w.outer.in_tick && not w.outer.stamped)
      where
        by : (b : Bool) → EachAfter (MayMeetSo devices) past (if b then entry.Time w.outer.clock ∷ [] else [])
        by true = (tt, tt)
        by false = tt

    first_stands : (x : AirFate) (rest : List Entry) → Meets devices before (w.outer.air.frames.landed + 1) (told_as x) → AreFateless rest
        → EachAfter (MayMeetSo devices) past (ticked_entry w.outer ++ entry_of x (w.outer.air.frames.landed + 1) ∷ rest)
    first_stands x rest due none =
        let this : Entry = entry_of x (w.outer.air.frames.landed + 1) in
        each-append (MayMeetSo devices) past (ticked_entry w.outer) (this ∷ rest) number_stands
        (may_stand x (w.outer.air.frames.landed + 1) due, fateless_stand devices (before ++ this ∷ []) rest none)

    pub arrives_meet : (drawn : List ℕ) (route : Option Route) → MayHappen (mesh_of w) (mesh.Arrives drawn route) → EachAfter (MayMeetSo devices) past (entries w (Arrives drawn route))
    arrives_meet drawn route may =
        let later : Mesh = mesh_after (mesh_of w) (mesh.Arrives drawn route) in
        let o : OuterState = record w.outer { air = later.air } in
        let got = arrived drawn route may in
        let x : AirFate = fate_of w.outer.air.network w.devices got.frame in
        let told : List Entry = (each (deals later.devices) o got.tells.0).entries in
        subst (EachAfter (MayMeetSo devices) past)
        (sym (enters_first w (Arrives drawn route) (entry_of x (w.outer.air.frames.landed + 1)) told tt
        (arrival_is w drawn route ∙ (ap (λ (l : List AirEvent). (each (deals later.devices) o l).entries) got.tells.1 ∙ entered_first x (w.outer.air.frames.landed + 1) later.devices o got.tells.0))))
        (first_stands x told (meets got.frame got.next) (all_deals_rest later.devices got.tells.0 o got.tells.2).fateless)
