-- Events of one device of the list.
use Rattle.std.proofs.Common.{◌≡◌, ℕ, zero, suc, inl, inr, List, [], ◌∷◌, ◌++◌, set, slice_get, refl, ap, sym, ◌∙◌, subst, Result, OnOk}
use Rattle.std.specs.Prelude.{Option, Some, None}
use Rattle.route_table.specs.declared.route.Route.{Route}
use Rattle.device_sim.specs.State.{State}
use Rattle.device_sim.specs.Event.{DeviceEvent, Ticks, Wakes, Sets, device_after, device_replies}
use Rattle.mesh_sim.specs.Fates.{place_of}
use Rattle.zw_text.specs.declared.entry.Entry.{Entry}
use Rattle.outside_model.specs.State.{OuterState, outside, Does}
use Rattle.outside_calls.specs.Acting.{HasActed, HasActedByHand}
use Rattle.outside_model.specs.Devices.{acts, acts_at, device_set, HasWay, MayAct, acts_by_hand, set_by_hand, MayActByHand}
use Rattle.outside_model.specs.Events.{Device_ticks, Wakes_device, Sets_device, outcome, devices_after, May, stamp, has_entered}
use Rattle.outside_model.specs.Did.{RunOf, PrefixOf, Stops, Enters}
use Rattle.outside_model.specs.Schedules.{DeviceTicks, IsWake, IsSet}
use Rattle.outside_step.proofs.Answered.{map_ok}
use Rattle.outside_calls.proofs.Single.{run_one, stops_now, stops_in, entered_ok}
use Rattle.outside_calls.proofs.Counted.{device_ticks}

abbrev pub States : Type 0
States = List State

-- what stands at a place may be put there
set_same : (ds : States) (place : ℕ) (d : State) → slice_get ds place ≡ Some d → set ds place d ≡ ds
set_same [] place d at = refl
set_same (x ∷ ds) zero d at = let e : x ≡ d = cc in ap (λ (y : State). y ∷ ds) (sym e)
set_same (x ∷ ds) (suc place) d at = ap (λ l. x ∷ l) (set_same ds place d at)

module _ (o : OuterState) (ds later : States) (place : ℕ) (d d' : State) (event : DeviceEvent) (at : slice_get ds place ≡ Some d) (set_is : later ≡ set ds place d') where
  -- the device at the place has done it
  pub moved : d' ≡ device_after d event → later ≡ device_set ds place (slice_get ds place) event
  moved after = set_is ∙ (ap (λ (x : State). set ds place x) after ∙ ap (λ (s : Option State). device_set ds place s event) (sym at))

  pub unmoved : d' ≡ d → later ≡ ds
  unmoved same = set_is ∙ (ap (λ (x : State). set ds place x) same ∙ set_same ds place d at)

  pub may_act : (route : Option Route) → HasWay o.air.network d.node (device_replies d event) route → MayAct o (slice_get ds place) event route
  may_act route way = subst (λ (s : Option State). MayAct o s event route) (sym at) way

  pub enters_at : (route : Option Route) (new : OuterState) (before all : List Entry) → Enters (acts o d event route) new before all → Enters (acts_at o (slice_get ds place) event route) new before all
  enters_at route new before all done = subst (λ (s : Option State). Enters (acts_at o s event route) new before all) (sym at) done

module _ (o : OuterState) (ds later : States) (place : ℕ) (d d' : State) (event : DeviceEvent) (at : slice_get ds place ≡ Some d) (set_is : later ≡ set ds place d') where
  -- the device at the place has done it, or not
  pub acted_at : HasActed o d d' event → HasActedByHand o ds later (Some place) event
  acted_at (inl same) = inl (unmoved o ds later place d d' event at set_is same)
  acted_at (inr (route, way, after)) = inr (route, may_act o ds later place d d' event at set_is route way, moved o ds later place d d' event at set_is after)

  -- what it did was entered
  pub act_enters : {V E : Type 0} (r : Result V E) (mid new : OuterState) (start told before all : List Entry) → start ≡ []
      → (route : Option Route) × HasWay o.air.network d.node (device_replies d event) route × Does (acts o d event route) mid start told
      → OnOk r (new ≡ has_entered mid told) → OnOk r (all ≡ before ++ stamp mid told)
      → OnOk r ((route : Option Route) × MayActByHand o ds (Some place) event route × Enters (acts_by_hand o ds (Some place) event route) new before all)
  act_enters r mid new start told before all none (route, way, done) outer put =
      map_ok r (Enters (acts o d event route) new before all) ((route : Option Route) × MayActByHand o ds (Some place) event route × Enters (acts_by_hand o ds (Some place) event route) new before all)
      (λ entered. (route, may_act o ds later place d d' event at set_is route way, enters_at o ds later place d d' event at set_is route new before all entered))
      (entered_ok r (acts o d event route) mid new start told before all none done outer put)

module _ (o new : OuterState) (ds later : States) (place : ℕ) (d d' : State) (event : DeviceEvent) (at : slice_get ds place ≡ Some d) (set_is : later ≡ set ds place d') where
  -- what the device at the place did was entered
  pub acted_enters : (before all : List Entry) → (route : Option Route) × HasWay o.air.network d.node (device_replies d event) route × Enters (acts o d event route) new before all
      → (route : Option Route) × MayActByHand o ds (Some place) event route × Enters (acts_by_hand o ds (Some place) event route) new before all
  acted_enters before all (route, way, done) =
      (route, may_act o ds later place d d' event at set_is route way, enters_at o ds later place d d' event at set_is route new before all done)

-- the first device of a node is that at a place, or there is none
module _ (o new : OuterState) (ds later : States) (place : Option ℕ) (event : DeviceEvent) (before all : List Entry) where
  pub found_devices : (at : Option ℕ) → place ≡ at → later ≡ set_by_hand ds at event → later ≡ set_by_hand ds place event
  found_devices at is after = after ∙ ap (λ (p : Option ℕ). set_by_hand ds p event) (sym is)

  pub found_enters : (at : Option ℕ) → place ≡ at → (route : Option Route) × MayActByHand o ds at event route × Enters (acts_by_hand o ds at event route) new before all
      → (route : Option Route) × MayActByHand o ds place event route × Enters (acts_by_hand o ds place event route) new before all
  found_enters at is did =
      subst (λ (p : Option ℕ). (route : Option Route) × MayActByHand o ds p event route × Enters (acts_by_hand o ds p event route) new before all) (sym is) did

  pub found_acted : (at : Option ℕ) → place ≡ at → HasActedByHand o ds later at event → HasActedByHand o ds later place event
  found_acted at is did = subst (λ (p : Option ℕ). HasActedByHand o ds later p event) (sym is) did

-- the device at a place has ticked
pub tick_runs : (o new : OuterState) (ds later : States) (place : ℕ) (drawn : List ℕ) (before all : List Entry) → later ≡ set_by_hand ds (Some place) (Ticks drawn)
    → (route : Option Route) × MayActByHand o ds (Some place) (Ticks drawn) route × Enters (acts_by_hand o ds (Some place) (Ticks drawn) route) new before all
    → RunOf (DeviceTicks place 1) (outside o ds) (outside new later) before all
unfolding outcome devices_after May
tick_runs o new ds later place drawn before all after (route, may, done) =
    (Device_ticks place drawn route ∷ [], (drawn, route, [], refl, refl), run_one (Device_ticks place drawn route) (outside o ds) new later before all may done after)

-- or it stops in that
pub tick_stops : (o : OuterState) (ds later : States) (place : ℕ) (drawn : List ℕ) (before all : List Entry) → HasActedByHand o ds later (Some place) (Ticks drawn) → all ≡ before
    → Stops (PrefixOf (DeviceTicks place 1)) (outside o ds) later before all
unfolding outcome devices_after May
tick_stops o ds later place drawn before all (inl same) put = stops_now (PrefixOf (DeviceTicks place 1)) (outside o ds) later before all (device_ticks.some place 1) same put
tick_stops o ds later place drawn before all (inr (route, may, after)) put =
    stops_in (PrefixOf (DeviceTicks place 1)) (Device_ticks place drawn route) (outside o ds) later before all ([], (drawn, route, [], refl, refl)) refl may after put

-- by hand
pub wake_runs : (o new : OuterState) (ds later : States) (node : ℕ) (before all : List Entry) → later ≡ set_by_hand ds (place_of node ds) Wakes
    → (route : Option Route) × MayActByHand o ds (place_of node ds) Wakes route × Enters (acts_by_hand o ds (place_of node ds) Wakes route) new before all
    → RunOf (IsWake node) (outside o ds) (outside new later) before all
unfolding outcome devices_after May
wake_runs o new ds later node before all after did =
    (Wakes_device node did.0 ∷ [], (did.0, refl), run_one (Wakes_device node did.0) (outside o ds) new later before all did.1 did.2 after)

pub wake_stops : (o : OuterState) (ds later : States) (node : ℕ) (before all : List Entry) → HasActedByHand o ds later (place_of node ds) Wakes → all ≡ before
    → Stops (PrefixOf (IsWake node)) (outside o ds) later before all
unfolding outcome devices_after May
wake_stops o ds later node before all (inl same) put = stops_now (PrefixOf (IsWake node)) (outside o ds) later before all (Wakes_device node None ∷ [], (None, refl)) same put
wake_stops o ds later node before all (inr (route, may, after)) put = stops_in (PrefixOf (IsWake node)) (Wakes_device node route) (outside o ds) later before all ([], (route, refl)) refl may after put

pub set_runs : (o new : OuterState) (ds later : States) (node value : ℕ) (before all : List Entry) → later ≡ set_by_hand ds (place_of node ds) (Sets value)
    → (route : Option Route) × MayActByHand o ds (place_of node ds) (Sets value) route × Enters (acts_by_hand o ds (place_of node ds) (Sets value) route) new before all
    → RunOf (IsSet node value) (outside o ds) (outside new later) before all
unfolding outcome devices_after May
set_runs o new ds later node value before all after did =
    (Sets_device node value did.0 ∷ [], (did.0, refl), run_one (Sets_device node value did.0) (outside o ds) new later before all did.1 did.2 after)

pub set_stops : (o : OuterState) (ds later : States) (node value : ℕ) (before all : List Entry) → HasActedByHand o ds later (place_of node ds) (Sets value) → all ≡ before
    → Stops (PrefixOf (IsSet node value)) (outside o ds) later before all
unfolding outcome devices_after May
set_stops o ds later node value before all (inl same) put =
    stops_now (PrefixOf (IsSet node value)) (outside o ds) later before all (Sets_device node value None ∷ [], (None, refl)) same put
set_stops o ds later node value before all (inr (route, may, after)) put =
    stops_in (PrefixOf (IsSet node value)) (Sets_device node value route) (outside o ds) later before all ([], (route, refl)) refl may after put
