-- Calls of the host whose output is then routed.
use Rattle.std.proofs.Common.{◌≡◌, ℕ, List, [], ◌∷◌, map, refl, subst}
use Rattle.std.specs.Prelude.{Option, Result, Ok, Err, OnOk, OnErr}
use Rattle.serial_frame.specs.Stream.{after_tick}
use Rattle.s0_crypto.specs.declared.key_pair.Keys.{Keys}
use Rattle.device_sim.specs.State.{State}
use Rattle.zw_text.specs.declared.entry.Entry.{Entry}
use Rattle.host_model.specs.State.{HostState, HostParts}
use Rattle.host_model.specs.Events.{HostEvent}
use Rattle.host_keep.specs.Keeping.{Shelf}
use Rattle.host_model.specs.Did.{Did}
use Rattle.host_model.specs.Pumping.{Pumps}
use Rattle.host_model.specs.Ticking.{tick_events}
use Rattle.host_model.specs.declared.out.HostOut.{HostOut}
use Rattle.host_core.specs.Calls.{Are, scene, shelf_of}
use Rattle.host_core.specs.Calls as calls
use Rattle.outside_model.specs.State.{OuterState}
use Rattle.outside_model.specs.Did.{Goes}
use Rattle.world_model.specs.State.{routed}
use Rattle.world_model.specs.Events.{Host_does, Decoder_ticks}
use Rattle.world_model.specs.Did.{Does, Nothing, Stops}
use Rattle.world_model.specs.Settling.{IsPump}
use Rattle.world_model.specs.Ticking.{IsHostTick}
use Rattle.world_model.proofs.EventLists.{ran_both}
use Rattle.host_model.proofs.Silence.{pump_silent, tick_silent}
use Rattle.world_step.specs.Scene.{scene_of}
use Rattle.world_step.proofs.Scenes.{ran_hosted, ran_decoder, stopped_hosted}

-- a call of the host was done in part
pub host_stops : {T E : Type 0} (answer : Result T E) (host host' : HostParts) (state : HostState) (o o' : OuterState) (r r' : Option (List (List ℕ))) (put puts : List HostOut) (before : List Entry) (f g : ℕ)
    → calls.Stops (scene host.state put (shelf_of r f)) (scene state puts (shelf_of r' g))
    → OnErr answer ((keys : Keys) (ds : List State) → Stops Nothing (scene_of keys host o ds (shelf_of r f) before) (scene_of keys host' o' ds (shelf_of r' g) before))
host_stops (Ok value) host host' state o o' r r' put puts before f g stops = tt
host_stops (Err fault) host host' state o o' r r' put puts before f g stops =
    λ keys ds. stopped_hosted stops.events keys keys host host' o o' ds r r' state put puts before before f g stops.did refl

-- it was done, and not routed
pub route_stops : {T E : Type 0} (Kind : List HostEvent → Type 0) (answer : Result T E) (host host' : HostParts) (state : HostState) (o o' : OuterState) (r r' : Option (List (List ℕ))) (put puts : List HostOut) (before all : List Entry) (f g : ℕ)
    → calls.Does Kind (scene host.state put (shelf_of r f)) (scene state puts (shelf_of r' g)) → OnErr answer (all ≡ before)
    → OnErr answer ((keys : Keys) (ds : List State) → Stops Nothing (scene_of keys host o ds (shelf_of r f) before) (scene_of keys host' o' ds (shelf_of r' g) all))
route_stops Kind (Ok value) host host' state o o' r r' put puts before all f g does same = tt
route_stops Kind (Err fault) host host' state o o' r r' put puts before all f g does same =
    λ keys ds. stopped_hosted does.events keys keys host host' o o' ds r r' state put puts before all f g does.did same

-- the host pumped
pub pumped : {T E : Type 0} (answer : Result T E) (host host' : HostParts) (o o' : OuterState) (r r' : Option (List (List ℕ))) (put puts : List HostOut) (before all : List Entry) (f g : ℕ)
    → put ≡ [] → calls.Does (Pumps host.state) (scene host.state put (shelf_of r f)) (scene host'.state puts (shelf_of r' g)) → host'.decoder ≡ host.decoder
    → OnOk answer (Goes (routed puts) o o' before all)
    → OnOk answer ((keys : Keys) (ds : List State) → Does IsPump (scene_of keys host o ds (shelf_of r f) before) (scene_of keys host' o' ds (shelf_of r' g) all))
pumped (Err fault) host host' o o' r r' put puts before all f g none does decoder goes = tt
pumped (Ok value) host host' o o' r r' put puts before all f g none does decoder goes = λ keys ds. (
  map Host_does does.events,
  (does.events, does.are, refl),
  ran_hosted does.events keys host host' o o' ds r r' put puts before all f g (pump_silent host.state does.events does.are) none does.did decoder goes,
)

-- the host ticked
pub ticked : (keys : Keys) (host host' : HostParts) (o o' : OuterState) (r r' : Option (List (List ℕ))) (put puts : List HostOut) (before all : List Entry) (f g : ℕ) (ds : List State)
    → put ≡ [] → calls.Does (Are (tick_events host.state)) (scene host.state put (shelf_of r f)) (scene host'.state puts (shelf_of r' g)) → host'.decoder ≡ after_tick host.decoder
    → Goes (routed puts) o o' before all
    → Does IsHostTick (scene_of keys host o ds (shelf_of r f) before) (scene_of keys host' o' ds (shelf_of r' g) all)
ticked keys host host' o o' r r' put puts before all f g ds none does decoder goes =
    let es : List HostEvent = tick_events host.state in
    let shelf : Shelf = record { records = r; faults = f } in
    let shelf' : Shelf = record { records = r'; faults = g } in
    let did : Did es host.state host'.state put puts shelf shelf' = subst (λ (l : List HostEvent). Did l host.state host'.state put puts shelf shelf') does.are does.did in
    let on : HostParts = record { decoder = after_tick host.decoder; state = host.state } in (
      Decoder_ticks ∷ map Host_does es,
      refl,
      ran_both (Decoder_ticks ∷ []) (map Host_does es) (scene_of keys host o ds (shelf_of r f) before) (scene_of keys on o ds (shelf_of r f) before) (scene_of keys host' o' ds (shelf_of r' g) all)
          (ran_decoder keys host o ds r before f)
          (ran_hosted es keys on host' o o' ds r r' put puts before all f g (tick_silent host.state) none did decoder goes),
    )
