-- What devices send goes home over the route of the air, and the air keeps its network and its nodes, whatever is heard.
use Rattle.std.proofs.Common.{◌≡◌, ℕ, zero, suc, ◌+◌, ◌-◌, Bool, true, false, List, [], ◌∷◌, ◌++◌, length, slice_get, refl, sym, ap, subst, ◌∙◌, append-nil}
use Rattle.std.specs.Prelude.{Option, Some, None}
use Rattle.std.specs.Option.{option_map, unwrap_or}
use Rattle.std.specs.List.{AllByRecursion}
use Rattle.zw_base.proofs.Each.{all-append}
use Rattle.route_table.specs.Network.{Network}
use Rattle.route_table.specs.declared.route.Route.{Route}
use Rattle.air_frames.specs.Flown.{Flown}
use Rattle.air_frames.specs.Frames.{next_of, remembered}
use Rattle.air_frames.specs.declared.frame.Heading.{Heading}
use Rattle.air_frames.specs.declared.frame.Heading.TheVariants.{Outward, Homeward}
use Rattle.chip_sim.specs.Nodes.{is_marked}
use Rattle.device_sim.specs.State.{State}
use Rattle.device_sim.specs.Event.{DeviceEvent, Hears, device_after, device_replies}
use Rattle.mesh_sim.specs.declared.event.AirEvent.{AirEvent}
use Rattle.mesh_sim.specs.declared.event.AirEvent.TheVariants as air_event
use Rattle.mesh_sim.specs.declared.fate.Fate.{Fate}
use Rattle.mesh_sim.specs.declared.fate.Fate.TheVariants as fate
use Rattle.mesh_sim.specs.Air.{AirState, is_joined, no_route, departing}
use Rattle.mesh_sim.specs.Routes.{IsRoute, backwards}
use Rattle.mesh_sim.specs.Fates.{Mesh, fate_of, listener_of}
use Rattle.mesh_sim.specs.Steps.{AirStep, MayHappen, MayArrive, MayArriveIf, MayRepeat, MayRepeatBy, MayHearAgain, mesh_after, mesh_outs, changed, answered, answers, answered_if, answers_if, landed, acknowledged, status_of, done_of, outs_at, heard_at, heard_again, outs_again, arriving, arriving_as, arrival_outs, arrival_outs_as, repeating, repeating_by, repeat_outs, repeat_outs_by}
use Rattle.mesh_sim.specs.Steps as mesh
use Rattle.law_wire.specs.Routes.{GoesHome}
use Rattle.outside_model.specs.Chip.{shown_via}
use Rattle.outside_model.specs.Devices.{HasWay}
use Rattle.proof_walk.specs.Outside.{IsHearing}
use Rattle.proof_routes.specs.Knowing.{ComesHome}
use Rattle.proof_routes.proofs.Walks.{way_home}

-- ---- what becomes of the air

pub record IsSameAir (old new : AirState) : Type 0 where
  pub network : new.network ≡ old.network
  pub joined : new.joined ≡ old.joined

same_air : (air : AirState) → IsSameAir air air
same_air air = record { network = refl; joined = refl }

air_then : (a b c : AirState) → IsSameAir a b → IsSameAir b c → IsSameAir a c
air_then a b c first later = record { network = later.network ∙ first.network; joined = later.joined ∙ first.joined }

answered_air : (air : AirState) (node : ℕ) (way : Option Route) (replies : List (List ℕ)) → IsSameAir air (answered air node way replies)
answered_air air node way [] = same_air air
answered_air air node way (reply ∷ replies) =
    air_then air (departing air node Homeward way reply) (answered (departing air node Homeward way reply) node way replies) (record { network = refl; joined = refl })
    (answered_air (departing air node Homeward way reply) node way replies)

pub answered_if_air : (joined : Bool) (air : AirState) (node : ℕ) (way : Option Route) (replies : List (List ℕ)) → IsSameAir air (answered_if joined air node way replies)
answered_if_air true air node way replies = answered_air air node way replies
answered_if_air false air node way replies = same_air air

-- ---- what is told

-- frames go home by this network, from one of these nodes
abbrev pub AllHome : Network → List Bool → List AirEvent → Type 0
AllHome net joined events = AllByRecursion (ComesHome net joined) events

-- the node is not the controller
abbrev pub NotHome : List Bool → Type 0
NotHome joined = is_marked joined 1 ≡ false

pub apart_of : (joined : List Bool) (node : ℕ) → NotHome joined → is_marked joined node ≡ true → node ≡ 1 → ⊥
apart_of joined node home is same = let both : false ≡ true = sym home ∙ (ap (λ (n : ℕ). is_marked joined n) (sym same) ∙ is) in cc

module _ (net : Network) (marks : List Bool) where
  answers_home : (air : AirState) (node : ℕ) (way : Option Route) (replies : List (List ℕ)) → is_marked marks node ≡ true → GoesHome net node (shown_via (unwrap_or way no_route))
      → AllHome net marks (answers air node way replies)
  answers_home air node way [] joined home = tt
  answers_home air node way (reply ∷ replies) joined home = ((joined, home), answers_home (departing air node Homeward way reply) node way replies joined home)

  -- over the route to the node walked backwards, where the node is joined
  pub answers_if_home : (b : Bool) (air : AirState) (node : ℕ) (route : Option Route) (replies : List (List ℕ)) → is_marked marks node ≡ b → NotHome marks → HasWay net node replies route
      → AllHome net marks (answers_if b air node (option_map backwards route) replies)
  answers_if_home true air node route [] is home way = tt
  answers_if_home true air node route (reply ∷ replies) is home way =
      answers_home air node (option_map backwards route) (reply ∷ replies) is (way_home net node route (apart_of marks node home is) way)
  answers_if_home false air node route replies is home way = tt

  changed_home : (node first count : ℕ) → AllHome net marks (changed node first count)
  changed_home node first zero = tt
  changed_home node first (suc count) = (tt, changed_home node (first + 1) count)

pub has_way : (net : Network) (node : ℕ) (replies : List (List ℕ)) (route : Option Route) → IsRoute net node route → HasWay net node replies route
has_way net node [] route way = tt
has_way net node (reply ∷ replies) route way = way

-- ---- a frame is heard

-- the air keeps its network and its nodes, and what is told goes home by them
pub record Hears_so (old new : AirState) (events : List AirEvent) : Type 0 where
  pub air : IsSameAir old new
  pub homes : NotHome old.joined → AllHome old.network old.joined events

done_home : (net : Network) (marks : List Bool) (heading : Heading) (number status : ℕ) (dead : Option (ℕ × ℕ)) → AllHome net marks (done_of heading number status dead)
done_home net marks Outward number status dead = (tt, tt)
done_home net marks Homeward number status dead = tt

at_place : (base : Mesh) (place number node : ℕ) (found : Option State) (route : Option Route) (event : DeviceEvent) (end : List AirEvent) → IsRoute base.air.network node route
    → ((net : Network) (marks : List Bool) → AllHome net marks end) → Hears_so base.air (heard_at base place found node route event).air (outs_at base found number node route event ++ end)
at_place base place number node None route event end way ends = record { air = same_air base.air; homes = λ home. ends base.air.network base.air.joined }
at_place base place number node (Some device) route event end way ends =
    let air : AirState = base.air in
    let told : List AirEvent = changed node (length device.journal) (length (device_after device event).journal - length device.journal) in
    let replies : List AirEvent = answers_if (is_joined air node) air node (option_map backwards route) (device_replies device event) in
    record {
      air = answered_if_air (is_joined air node) air node (option_map backwards route) (device_replies device event);
      homes = λ home.
          all-append (ComesHome air.network air.joined) (air_event.Heard number ∷ told ++ replies) end (
            tt,
            all-append (ComesHome air.network air.joined) told replies (changed_home air.network air.joined node (length device.journal) (length (device_after device event).journal - length device.journal))
                (answers_if_home air.network air.joined (is_joined air node) air node route (device_replies device event) refl home (has_way air.network node (device_replies device event) route way)),
          )
          (ends air.network air.joined);
    }

-- only the frame lands
only_lands : (air : AirState) (events : List AirEvent) → ((net : Network) (marks : List Bool) → AllHome net marks events) → Hears_so air (landed air) events
only_lands air events homes = record { air = record { network = refl; joined = refl }; homes = λ home. homes air.network air.joined }

arrives_as : (m : Mesh) (frame : Flown) (x : Fate) (drawn : List ℕ) (route : Option Route) → MayArrive m frame x route
    → Hears_so m.air (arriving_as m frame x drawn route).air (arrival_outs_as m (m.air.frames.landed + 1) frame x drawn route)
arrives_as m frame fate.Lost drawn route may = only_lands m.air _ (λ net marks. (tt, done_home net marks frame.heading (m.air.frames.landed + 1) 1 None))
arrives_as m frame (fate.Dead from to) drawn route may = only_lands m.air _ (λ net marks. (tt, done_home net marks frame.heading (m.air.frames.landed + 1) 1 (Some (from, to))))
arrives_as m frame fate.Missed drawn route may = only_lands m.air _ (λ net marks. (tt, done_home net marks frame.heading (m.air.frames.landed + 1) 1 None))
arrives_as m frame fate.AtChip drawn route may = only_lands m.air _ (λ net marks. (tt, (tt, tt)))
arrives_as m frame (fate.AtDevice place) drawn route may =
    let base : Mesh = record { air = landed (acknowledged m.air); devices = m.devices } in
    let got = at_place base place (m.air.frames.landed + 1) frame.node (slice_get m.devices place) route (Hears frame.payload drawn)
    (air_event.Done (m.air.frames.landed + 1) (status_of m.air) None ∷ []) may (λ net marks. (tt, tt)) in
    record { air = record { network = got.air.network; joined = got.air.joined }; homes = got.homes }

arrives_if : (m : Mesh) (found : Option Flown) (drawn : List ℕ) (route : Option Route) → MayArriveIf m found route → Hears_so m.air (arriving m found drawn route).air (arrival_outs m found drawn route)
arrives_if m None drawn route may = absurd may
arrives_if m (Some frame) drawn route may = arrives_as m frame (fate_of m.air.network m.devices frame) drawn route may

again_place : (m : Mesh) (place : Option ℕ) (number node : ℕ) (route : Option Route) (event : DeviceEvent) → MayHearAgain m.air node place route
    → Hears_so m.air (heard_again m place node route event).air (outs_again m place number node route event)
again_place m None number node route event may = record { air = same_air m.air; homes = λ home. tt }
again_place m (Some place) number node route event may =
    subst (λ (l : List AirEvent). Hears_so m.air (heard_at m place (slice_get m.devices place) node route event).air l)
    (append-nil (outs_at m (slice_get m.devices place) number node route event))
    (at_place m place number node (slice_get m.devices place) route event [] may (λ net marks. tt))

again_by : (m : Mesh) (heading : Heading) (number : ℕ) (frame : Flown) (drawn : List ℕ) (route : Option Route) → MayRepeatBy heading m frame route
    → Hears_so m.air (repeating_by heading m frame drawn route).air (repeat_outs_by heading m number frame drawn route)
again_by m Homeward number frame drawn route may = record { air = same_air m.air; homes = λ home. (tt, (tt, tt)) }
again_by m Outward number frame drawn route may = again_place m (listener_of frame.node m.devices) number frame.node route (Hears frame.payload drawn) may

again_if : (m : Mesh) (number : ℕ) (found : Option Flown) (drawn : List ℕ) (route : Option Route) → MayRepeat m found route
    → Hears_so m.air (repeating m found drawn route).air (repeat_outs m number found drawn route)
again_if m number None drawn route may = absurd may
again_if m number (Some frame) drawn route may = again_by m frame.heading number frame drawn route may

pub step_hears : (m : Mesh) (step : AirStep) → IsHearing step → MayHappen m step → Hears_so m.air (mesh_after m step).air (mesh_outs m step)
unfolding mesh_after mesh_outs MayHappen
step_hears m (mesh.Arrives drawn route) hearing may = arrives_if m (next_of m.air.frames) drawn route may.0
step_hears m (mesh.Repeats number drawn route) hearing may = again_if m number (remembered m.air.frames number) drawn route may.1
step_hears m step hearing may = absurd hearing
