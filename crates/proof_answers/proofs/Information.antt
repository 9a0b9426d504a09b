-- The information of a node that the chip is given is what the transcript says: its list where the node is joined, has a way and its device is awake, else that it did not come.
use Rattle.std.proofs.Common.{◌≡◌, ◌≢◌, ℕ, suc, ◌==◌, ◌&&◌, Bool, true, false, if◌then◌else◌, inl, inr, List, [], ◌∷◌, refl, sym, ap, ◌∙◌, subst, arith}
use Rattle.std.proofs.lemmas.Bool.{eqb-true}
use Rattle.std.specs.Prelude.{Option, Some, None, is_some, slice_get}
use Rattle.std.specs.Option.{option_map}
use Rattle.zw_base.specs.declared.profile.Profile.{Profile}
use Rattle.route_table.specs.declared.route.Route.{Route}
use Rattle.route_table.specs.Route.{via}
use Rattle.route_table.specs.Walk.{Walk}
use Rattle.serial_frame.specs.declared.unit.Unit.TheVariants.{Framed}
use Rattle.serial_frame.specs.Items.{unit_text}
use Rattle.chip_functions.specs.declared.notice.Notice.TheVariants.{ApplicationUpdate}
use Rattle.chip_functions.specs.declared.notice.Update.TheVariants.{Received}
use Rattle.chip_sim.specs.Answers.{notice_frame}
use Rattle.chip_sim.specs.Nodes.{is_marked}
use Rattle.chip_sim.specs.Events.{update_of}
use Rattle.device_sim.specs.State.{State}
use Rattle.mesh_sim.specs.Devices.{Kind}
use Rattle.mesh_sim.specs.Fates.{place_of}
use Rattle.mesh_sim.specs.Routes.{IsRoute}
use Rattle.zw_text.specs.declared.entry.Entry.{Entry}
use Rattle.law_transcript.specs.Devices.{ComingAt, brought}
use Rattle.law_transcript.specs.Nodes.{controller, device_of, is_joined, listed_by}
use Rattle.law_wire.specs.Arriving.{lived_through}
use Rattle.law_wire.specs.Given.{CanTell, IsAwakeAt, IsInformation, notice_text}
use Rattle.law_wire.specs.Networks.{air_network}
use Rattle.outside_model.specs.State.{Outside}
use Rattle.outside_model.specs.Results.{device_at, profile_for, profile_of, told_profile}
use Rattle.proof_devices.specs.proof_device.GoingOn.{AreSame}
use Rattle.proof_devices.proofs.DevicePlaces.{go_same}
use Rattle.proof_devices.specs.Living.{IsNow, Lived, Simply, Tie}
use Rattle.proof_devices.specs.proof_routes.Networks.{Tie as Networks}
use Rattle.proof_devices.proofs.Walks.{IsSame, air_same, same_turned, walk_same}
use Rattle.proof_devices.proofs.Places.{same_place}
use Rattle.proof_devices.proofs.Listening.{no_place}

-- ---- places

-- the first device of a node, and what it is now
record Stands (node : ℕ) (olds news : List State) (old : State) : Type 0 where
  place : ℕ
  first : place_of node olds ≡ Some place
  stood : slice_get olds place ≡ Some old
  own : old.node ≡ node
  new : State
  stands : slice_get news place ≡ Some new
  kind : new.kind ≡ old.kind

stands_for : (node : ℕ) (olds news : List State) (old : State) → AreSame olds news → device_of node olds ≡ Some old → Stands node olds news old
stands_for node [] news old same found = absurd cc
stands_for node (first ∷ olds) [] old same found = absurd same
stands_for node (first ∷ olds) (now ∷ news) old same found = by (first.node == node) refl (λ there. stands_for node olds news old same.1 there) found
  where
    by : (b : Bool) → (first.node == node) ≡ b → (device_of node olds ≡ Some old → Stands node olds news old) → (if b then Some first else device_of node olds) ≡ Some old → Stands node (first ∷ olds) (now ∷ news) old
    by true is later found =
        let one : first ≡ old = cc in
        record {
          place = 0;
          first = ap (λ (b : Bool). if b then Some 0 else option_map suc (place_of node olds)) is;
          stood = found;
          own = ap (λ (d : State). d.node) (sym one) ∙ eqb-true first.node node is;
          new = now;
          stands = refl;
          kind = same.0.kind ∙ ap (λ (d : State). d.kind) one;
        }
    by false is later found =
        let rest = later found in
        record {
          place = suc rest.place;
          first = ap (λ (b : Bool). if b then Some 0 else option_map suc (place_of node olds)) is ∙ ap (option_map suc) rest.first;
          stood = rest.stood;
          own = rest.own;
          new = rest.new;
          stands = rest.stands;
          kind = rest.kind;
        }

-- ---- what is told

module _ (devices : List State) (past : List Entry) (w : Outside) (node ticks : ℕ) (networks : Networks devices past w) (lives : ℕ → ℕ) (all : (place : ℕ) → lives place ≡ ticks) (tie : Tie Simply devices lives past w)
    (is_now : (count : ℕ) (came : List ComingAt) (old new : State) → Lived count came old new → IsNow (lived_through 0 count came old) new) where
  abbrev text : Option Profile → List ℕ
  text profile = unit_text (Framed (notice_frame (ApplicationUpdate (update_of node profile))))

  -- where it does not come
  absent : (told : Option Profile) → told ≡ None → (CanTell devices node ticks past → ⊥) → IsInformation devices node ticks past (text told)
  absent told none cannot = inr (cannot, ap text none)

  unjoined : is_joined past node ≡ false → CanTell devices node ticks past → ⊥
  unjoined out can = let no : true ≡ false = sym can.joined ∙ out in absurd cc

  within : is_joined past node ≡ true → node ≢ controller
  within joined is = let few = (networks.within node joined).0 in omega (arith, few, is)

  same_air : IsSame w.outer.air.network (air_network devices past)
  same_air = air_same devices past w networks

  places : place_of node w.devices ≡ place_of node devices
  places = same_place node devices w.devices (go_same devices w.devices tie.go)

  -- of a node that is joined and has a way
  module _ (joined : is_joined past node ≡ true) (way : List ℕ) (walks : Walk w.outer.air.network node way) where
    by_device : (found : Option State) → device_of node devices ≡ found → IsInformation devices node ticks past (text (told_profile (device_at w.devices (place_of node w.devices))))
    by_device None none =
        absent (told_profile (device_at w.devices (place_of node w.devices)))
        (ap (λ (place : Option ℕ). told_profile (device_at w.devices place)) (places ∙ no_place node devices none))
        (λ can. subst (λ (x : Option State). IsAwakeAt ticks past x) none can.awake)
    by_device (Some old) found = by (lived_through 0 ticks (brought old.node past) old).awake refl
      where
        stands : Stands node devices w.devices old
        stands = stands_for node devices w.devices old (go_same devices w.devices tie.go) found

        now : IsNow (lived_through 0 ticks (brought old.node past) old) stands.new
        now =
            subst (λ (n : ℕ). IsNow (lived_through 0 n (brought old.node past) old) stands.new) (all stands.place)
            (is_now (lives stands.place) (brought old.node past) old stands.new
            (tie.live stands.place old stands.new stands.stood (ap (λ (n : ℕ). place_of n devices) stands.own ∙ stands.first) (λ is. within joined (sym stands.own ∙ is)) stands.stands))

        told : told_profile (device_at w.devices (place_of node w.devices)) ≡ (if stands.new.awake then Some (profile_of old.kind) else None)
        told =
            ap (λ (place : Option ℕ). told_profile (device_at w.devices place)) (places ∙ stands.first)
            ∙ (ap told_profile stands.stands ∙ ap (λ (kind : Kind). if stands.new.awake then Some (profile_of kind) else None) stands.kind)

        by : (b : Bool) → (lived_through 0 ticks (brought old.node past) old).awake ≡ b → IsInformation devices node ticks past (text (told_profile (device_at w.devices (place_of node w.devices))))
        by true awake = inl (
          record {
            joined = joined;
            way = way;
            route = walk_same w.outer.air.network (air_network devices past) same_air node way walks;
            awake = subst (λ (x : Option State). IsAwakeAt ticks past x) (sym found) awake;
          },
          ap text (told ∙ ap (λ (b : Bool). if b then Some (profile_of old.kind) else None) (now.awake ∙ awake))
              ∙ ap (λ (x : Option State). notice_text (ApplicationUpdate (Received node 4 0 0 (listed_by x)))) (sym found),
        )
        by false asleep =
            absent (told_profile (device_at w.devices (place_of node w.devices))) (told ∙ ap (λ (b : Bool). if b then Some (profile_of old.kind) else None) (now.awake ∙ asleep))
            (λ can. let no : true ≡ false = sym (subst (λ (x : Option State). IsAwakeAt ticks past x) found can.awake) ∙ asleep in absurd cc)

  and_none : (a : Bool) → (a && false) ≡ false
  and_none true = refl
  and_none false = refl

  by_route : (route : Option Route) → IsRoute w.outer.air.network node route → (b : Bool) → is_joined past node ≡ b → IsInformation devices node ticks past (text (profile_for w.outer.air w.devices node route))
  by_route route is false out =
      absent (profile_for w.outer.air w.devices node route) (ap (λ (b : Bool). if b && is_some route then told_profile (device_at w.devices (place_of node w.devices)) else None) (networks.joined node ∙ out)) (unjoined out)
  by_route None is true joined =
      absent (profile_for w.outer.air w.devices node None)
      (ap (λ (b : Bool). if b then told_profile (device_at w.devices (place_of node w.devices)) else None) (and_none (is_marked w.outer.air.joined node)))
      (λ can. is (within joined) can.way (walk_same (air_network devices past) w.outer.air.network (same_turned w.outer.air.network (air_network devices past) same_air) node can.way can.route))
  by_route (Some route) is true joined =
      subst (λ (l : Option Profile). IsInformation devices node ticks past (text l))
      (sym (ap (λ (b : Bool). if b && true then told_profile (device_at w.devices (place_of node w.devices)) else None) (networks.joined node ∙ joined)))
      (by_device joined (via route) is.walk (device_of node devices) refl)

  pub informs_so : (route : Option Route) → IsRoute w.outer.air.network node route
      → IsInformation devices node ticks past (unit_text (Framed (notice_frame (ApplicationUpdate (update_of node (profile_for w.outer.air w.devices node route))))))
  informs_so route is = by_route route is (is_joined past node) refl
