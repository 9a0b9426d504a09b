-- The count of the frames for the host goes on where the next frame on the air arrives, and where a frame is heard again.
use Rattle.std.proofs.Common.{◌≡◌, ℕ, suc, ◌+◌, Bool, true, false, if◌then◌else◌, List, [], ◌∷◌, ◌++◌, refl, sym, ap, ◌∙◌, subst, append-nil}
use Rattle.std.specs.Prelude.{Option, Some, None, option_map}
use Rattle.serial_link.specs.Rules.{Step}
use Rattle.route_table.specs.declared.route.Route.{Route}
use Rattle.device_sim.specs.Event.{DeviceEvent, Hears, device_replies}
use Rattle.air_frames.specs.declared.ages.Refusal.{Refusal as RepeatRefusal}
use Rattle.air_frames.specs.declared.ages.Refusal.TheVariants.{NeverSent, Forgotten, Stale}
use Rattle.air_frames.specs.declared.frame.Heading.{Heading}
use Rattle.air_frames.specs.declared.frame.Heading.TheVariants.{Outward, Homeward}
use Rattle.air_frames.specs.Flown.{Flown}
use Rattle.air_frames.specs.Frames.{FramesState, landing}
use Rattle.mesh_sim.specs.declared.event.AirEvent.{AirEvent}
use Rattle.mesh_sim.specs.declared.event.AirEvent.TheVariants as tells
use Rattle.mesh_sim.specs.Air.{AirState}
use Rattle.mesh_sim.specs.Fates.{Mesh}
use Rattle.mesh_sim.specs.Routes.{backwards}
use Rattle.mesh_sim.specs.Steps.{acknowledged, heard_at, landed, mesh_after, mesh_outs, outs_at, status_of}
use Rattle.mesh_sim.specs.Steps as mesh
use Rattle.zw_text.specs.declared.entry.Entry.{Entry}
use Rattle.zw_text.specs.declared.entry.Entry.TheVariants as entry
use Rattle.law_transcript.specs.Restarts.{repeats as answers_repeat}
use Rattle.law_wire.specs.Given.{handlers_at}
use Rattle.outside_model.specs.Devices.{State}
use Rattle.outside_model.specs.State.{OuterState, Outside, each}
use Rattle.outside_model.specs.Air.{deals}
use Rattle.outside_model.specs.Events.{Arrives, mesh_of, repeats, steps, happens as happens_outside}
use Rattle.proof_air.specs.proof_walk.Outside.{nothing}
use Rattle.proof_air.specs.Logs.{Tie}
use Rattle.proof_line.specs.proof_traffic.Flights.{Fly}
use Rattle.proof_line.specs.proof_traffic.OnAir.{on_air}
use Rattle.proof_line.proofs.Arrivals.{NoNexting}
use Rattle.proof_line.proofs.ChipAccounts.{all_account, repeat_steps, steps_account, steps_by}
use Rattle.proof_line.proofs.Flights.{flights_are}
use Rattle.proof_line.proofs.Parts.{Laws}
use Rattle.proof_chip.specs.Calling.{Waits}
use Rattle.proof_chip.specs.Tally.{Outlook, TallyBefore, TallyNow, TallySo, number_of, numbers_from, outlook}
use Rattle.proof_chip.proofs.Arriving.{again_device_t, heard_brings, lost_brings, lost_brings_none, lost_home_t, own_arrives_t, plain_rests, unheard_brings, unheard_brings_none}
use Rattle.proof_chip.proofs.Hearing.{hears_again_t, hears_home_t}
use Rattle.proof_chip.proofs.Resting.{stays_looks}
use Rattle.proof_chip.proofs.Steady.{answers_stay}
use Rattle.proof_chip.proofs.Asides.{AreUnrelated}
use Rattle.proof_chip.proofs.Tallied.{apart_t, none_so, now_stays}
use Rattle.proof_chip.proofs.Incoming.{EachAgain, EachCase, HasLanded, IsNext, SameFrames, done_by, done_plain, it_falls, it_flies, it_is_next, it_repeats, landed_mesh}

-- ---- the next frame arrives

module _ (devices : List State) (laws : Laws) (past : List Entry) (w : Outside) (tie : Tie nothing past w) (waits : Waits w.outer) (flight : Flown) (flights : List Flown) (left : ℕ) (did : List Step) (here : List Entry)
    (on : on_air w.outer.air.frames ≡ flight ∷ flights) (same : SameFrames here past) (apart : answers_repeat here ≡ false)
    (so : TallySo (TallyBefore devices (outlook w.outer) true (suc left) false 0) did here w.outer.chip.state.port) where
  abbrev v : Outlook
  v = outlook w.outer

  abbrev its_number : ℕ
  its_number = w.outer.air.frames.landed + 1

  abbrev numbers : List ℕ
  numbers = numbers_from (its_number + 1) flights

  it : IsNext devices w.outer flight flights left here
  it = it_is_next laws past w tie flight flights on devices waits left did here same so

  abbrev with_air : AirState → OuterState
  with_air air = record w.outer { air = air }

  -- what is so after what is told
  abbrev Ends : Mesh → List AirEvent → Type 0
  Ends m events =
      TallySo (TallyBefore devices (outlook (each (deals m.devices) (with_air m.air) events).outer) true left false 0) (did ++ steps_by (all_account m.devices events (with_air m.air)))
      (here ++ (each (deals m.devices) (with_air m.air) events).entries) (each (deals m.devices) (with_air m.air) events).outer.chip.state.port

  -- ---- a frame of a device

  home_looks : (air : AirState) → air.frames ≡ landing w.outer.air.frames → flight.heading ≡ Homeward → outlook (with_air air) ≡ v
  unfolding landing
  home_looks air is heads =
      let lands : Fly tie.log flights (landing w.outer.air.frames) = laws.air.lands tie.log flight flights w.outer.air.frames (it_flies laws past w tie flight flights on) in
      let are : flights ≡ on_air (landing w.outer.air.frames) = flights_are tie.log flights (landing w.outer.air.frames) lands in
      stays_looks w.outer (with_air air) (record {
        calls = refl;
        due = refl;
        numbers =
            ap (λ (fs : FramesState). numbers_from (fs.landed + 1) (on_air fs)) is
            ∙ (ap (λ (fs : List Flown). numbers_from (w.outer.air.frames.landed + 1 + 1) fs) (sym are)
            ∙ sym (ap (λ (fs : List Flown). numbers_from (w.outer.air.frames.landed + 1) fs) on ∙ ap (λ (h : Heading). number_of h its_number ++ numbers_from (its_number + 1) flights) heads));
      }) refl refl

  home_lost : (m : Mesh) → m.air.frames ≡ landing w.outer.air.frames → flight.heading ≡ Homeward → Ends m (tells.Lost its_number ∷ [])
  home_lost m is heads =
      subst (λ (u : Outlook). TallySo (TallyBefore devices u true left false 0) (did ++ []) (here ++ entry.Lost its_number ∷ []) w.outer.chip.state.port) (sym (home_looks m.air is heads))
      (subst (λ (l : List Step). TallySo (TallyBefore devices v true left false 0) l (here ++ entry.Lost its_number ∷ []) w.outer.chip.state.port) (sym (append-nil did))
      (lost_home_t devices v did here left its_number (entry.Lost its_number) w.outer.chip.state.port tt refl (lost_brings_none here its_number (it.not_outward heads)) so))

  home_unheard : (m : Mesh) → m.air.frames ≡ landing w.outer.air.frames → flight.heading ≡ Homeward → Ends m (tells.Unheard its_number ∷ [])
  home_unheard m is heads =
      subst (λ (u : Outlook). TallySo (TallyBefore devices u true left false 0) (did ++ []) (here ++ entry.Unheard its_number ∷ []) w.outer.chip.state.port) (sym (home_looks m.air is heads))
      (subst (λ (l : List Step). TallySo (TallyBefore devices v true left false 0) l (here ++ entry.Unheard its_number ∷ []) w.outer.chip.state.port) (sym (append-nil did))
      (lost_home_t devices v did here left its_number (entry.Unheard its_number) w.outer.chip.state.port tt refl (unheard_brings_none here its_number (it.not_outward heads)) so))

  home_heard : (m : Mesh) → m.air.frames ≡ landing w.outer.air.frames → flight.heading ≡ Homeward → Ends m (tells.Heard its_number ∷ tells.ToChip its_number flight.node flight.payload ∷ [])
  home_heard m is heads =
      hears_home_t devices m.devices (with_air m.air) left did here its_number flight.node flight.payload apart (it.not_outward heads) (it.home heads)
      (subst (λ (u : Outlook). TallySo (TallyBefore devices u true (suc left) false 0) did here w.outer.chip.state.port) (sym (home_looks m.air is heads)) so)

  -- ---- a frame of the controller

  own_lost : (m : Mesh) → HasLanded w.outer flights m.air → (dead : Option (ℕ × ℕ)) → flight.heading ≡ Outward → Ends m (tells.Lost its_number ∷ tells.Done its_number 1 dead ∷ [])
  own_lost m at dead heads =
      own_arrives_t devices v left its_number numbers m.devices (with_air m.air) (entry.Lost its_number) tt [] tt 1 dead (it.sees m.air at heads) it.above did here refl (lost_brings here its_number (it.is_own heads)) so

  own_unheard : (m : Mesh) → HasLanded w.outer flights m.air → (dead : Option (ℕ × ℕ)) → flight.heading ≡ Outward → Ends m (tells.Unheard its_number ∷ tells.Done its_number 1 dead ∷ [])
  own_unheard m at dead heads =
      own_arrives_t devices v left its_number numbers m.devices (with_air m.air) (entry.Unheard its_number) tt [] tt 1 dead (it.sees m.air at heads) it.above did here refl (unheard_brings here its_number (it.is_own heads)) so

  -- a device hears it
  own_heard : (place : ℕ) (device : State) (drawn : List ℕ) (route : Option Route) → HasLanded w.outer flights (heard_at (landed_mesh w) place (Some device) flight.node route (Hears flight.payload drawn)).air
      → flight.heading ≡ Outward
      → Ends (heard_at (landed_mesh w) place (Some device) flight.node route (Hears flight.payload drawn))
      (outs_at (landed_mesh w) (Some device) its_number flight.node route (Hears flight.payload drawn) ++ tells.Done its_number (status_of w.outer.air) None ∷ [])
  own_heard place device drawn route at heads =
      let event : DeviceEvent = Hears flight.payload drawn in
      let m : Mesh = heard_at (landed_mesh w) place (Some device) flight.node route event in
      own_arrives_t devices v left its_number numbers m.devices (with_air m.air) (entry.Heard its_number) tt (done_by (landed (acknowledged w.outer.air)) flight.node route device event)
      (done_plain (landed (acknowledged w.outer.air)) flight.node route device event tie.home)
      (status_of w.outer.air) None (it.sees m.air at heads) it.above did here (ap (λ (b : Bool). if b then [] else its_number ∷ []) apart) (heard_brings here its_number apart (it.is_own heads) (it.unhandled heads)) so

  each_case : EachCase w flight flights Ends
  each_case = record { home_lost = home_lost; home_unheard = home_unheard; home_heard = home_heard; own_lost = own_lost; own_unheard = own_unheard; own_heard = own_heard }

  -- all of it
  pub arrives_tally : (drawn : List ℕ) (route : Option Route) → (happens_outside w (Arrives drawn route)).outer.air.frames.landed ≡ w.outer.air.frames.landed + 1
      → TallySo (TallyBefore devices (outlook (steps w (mesh.Arrives drawn route)).outer) true left false 0) (did ++ steps_by (steps_account w (mesh.Arrives drawn route)))
      (here ++ (steps w (mesh.Arrives drawn route)).entries) (steps w (mesh.Arrives drawn route)).outer.chip.state.port
  unfolding mesh_after mesh_outs steps_account
  arrives_tally drawn route lands = it_falls w flight flights Ends each_case laws past tie on drawn route lands

-- ---- a frame is heard again

pub refusal_apart : (w : Outside) (refused : RepeatRefusal) (step : mesh.AirStep) → AreUnrelated (repeats w (Some refused) step).entries
refusal_apart w NeverSent step = ((tt, (tt, tt)), tt)
refusal_apart w Forgotten step = ((tt, (tt, tt)), tt)
refusal_apart w (Stale later) step = ((tt, (tt, tt)), tt)

module _ (devices : List State) (laws : Laws) (none : NoNexting) (past : List Entry) (w : Outside) (tie : Tie nothing past w) (did : List Step) (again : answers_repeat past ≡ true)
    (so : TallySo (TallyNow devices (outlook w.outer) false 0) did past w.outer.chip.state.port) where
  abbrev look : Outlook
  look = outlook w.outer

  abbrev so_with : AirState → OuterState
  so_with air = record w.outer { air = air }

  abbrev Goes_on : Mesh → List AirEvent → Type 0
  Goes_on m events =
      TallySo (TallyNow devices (outlook (each (deals m.devices) (so_with m.air) events).outer) false 0) (did ++ steps_by (all_account m.devices events (so_with m.air)))
      (past ++ (each (deals m.devices) (so_with m.air) events).entries) (each (deals m.devices) (so_with m.air) events).outer.chip.state.port

  by_device : (number place node : ℕ) (payload : List ℕ) (device : State) (drawn : List ℕ) (route : Option Route) → handlers_at past (entry.Heard number) ≡ []
      → Goes_on (heard_at (mesh_of w) place (Some device) node route (Hears payload drawn)) (outs_at (mesh_of w) (Some device) number node route (Hears payload drawn))
  by_device number place node payload device drawn route unhandled =
      let event : DeviceEvent = Hears payload drawn in
      let m : Mesh = heard_at (mesh_of w) place (Some device) node route event in
      let plain_told : List AirEvent = done_by w.outer.air node route device event in
      let are = done_plain w.outer.air node route device event tie.home in
      let stays = answers_stay laws none past w tie node (option_map backwards route) (device_replies device event) in
      let looks : outlook (each (deals m.devices) (so_with m.air) plain_told).outer ≡ look =
      ap outlook (plain_rests m.devices (so_with m.air) plain_told are)
      ∙ stays_looks w.outer (so_with m.air) (record { calls = refl; due = refl; numbers = stays.numbers }) refl refl in
      subst (λ (u : Outlook). TallySo (TallyNow devices u false 0) (did ++ steps_by (all_account m.devices (tells.Heard number ∷ plain_told) (so_with m.air)))
      (past ++ (each (deals m.devices) (so_with m.air) (tells.Heard number ∷ plain_told)).entries) (each (deals m.devices) (so_with m.air) (tells.Heard number ∷ plain_told)).outer.chip.state.port) (sym looks)
      (again_device_t devices look did past m.devices (so_with m.air) number plain_told are again unhandled so)

  each_again : EachAgain past w Goes_on
  each_again = record {
    by_none = none_so devices (TallyNow devices look false 0) did past w.outer.chip.state.port so;
    by_device = by_device;
    by_chip = λ number node payload home. hears_again_t devices w.devices (so_with w.outer.air) did past number node payload again home so;
  }

  steps_again : (number : ℕ) (drawn : List ℕ) (route : Option Route)
      → TallySo (TallyNow devices (outlook (steps w (mesh.Repeats number drawn route)).outer) false 0) (did ++ steps_by (steps_account w (mesh.Repeats number drawn route)))
      (past ++ (steps w (mesh.Repeats number drawn route)).entries) (steps w (mesh.Repeats number drawn route)).outer.chip.state.port
  unfolding mesh_after mesh_outs steps_account
  steps_again number drawn route = it_repeats past w tie Goes_on each_again number drawn route

  pub repeats_tally : (refused : Option RepeatRefusal) (number : ℕ) (drawn : List ℕ) (route : Option Route)
      → TallySo (TallyNow devices (outlook (repeats w refused (mesh.Repeats number drawn route)).outer) false 0) (did ++ repeat_steps w refused (mesh.Repeats number drawn route))
      (past ++ (repeats w refused (mesh.Repeats number drawn route)).entries) (repeats w refused (mesh.Repeats number drawn route)).outer.chip.state.port
  repeats_tally None number drawn route = steps_again number drawn route
  repeats_tally (Some refused) number drawn route =
      let told : List Entry = (repeats w (Some refused) (mesh.Repeats number drawn route)).entries in
      subst (λ (l : List Step). TallySo (TallyNow devices look false 0) l (past ++ told) w.outer.chip.state.port) (sym (append-nil did))
      (apart_t devices false (TallyNow devices look false 0) (now_stays devices look false 0) did past told w.outer.chip.state.port w.outer.chip.state.port (λ is. absurd (let no : false ≡ true = is in cc))
      (refusal_apart w refused (mesh.Repeats number drawn route)) refl refl so)
