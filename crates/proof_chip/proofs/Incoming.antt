-- The next frame on the air: whose it is by the transcript, and what may become of it, case by case; and so of one that is heard again.
use Rattle.std.proofs.Common.{◌≡◌, ◌≢◌, ◌<◌, ◌≤◌, ℕ, zero, suc, ◌+◌, ◌-◌, ◌==◌, ◌&&◌, ◌||◌, nat_le, Bool, true, false, if◌then◌else◌, List, [], ◌∷◌, ◌++◌, length, refl, sym, ap, ◌∙◌, subst, ne_eqb, arith}
use Rattle.std.specs.Prelude.{Option, Some, None, option_map, slice_get}
use Rattle.std.specs.List.{AllByRecursion, flat_map}
use Rattle.zw_base.proofs.Each.{all-append, all-weaker}
use Rattle.serial_link.specs.Rules.{Step}
use Rattle.route_table.specs.declared.route.Route.{Route}
use Rattle.device_sim.specs.Event.{DeviceEvent, Hears, device_after, device_replies}
use Rattle.air_frames.specs.declared.frame.Departure.{Departure}
use Rattle.air_frames.specs.declared.frame.Heading.{Heading}
use Rattle.air_frames.specs.declared.frame.Heading.TheVariants.{Outward, Homeward}
use Rattle.air_frames.specs.Flown.{Flown}
use Rattle.air_frames.specs.Frames.{FramesState, landing, next_of, remembered}
use Rattle.air_frames.specs.History.{stamped}
use Rattle.mesh_sim.specs.declared.event.AirEvent.{AirEvent}
use Rattle.mesh_sim.specs.declared.event.AirEvent.TheVariants as tells
use Rattle.mesh_sim.specs.declared.fate.Fate.{Fate}
use Rattle.mesh_sim.specs.declared.fate.Fate.TheVariants as fate
use Rattle.mesh_sim.specs.Air.{AirState, departing, is_joined}
use Rattle.mesh_sim.specs.Fates.{Mesh, dead_hop_of, fate_of, listener_of, place_of}
use Rattle.mesh_sim.specs.Routes.{backwards}
use Rattle.mesh_sim.specs.Steps.{acknowledged, answers, answers_if, arrival_outs, arrival_outs_as, arriving, arriving_as, changed, done_of, heard_at, landed, mesh_after, outs_at, status_of, heard_again, outs_again, repeat_outs, repeat_outs_by, repeating, repeating_by}
use Rattle.zw_text.specs.declared.entry.Entry.{Entry}
use Rattle.zw_text.specs.declared.entry.Entry.TheVariants as entry
use Rattle.zw_text.specs.Transcript.{AirFrame, frames}
use Rattle.law_transcript.specs.Carrying.{homeward}
use Rattle.law_transcript.specs.Lists.{listed}
use Rattle.law_transcript.specs.Nodes.{controller}
use Rattle.law_wire.specs.Asked.{course_of}
use Rattle.law_wire.specs.Results.{is_outward}
use Rattle.chip_functions.specs.declared.notice.Notice.TheVariants as notices
use Rattle.law_wire.specs.Given.{Frame, handler_of, handlers_at, notice_frame}
use Rattle.outside_model.specs.Devices.{State}
use Rattle.outside_model.specs.State.{OuterState, Outside}
use Rattle.outside_model.specs.Events.{Arrives, mesh_of, happens as happens_outside}
use Rattle.proof_air.proofs.ChangesOutside.{fate_home, fate_out}
use Rattle.proof_air.specs.proof_walk.Outside.{nothing}
use Rattle.proof_air.specs.Carrying.{IsHome}
use Rattle.proof_air.specs.Logs.{Tie, plain}
use Rattle.proof_air.proofs.Counting.{at_its_place, departure}
use Rattle.proof_air.proofs.Fated.{listens_there}
use Rattle.proof_air.proofs.Fresh.{apart_at}
use Rattle.proof_air.proofs.Homes.{next_home, next_stands, shown_so, went_so, again_home, again_stands}
use Rattle.proof_line.specs.proof_traffic.Flights.{Fly}
use Rattle.proof_line.specs.proof_traffic.OnAir.{on_air}
use Rattle.proof_line.specs.proof_traffic.OutsideTraffic.{one_outward, outward}
use Rattle.proof_line.proofs.ArrivedFrames.{arrives_home}
use Rattle.proof_line.proofs.Arrivals.{Homes}
use Rattle.proof_line.proofs.ChipNotices.{arrived_air}
use Rattle.proof_line.proofs.Flights.{flights_are}
use Rattle.proof_line.proofs.Parts.{Laws}
use Rattle.proof_chip.specs.Calling.{Waits}
use Rattle.proof_chip.specs.Tally.{AreOwn, TallyBefore, TallySo, number_of, numbers_from, outlook}
use Rattle.proof_chip.proofs.Arriving.{ArePlain}
use Rattle.proof_chip.proofs.Calling.{flying}
use Rattle.proof_chip.proofs.Finishing.{Sees}
use Rattle.proof_chip.proofs.Numbering.{numbers_above, numbers_many}
use Rattle.proof_chip.proofs.Settling.{found_in, own}
use Rattle.proof_chip.proofs.Standing.{goes_none}
use Rattle.proof_chip.proofs.Steady.{homes_numbers}
use Rattle.proof_chip.proofs.Asides.{NotHome, other_node}

-- ---- what a device does

changed_plain : (node first count : ℕ) → ArePlain (changed node first count)
changed_plain node first zero = tt
changed_plain node first (suc count) = (tt, changed_plain node (first + 1) count)

answers_plain : (air : AirState) (node : ℕ) (way : Option Route) (replies : List (List ℕ)) → (node == controller) ≡ false → ArePlain (answers air node way replies)
answers_plain air node way [] other = tt
answers_plain air node way (reply ∷ replies) other = (other, answers_plain (departing air node Homeward way reply) node way replies other)

sends_plain : (joined : Bool) (air : AirState) (node : ℕ) (way : Option Route) (replies : List (List ℕ)) → (joined ≡ true → (node == controller) ≡ false) → ArePlain (answers_if joined air node way replies)
sends_plain true air node way replies other = answers_plain air node way replies (other refl)
sends_plain false air node way replies other = tt

-- behind the hearing
abbrev pub done_by : AirState → ℕ → Option Route → State → DeviceEvent → List AirEvent
done_by air node route device event =
    changed node (length device.journal) (length (device_after device event).journal - length device.journal)
    ++ answers_if (is_joined air node) air node (option_map backwards route) (device_replies device event)

pub done_plain : (air : AirState) (node : ℕ) (route : Option Route) (device : State) (event : DeviceEvent) → NotHome air → ArePlain (done_by air node route device event)
done_plain air node route device event home =
    all-append _ (changed node (length device.journal) (length (device_after device event).journal - length device.journal))
    (answers_if (is_joined air node) air node (option_map backwards route) (device_replies device event))
    (changed_plain node (length device.journal) (length (device_after device event).journal - length device.journal))
    (sends_plain (is_joined air node) air node (option_map backwards route) (device_replies device event) (other_node air node home))

-- ---- frames of the transcript

-- one that heads for a node comes to no handler
none_handled : (found : Option AirFrame) (one : Departure) → option_map departure found ≡ Some one → one.heading ≡ Outward → flat_map handler_of (listed found) ≡ []
none_handled None one is heads = refl
none_handled (Some frame) one is heads = by (frame.receiver == controller) refl
  where
    same : departure frame ≡ one
    same = cc

    by : (b : Bool) → (frame.receiver == controller) ≡ b → flat_map handler_of (frame ∷ []) ≡ []
    by true home =
        absurd (let no : Homeward ≡ Outward = sym (ap (λ (x : Bool). if x then Homeward else Outward) home) ∙ (ap (λ (d : Departure). d.heading) same ∙ heads) in cc)
    by false home =
        ap (λ (x : Bool). (if x && (nat_le 1 (length frame.payload) && nat_le (length frame.payload) 46) then Frame (notice_frame (notices.ApplicationCommandHandler 0 frame.sender frame.payload)) ∷ [] else []) ++ []) home

-- one that heads for the controller is of a node
not_own : (found : Option AirFrame) (one : Departure) → option_map departure found ≡ Some one → one.heading ≡ Homeward → one.node ≢ controller → own found ≡ false
not_own None one is heads apart = refl
not_own (Some frame) one is heads apart = by (frame.receiver == controller) refl
  where
    same : departure frame ≡ one
    same = cc

    or_false : (b : Bool) → b ≡ false → (b || false) ≡ false
    or_false b none = ap (λ (x : Bool). x || false) none

    by : (b : Bool) → (frame.receiver == controller) ≡ b → own (Some frame) ≡ false
    by false home = absurd (let no : Outward ≡ Homeward = sym (ap (λ (x : Bool). if x then Homeward else Outward) home) ∙ (ap (λ (d : Departure). d.heading) same ∙ heads) in cc)
    by true home =
        let node : frame.sender ≡ one.node = sym (ap (λ (x : Bool). if x then frame.sender else frame.receiver) home) ∙ ap (λ (d : Departure). d.node) same in
        or_false (frame.sender == controller) (ne_eqb frame.sender controller (λ at. apart (sym node ∙ at)))

module _ (past : List Entry) (w : Outside) (tie : Tie nothing past w) where
  none_at : (at : ℕ) (frame : Flown) → slice_get (stamped [] tie.log) at ≡ Some frame → frame.heading ≡ Outward → handlers_at past (entry.Heard (suc at)) ≡ []
  none_at at frame is heads =
      let went = went_so past w tie at frame is in
      ap (λ (found : Option AirFrame). flat_map handler_of (listed found)) (at_its_place past at)
      ∙ none_handled (slice_get (frames past) at) (plain went.departs) (shown_so past w tie at frame is) (went.heading ∙ heads)

  home_at : (at : ℕ) (frame : Flown) → slice_get (stamped [] tie.log) at ≡ Some frame → frame.heading ≡ Homeward → is_outward past (suc at) ≡ false
  home_at at frame is heads =
      let went = went_so past w tie at frame is in
      ap own (at_its_place past at)
      ∙ not_own (slice_get (frames past) at) (plain went.departs) (shown_so past w tie at frame is) (went.heading ∙ heads) (apart_at tie.log at went.departs tie.apart went.there)

plus_one : (n : ℕ) → suc n ≡ n + 1
plus_one n = omega arith

-- where other entries show the same frames
abbrev pub SameFrames : List Entry → List Entry → Type 0
SameFrames here past = frames here ≡ frames past

same_handlers : (here past : List Entry) → SameFrames here past → (number : ℕ) → handlers_at here (entry.Heard number) ≡ handlers_at past (entry.Heard number)
same_handlers here past same number = ap (λ (all : List AirFrame). flat_map handler_of (listed (found_in all number))) same

same_outward : (here past : List Entry) → SameFrames here past → (number : ℕ) → is_outward here number ≡ is_outward past number
same_outward here past same number = ap (λ (all : List AirFrame). own (found_in all number)) same

same_home : (here past : List Entry) → SameFrames here past → (number node : ℕ) (payload : List ℕ) → IsHome past number node payload → IsHome here number node payload
same_home here past same number node payload home = ap (λ (all : List AirFrame). homeward (found_in all number)) same ∙ home

-- ---- the next frame

-- once it has landed, these are behind it
abbrev pub HasLanded : OuterState → List Flown → AirState → Type 0
HasLanded o flights air =
    (air.frames.landed ≡ o.air.frames.landed + 1) × (numbers_from (o.air.frames.landed + 1 + 1) (on_air air.frames) ≡ numbers_from (o.air.frames.landed + 1 + 1) flights)

-- whose it is by the transcript; and, of the controller, what the chip waits for once it has landed
pub record IsNext (devices : List State) (o : OuterState) (flight : Flown) (flights : List Flown) (left : ℕ) (here : List Entry) : Type 0 where
  pub not_outward : flight.heading ≡ Homeward → is_outward here (o.air.frames.landed + 1) ≡ false
  pub home : flight.heading ≡ Homeward → IsHome here (o.air.frames.landed + 1) flight.node flight.payload
  pub is_own : flight.heading ≡ Outward → is_outward here (o.air.frames.landed + 1) ≡ true
  pub unhandled : flight.heading ≡ Outward → handlers_at here (entry.Heard (o.air.frames.landed + 1)) ≡ []
  pub sees : (air : AirState) → HasLanded o flights air → flight.heading ≡ Outward
      → Sees devices (outlook o) left (o.air.frames.landed + 1) (numbers_from (o.air.frames.landed + 1 + 1) flights) (record o { air = air })
  pub above : AllByRecursion (λ (n : ℕ). o.air.frames.landed + 1 < n) (numbers_from (o.air.frames.landed + 1 + 1) flights)

module _ (laws : Laws) (past : List Entry) (w : Outside) (tie : Tie nothing past w) (flight : Flown) (flights : List Flown) (on : on_air w.outer.air.frames ≡ flight ∷ flights) where
  pub it_flies : Fly tie.log (flight ∷ flights) w.outer.air.frames
  it_flies = subst (λ (fs : List Flown). Fly tie.log fs w.outer.air.frames) on (flying tie.log w.outer.air.frames tie.kept)

  it_is : next_of w.outer.air.frames ≡ Some flight
  it_is = laws.air.next tie.log flight flights w.outer.air.frames it_flies

  it_stands : slice_get (stamped [] tie.log) w.outer.air.frames.landed ≡ Some flight
  it_stands = next_stands past w tie flight it_is

  abbrev next_number : ℕ
  next_number = w.outer.air.frames.landed + 1

  abbrev numbers : List ℕ
  numbers = numbers_from (next_number + 1) flights

  module _ (devices : List State) (waits : Waits w.outer) (left : ℕ) (did : List Step) (here : List Entry) (same : SameFrames here past)
      (so : TallySo (TallyBefore devices (outlook w.outer) true (suc left) false 0) did here w.outer.chip.state.port) where
    own_numbers : flight.heading ≡ Outward → (outlook w.outer).numbers ≡ next_number ∷ numbers
    own_numbers heads = ap (λ (fs : List Flown). numbers_from next_number fs) on ∙ ap (λ (h : Heading). number_of h next_number ++ numbers) heads

    own_is : flight.heading ≡ Outward → is_outward here next_number ≡ true
    own_is heads =
        let (given_frames, serves, are) = so in
        let own_all : AreOwn here (outlook w.outer).numbers = (are (course_of did) (goes_none (course_of did))).own in
        (subst (λ (l : List ℕ). AreOwn here l) (own_numbers heads) own_all).0

    its_sight : (air : AirState) → HasLanded w.outer flights air → flight.heading ≡ Outward → Sees devices (outlook w.outer) left next_number numbers (record w.outer { air = air })
    its_sight air at heads = record {
      sending = refl;
      by_frame = refl;
      infos = refl;
      clock = refl;
      own = own_numbers heads;
      rest = sym at.1 ∙ ap (λ (n : ℕ). numbers_from (n + 1) (on_air air.frames)) (sym at.0);
      each_call = waits.each;
      flies =
          sym waits.await.frames
          ∙ (ap outward on ∙ (ap (λ (h : Heading). one_outward h + outward flights) heads ∙ one_plus (outward flights) (length numbers) (numbers_many (next_number + 1) flights)));
    }
      where
        one_plus : (m n : ℕ) → n ≡ m → 1 + m ≡ suc n
        one_plus m n is = omega (arith, is)

    pub it_is_next : IsNext devices w.outer flight flights left here
    it_is_next = record {
      not_outward = λ heads.
          same_outward here past same next_number
          ∙ subst (λ (n : ℕ). is_outward past n ≡ false) (plus_one w.outer.air.frames.landed) (home_at past w tie w.outer.air.frames.landed flight it_stands heads);
      home = λ heads. same_home here past same next_number flight.node flight.payload (next_home past w tie flight it_is heads);
      is_own = own_is;
      unhandled = λ heads.
          same_handlers here past same next_number
          ∙ subst (λ (n : ℕ). handlers_at past (entry.Heard n) ≡ []) (plus_one w.outer.air.frames.landed) (none_at past w tie w.outer.air.frames.landed flight it_stands heads);
      sees = its_sight;
      above = all-weaker (λ (n : ℕ). next_number + 1 ≤ n) (λ (n : ℕ). next_number < n) (λ n is. omega (arith, is)) numbers (numbers_above (next_number + 1) flights);
    }

-- ---- what may become of it

abbrev pub landed_mesh : Outside → Mesh
landed_mesh w = record { air = landed (acknowledged w.outer.air); devices = w.devices }

-- something of what is told of it: of a device it is lost, met by none or heard by the chip, of the controller lost, met by none or heard by a device
pub record EachCase (w : Outside) (flight : Flown) (flights : List Flown) (Ends : Mesh → List AirEvent → Type 0) : Type 0 where
  pub home_lost : (m : Mesh) → m.air.frames ≡ landing w.outer.air.frames → flight.heading ≡ Homeward → Ends m (tells.Lost (w.outer.air.frames.landed + 1) ∷ [])
  pub home_unheard : (m : Mesh) → m.air.frames ≡ landing w.outer.air.frames → flight.heading ≡ Homeward → Ends m (tells.Unheard (w.outer.air.frames.landed + 1) ∷ [])
  pub home_heard : (m : Mesh) → m.air.frames ≡ landing w.outer.air.frames → flight.heading ≡ Homeward
      → Ends m (tells.Heard (w.outer.air.frames.landed + 1) ∷ tells.ToChip (w.outer.air.frames.landed + 1) flight.node flight.payload ∷ [])
  pub own_lost : (m : Mesh) → HasLanded w.outer flights m.air → (dead : Option (ℕ × ℕ)) → flight.heading ≡ Outward
      → Ends m (tells.Lost (w.outer.air.frames.landed + 1) ∷ tells.Done (w.outer.air.frames.landed + 1) 1 dead ∷ [])
  pub own_unheard : (m : Mesh) → HasLanded w.outer flights m.air → (dead : Option (ℕ × ℕ)) → flight.heading ≡ Outward
      → Ends m (tells.Unheard (w.outer.air.frames.landed + 1) ∷ tells.Done (w.outer.air.frames.landed + 1) 1 dead ∷ [])
  pub own_heard : (place : ℕ) (device : State) (drawn : List ℕ) (route : Option Route) → HasLanded w.outer flights (heard_at (landed_mesh w) place (Some device) flight.node route (Hears flight.payload drawn)).air
      → flight.heading ≡ Outward
      → Ends (heard_at (landed_mesh w) place (Some device) flight.node route (Hears flight.payload drawn))
      (outs_at (landed_mesh w) (Some device) (w.outer.air.frames.landed + 1) flight.node route (Hears flight.payload drawn) ++ tells.Done (w.outer.air.frames.landed + 1) (status_of w.outer.air) None ∷ [])

module _ (w : Outside) (flight : Flown) (flights : List Flown) (Ends : Mesh → List AirEvent → Type 0) (cases : EachCase w flight flights Ends) where
  abbrev its_number : ℕ
  its_number = w.outer.air.frames.landed + 1

  lost_by : (m : Mesh) → m.air.frames ≡ landing w.outer.air.frames → HasLanded w.outer flights m.air → (dead : Option (ℕ × ℕ)) (heading : Heading) → flight.heading ≡ heading
      → Ends m (tells.Lost its_number ∷ done_of heading its_number 1 dead)
  lost_by m is at dead Outward heads = cases.own_lost m at dead heads
  lost_by m is at dead Homeward heads = cases.home_lost m is heads

  unheard_by : (m : Mesh) → m.air.frames ≡ landing w.outer.air.frames → HasLanded w.outer flights m.air → (dead : Option (ℕ × ℕ)) (heading : Heading) → flight.heading ≡ heading
      → Ends m (tells.Unheard its_number ∷ done_of heading its_number 1 dead)
  unheard_by m is at dead Outward heads = cases.own_unheard m at dead heads
  unheard_by m is at dead Homeward heads = cases.home_unheard m is heads

  heard_by : (place : ℕ) (found : Option State) → slice_get w.devices place ≡ found → (slice_get w.devices place ≡ None → ⊥) → (drawn : List ℕ) (route : Option Route)
      → HasLanded w.outer flights (heard_at (landed_mesh w) place found flight.node route (Hears flight.payload drawn)).air → flight.heading ≡ Outward
      → Ends (heard_at (landed_mesh w) place found flight.node route (Hears flight.payload drawn))
      (outs_at (landed_mesh w) found its_number flight.node route (Hears flight.payload drawn) ++ tells.Done its_number (status_of w.outer.air) None ∷ [])
  heard_by place None is some drawn route at heads = absurd (some is)
  heard_by place (Some device) is some drawn route at heads = cases.own_heard place device drawn route at heads

  by_fate : (x : Fate) (drawn : List ℕ) (route : Option Route) → fate_of w.outer.air.network w.devices flight ≡ x → HasLanded w.outer flights (arriving_as (mesh_of w) flight x drawn route).air
      → Ends (arriving_as (mesh_of w) flight x drawn route) (arrival_outs_as (mesh_of w) its_number flight x drawn route)
  by_fate fate.Lost drawn route is at = lost_by (arriving_as (mesh_of w) flight fate.Lost drawn route) refl at None flight.heading refl
  by_fate (fate.Dead from to) drawn route is at = unheard_by (arriving_as (mesh_of w) flight (fate.Dead from to) drawn route) refl at (Some (from, to)) flight.heading refl
  by_fate fate.Missed drawn route is at = unheard_by (arriving_as (mesh_of w) flight fate.Missed drawn route) refl at None flight.heading refl
  by_fate fate.AtChip drawn route is at =
      cases.home_heard (arriving_as (mesh_of w) flight fate.AtChip drawn route) refl (fate_home flight.lost (dead_hop_of w.outer.air.network flight) flight.heading (listener_of flight.node w.devices) is)
  by_fate (fate.AtDevice place) drawn route is at =
      let out = fate_out flight.lost (dead_hop_of w.outer.air.network flight) flight.heading (listener_of flight.node w.devices) place is in
      heard_by place (slice_get w.devices place) refl (λ none. listens_there w.devices (place_of flight.node w.devices) place out.1 none) drawn route at out.0

  arrives_by : (found : Option Flown) (drawn : List ℕ) (route : Option Route) → found ≡ Some flight → HasLanded w.outer flights (arriving (mesh_of w) found drawn route).air
      → Ends (arriving (mesh_of w) found drawn route) (arrival_outs (mesh_of w) found drawn route)
  arrives_by None drawn route is at = absurd cc
  arrives_by (Some one) drawn route is at =
      let same_one : flight ≡ one = cc in
      subst (λ (f : Flown). Ends (arriving_as (mesh_of w) f (fate_of w.outer.air.network w.devices f) drawn route) (arrival_outs_as (mesh_of w) its_number f (fate_of w.outer.air.network w.devices f) drawn route)) same_one
      (by_fate (fate_of w.outer.air.network w.devices flight) drawn route refl
      (subst (λ (f : Flown). HasLanded w.outer flights (arriving_as (mesh_of w) f (fate_of w.outer.air.network w.devices f) drawn route).air) (sym same_one) at))

  -- all of it
  pub it_falls : (laws : Laws) (past : List Entry) (tie : Tie nothing past w) → on_air w.outer.air.frames ≡ flight ∷ flights → (drawn : List ℕ) (route : Option Route)
      → (happens_outside w (Arrives drawn route)).outer.air.frames.landed ≡ w.outer.air.frames.landed + 1
      → Ends (arriving (mesh_of w) (next_of w.outer.air.frames) drawn route) (arrival_outs (mesh_of w) (next_of w.outer.air.frames) drawn route)
  unfolding mesh_after
  it_falls laws past tie on drawn route lands =
      let fly = it_flies laws past w tie flight flights on in
      let air_is : (happens_outside w (Arrives drawn route)).outer.air ≡ (arriving (mesh_of w) (next_of w.outer.air.frames) drawn route).air = arrived_air w drawn route in
      let home : Homes tie.log flights (happens_outside w (Arrives drawn route)).outer.air.frames = arrives_home laws.air tie.log flight flights w drawn route fly in
      let frames_now : FramesState = (happens_outside w (Arrives drawn route)).outer.air.frames in
      let are : numbers_from (its_number + 1) (on_air frames_now) ≡ numbers_from (its_number + 1) flights =
      ap (λ (fs : List Flown). numbers_from (its_number + 1) fs) (sym (flights_are (tie.log ++ home.more) (flights ++ home.home) frames_now home.fly)) ∙ homes_numbers (its_number + 1) flights home.home home.none_outward in
      arrives_by (next_of w.outer.air.frames) drawn route (laws.air.next tie.log flight flights w.outer.air.frames fly)
      (sym (ap (λ (a : AirState). a.frames.landed) air_is) ∙ lands, ap (λ (a : AirState). numbers_from (its_number + 1) (on_air a.frames)) (sym air_is) ∙ are)

-- ---- a frame that is heard again

-- something of what is told of it: by no one, by a device, or by the chip
pub record EachAgain (past : List Entry) (w : Outside) (Ends : Mesh → List AirEvent → Type 0) : Type 0 where
  pub by_none : Ends (mesh_of w) []
  pub by_device : (number place node : ℕ) (payload : List ℕ) (device : State) (drawn : List ℕ) (route : Option Route) → handlers_at past (entry.Heard number) ≡ []
      → Ends (heard_at (mesh_of w) place (Some device) node route (Hears payload drawn)) (outs_at (mesh_of w) (Some device) number node route (Hears payload drawn))
  pub by_chip : (number node : ℕ) (payload : List ℕ) → IsHome past number node payload → Ends (mesh_of w) (tells.Heard number ∷ tells.ToChip number node payload ∷ [])

module _ (past : List Entry) (w : Outside) (tie : Tie nothing past w) (Ends : Mesh → List AirEvent → Type 0) (cases : EachAgain past w Ends) where
  device_again : (number place node : ℕ) (payload : List ℕ) (found : Option State) (drawn : List ℕ) (route : Option Route) → handlers_at past (entry.Heard number) ≡ []
      → Ends (heard_at (mesh_of w) place found node route (Hears payload drawn)) (outs_at (mesh_of w) found number node route (Hears payload drawn))
  device_again number place node payload None drawn route unhandled = cases.by_none
  device_again number place node payload (Some device) drawn route unhandled = cases.by_device number place node payload device drawn route unhandled

  listener_again : (place : Option ℕ) (number node : ℕ) (payload : List ℕ) (drawn : List ℕ) (route : Option Route) → handlers_at past (entry.Heard number) ≡ []
      → Ends (heard_again (mesh_of w) place node route (Hears payload drawn)) (outs_again (mesh_of w) place number node route (Hears payload drawn))
  listener_again None number node payload drawn route unhandled = cases.by_none
  listener_again (Some place) number node payload drawn route unhandled = device_again number place node payload (slice_get w.devices place) drawn route unhandled

  unhandled_at : (number : ℕ) (frame : Flown) → remembered w.outer.air.frames number ≡ Some frame → frame.heading ≡ Outward → handlers_at past (entry.Heard number) ≡ []
  unhandled_at zero frame is heads = absurd cc
  unhandled_at (suc at) frame is heads = none_at past w tie at frame (again_stands past w tie at frame is) heads

  again_by : (heading : Heading) (number : ℕ) (frame : Flown) (drawn : List ℕ) (route : Option Route) → remembered w.outer.air.frames number ≡ Some frame → frame.heading ≡ heading
      → Ends (repeating_by heading (mesh_of w) frame drawn route) (repeat_outs_by heading (mesh_of w) number frame drawn route)
  again_by Homeward number frame drawn route found heads = cases.by_chip number frame.node frame.payload (again_home past w tie number frame found heads)
  again_by Outward number frame drawn route found heads = listener_again (listener_of frame.node w.devices) number frame.node frame.payload drawn route (unhandled_at number frame found heads)

  again_if : (number : ℕ) (found : Option Flown) (drawn : List ℕ) (route : Option Route) → remembered w.outer.air.frames number ≡ found
      → Ends (repeating (mesh_of w) found drawn route) (repeat_outs (mesh_of w) number found drawn route)
  again_if number None drawn route is = cases.by_none
  again_if number (Some frame) drawn route is = again_by frame.heading number frame drawn route is refl

  -- all of it
  pub it_repeats : (number : ℕ) (drawn : List ℕ) (route : Option Route)
      → Ends (repeating (mesh_of w) (remembered w.outer.air.frames number) drawn route) (repeat_outs (mesh_of w) number (remembered w.outer.air.frames number) drawn route)
  it_repeats number drawn route = again_if number (remembered w.outer.air.frames number) drawn route refl
