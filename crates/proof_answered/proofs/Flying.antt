-- How many frames are on the air after an event, and for how long each device is at work then.
use Rattle.std.proofs.Common.{◌≡◌, ◌≤◌, ℕ, ◌+◌, Bool, true, false, if◌then◌else◌, List, [], ◌∷◌, length, refl, sym, ap, ◌∙◌, subst, arith}
use Rattle.std.proofs.lemmas.List.{length_push}
use Rattle.std.specs.Prelude.{Option, Some, None, slice_get, slice_set, option_map}
use Rattle.serial_frame.specs.Stream.{Rest, after_tick}
use Rattle.serial_frame.specs.declared.item.Item.{Item}
use Rattle.route_table.specs.Network.{Network}
use Rattle.route_table.specs.declared.route.Route.{Route}
use Rattle.air_frames.specs.declared.frame.Heading.{Heading}
use Rattle.air_frames.specs.declared.frame.Heading.TheVariants.{Outward, Homeward}
use Rattle.air_frames.specs.Flown.{Flown}
use Rattle.air_frames.specs.Frames.{next_of, putting, landing}
use Rattle.chip_sim.specs.Did.{judged_all}
use Rattle.chip_sim.specs.Events.{ChipEvent, Ticked, after, outs}
use Rattle.chip_sim.specs.declared.out.ChipOut.{ChipOut}
use Rattle.chip_sim.specs.declared.out.ChipOut.TheVariants.{Write, OnAir, NoRoute, AskInfo, Full}
use Rattle.device_sim.specs.State.{State}
use Rattle.device_sim.specs.Event.{DeviceEvent, Hears, Ticks, Wakes, device_after, device_replies}
use Rattle.device_sim.specs.Laws.{IsHeard}
use Rattle.mesh_sim.specs.Air.{AirState, departing, is_joined}
use Rattle.mesh_sim.specs.Fates.{Mesh, dead_hop_of, fate_by, fate_of, listener_of, place_of}
use Rattle.mesh_sim.specs.Routes.{backwards}
use Rattle.mesh_sim.specs.Steps as mesh
use Rattle.mesh_sim.specs.Steps.{acknowledged, answered, answered_if, arriving, arriving_as, heard_at, landed, mesh_after}
use Rattle.mesh_sim.specs.declared.fate.Fate.{Fate}
use Rattle.mesh_sim.specs.declared.fate.Fate.TheVariants.{Lost, Dead, Missed, AtChip, AtDevice}
use Rattle.outside_model.specs.declared.waits.Call.{Call}
use Rattle.outside_model.specs.declared.waits.Call.TheVariants.{OfFrame, NoRoute as no_route_call}
use Rattle.outside_model.specs.State.{OuterState, Outside, Outcome, each, with_chip}
use Rattle.outside_model.specs.Chip.{chip_does, put_out}
use Rattle.outside_model.specs.Devices.{acts_at, acts_by_hand, device_set, set_by_hand}
use Rattle.outside_model.specs.Events.{Arrives, Device_ticks, Chip_ticks, Chip_takes, Wakes_device, devices_after, mesh_of, outcome, happens as happens_outside}
use Rattle.proof_calm.specs.proof_traffic.OnAir.{fed_chip}
use Rattle.proof_calm.proofs.ChipNotices.{arrived_air, does_said, entered_leaves, ticked_said}
use Rattle.proof_answered.specs.Few.{WorkApart, work_at}
use Rattle.proof_answered.proofs.Apart.{heard_apart, kept_apart, more_apart}
use Rattle.proof_answered.proofs.Works.{hears_few, wakes_say, wakes_work, work_heard}

-- ---- devices put frames there

pub record Sends (most : ℕ) (old new : AirState) : Type 0 where
  pub sent : new.frames.sent ≤ old.frames.sent + most
  pub landed : new.frames.landed ≡ old.frames.landed

departs : (air : AirState) (node : ℕ) (heading : Heading) (way : Option Route) (payload : List ℕ) → Sends 1 air (departing air node heading way payload)
unfolding putting
departs air node heading way payload = record { sent = omega arith; landed = refl }

answers_send : (air : AirState) (node : ℕ) (way : Option Route) (replies : List (List ℕ)) → Sends (length replies) air (answered air node way replies)
answers_send air node way [] = record { sent = omega arith; landed = refl }
answers_send air node way (reply ∷ replies) =
    let one = departs air node Homeward way reply in
    let later = answers_send (departing air node Homeward way reply) node way replies in
    record { sent = let a = one.sent in let b = later.sent in omega (arith, a, b); landed = later.landed ∙ one.landed }

answers_if_send : (b : Bool) (air : AirState) (node : ℕ) (way : Option Route) (replies : List (List ℕ)) → Sends (length replies) air (answered_if b air node way replies)
answers_if_send true air node way replies = answers_send air node way replies
answers_if_send false air node way replies = record { sent = omega arith; landed = refl }

-- ---- a frame arrives

-- a device may hear it, and answer
pub record Lands (old new : Mesh) : Type 0 where
  pub sent : new.air.frames.sent ≤ old.air.frames.sent + 2
  pub landed : new.air.frames.landed ≡ old.air.frames.landed + 1
  pub work : WorkApart 4 old.devices → WorkApart 5 new.devices

lands : (at : Mesh) → Lands at (record at { air = landed at.air })
unfolding landing
lands at = record { sent = omega arith; landed = refl; work = λ is. more_apart (λ a. work_at at.devices a) is }

landed_sent : (air : AirState) → ((landed (acknowledged air)).frames.sent ≡ air.frames.sent) × ((landed (acknowledged air)).frames.landed ≡ air.frames.landed + 1)
unfolding landing
landed_sent air = (refl, refl)

-- what is proved of a device that hears something
abbrev pub Worked : Type 0
Worked = (device : State) (payload drawn : List ℕ) → IsHeard device (device_after device (Hears payload drawn))

module _ (worked : Worked) where
  hears_lands : (at : Mesh) (place : ℕ) (device : Option State) (node : ℕ) (route : Option Route) (payload drawn : List ℕ) → slice_get at.devices place ≡ device
      → Lands at (heard_at (record at { air = landed (acknowledged at.air) }) place device node route (Hears payload drawn))
  hears_lands at place None node route payload drawn there = record {
    sent = let same = (landed_sent at.air).0 in omega (arith, same);
    landed = (landed_sent at.air).1;
    work = λ is. more_apart (λ a. work_at at.devices a) is;
  }
  hears_lands at place (Some device) node route payload drawn there =
      let before : AirState = landed (acknowledged at.air) in
      let sends = answers_if_send (is_joined before node) before node (option_map backwards route) (device_replies device (Hears payload drawn)) in
      record {
        sent = let a = sends.sent in let few = hears_few device payload drawn in let same = (landed_sent at.air).0 in omega (arith, a, few, same);
        landed = sends.landed ∙ (landed_sent at.air).1;
        work = λ is. heard_apart at.devices place device (device_after device (Hears payload drawn)) there
            (work_heard device (device_after device (Hears payload drawn)) (worked device payload drawn)) is;
      }

  pub arriving_lands : (at : Mesh) (frame : Flown) (fate : Fate) (drawn : List ℕ) (route : Option Route) → Lands at (arriving_as at frame fate drawn route)
  arriving_lands at frame Lost drawn route = lands at
  arriving_lands at frame (Dead from to) drawn route = lands at
  arriving_lands at frame Missed drawn route = lands at
  arriving_lands at frame AtChip drawn route = lands at
  arriving_lands at frame (AtDevice place) drawn route = hears_lands at place (slice_get at.devices place) frame.node route frame.payload drawn refl

-- a frame of a device comes to none
home_by : (lost : Bool) (dead : Option (ℕ × ℕ)) (heading : Heading) (listener : Option ℕ) (place : ℕ) → heading ≡ Homeward → (if lost then Lost else fate_by dead heading listener) ≡ AtDevice place → ⊥
home_by true dead heading listener place home is = cc
home_by false (Some hop) heading listener place home is = cc
home_by false None Homeward listener place home is = cc
home_by false None Outward listener place home is = cc

home_fate : (net : Network) (devices : List State) (frame : Flown) → frame.heading ≡ Homeward → (place : ℕ) → fate_of net devices frame ≡ AtDevice place → ⊥
home_fate net devices frame home place is = home_by frame.lost (dead_hop_of net frame) frame.heading (listener_of frame.node devices) place home is

only_lands : (at : Mesh) (frame : Flown) (fate : Fate) (drawn : List ℕ) (route : Option Route) → ((place : ℕ) → fate ≡ AtDevice place → ⊥) → arriving_as at frame fate drawn route ≡ record at { air = landed at.air }
only_lands at frame Lost drawn route never = refl
only_lands at frame (Dead from to) drawn route never = refl
only_lands at frame Missed drawn route never = refl
only_lands at frame AtChip drawn route never = refl
only_lands at frame (AtDevice place) drawn route never = absurd (never place refl)

-- what is there then
pub record Arrival (w v : Outside) (flight : Flown) : Type 0 where
  pub landed : v.outer.air.frames.landed ≡ w.outer.air.frames.landed + 1
  pub sent : v.outer.air.frames.sent ≤ w.outer.air.frames.sent + 2
  pub work : WorkApart 4 w.devices → WorkApart 5 v.devices
  pub home : flight.heading ≡ Homeward → (v.outer.air.frames.sent ≡ w.outer.air.frames.sent) × (v.devices ≡ w.devices)

module _ (worked : Worked) where
  mesh_arrival : (w : Outside) (flight : Flown) (fate : Fate) (drawn : List ℕ) (route : Option Route) (v : Outside) → (flight.heading ≡ Homeward → (place : ℕ) → fate ≡ AtDevice place → ⊥)
      → mesh_of v ≡ arriving_as (mesh_of w) flight fate drawn route → Arrival w v flight
  unfolding landing
  mesh_arrival w flight fate drawn route v never is =
      let there : Lands (mesh_of w) (mesh_of v) = subst (Lands (mesh_of w)) (sym is) (arriving_lands worked (mesh_of w) flight fate drawn route) in
      record {
        landed = there.landed;
        sent = there.sent;
        work = there.work;
        home = λ home.
            let same : mesh_of v ≡ record { air = landed w.outer.air; devices = w.devices } = is ∙ only_lands (mesh_of w) flight fate drawn route (never home) in
            (ap (λ (at : Mesh). at.air.frames.sent) same, ap (λ (at : Mesh). at.devices) same);
      }

  pub arrives : (w : Outside) (flight : Flown) (drawn : List ℕ) (route : Option Route) → next_of w.outer.air.frames ≡ Some flight → Arrival w (happens_outside w (Arrives drawn route)) flight
  unfolding devices_after mesh_after
  arrives w flight drawn route next =
      let v : Outside = happens_outside w (Arrives drawn route) in
      let is : mesh_of v ≡ arriving (mesh_of w) (next_of w.outer.air.frames) drawn route =
      ap (λ (air : AirState). record { air = air; devices = (mesh_after (mesh_of w) (mesh.Arrives drawn route)).devices }) (arrived_air w drawn route) in
      mesh_arrival w flight (fate_of w.outer.air.network w.devices flight) drawn route v (home_fate w.outer.air.network w.devices flight) (is ∙ ap (λ (frame : Option Flown). arriving (mesh_of w) frame drawn route) next)

-- ---- a device does something of itself

pub record Acts (most : ℕ) (w v : Outside) : Type 0 where
  pub air : Sends most w.outer.air v.outer.air
  pub calls : v.outer.calls ≡ w.outer.calls

acts : (o : OuterState) (found : Option State) (device : State) (event : DeviceEvent) (route : Option Route) → found ≡ Some device
    → Sends (length (device_replies device event)) o.air (acts_at o found event route).outer.air × ((acts_at o found event route).outer.calls ≡ o.calls)
acts o None device event route there = absurd cc
acts o (Some other) device event route there =
    let same : other ≡ device = cc in (
      subst (λ (d : State). Sends (length (device_replies d event)) o.air (acts_at o (Some other) event route).outer.air) same
          (answers_if_send (is_joined o.air other.node) o.air other.node (option_map backwards route) (device_replies other event)),
      refl,
    )

pub ticks : (w : Outside) (place : ℕ) (device : State) (drawn : List ℕ) (route : Option Route) → slice_get w.devices place ≡ Some device
    → Acts (length (device_replies device (Ticks drawn))) w (happens_outside w (Device_ticks place drawn route))
    × ((happens_outside w (Device_ticks place drawn route)).devices ≡ slice_set w.devices place (device_after device (Ticks drawn)))
unfolding outcome devices_after
ticks w place device drawn route there =
    let x : Outcome = outcome w (Device_ticks place drawn route) in
    let leaves = entered_leaves x.outer x.entries in
    let acted = acts w.outer (slice_get w.devices place) device (Ticks drawn) route there in (
      record { air = subst (Sends (length (device_replies device (Ticks drawn))) w.outer.air) (sym leaves.air) acted.0; calls = leaves.calls ∙ acted.1 },
      ap (λ (found : Option State). device_set w.devices place found (Ticks drawn)) there,
    )

-- it is woken
woken_at : (w : Outside) (place : ℕ) (route : Option Route) (found : Option State) → slice_get w.devices place ≡ found
    → Sends 1 w.outer.air (acts_at w.outer found Wakes route).outer.air × ((acts_at w.outer found Wakes route).outer.calls ≡ w.outer.calls) × (WorkApart 4 w.devices → WorkApart 4 (device_set w.devices place found Wakes))
woken_at w place route None there = (record { sent = omega arith; landed = refl }, refl, λ is. is)
woken_at w place route (Some device) there =
    let acted = acts w.outer (Some device) device Wakes route refl in (
      record { sent = let a = acted.0.sent in let one = wakes_say device in omega (arith, a, one); landed = acted.0.landed },
      acted.1,
      λ is. kept_apart 4 w.devices place device (device_after device Wakes) there (wakes_work device) is,
    )

woken_by_hand : (w : Outside) (place : Option ℕ) (route : Option Route)
    → Sends 1 w.outer.air (acts_by_hand w.outer w.devices place Wakes route).outer.air × ((acts_by_hand w.outer w.devices place Wakes route).outer.calls ≡ w.outer.calls)
    × (WorkApart 4 w.devices → WorkApart 4 (set_by_hand w.devices place Wakes))
woken_by_hand w None route = (record { sent = omega arith; landed = refl }, refl, λ is. is)
woken_by_hand w (Some place) route = woken_at w place route (slice_get w.devices place) refl

pub wakes : (w : Outside) (node : ℕ) (route : Option Route)
    → Acts 1 w (happens_outside w (Wakes_device node route)) × (WorkApart 4 w.devices → WorkApart 4 (happens_outside w (Wakes_device node route)).devices)
unfolding outcome devices_after
wakes w node route =
    let x : Outcome = outcome w (Wakes_device node route) in
    let leaves = entered_leaves x.outer x.entries in
    let woken = woken_by_hand w (place_of node w.devices) route in
    (record { air = subst (Sends 1 w.outer.air) (sym leaves.air) woken.0; calls = leaves.calls ∙ woken.1 }, woken.2)

-- ---- the chip

-- it counts
pub chip_counts : (w : Outside) → ((happens_outside w Chip_ticks).outer.air ≡ w.outer.air) × ((happens_outside w Chip_ticks).outer.calls ≡ w.outer.calls) × ((happens_outside w Chip_ticks).devices ≡ w.devices)
unfolding outcome devices_after
chip_counts w =
    let at : OuterState = record w.outer { chip = record { decoder = after_tick w.outer.chip.decoder; state = w.outer.chip.state } } in
    let leaves = entered_leaves (outcome w Chip_ticks).outer (outcome w Chip_ticks).entries in
    let said = does_said at Ticked (ticked_said w.outer.chip.state.port) in
    (leaves.air ∙ said.air, leaves.calls ∙ said.calls, refl)

-- for each frame that it puts there a call is to come
pub record Puts (o p : OuterState) : Type 0 where
  pub sent : p.air.frames.sent + length o.calls ≤ o.air.frames.sent + length p.calls
  pub landed : p.air.frames.landed ≡ o.air.frames.landed

puts_none : (o : OuterState) → Puts o o
puts_none o = record { sent = omega arith; landed = refl }

puts_both : (o p q : OuterState) → Puts o p → Puts p q → Puts o q
puts_both o p q first later = record { sent = let a = first.sent in let b = later.sent in omega (arith, a, b); landed = later.landed ∙ first.landed }

put_one : (o : OuterState) (out : ChipOut) → Puts o (put_out o out).outer
put_one o (Write unit) = record { sent = omega arith; landed = refl }
put_one o (OnAir to route payload) =
    let one = departs o.air to Outward (Some route) payload in
    record { sent = let a = one.sent in let more = length_push o.calls OfFrame in omega (arith, a, more); landed = one.landed }
put_one o NoRoute = record { sent = let more = length_push o.calls no_route_call in omega (arith, more); landed = refl }
put_one o (AskInfo node) = record { sent = omega arith; landed = refl }
put_one o Full = record { sent = omega arith; landed = refl }

put_all : (o : OuterState) (puts : List ChipOut) → Puts o (each put_out o puts).outer
put_all o [] = puts_none o
put_all o (out ∷ puts) = puts_both o (put_out o out).outer (each put_out (put_out o out).outer puts).outer (put_one o out) (put_all (put_out o out).outer puts)

does_puts : (o : OuterState) (event : ChipEvent) → Puts o (chip_does o event).outer
unfolding chip_does
does_puts o event = let all = put_all (with_chip o (after o.chip.state event)) (outs o.chip.state event) in record { sent = all.sent; landed = all.landed }

do_all : (o : OuterState) (events : List ChipEvent) → Puts o (each chip_does o events).outer
do_all o [] = puts_none o
do_all o (event ∷ events) = puts_both o (chip_does o event).outer (each chip_does (chip_does o event).outer events).outer (does_puts o event) (do_all (chip_does o event).outer events)

-- it takes bytes
pub takes : (w : Outside) (count : ℕ) (rest : Rest) (ways : List (Item × Option Route))
    → Puts w.outer (happens_outside w (Chip_takes count rest ways)).outer × ((happens_outside w (Chip_takes count rest ways)).devices ≡ w.devices)
unfolding outcome devices_after
takes w count rest ways =
    let x : Outcome = outcome w (Chip_takes count rest ways) in
    let leaves = entered_leaves x.outer x.entries in
    let all : Puts (fed_chip w.outer count rest) x.outer = do_all (fed_chip w.outer count rest) (judged_all ways) in (
      record {
        sent = let a = all.sent in let sent = ap (λ (air : AirState). air.frames.sent) leaves.air in let calls = ap (λ (cs : List Call). length cs) leaves.calls in omega (arith, a, sent, calls);
        landed = ap (λ (air : AirState). air.frames.landed) leaves.air ∙ all.landed;
      },
      refl,
    )
