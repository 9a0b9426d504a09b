-- A device that is at work on a session stays at it, but for its own ticks; and how its place stands to those that have ticked.
use Rattle.std.proofs.Common.{◌≡◌, ◌≢◌, ◌≤◌, ◌<◌, ℕ, zero, suc, ◌+◌, ◌==◌, ◌&&◌, nat_le, nat_lt, Bool, true, false, if◌then◌else◌, Option, Some, None, List, [], ◌∷◌, length, refl, sym, ap, ◌∙◌, subst, arith}
use Rattle.std.proofs.lemmas.Bool.{eq-eqb, eqb-true}
use Rattle.std.proofs.lemmas.Bool.Decides.{nat_tests}
use Rattle.std.specs.Prelude.{slice_get, slice_set}
use Rattle.supervision.specs.Device.{Taken}
use Rattle.supervision.specs.declared.session.TheConstants.{WORKING}
use Rattle.route_table.specs.declared.route.Route.{Route}
use Rattle.air_frames.specs.Flown.{Flown}
use Rattle.air_frames.specs.Frames.{next_of}
use Rattle.device_sim.specs.State.{State}
use Rattle.device_sim.specs.Event.{DeviceEvent, Hears, Ticks, Wakes, device_after}
use Rattle.device_sim.proofs.OrderLemmas.{woken_by}
use Rattle.mesh_sim.specs.Fates.{Mesh, fate_of, place_of}
use Rattle.mesh_sim.specs.Steps.{acknowledged, arriving, arriving_as, heard_at, landed, mesh_after}
use Rattle.mesh_sim.specs.declared.fate.Fate.{Fate}
use Rattle.mesh_sim.specs.declared.fate.Fate.TheVariants.{AtChip, AtDevice, Dead, Lost, Missed}
use Rattle.outside_model.specs.Devices.{device_set, set_by_hand}
use Rattle.outside_model.specs.Events.{Arrives, Device_ticks, Wakes_device, devices_after, mesh_of}
use Rattle.world_model.specs.Events.{Outside_does, happens}
use Rattle.world_model.specs.State.{Machine}
use Rattle.proof_spoken.proofs.KeptKinds.{event_same}
use Rattle.proof_course_plain.proofs.ChangesOutside.{get_set, place_set}
use Rattle.proof_course_plain.proofs.MadeSettings.{get_other}
use Rattle.proof_course_plain.proofs.Replies.{one_stands}
use Rattle.proof_in_time.specs.Answering.{IsStill}
use Rattle.proof_in_time.specs.Coming.{IsBusy}
use Rattle.proof_answered.proofs.Ending.{both}

-- ---- it stays at its place, for as long

-- a device at this place is at work for so long
abbrev pub BusyThere : (n session place left : ℕ) → List State → Type 0
BusyThere n session place left devices = (now : IsBusy n session devices) × ((now.place ≡ place) × (now.device.work_left ≡ left))

-- so it is of devices then
abbrev pub BusyAs : (n session : ℕ) (devices later : List State) → IsBusy n session devices → Type 0
BusyAs n session devices later at = BusyThere n session at.place at.device.work_left later

abbrev pub StayBusy : ℕ → ℕ → List State → List State → Type 0
StayBusy n session devices later = (at : IsBusy n session devices) → BusyAs n session devices later at

pub same_busy : (n session : ℕ) (devices later : List State) → later ≡ devices → StayBusy n session devices later
same_busy n session devices later same at = (
  record {
    place = at.place;
    device = at.device;
    first = ap (λ (ds : List State). place_of n ds) same ∙ at.first;
    stands = ap (λ (ds : List State). slice_get ds at.place) same ∙ at.stands;
    taken = at.taken;
    working = at.working;
  },
  (refl, refl),
)

-- the device at another place becomes another of its node
apart_busy : (n session : ℕ) (devices : List State) (place : ℕ) (device new : State) → slice_get devices place ≡ Some device → new.node ≡ device.node → (at : IsBusy n session devices) → at.place ≢ place → BusyAs n session devices (slice_set devices place new) at
apart_busy n session devices place device new there node at apart = (
  record {
    place = at.place;
    device = at.device;
    first = place_set n devices place device new there node ∙ at.first;
    stands = get_other devices place at.place new apart ∙ at.stands;
    taken = at.taken;
    working = at.working;
  },
  (refl, refl),
)

-- its own place, where it is still at its work
abbrev pub Still : State → State → Type 0
Still old new = old.sessions.status ≡ WORKING → IsStill old new

own_busy : (n session : ℕ) (devices : List State) (place : ℕ) (device new : State) → slice_get devices place ≡ Some device → new.node ≡ device.node → Still device new → (at : IsBusy n session devices) → at.place ≡ place
    → BusyAs n session devices (slice_set devices place new) at
own_busy n session devices place device new there node still at same =
    let own : at.device ≡ device = one_stands devices at.place place at.device device at.stands there same in
    let kept : IsStill device new = still (subst (λ (d : State). d.sessions.status ≡ WORKING) own at.working) in (
      record {
        place = at.place;
        device = new;
        first = place_set n devices place device new there node ∙ at.first;
        stands = subst (λ (k : ℕ). slice_get (slice_set devices place new) k ≡ Some new) (sym same) (get_set devices place device new there);
        taken = ap (λ (t : Taken). t.taken) kept.sessions ∙ (sym (ap (λ (d : State). d.sessions.taken) own) ∙ at.taken);
        working = ap (λ (t : Taken). t.status) kept.sessions ∙ (sym (ap (λ (d : State). d.sessions.status) own) ∙ at.working);
      },
      (refl, kept.work_left ∙ sym (ap (λ (d : State). d.work_left) own)),
    )

apart_by : (a b : ℕ) → (a == b) ≡ false → a ≢ b
apart_by a b is same = let wrong : true ≡ false = sym (eq-eqb a b same) ∙ is in absurd cc

set_busy : (n session : ℕ) (devices : List State) (place : ℕ) (device new : State) → slice_get devices place ≡ Some device → new.node ≡ device.node → Still device new → StayBusy n session devices (slice_set devices place new)
set_busy n session devices place device new there node still at = by (at.place == place) refl
  where
    by : (b : Bool) → (at.place == place) ≡ b → BusyAs n session devices (slice_set devices place new) at
    by true is = own_busy n session devices place device new there node still at (eqb-true at.place place is)
    by false is = apart_busy n session devices place device new there node at (apart_by at.place place is)

-- it comes to work, or goes on with it
pub then_busy : (n session : ℕ) (devices : List State) (place : ℕ) (device new : State) → place_of n devices ≡ Some place → slice_get devices place ≡ Some device → new.node ≡ device.node → new.sessions.taken ≡ session
    → new.sessions.status ≡ WORKING → BusyThere n session place new.work_left (slice_set devices place new)
then_busy n session devices place device new first there node taken working =
    (record { place = place; device = new; first = place_set n devices place device new there node ∙ first; stands = get_set devices place device new there; taken = taken; working = working }, (refl, refl))

-- ---- at events

found_busy : (n session : ℕ) (devices : List State) (place : ℕ) (found : Option State) (event : DeviceEvent) → slice_get devices place ≡ found → ((device : State) → Still device (device_after device event))
    → StayBusy n session devices (device_set devices place found event)
found_busy n session devices place None event there still = same_busy n session devices devices refl
found_busy n session devices place (Some device) event there still = set_busy n session devices place device (device_after device event) there (event_same device event).node (still device)

woken_still : (device : State) → Still device (device_after device Wakes)
woken_still device working = let is = woken_by device in record { sessions = is.1.0; work_left = is.1.1 }

hand_busy : (n session : ℕ) (devices : List State) (place : Option ℕ) → StayBusy n session devices (set_by_hand devices place Wakes)
hand_busy n session devices None = same_busy n session devices devices refl
hand_busy n session devices (Some place) = found_busy n session devices place (slice_get devices place) Wakes refl woken_still

pub wakes_busy : (n session : ℕ) (m : Machine) (node : ℕ) (route : Option Route) → StayBusy n session m.outside.devices (happens m (Outside_does (Wakes_device node route))).outside.devices
unfolding happens devices_after
wakes_busy n session m node route = hand_busy n session m.outside.devices (place_of node m.outside.devices)

-- what is proved of a device at work that hears something
abbrev pub HearsStill : Type 0
HearsStill = (device : State) (payload drawn : List ℕ) → device.sessions.status ≡ WORKING → IsStill device (device_after device (Hears payload drawn))

module _ (still : HearsStill) (n session : ℕ) where
  heard_busy : (at : Mesh) (place : ℕ) (found : Option State) (node : ℕ) (route : Option Route) (payload drawn : List ℕ) → slice_get at.devices place ≡ found
      → StayBusy n session at.devices (heard_at at place found node route (Hears payload drawn)).devices
  heard_busy at place None node route payload drawn there = same_busy n session at.devices at.devices refl
  heard_busy at place (Some device) node route payload drawn there =
      set_busy n session at.devices place device (device_after device (Hears payload drawn)) there (event_same device (Hears payload drawn)).node (still device payload drawn)

  fate_busy : (at : Mesh) (frame : Flown) (fate : Fate) (drawn : List ℕ) (route : Option Route) → StayBusy n session at.devices (arriving_as at frame fate drawn route).devices
  fate_busy at frame Lost drawn route = same_busy n session at.devices at.devices refl
  fate_busy at frame (Dead from to) drawn route = same_busy n session at.devices at.devices refl
  fate_busy at frame Missed drawn route = same_busy n session at.devices at.devices refl
  fate_busy at frame AtChip drawn route = same_busy n session at.devices at.devices refl
  fate_busy at frame (AtDevice place) drawn route = heard_busy (record at { air = landed (acknowledged at.air) }) place (slice_get at.devices place) frame.node route frame.payload drawn refl

  arriving_busy : (at : Mesh) (frame : Option Flown) (drawn : List ℕ) (route : Option Route) → StayBusy n session at.devices (arriving at frame drawn route).devices
  arriving_busy at None drawn route = same_busy n session at.devices at.devices refl
  arriving_busy at (Some frame) drawn route = fate_busy at frame (fate_of at.air.network at.devices frame) drawn route

  pub arrives_busy : (m : Machine) (drawn : List ℕ) (route : Option Route) → StayBusy n session m.outside.devices (happens m (Outside_does (Arrives drawn route))).outside.devices
  unfolding happens devices_after mesh_after
  arrives_busy m drawn route = arriving_busy (mesh_of m.outside) (next_of m.outside.outer.air.frames) drawn route

-- which devices there are where one heard a frame
pub arrived_devices : (m : Machine) (drawn : List ℕ) (route : Option Route) (frame : Flown) (place : ℕ) (device : State) → next_of m.outside.outer.air.frames ≡ Some frame
    → fate_of m.outside.outer.air.network m.outside.devices frame ≡ AtDevice place → slice_get m.outside.devices place ≡ Some device
    → (happens m (Outside_does (Arrives drawn route))).outside.devices ≡ slice_set m.outside.devices place (device_after device (Hears frame.payload drawn))
unfolding happens devices_after mesh_after
arrived_devices m drawn route frame place device next fate there =
    let at : Mesh = mesh_of m.outside in
    ap (λ (f : Option Flown). (arriving at f drawn route).devices) next
    ∙ (ap (λ (x : Fate). (arriving_as at frame x drawn route).devices) fate
    ∙ ap (λ (d : Option State). (heard_at (record at { air = landed (acknowledged at.air) }) place d frame.node route (Hears frame.payload drawn)).devices) there)

-- where one ticked
pub ticked_devices : (m : Machine) (place : ℕ) (found : Option State) (drawn : List ℕ) (route : Option Route) → slice_get m.outside.devices place ≡ found
    → (happens m (Outside_does (Device_ticks place drawn route))).outside.devices ≡ device_set m.outside.devices place found (Ticks drawn)
unfolding happens devices_after
ticked_devices m place found drawn route there = ap (λ (d : Option State). device_set m.outside.devices place d (Ticks drawn)) there

set_apart : (n session : ℕ) (devices : List State) (place : ℕ) (found : Option State) (event : DeviceEvent) → slice_get devices place ≡ found → (at : IsBusy n session devices) → at.place ≢ place
    → BusyAs n session devices (device_set devices place found event) at
set_apart n session devices place None event there at apart = same_busy n session devices devices refl at
set_apart n session devices place (Some device) event there at apart = apart_busy n session devices place device (device_after device event) there (event_same device event).node at apart

pub ticks_apart : (n session : ℕ) (m : Machine) (place : ℕ) (drawn : List ℕ) (route : Option Route) (at : IsBusy n session m.outside.devices) → at.place ≢ place
    → BusyAs n session m.outside.devices (happens m (Outside_does (Device_ticks place drawn route))).outside.devices at
ticks_apart n session m place drawn route at apart =
    subst (λ (ds : List State). BusyAs n session m.outside.devices ds at) (sym (ticked_devices m place (slice_get m.outside.devices place) drawn route refl))
    (set_apart n session m.outside.devices place (slice_get m.outside.devices place) (Ticks drawn) refl at apart)

-- ---- which places have ticked

abbrev pub unless_ticking : Bool → ℕ
unless_ticking b = if b then 0 else 1

pub one_most : (b : Bool) → unless_ticking b ≤ 1
one_most true = omega arith
one_most false = omega arith

both_of : (a b : Bool) → (a && b) ≡ true → (a ≡ true) × (b ≡ true)
both_of true true is = (refl, refl)
both_of true false is = absurd (let wrong : false ≡ true = is in cc)
both_of false b is = absurd (let wrong : false ≡ true = is in cc)

-- another than the one that ticks
pub later_ticked : (place count at : ℕ) → at ≢ place → unless_ticking (nat_le (place + 1) at && nat_lt at (place + 1 + count)) ≤ unless_ticking (nat_le place at && nat_lt at (place + suc count))
later_ticked place count at apart = by (nat_le place at && nat_lt at (place + suc count)) refl
  where
    by : (b : Bool) → (nat_le place at && nat_lt at (place + suc count)) ≡ b → unless_ticking (nat_le (place + 1) at && nat_lt at (place + 1 + count)) ≤ unless_ticking b
    by false is = one_most (nat_le (place + 1) at && nat_lt at (place + 1 + count))
    by true is =
        let parts = both_of (nat_le place at) (nat_lt at (place + suc count)) is in
        let one = parts.0 in
        let two = parts.1 in
        let from : place ≤ at = grind (arith, nat_tests, one) in
        let less : at < place + suc count = grind (arith, nat_tests, two) in
        let above : place + 1 ≤ at = omega (arith, from, apart) in
        let below : at < place + 1 + count = omega (arith, less) in
        let a : nat_le (place + 1) at ≡ true = grind (arith, nat_tests, above) in
        let b : nat_lt at (place + 1 + count) ≡ true = grind (arith, nat_tests, below) in
        let none : unless_ticking (nat_le (place + 1) at && nat_lt at (place + 1 + count)) ≡ 0 = ap unless_ticking (both (nat_le (place + 1) at) (nat_lt at (place + 1 + count)) a b) in
        omega (arith, none)

-- all have
pub all_ticked : (place at : ℕ) → unless_ticking (nat_le place at && nat_lt at (place + 0)) ≡ 1
all_ticked place at = ap unless_ticking (by (nat_le place at) refl)
  where
    by : (b : Bool) → nat_le place at ≡ b → (b && nat_lt at (place + 0)) ≡ false
    by true is = let from : place ≤ at = grind (arith, nat_tests, is) in let no : nat_lt at (place + 0) ≡ false = grind (arith, nat_tests, from) in no
    by false is = refl

-- none has
pub none_ticked : (count at : ℕ) → at < count → unless_ticking (nat_le 0 at && nat_lt at (0 + count)) ≡ 0
none_ticked count at less =
    let a : nat_le 0 at ≡ true = grind (arith, nat_tests) in
    let b : nat_lt at (0 + count) ≡ true = grind (arith, nat_tests, less) in
    ap unless_ticking (both (nat_le 0 at) (nat_lt at (0 + count)) a b)

pub place_within : (devices : List State) (place : ℕ) (device : State) → slice_get devices place ≡ Some device → place < length devices
place_within [] place device there = absurd cc
place_within (first ∷ devices) zero device there = omega arith
place_within (first ∷ devices) (suc place) device there = let less = place_within devices place device there in omega (arith, less)
