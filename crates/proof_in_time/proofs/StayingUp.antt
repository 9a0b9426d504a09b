-- What is so of the device of a node that sleeps, after each event of the machine: it stays awake where it is woken, ticks not long after it heard something, or hears
-- something that leaves it so.
use Rattle.std.proofs.Common.{◌≡◌, ◌≢◌, ◌<◌, ℕ, ◌+◌, ◌==◌, Bool, true, false, if◌then◌else◌, Option, Some, None, List, [], ◌∷◌, refl, sym, ap, ◌∙◌, subst, arith}
use Rattle.std.proofs.lemmas.Bool.{eq-eqb, eqb-true}
use Rattle.std.specs.Prelude.{slice_get, slice_set}
use Rattle.std.specs.List.{AllByRecursion}
use Rattle.class_info.specs.InfoSpelling.{form}
use Rattle.class_info.specs.declared.message.InfoMessage.TheVariants.{WakeUpNotification}
use Rattle.route_table.specs.declared.route.Route.{Route}
use Rattle.air_frames.specs.Flown.{Flown}
use Rattle.air_frames.specs.Frames.{next_of}
use Rattle.supervision.specs.Session.{wire_id}
use Rattle.chip_sim.specs.Nodes.{is_marked}
use Rattle.device_kinds.specs.Answers.{report_status}
use Rattle.device_kinds.specs.Kind.{listens}
use Rattle.device_stack.specs.State.{silent}
use Rattle.device_stack.specs.Ticking.{awake_ticks, woken}
use Rattle.device_sim.specs.State.{State}
use Rattle.device_sim.specs.Event.{DeviceEvent, Hears, Ticks, Wakes, device_after, outcome_of}
use Rattle.mesh_sim.specs.Fates.{Mesh, fate_of, place_of}
use Rattle.mesh_sim.specs.Steps.{acknowledged, arriving, arriving_as, heard_at, landed, mesh_after}
use Rattle.mesh_sim.specs.declared.fate.Fate.{Fate}
use Rattle.mesh_sim.specs.declared.fate.Fate.TheVariants.{AtChip, AtDevice, Dead, Lost, Missed}
use Rattle.outside_model.specs.Devices.{device_set, set_by_hand}
use Rattle.outside_model.specs.Events.{Arrives, Device_ticks, Wakes_device, devices_after, mesh_of}
use Rattle.host_heard.specs.declared.told.Told.TheVariants.{Report}
use Rattle.world_model.specs.Events.{Event, Outside_does, happens}
use Rattle.world_model.specs.State.{Machine}
use Rattle.proof_messages.specs.Reporting.{asks_now}
use Rattle.proof_in_time.specs.Answering.{AnswersSession}
use Rattle.proof_answered.specs.proof_calm.proof_work.proof_walk.Phases.{Phase}
use Rattle.proof_answered.specs.Sleepers.{HasSleeper, IsWanted, StaysUp, TellsQuietly}
use Rattle.proof_in_time.specs.Sleeping.{IsLately, LeavesUp}
use Rattle.proof_spoken.proofs.KeptKinds.{event_same}
use Rattle.proof_course_plain.proofs.ChangesOutside.{get_set, place_set}
use Rattle.proof_course_plain.proofs.MadeSettings.{get_other}
use Rattle.proof_course_plain.proofs.Replies.{one_place, one_stands}
use Rattle.proof_in_time.proofs.Busy.{ticked_devices}
use Rattle.proof_in_time.proofs.Sleepers.{tick_awake}

-- ---- it is one device

-- so it is of the first device of the node, whichever it is
abbrev pub Then : (ℕ → State → Type 0) → ℕ → List State → Type 0
Then Is n later = (next : HasSleeper n later) → Is next.place next.device

module _ (Is : ℕ → State → Type 0) (n : ℕ) where
  at_then : (later : List State) (place : ℕ) (device : State) → place_of n later ≡ Some place → slice_get later place ≡ Some device → Is place device → Then Is n later
  at_then later place device first stands so next =
      let there : next.place ≡ place = one_place n later next.place place next.first first in
      let same : next.device ≡ device = one_stands later next.place place next.device device next.stands stands there in
      subst (λ (p : ℕ). Is p next.device) (sym there) (subst (λ (d : State). Is place d) (sym same) so)

  pub same_then : (devices later : List State) → later ≡ devices → (is : HasSleeper n devices) → Is is.place is.device → Then Is n later
  same_then devices later same is so = subst (Then Is n) (sym same) (at_then devices is.place is.device is.first is.stands so)

  -- one of them becomes another of its node
  set_then : (devices : List State) (place : ℕ) (device new : State) → slice_get devices place ≡ Some device → new.node ≡ device.node → (is : HasSleeper n devices) → (is.place ≢ place → Is is.place is.device)
      → (is.place ≡ place → is.device ≡ device → Is is.place new) → Then Is n (slice_set devices place new)
  set_then devices place device new there node is other own = by (is.place == place) refl
    where
      first : place_of n (slice_set devices place new) ≡ Some is.place
      first = place_set n devices place device new there node ∙ is.first

      by : (b : Bool) → (is.place == place) ≡ b → Then Is n (slice_set devices place new)
      by true so =
          let same : is.place ≡ place = eqb-true is.place place so in
          let it : is.device ≡ device = one_stands devices is.place place is.device device is.stands there same in
          at_then (slice_set devices place new) is.place new first (subst (λ (k : ℕ). slice_get (slice_set devices place new) k ≡ Some new) (sym same) (get_set devices place device new there)) (own same it)
      by false so =
          let apart : is.place ≢ place = λ e. let wrong : true ≡ false = sym (eq-eqb is.place place e) ∙ so in absurd cc in
          at_then (slice_set devices place new) is.place is.device first (get_other devices place is.place new apart ∙ is.stands) (other apart)

  found_then : (devices : List State) (place : ℕ) (found : Option State) (event : DeviceEvent) → slice_get devices place ≡ found → (is : HasSleeper n devices) → (is.place ≢ place → Is is.place is.device)
      → (is.place ≡ place → Is is.place (device_after is.device event)) → Then Is n (device_set devices place found event)
  found_then devices place None event there is other own =
      same_then devices devices refl is (other (λ same. let none : Some is.device ≡ None = sym is.stands ∙ (ap (λ (k : ℕ). slice_get devices k) same ∙ there) in absurd cc))
  found_then devices place (Some device) event there is other own =
      set_then devices place device (device_after device event) there (event_same device event).node is other (λ same it. subst (λ (d : State). Is is.place (device_after d event)) it (own same))

  -- ---- at the events at which a device does something

  pub ticks_then : (m : Machine) (place : ℕ) (drawn : List ℕ) (route : Option Route) (is : HasSleeper n m.outside.devices) → (is.place ≢ place → Is is.place is.device)
      → (is.place ≡ place → Is is.place (device_after is.device (Ticks drawn))) → Then Is n (happens m (Outside_does (Device_ticks place drawn route))).outside.devices
  ticks_then m place drawn route is other own =
      subst (Then Is n) (sym (ticked_devices m place (slice_get m.outside.devices place) drawn route refl))
      (found_then m.outside.devices place (slice_get m.outside.devices place) (Ticks drawn) refl is other own)

  hand_then : (devices : List State) (place : Option ℕ) (is : HasSleeper n devices) → Is is.place is.device → Is is.place (device_after is.device Wakes) → Then Is n (set_by_hand devices place Wakes)
  hand_then devices None is other own = same_then devices devices refl is other
  hand_then devices (Some place) is other own = found_then devices place (slice_get devices place) Wakes refl is (λ apart. other) (λ same. own)

  pub wakes_then : (m : Machine) (node : ℕ) (route : Option Route) (is : HasSleeper n m.outside.devices) → Is is.place is.device → Is is.place (device_after is.device Wakes)
      → Then Is n (happens m (Outside_does (Wakes_device node route))).outside.devices
  unfolding happens devices_after
  wakes_then m node route is other own = hand_then m.outside.devices (place_of node m.outside.devices) is other own

  -- that of its node
  pub wakes_own : (m : Machine) (route : Option Route) (is : HasSleeper n m.outside.devices) → Is is.place (device_after is.device Wakes) → Then Is n (happens m (Outside_does (Wakes_device n route))).outside.devices
  unfolding happens devices_after
  wakes_own m route is own =
      subst (λ (place : Option ℕ). Then Is n (set_by_hand m.outside.devices place Wakes)) (sym is.first)
      (found_then m.outside.devices is.place (slice_get m.outside.devices is.place) Wakes refl is (λ apart. absurd (apart refl)) (λ same. own))

  -- a frame arrives
  abbrev HearsThen : (at : Mesh) (is : HasSleeper n at.devices) (drawn : List ℕ) (frame : Flown) → Fate → Type 0
  HearsThen at is drawn frame fate = fate ≡ AtDevice is.place → Is is.place (device_after is.device (Hears frame.payload drawn))

  heard_then : (at : Mesh) (place : ℕ) (found : Option State) (node : ℕ) (route : Option Route) (payload drawn : List ℕ) → slice_get at.devices place ≡ found → (is : HasSleeper n at.devices) → Is is.place is.device
      → (is.place ≡ place → Is is.place (device_after is.device (Hears payload drawn))) → Then Is n (heard_at at place found node route (Hears payload drawn)).devices
  heard_then at place None node route payload drawn there is so own = same_then at.devices at.devices refl is so
  heard_then at place (Some device) node route payload drawn there is so own = found_then at.devices place (Some device) (Hears payload drawn) there is (λ apart. so) own

  fate_then : (at : Mesh) (frame : Flown) (fate : Fate) (drawn : List ℕ) (route : Option Route) (is : HasSleeper n at.devices) → Is is.place is.device → HearsThen at is drawn frame fate
      → Then Is n (arriving_as at frame fate drawn route).devices
  fate_then at frame Lost drawn route is so own = same_then at.devices at.devices refl is so
  fate_then at frame (Dead from to) drawn route is so own = same_then at.devices at.devices refl is so
  fate_then at frame Missed drawn route is so own = same_then at.devices at.devices refl is so
  fate_then at frame AtChip drawn route is so own = same_then at.devices at.devices refl is so
  fate_then at frame (AtDevice place) drawn route is so own =
      heard_then (record at { air = landed (acknowledged at.air) }) place (slice_get at.devices place) frame.node route frame.payload drawn refl
      (record { place = is.place; device = is.device; first = is.first; stands = is.stands; sleeps = is.sleeps }) so (λ same. own (ap AtDevice (sym same)))

  arriving_then : (at : Mesh) (next : Option Flown) (drawn : List ℕ) (route : Option Route) (is : HasSleeper n at.devices) → Is is.place is.device
      → ((frame : Flown) → next ≡ Some frame → HearsThen at is drawn frame (fate_of at.air.network at.devices frame)) → Then Is n (arriving at next drawn route).devices
  arriving_then at None drawn route is so own = same_then at.devices at.devices refl is so
  arriving_then at (Some frame) drawn route is so own = fate_then at frame (fate_of at.air.network at.devices frame) drawn route is so (own frame refl)

  pub arrives_then : (m : Machine) (drawn : List ℕ) (route : Option Route) (is : HasSleeper n m.outside.devices) → Is is.place is.device
      → ((frame : Flown) → next_of m.outside.outer.air.frames ≡ Some frame → fate_of m.outside.outer.air.network m.outside.devices frame ≡ AtDevice is.place → Is is.place (device_after is.device (Hears frame.payload drawn)))
      → Then Is n (happens m (Outside_does (Arrives drawn route))).outside.devices
  unfolding happens devices_after mesh_after
  arrives_then m drawn route is so own =
      arriving_then (mesh_of m.outside) (next_of m.outside.outer.air.frames) drawn route (record { place = is.place; device = is.device; first = is.first; stands = is.stands; sleeps = is.sleeps }) so
      (λ frame next fate. own frame next fate)

-- ---- it stays awake

abbrev IsAwake : ℕ → State → Type 0
IsAwake place device = device.awake ≡ true

pub ticks_up : (these : List Bool) (m : Machine) (place : ℕ) (drawn : List ℕ) (route : Option Route)
    → ((n : ℕ) → is_marked these n ≡ true → (is : HasSleeper n m.outside.devices) → IsWanted n m (Outside_does (Device_ticks place drawn route)) → is.place ≡ place → is.device.clock + 1 < is.device.active_at + awake_ticks)
    → StaysUp these m (Outside_does (Device_ticks place drawn route))
ticks_up these m place drawn route soon n marked is awake wanted =
    ticks_then IsAwake n m place drawn route is (λ apart. awake) (λ same. tick_awake is.device drawn awake (soon n marked is wanted same))

woken_up : (device : State) → device.awake ≡ true → (device_after device Wakes).awake ≡ true
unfolding device_after outcome_of woken
woken_up device awake = by (listens device.kind)
  where
    by : (b : Bool) → (if b then silent device else record { device = record device { awake = true; active_at = device.clock }; replies = form WakeUpNotification ∷ [] }).device.awake ≡ true
    by true = awake
    by false = refl

pub wakes_up : (these : List Bool) (m : Machine) (node : ℕ) (route : Option Route) → StaysUp these m (Outside_does (Wakes_device node route))
wakes_up these m node route n marked is awake wanted = wakes_then IsAwake n m node route is awake (woken_up is.device awake)

pub arrives_up : (these : List Bool) (m : Machine) (drawn : List ℕ) (route : Option Route) → LeavesUp these m drawn route → StaysUp these m (Outside_does (Arrives drawn route))
arrives_up these m drawn route leaves n marked is awake wanted = arrives_then IsAwake n m drawn route is awake (λ frame next fate. leaves n marked is awake wanted frame next fate)

pub still_up : (these : List Bool) (m : Machine) (event : Event) → (happens m event).outside.devices ≡ m.outside.devices → StaysUp these m event
still_up these m event same n marked is awake wanted = same_then IsAwake n m.outside.devices (happens m event).outside.devices same is awake

-- where it heard something lately
pub lately_up : (these : List Bool) (limit : ℕ) (here : Phase) (m : Machine) (place : ℕ) (drawn : List ℕ) (route : Option Route)
    → ((n : ℕ) → is_marked these n ≡ true → (is : HasSleeper n m.outside.devices) → IsWanted n m (Outside_does (Device_ticks place drawn route)) → IsLately limit here m is.place is.device)
    → StaysUp these m (Outside_does (Device_ticks place drawn route))
lately_up these limit here m place drawn route lately =
    ticks_up these m place drawn route
    (λ n marked is wanted same.
    let was = lately n marked is wanted in
    let since = was.since in
    let few = was.quiet in
    omega (arith, since, few))

-- ---- what it answers

-- a report of its own asks for nothing, and tells of no waking
pub answer_quiet : (session : ℕ) (new : State) (replies : List (List ℕ)) → AnswersSession session new replies → AllByRecursion TellsQuietly replies
answer_quiet session new replies is =
    subst (AllByRecursion TellsQuietly) (sym is.says) (record { told = Report (wire_id new.sessions.taken) (report_status new.sessions.status) (asks_now new); heard = is.tells; quiet = tt }, tt)
