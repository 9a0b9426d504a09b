-- The device of a node that sleeps stays awake over the ticks that its commands need, and says nothing at the wrong time: since it was woken not long before, and hears
-- only messages of sessions until it is told that there is no more.
use Rattle.std.proofs.Common.{◌≡◌, ◌≢◌, ◌≤◌, ◌<◌, ℕ, zero, suc, ◌+◌, ◌-◌, ◌&&◌, nat_le, nat_lt, inl, inr, Bool, true, false, if◌then◌else◌, Option, Some, None, List, [], ◌∷◌, ◌++◌, length, refl, sym, ap, ◌∙◌, subst, arith}
use Rattle.std.proofs.lemmas.Bool.Decides.{nat_tests}
use Rattle.std.specs.Prelude.{◌⊎◌, option_map}
use Rattle.std.specs.List.{AllByRecursion}
use Rattle.zw_text.specs.declared.line.Line.{Line}
use Rattle.zw_text.specs.declared.entry.Entry.{Entry}
use Rattle.zw_text.specs.declared.entry.Entry.TheVariants as entry
use Rattle.zw_text.specs.Transcript.{line_of, lines_run}
use Rattle.route_table.specs.declared.route.Route.{Route}
use Rattle.chip_sim.specs.Nodes.{is_marked}
use Rattle.air_frames.specs.Flown.{Flown}
use Rattle.air_frames.specs.Frames.{next_of}
use Rattle.air_frames.specs.declared.frame.Heading.{Heading}
use Rattle.air_frames.specs.declared.frame.Heading.TheVariants.{Homeward, Outward}
use Rattle.device_kinds.specs.Kind.{listens}
use Rattle.device_sim.specs.State.{State}
use Rattle.device_sim.specs.Event.{Hears, Ticks, Wakes, device_after, device_replies}
use Rattle.mesh_sim.specs.Fates.{dead_hop_of, fate_by, fate_of, listener_of, place_of}
use Rattle.mesh_sim.specs.declared.fate.Fate.TheVariants.{AtDevice, Lost}
use Rattle.host_requests.specs.Frames.{no_more_information}
use Rattle.host_requests.specs.declared.task.Purpose.TheVariants.{Housekeeping}
use Rattle.host_requests.specs.declared.task.Task.TheVariants.{NoMore}
use Rattle.host_requests.specs.declared.under_way.UnderWay.{UnderWay}
use Rattle.serial_frame.specs.Stream.{Rest}
use Rattle.serial_frame.specs.declared.item.Item.{Item}
use Rattle.host_model.specs.Events.{HostEvent}
use Rattle.host_model.specs.Pumping.{no_more_event}
use Rattle.host_model.specs.State.{HostState, node_of}
use Rattle.host_model.specs.Ticking.{tick_events}
use Rattle.outside_model.specs.Events.{Arrives, Begins_line, Begins_tick, Chip_takes, Chip_ticks, Cuts, Device_ticks, Gives, Shows, Wakes_device, devices_after}
use Rattle.world_model.specs.Did.{AllAlong}
use Rattle.world_model.specs.Events.{Event, Outside_does, Host_does, Host_takes, Decoder_ticks, Refuses, Shows_values, entries, happens}
use Rattle.world_model.specs.State.{Machine}
use Rattle.world_model.proofs.Hosting.{devices_host-all}
use Rattle.proof_answered.specs.proof_calm.proof_work.proof_walk.Phases.{Phase, Between, Said_line, Begun, Doing, To_tick, Ticked, Arriving, Giving, Ticking_devices, Ticking_chip, Ticking_decoder, Ticking_host, Sleeping, Submitting, Moving, Moved, Goes, Turns}
use Rattle.proof_answered.specs.proof_calm.Resting.{IsEffect, LineAt}
use Rattle.proof_answered.proofs.SleeperTexts.{Wakes_it, before_next, before_said, before_turn}
use Rattle.proof_answered.proofs.proof_traffic_Parts.{Airs}
use Rattle.proof_answered.specs.Listening.{HasListener}
use Rattle.proof_answered.specs.Sleepers.{AllHear, All_listen, Back_asleep, Before, Counts, HasSleeper, IsAfter, IsAlone, IsBefore, IsTelling, IsUpAt, IsDown, IsWanted, One_sleeps, SaysAs, SleeperAt, StaysUp, TellsQuietly, Tells_it, Up, Was_told, Woken}
use Rattle.proof_answered.proofs.Speaking.{fate_listens, hears_at}
use Rattle.proof_course_plain.proofs.Arrivals.{awake_at_place}
use Rattle.proof_course_plain.proofs.Replies.{one_place, one_stands}
use Rattle.proof_messages.specs.Asking.{takes_openly}
use Rattle.proof_in_time.specs.Answering.{AnswersSession, IsInStep}
use Rattle.proof_in_time.specs.Coming.{IsMessage}
use Rattle.proof_in_time.specs.InHand.{ticks_begun}
use Rattle.proof_in_time.specs.InStep.{HasInStep, IsPlainly}
use Rattle.proof_in_time.specs.Sleeping.{IsLately, IsPlainlyUp, LeavesUp, is_to_tick, quiet_for}
use Rattle.proof_in_time.proofs.Bounded.{Devices, counted_devices, cuts_devices, decoder_devices, line_devices, refuses_devices, session_of, shows_devices, tick_devices, values_devices}
use Rattle.proof_in_time.proofs.Plainly.{Tells, ticks_so}
use Rattle.proof_in_time.proofs.Rising.{not_both, not_both_wake}
use Rattle.proof_in_time.proofs.Served.{event_clock, tick_clock}
use Rattle.proof_in_time.proofs.Settled.{chip_devices}
use Rattle.proof_answered.proofs.Walking.{takes_still}
use Rattle.proof_in_time.proofs.Sleepers.{HeardNow, heard_now, no_more_silent, ticks_on, wakes_telling}
use Rattle.proof_in_time.proofs.StayingUp.{Then, answer_quiet, arrives_then, arrives_up, lately_up, same_then, still_up, ticks_then, wakes_own, wakes_then, wakes_up}

-- ---- nodes that listen

-- so nothing is assumed of these
pub all_up : (these : List Bool) → ((n : ℕ) (m : Machine) (event : Event) → HasListener n m.outside.devices → HasListener n (happens m event).outside.devices) → (m : Machine) (events : List Event)
    → ((n : ℕ) → is_marked these n ≡ true → HasListener n m.outside.devices) → AllAlong (IsPlainly these) m events → AllAlong (IsPlainlyUp these) m events
all_up these stays m [] listen all = tt
all_up these stays m (event ∷ events) listen all = (
  (all.0, λ n marked sleeper. absurd (not_both n m.outside.devices (listen n marked) sleeper)),
  all_up these stays (happens m event) events (λ n marked. stays n m event (listen n marked)) all.1,
)

-- ---- how many ticks have begun

pub clock_least : (m : Machine) (event : Event) → ticks_begun m ≤ ticks_begun (happens m event)
clock_least m (Outside_does Begins_tick) = let one = tick_clock m in omega (arith, one)
clock_least m (Outside_does event) = let same = event_clock m (Outside_does event) tt in omega (arith, same)
clock_least m event = let same = event_clock m event tt in omega (arith, same)

pub clock_most : (m : Machine) (event : Event) → ticks_begun (happens m event) ≤ ticks_begun m + 1
clock_most m (Outside_does Begins_tick) = let one = tick_clock m in omega (arith, one)
clock_most m (Outside_does event) = let same = event_clock m (Outside_does event) tt in omega (arith, same)
clock_most m event = let same = event_clock m event tt in omega (arith, same)

-- ---- the device is to tick

-- not twice
to_tick_once : (place count at : ℕ) → is_to_tick (Ticking_devices (place + 1) count 0) at ≤ is_to_tick (Ticking_devices place (suc count) 0) at
to_tick_once place count at = by (nat_le (place + 1) at && nat_lt at (place + 1 + count)) refl
  where
    both_of : (a b : Bool) → (a && b) ≡ true → (a ≡ true) × (b ≡ true)
    both_of true true is = (refl, refl)
    both_of true false is = absurd (let wrong : false ≡ true = is in cc)
    both_of false b is = absurd (let wrong : false ≡ true = is in cc)

    one : (a b : Bool) → a ≡ true → b ≡ true → ◌≡◌ {A = ℕ} (if a && b then 1 else 0) 1
    one a b first second = rw (first, second) refl

    by : (b : Bool) → (nat_le (place + 1) at && nat_lt at (place + 1 + count)) ≡ b → (if b then 1 else 0) ≤ (if nat_le place at && nat_lt at (place + suc count) then 1 else 0)
    by false is = omega arith
    by true is =
        let parts = both_of (nat_le (place + 1) at) (nat_lt at (place + 1 + count)) is in
        let low = parts.0 in
        let high = parts.1 in
        let from : place + 1 ≤ at = grind (arith, nat_tests, low) in
        let less : at < place + 1 + count = grind (arith, nat_tests, high) in
        let a : nat_le place at ≡ true = grind (arith, nat_tests, from) in
        let b : nat_lt at (place + suc count) ≡ true = grind (arith, nat_tests, less) in
        let all = one (nat_le place at) (nat_lt at (place + suc count)) a b in
        omega (arith, all)

-- once it has ticked it is to tick no more
none_to_tick : (place count : ℕ) → is_to_tick (Ticking_devices (place + 1) count 0) place ≡ 0
none_to_tick place count = ap (λ (b : Bool). if b then 1 else 0) (ap (λ (b : Bool). b && nat_lt place (place + 1 + count)) (let no : nat_le (place + 1) place ≡ false = grind (arith, nat_tests) in no))

one_to_tick : (place count : ℕ) → is_to_tick (Ticking_devices place (suc count) 0) place ≡ 1
one_to_tick place count =
    ap (λ (b : Bool). if b then 1 else 0)
    (ap (λ (b : Bool). b && nat_lt place (place + suc count)) (let a : nat_le place place ≡ true = grind (arith, nat_tests) in a) ∙ (let b : nat_lt place (place + suc count) ≡ true = grind (arith, nat_tests) in b))

most_to_tick : (here : Phase) (place : ℕ) → is_to_tick here place ≤ 1
most_to_tick (Ticked ticks) place = omega arith
most_to_tick (Arriving frames ticks) place = omega arith
most_to_tick (Giving results ticks) place = omega arith
most_to_tick (Ticking_devices at count ticks) place = by (nat_le at place && nat_lt place (at + count))
  where
    by : (b : Bool) → (if b then 1 else 0) ≤ 1
    by true = omega arith
    by false = omega arith
most_to_tick here place = omega arith

given_devices : (m : Machine) (route : Option Route) → (happens m (Outside_does (Gives route))).outside.devices ≡ m.outside.devices
unfolding happens devices_after
given_devices m route = refl

-- the chip takes what came to it, and the host does
abbrev takes_event : Machine → Rest → List (Item × Option Route) → Event
takes_event m rest ways = Outside_does (Chip_takes (length m.outside.outer.to_chip.bytes) rest ways)

abbrev judges_event : Machine → Rest → List Item → List HostEvent → Event
judges_event m rest items done = Host_takes (length m.outside.outer.to_host.bytes) rest items done

-- ---- it heard something not long ago

-- the devices are as they were, and no tick has begun
same_quiet : (limit now later now_left later_left quiet : ℕ) → later ≡ now → later_left ≤ now_left → quiet + now_left + (limit - now) ≤ 190 → quiet + later_left + (limit - later) ≤ 190
same_quiet limit now later now_left later_left quiet same less few = omega (arith, same, less, few)

module _ (limit n : ℕ) where
  abbrev LatelyAt : Phase → Machine → Event → Type 0
  LatelyAt next m event = Then (IsLately limit next (happens m event)) n (happens m event).outside.devices

  still_lately : (here next : Phase) (m : Machine) (event : Event) → (happens m event).outside.devices ≡ m.outside.devices → ticks_begun (happens m event) ≡ ticks_begun m
      → ((place : ℕ) → is_to_tick next place ≤ is_to_tick here place) → (is : HasSleeper n m.outside.devices) → IsLately limit here m is.place is.device → LatelyAt next m event
  still_lately here next m event devices ticks less is at =
      same_then (IsLately limit next (happens m event)) n m.outside.devices (happens m event).outside.devices devices is
      (record { since = at.since; quiet = same_quiet limit (ticks_begun m) (ticks_begun (happens m event)) (is_to_tick here is.place) (is_to_tick next is.place) (quiet_for is.device) ticks (less is.place) at.quiet })

  as_lately : (next to : Phase) (m : Machine) (event is : Event) → event ≡ is → next ≡ to → LatelyAt to m is → LatelyAt next m event
  as_lately next to m event is event_is next_is at = subst (λ (e : Event). LatelyAt next m e) (sym event_is) (subst (λ (q : Phase). LatelyAt q m is) (sym next_is) at)

  -- it is woken
  woken_lately : (next : Phase) (m : Machine) (event : Event) (place : ℕ) (device : State) → listens device.kind ≡ false → ticks_begun m ≤ ticks_begun (happens m event) → limit ≤ ticks_begun m + 150
      → IsLately limit next (happens m event) place (device_after device Wakes)
  woken_lately next m event place device sleeps ticks soon =
      let up = (wakes_telling device sleeps).up.now in
      let one = most_to_tick next place in
      record { since = omega (arith, up); quiet = omega (arith, up, one, ticks, soon) }

  pub wakes_lately : (next : Phase) (m : Machine) (route : Option Route) → limit ≤ ticks_begun m + 150 → (is : HasSleeper n m.outside.devices) → LatelyAt next m (Outside_does (Wakes_device n route))
  wakes_lately next m route soon is =
      wakes_own (IsLately limit next (happens m (Outside_does (Wakes_device n route)))) n m route is
      (woken_lately next m (Outside_does (Wakes_device n route)) is.place is.device is.sleeps (clock_least m (Outside_does (Wakes_device n route))) soon)

  effect_lately : (line : Line) (left : List Event) (m : Machine) (event : Event) → IsEffect event → limit ≤ ticks_begun m + 150 → (is : HasSleeper n m.outside.devices) → IsLately limit (Doing line (event ∷ left)) m is.place is.device
      → LatelyAt (Doing line left) m event
  effect_lately line left m (Outside_does (Wakes_device node route)) effect soon is at =
      wakes_then (IsLately limit (Doing line left) (happens m (Outside_does (Wakes_device node route)))) n m node route is
      (record { since = at.since; quiet = same_quiet limit (ticks_begun m) (ticks_begun (happens m (Outside_does (Wakes_device node route)))) 0 0 (quiet_for is.device) (event_clock m (Outside_does (Wakes_device node route)) tt) (omega arith) at.quiet })
      (woken_lately (Doing line left) m (Outside_does (Wakes_device node route)) is.place is.device is.sleeps (clock_least m (Outside_does (Wakes_device node route))) soon)
  effect_lately line left m (Outside_does (Shows node)) effect soon is at =
      still_lately (Doing line (Outside_does (Shows node) ∷ left)) (Doing line left) m (Outside_does (Shows node)) (shows_devices m node) (event_clock m (Outside_does (Shows node)) tt) (λ place. omega arith) is at
  effect_lately line left m (Outside_does (Cuts size)) effect soon is at =
      still_lately (Doing line (Outside_does (Cuts size) ∷ left)) (Doing line left) m (Outside_does (Cuts size)) (cuts_devices m size) (event_clock m (Outside_does (Cuts size)) tt) (λ place. omega arith) is at
  effect_lately line left m (Outside_does event) effect soon is at = absurd effect
  effect_lately line left m (Host_does event) effect soon is at =
      still_lately (Doing line (Host_does event ∷ left)) (Doing line left) m (Host_does event) (devices_host-all m (event ∷ [])) (event_clock m (Host_does event) tt) (λ place. omega arith) is at
  effect_lately line left m (Refuses of refusal) effect soon is at =
      still_lately (Doing line (Refuses of refusal ∷ left)) (Doing line left) m (Refuses of refusal) (refuses_devices m of refusal) (event_clock m (Refuses of refusal) tt) (λ place. omega arith) is at
  effect_lately line left m (Shows_values node) effect soon is at =
      still_lately (Doing line (Shows_values node ∷ left)) (Doing line left) m (Shows_values node) (values_devices m node) (event_clock m (Shows_values node) tt) (λ place. omega arith) is at
  effect_lately line left m event effect soon is at = absurd effect

  -- it hears a frame
  heard_lately : (frames ticks : ℕ) (m : Machine) (drawn : List ℕ) (route : Option Route) (is : HasSleeper n m.outside.devices) → IsLately limit (Arriving (suc frames) ticks) m is.place is.device
      → LatelyAt (Arriving frames ticks) m (Outside_does (Arrives drawn route))
  heard_lately frames ticks m drawn route is at =
      arrives_then (IsLately limit (Arriving frames ticks) later) n m drawn route is
      (record { since = at.since; quiet = same_quiet limit (ticks_begun m) (ticks_begun later) 1 1 (quiet_for is.device) same (omega arith) at.quiet }) hears
    where
      later : Machine
      later = happens m (Outside_does (Arrives drawn route))

      same : ticks_begun later ≡ ticks_begun m
      same = event_clock m (Outside_does (Arrives drawn route)) tt

      hears : (frame : Flown) → next_of m.outside.outer.air.frames ≡ Some frame → fate_of m.outside.outer.air.network m.outside.devices frame ≡ AtDevice is.place
          → IsLately limit (Arriving frames ticks) later is.place (device_after is.device (Hears frame.payload drawn))
      hears frame next fate = by heard.active
        where
          new : State
          new = device_after is.device (Hears frame.payload drawn)

          heard : HeardNow is.device new
          heard = heard_now is.device frame.payload drawn is.sleeps

          by : (new.active_at ≡ is.device.clock) ⊎ (new.active_at ≡ is.device.active_at) → IsLately limit (Arriving frames ticks) later is.place new
          by (inl active) =
              let clock = heard.clock in
              let quiet = at.quiet in
              record { since = omega (arith, clock, active); quiet = omega (arith, clock, active, quiet, same) }
          by (inr active) =
              let clock = heard.clock in
              let quiet = at.quiet in
              let since = at.since in
              record { since = omega (arith, clock, active, since); quiet = omega (arith, clock, active, quiet, same) }

  -- a device ticks
  ticked_lately : (place count ticks : ℕ) (m : Machine) (drawn : List ℕ) (route : Option Route) (is : HasSleeper n m.outside.devices) → IsLately limit (Ticking_devices place (suc count) ticks) m is.place is.device
      → LatelyAt (Ticking_devices (place + 1) count ticks) m (Outside_does (Device_ticks place drawn route))
  ticked_lately place count ticks m drawn route is at = ticks_then (IsLately limit (Ticking_devices (place + 1) count ticks) later) n m place drawn route is other own
    where
      later : Machine
      later = happens m (Outside_does (Device_ticks place drawn route))

      same : ticks_begun later ≡ ticks_begun m
      same = event_clock m (Outside_does (Device_ticks place drawn route)) tt

      other : is.place ≢ place → IsLately limit (Ticking_devices (place + 1) count ticks) later is.place is.device
      other apart = record {
        since = at.since;
        quiet = same_quiet limit (ticks_begun m) (ticks_begun later) (is_to_tick (Ticking_devices place (suc count) ticks) is.place) (is_to_tick (Ticking_devices (place + 1) count ticks) is.place) (quiet_for is.device) same
            (to_tick_once place count is.place) at.quiet;
      }

      own : is.place ≡ place → IsLately limit (Ticking_devices (place + 1) count ticks) later is.place (device_after is.device (Ticks drawn))
      own here =
          let on = ticks_on is.device drawn in
          let clock = on.clock in
          let active = on.active in
          let since = at.since in
          let quiet = at.quiet in
          let was : is_to_tick (Ticking_devices place (suc count) 0) is.place ≡ 1 = ap (λ (k : ℕ). is_to_tick (Ticking_devices place (suc count) 0) k) here ∙ one_to_tick place count in
          let now : is_to_tick (Ticking_devices (place + 1) count 0) is.place ≡ 0 = ap (λ (k : ℕ). is_to_tick (Ticking_devices (place + 1) count 0) k) here ∙ none_to_tick place count in
          record { since = omega (arith, clock, active, since); quiet = omega (arith, clock, active, since, quiet, was, now, same) }

  -- a tick begins
  begun_quiet : (now later quiet : ℕ) → later ≡ now + 1 → later ≤ limit → quiet + 0 + (limit - now) ≤ 190 → quiet + 1 + (limit - later) ≤ 190
  begun_quiet now later quiet more few was = omega (arith, more, few, was)

  pub lately_on : (airs : Airs) (here next : Phase) (m : Machine) (event : Event) → Goes here m event next → LineAt here m → limit ≤ ticks_begun m + 150 → ticks_begun (happens m event) ≤ limit → (is : HasSleeper n m.outside.devices)
      → IsLately limit here m is.place is.device → LatelyAt next m event
  lately_on airs (Said_line line) next m event (to_event, to) line_at soon few is at =
      as_lately next (Begun line) m event (Outside_does Begins_line) to_event to (still_lately (Said_line line) (Begun line) m (Outside_does Begins_line) (line_devices m) (event_clock m (Outside_does Begins_line) tt) (λ place. omega arith) is at)
  lately_on airs (Doing line (first ∷ left)) next m event (to_event, to) line_at soon few is at = as_lately next (Doing line left) m event first to_event to (effect_lately line left m first line_at.0.0 soon is at)
  lately_on airs (To_tick (suc ticks)) next m event (to_event, to) line_at soon few is at =
      as_lately next (Ticked ticks) m event (Outside_does Begins_tick) to_event to
      (same_then (IsLately limit (Ticked ticks) (happens m (Outside_does Begins_tick))) n m.outside.devices (happens m (Outside_does Begins_tick)).outside.devices (tick_devices m) is
      (record { since = at.since; quiet = begun_quiet (ticks_begun m) (ticks_begun (happens m (Outside_does Begins_tick))) (quiet_for is.device) (tick_clock m) (subst (λ (e : Event). ticks_begun (happens m e) ≤ limit) to_event few) at.quiet }))
  lately_on airs (Arriving (suc frames) ticks) next m event (drawn, route, to_event, to) line_at soon few is at = as_lately next (Arriving frames ticks) m event (Outside_does (Arrives drawn route)) to_event to (heard_lately frames ticks m drawn route is at)
  lately_on airs (Giving (suc results) ticks) next m event (route, to_event, to) line_at soon few is at =
      as_lately next (Giving results ticks) m event (Outside_does (Gives route)) to_event to
      (still_lately (Giving (suc results) ticks) (Giving results ticks) m (Outside_does (Gives route)) (given_devices m route) (event_clock m (Outside_does (Gives route)) tt) (λ place. omega arith) is at)
  lately_on airs (Ticking_devices place (suc count) ticks) next m event (drawn, route, to_event, to) line_at soon few is at =
      as_lately next (Ticking_devices (place + 1) count ticks) m event (Outside_does (Device_ticks place drawn route)) to_event to (ticked_lately place count ticks m drawn route is at)
  lately_on airs (Ticking_chip ticks) next m event (to_event, to) line_at soon few is at =
      as_lately next (Ticking_decoder ticks) m event (Outside_does Chip_ticks) to_event to (still_lately (Ticking_chip ticks) (Ticking_decoder ticks) m (Outside_does Chip_ticks) (counted_devices m) (event_clock m (Outside_does Chip_ticks) tt) (λ place. omega arith) is at)
  lately_on airs (Ticking_decoder ticks) next m event (to_event, to) line_at soon few is at =
      as_lately next (Ticking_host (tick_events m.host.state) ticks) m event Decoder_ticks to_event to (still_lately (Ticking_decoder ticks) (Ticking_host (tick_events m.host.state) ticks) m Decoder_ticks (decoder_devices m) (event_clock m Decoder_ticks tt) (λ place. omega arith) is at)
  lately_on airs (Ticking_host (first ∷ events) ticks) next m event (to_event, to) line_at soon few is at =
      as_lately next (Ticking_host events ticks) m event (Host_does first) to_event to
      (still_lately (Ticking_host (first ∷ events) ticks) (Ticking_host events ticks) m (Host_does first) (devices_host-all m (first ∷ [])) (event_clock m (Host_does first) tt) (λ place. omega arith) is at)
  lately_on airs (Sleeping passes ticks) next m event (k, wants, to_event, to) line_at soon few is at =
      as_lately next (Sleeping passes ticks) m event (Host_does (no_more_event m.host.state k)) to_event to
      (still_lately (Sleeping passes ticks) (Sleeping passes ticks) m (Host_does (no_more_event m.host.state k)) (devices_host-all m (no_more_event m.host.state k ∷ [])) (event_clock m (Host_does (no_more_event m.host.state k)) tt) (λ place. omega arith) is at)
  lately_on airs (Submitting passes ticks) next m event (asked, next_is, to_event, to) line_at soon few is at =
      as_lately next (Submitting passes ticks) m event (Host_does asked) to_event to
      (still_lately (Submitting passes ticks) (Submitting passes ticks) m (Host_does asked) (devices_host-all m (asked ∷ [])) (event_clock m (Host_does asked) tt) (λ place. omega arith) is at)
  lately_on airs (Moving passes ticks) next m event (rest, ways, to_event, to) line_at soon few is at =
      as_lately next (Moved true passes ticks) m event (takes_event m rest ways) to_event to
      (still_lately (Moving passes ticks) (Moved true passes ticks) m (takes_event m rest ways) (chip_devices m (length m.outside.outer.to_chip.bytes) rest ways) (event_clock m (takes_event m rest ways) tt) (λ place. omega arith) is at)
  lately_on airs (Moved b passes ticks) next m event (rest, items, done, to_event, to) line_at soon few is at =
      as_lately next (Sleeping passes ticks) m event (judges_event m rest items done) to_event to
      (still_lately (Moved b passes ticks) (Sleeping passes ticks) m (judges_event m rest items done) (takes_still airs m (length m.outside.outer.to_host.bytes) rest items done) (event_clock m (judges_event m rest items done) tt) (λ place. omega arith) is at)
  lately_on airs here next m event goes line_at soon few is at = absurd goes

-- ---- each of these nodes listens, or was not woken yet, or heard something not long ago

pub data IsLively (limit n : ℕ) (here : Phase) (past : List Entry) (m : Machine) : Type 0 where
  Listens_on : HasListener n m.outside.devices → IsLively limit n here past m
  Sleeps_yet : HasSleeper n m.outside.devices → IsBefore n here past → IsLively limit n here past m
  Sleeps_lately : (is : HasSleeper n m.outside.devices) → IsLately limit here m is.place is.device → IsLively limit n here past m

abbrev pub AllLively : List Bool → ℕ → Phase → List Entry → Machine → Type 0
AllLively these limit here past m = (n : ℕ) → is_marked these n ≡ true → IsLively limit n here past m

-- what is proved of kinds of devices: they stay
pub record KindsStay : Type 0 where
  pub listener : (n : ℕ) (m : Machine) (event : Event) → HasListener n m.outside.devices → HasListener n (happens m event).outside.devices
  pub sleeper : (n : ℕ) (m : Machine) (event : Event) → HasSleeper n m.outside.devices → HasSleeper n (happens m event).outside.devices

-- before the first line that wakes one
pub first_lively : (these : List Bool) (limit : ℕ) (here : Phase) (past : List Entry) (m : Machine) → ((n : ℕ) → IsAlone these n → IsBefore n here past) → AllHear these here past m → AllLively these limit here past m
first_lively these limit here past m before (All_listen all) = λ n marked. Listens_on (all.nodes n marked)
first_lively these limit here past m before (One_sleeps n alone frames sleeper at) =
    λ k marked. subst (λ (j : ℕ). IsLively limit j here past m) (sym (alone.only k marked)) (Sleeps_yet sleeper (before n alone))

module _ (airs : Airs) (stays : KindsStay) (these : List Bool) (limit : ℕ) where
  lively_at : (n : ℕ) (here next : Phase) (past : List Entry) (m : Machine) (event : Event) → Goes here m event next → LineAt here m → lines_run (entries m event) ≡ [] → limit ≤ ticks_begun m + 150 → ticks_begun (happens m event) ≤ limit
      → IsLively limit n here past m → IsLively limit n next (past ++ entries m event) (happens m event)
  lively_at n here next past m event goes line_at none soon few (Listens_on is) = Listens_on (stays.listener n m event is)
  lively_at n here next past m event goes line_at none soon few (Sleeps_lately is at) =
      let later = stays.sleeper n m event is in Sleeps_lately later (lately_on limit n airs here next m event goes line_at soon few is at later)
  lively_at n here next past m event goes line_at none soon few (Sleeps_yet is before) = by (before_next n past (entries m event) none here next m event goes before)
    where
      later : HasSleeper n (happens m event).outside.devices
      later = stays.sleeper n m event is

      by : (IsBefore n next (past ++ entries m event) × (Wakes_it n event → ⊥)) ⊎ (IsAfter n next (past ++ entries m event) × Wakes_it n event) → IsLively limit n next (past ++ entries m event) (happens m event)
      by (inl (still, not)) = Sleeps_yet later still
      by (inr (after, (route, wakes))) =
          Sleeps_lately later (subst (λ (e : Event). LatelyAt limit n next m e) (sym wakes) (wakes_lately limit n next m route soon is) later)

  pub lively_on : (here next : Phase) (past : List Entry) (m : Machine) (event : Event) → Goes here m event next → LineAt here m → lines_run (entries m event) ≡ [] → limit ≤ ticks_begun m + 150 → ticks_begun (happens m event) ≤ limit
      → AllLively these limit here past m → AllLively these limit next (past ++ entries m event) (happens m event)
  lively_on here next past m event goes line_at none soon few all = λ n marked. lively_at n here next past m event goes line_at none soon few (all n marked)

  pub lively_said : (past : List Entry) (m : Machine) (words : List ℕ) (line : Line) → line_of (entry.Said words) ≡ line ∷ [] → AllLively these limit Between past m → AllLively these limit (Said_line line) (past ++ entry.Said words ∷ []) m
  lively_said past m words line read all = λ n marked. by n (all n marked)
    where
      by : (n : ℕ) → IsLively limit n Between past m → IsLively limit n (Said_line line) (past ++ entry.Said words ∷ []) m
      by n (Listens_on is) = Listens_on is
      by n (Sleeps_yet is before) = Sleeps_yet is (before_said n past words line read before)
      by n (Sleeps_lately is at) = Sleeps_lately is (record { since = at.since; quiet = at.quiet })

  -- and where a part is over
  no_more_to_tick : (here next : Phase) (m : Machine) → Turns here m next → (place : ℕ) → is_to_tick next place ≤ is_to_tick here place
  no_more_to_tick (Begun line) next m (inl (events, is, same)) place = subst (λ (q : Phase). is_to_tick q place ≤ 0) (sym same) (omega arith)
  no_more_to_tick (Begun line) next m (inr (ticks, is, same)) place = subst (λ (q : Phase). is_to_tick q place ≤ 0) (sym same) (omega arith)
  no_more_to_tick (Doing line []) next m same place = subst (λ (q : Phase). is_to_tick q place ≤ 0) (sym same) (omega arith)
  no_more_to_tick (To_tick zero) next m same place = subst (λ (q : Phase). is_to_tick q place ≤ 0) (sym same) (omega arith)
  no_more_to_tick (Ticked ticks) next m same place = most_to_tick next place
  no_more_to_tick (Arriving zero ticks) next m same place = most_to_tick next place
  no_more_to_tick (Giving zero ticks) next m same place = most_to_tick next place
  no_more_to_tick (Ticking_devices at zero ticks) next m same place = subst (λ (q : Phase). is_to_tick q place ≤ is_to_tick (Ticking_devices at zero ticks) place) (sym same) (omega arith)
  no_more_to_tick (Ticking_host [] ticks) next m same place = subst (λ (q : Phase). is_to_tick q place ≤ 0) (sym same) (omega arith)
  no_more_to_tick (Sleeping passes ticks) next m (none, same) place = subst (λ (q : Phase). is_to_tick q place ≤ 0) (sym same) (omega arith)
  no_more_to_tick (Submitting zero ticks) next m (pumped, same) place = subst (λ (q : Phase). is_to_tick q place ≤ 0) (sym same) (omega arith)
  no_more_to_tick (Submitting (suc passes) ticks) next m (pumped, same) place = subst (λ (q : Phase). is_to_tick q place ≤ 0) (sym same) (omega arith)
  no_more_to_tick (Moving passes ticks) next m (still, same) place = subst (λ (q : Phase). is_to_tick q place ≤ 0) (sym same) (omega arith)
  no_more_to_tick (Moved b passes ticks) next m (still, same) place = subst (λ (q : Phase). is_to_tick q place ≤ 0) (sym same) (omega arith)
  no_more_to_tick here next m turns place = absurd turns

  pub lively_turn : (here next : Phase) (past : List Entry) (m : Machine) → Turns here m next → LineAt here m → AllLively these limit here past m → AllLively these limit next past m
  lively_turn here next past m turns line_at all = λ n marked. by n (all n marked)
    where
      by : (n : ℕ) → IsLively limit n here past m → IsLively limit n next past m
      by n (Listens_on is) = Listens_on is
      by n (Sleeps_yet is before) = Sleeps_yet is (before_turn n here next past m turns line_at before)
      by n (Sleeps_lately is at) =
          Sleeps_lately is
          (record {
            since = at.since;
            quiet = same_quiet limit (ticks_begun m) (ticks_begun m) (is_to_tick here is.place) (is_to_tick next is.place) (quiet_for is.device) refl (no_more_to_tick here next m turns is.place) at.quiet;
          })

-- ---- what is wanted of it is so

-- what a frame of the host that arrives says to a node: the message of its last session, or that there is no more
pub data SaysTo (n : ℕ) (m : Machine) (payload : List ℕ) : Type 0 where
  A_message : 1 ≤ session_of n m → IsMessage (session_of n m) payload → SaysTo n m payload
  No_more : IsTelling n m.host.state → payload ≡ no_more_information → SaysTo n m payload

abbrev pub SaySo : ℕ → Machine → Type 0
SaySo n m = (frame : Flown) → next_of m.outside.outer.air.frames ≡ Some frame → frame.heading ≡ Outward → SaysTo n m frame.payload

fate_out : (lost : Bool) (dead : Option (ℕ × ℕ)) (heading : Heading) (listener : Option ℕ) (place : ℕ) → (if lost then Lost else fate_by dead heading listener) ≡ AtDevice place → heading ≡ Outward
fate_out true dead heading listener place is = absurd cc
fate_out false (Some hop) heading listener place is = absurd cc
fate_out false None Homeward listener place is = absurd cc
fate_out false None Outward listener place is = refl

down_silent : (n : ℕ) (h : HostState) → IsDown n h → IsTelling n h → ⊥
down_silent n h down telling = let wrong : Some (Housekeeping (NoMore n)) ≡ None = sym telling ∙ ap (λ (u : Option UnderWay). option_map (λ (request : UnderWay). request.purpose) u) down.no_request in absurd cc

-- it does not count as awake
down_asleep : (n : ℕ) (h : HostState) → IsDown n h → (node_of h n).awake ≡ true → ⊥
down_asleep n h down awake = let wrong : true ≡ false = sym awake ∙ down.asleep in absurd cc

up_awake : (n : ℕ) (h : HostState) → IsUpAt n h → (node_of h n).awake ≡ false → ⊥
up_awake n h up asleep = let wrong : true ≡ false = sym up.kept.awake ∙ asleep in absurd cc

-- before it is woken nothing is wanted
unwanted : (n : ℕ) (device : State) (here : Phase) (past : List Entry) (m : Machine) (event : Event) → ((h : Phase) (T : List Entry) → IsBefore n h T → IsAfter n h T → ⊥) → IsBefore n here past → SleeperAt n device here past m → IsWanted n m event → ⊥
unwanted n device here past m event apart before (Before is down none quiet) (Tells_it asleep one) = not_both_wake n m one quiet
unwanted n device here past m event apart before (Before is down none quiet) (Counts awake not) = down_asleep n m.host.state down awake
unwanted n device here past m event apart before (Woken after down none one awake) wanted = apart here past before after
unwanted n device here past m event apart before (Up after up quiet awake) wanted = apart here past before after
unwanted n device here past m event apart before (Was_told after up telling idle none quiet) wanted = apart here past before after
unwanted n device here past m event apart before (Back_asleep after down left none quiet) wanted = apart here past before after

-- a frame with No More Information is none that it is to stay awake at
untold : (n : ℕ) (device : State) (here : Phase) (past : List Entry) (m : Machine) (drawn : List ℕ) (route : Option Route) (frame : Flown) → next_of m.outside.outer.air.frames ≡ Some frame → frame.heading ≡ Outward → SleeperAt n device here past m
    → IsWanted n m (Outside_does (Arrives drawn route)) → IsTelling n m.host.state → ⊥
untold n device here past m drawn route frame next out at (Counts awake not) telling = not (frame, next, out, telling)
untold n device here past m drawn route frame next out (Before is down none quiet) (Tells_it asleep one) telling = down_silent n m.host.state down telling
untold n device here past m drawn route frame next out (Woken after down none wakes awake) (Tells_it asleep one) telling = down_silent n m.host.state down telling
untold n device here past m drawn route frame next out (Up after up quiet awake) (Tells_it asleep one) telling = up_awake n m.host.state up asleep
untold n device here past m drawn route frame next out (Was_told after up tells idle none quiet) (Tells_it asleep one) telling = up_awake n m.host.state up asleep
untold n device here past m drawn route frame next out (Back_asleep after down left none quiet) (Tells_it asleep one) telling = down_silent n m.host.state down telling

module _ (airs : Airs) (laws : Devices) (tells : Tells) (these : List Bool) (limit n : ℕ) (alone : IsAlone these n) (here : Phase) (past : List Entry) (m : Machine) (plain : (k : ℕ) → is_marked these k ≡ true → HasInStep k m)
    (sleeper : HasSleeper n m.outside.devices) (at : SleeperAt n sleeper.device here past m) (apart : (h : Phase) (T : List Entry) → IsBefore n h T → IsAfter n h T → ⊥) (lively : IsLively limit n here past m) (says : SaySo n m) where
  step : HasInStep n m
  step = plain n alone.marked

  same_device : step.device ≡ sleeper.device
  same_device = one_stands m.outside.devices step.place sleeper.place step.device sleeper.device step.stands sleeper.stands (one_place n m.outside.devices step.place sleeper.place step.first sleeper.first)

  answered : (payload drawn : List ℕ) → sleeper.device.awake ≡ true → 1 ≤ session_of n m → IsMessage (session_of n m) payload
      → AnswersSession (session_of n m) (device_after sleeper.device (Hears payload drawn)) (device_replies sleeper.device (Hears payload drawn))
  answered payload drawn awake some message =
      let session : ℕ = session_of n m in
      let in_step : IsInStep session sleeper.device = subst (IsInStep session) same_device (step.step some) in
      let openly : takes_openly sleeper.device.kind ≡ true = subst (λ (d : State). takes_openly d.kind ≡ true) same_device step.plain.openly in
      subst (λ (p : List ℕ). AnswersSession session (device_after sleeper.device (Hears p drawn)) (device_replies sleeper.device (Hears p drawn))) (sym message.is)
      (laws.heard sleeper.device drawn message.carriage message.order session message.fit message.end awake openly in_step)

  -- what it hears is answered quietly, and leaves it awake unless it was told that there is no more
  hears_so : (payload drawn : List ℕ) → sleeper.device.awake ≡ true → SaysTo n m payload
      → AllByRecursion TellsQuietly (device_replies sleeper.device (Hears payload drawn)) × (((device_after sleeper.device (Hears payload drawn)).awake ≡ true) ⊎ IsTelling n m.host.state)
  hears_so payload drawn awake (A_message some message) =
      let is = answered payload drawn awake some message in
      (answer_quiet (session_of n m) (device_after sleeper.device (Hears payload drawn)) (device_replies sleeper.device (Hears payload drawn)) is, inl is.up.awake)
  hears_so payload drawn awake (No_more telling same) =
      let silent = no_more_silent sleeper.device drawn awake sleeper.sleeps in
      (subst (λ (p : List ℕ). AllByRecursion TellsQuietly (device_replies sleeper.device (Hears p drawn))) (sym same) (subst (AllByRecursion TellsQuietly) (sym silent) tt), inr telling)

  -- what is so of the one node is so of each
  of_one : (P : ℕ → Type 0) → P n → (k : ℕ) → is_marked these k ≡ true → P k
  of_one P is k marked = subst P (sym (alone.only k marked)) is

  leaves : (drawn : List ℕ) (route : Option Route) → LeavesUp these m drawn route
  leaves drawn route k marked =
      of_one
      (λ (j : ℕ).
      (is : HasSleeper j m.outside.devices) → is.device.awake ≡ true → IsWanted j m (Outside_does (Arrives drawn route)) → (frame : Flown) → next_of m.outside.outer.air.frames ≡ Some frame
      → fate_of m.outside.outer.air.network m.outside.devices frame ≡ AtDevice is.place → (device_after is.device (Hears frame.payload drawn)).awake ≡ true)
      main k marked
    where
      main : (is : HasSleeper n m.outside.devices) → is.device.awake ≡ true → IsWanted n m (Outside_does (Arrives drawn route)) → (frame : Flown) → next_of m.outside.outer.air.frames ≡ Some frame
          → fate_of m.outside.outer.air.network m.outside.devices frame ≡ AtDevice is.place → (device_after is.device (Hears frame.payload drawn)).awake ≡ true
      main is awake wanted frame next fate =
          same_then (λ (place : ℕ) (device : State). device.awake ≡ true → (device_after device (Hears frame.payload drawn)).awake ≡ true) n m.outside.devices m.outside.devices refl sleeper
          (λ up. by (hears_so frame.payload drawn up (says frame next out)).1) is awake
        where
          out : frame.heading ≡ Outward
          out = fate_out frame.lost (dead_hop_of m.outside.outer.air.network frame) frame.heading (listener_of frame.node m.outside.devices) is.place fate

          by : ((device_after sleeper.device (Hears frame.payload drawn)).awake ≡ true) ⊎ IsTelling n m.host.state → (device_after sleeper.device (Hears frame.payload drawn)).awake ≡ true
          by (inl up) = up
          by (inr telling) = absurd (untold n sleeper.device here past m drawn route frame next out at wanted telling)

  heard_quietly : (drawn : List ℕ) (route : Option Route) → SaysAs these m (Outside_does (Arrives drawn route))
  heard_quietly drawn route frame place device next marked fate there =
      let out : frame.heading ≡ Outward = fate_out frame.lost (dead_hop_of m.outside.outer.air.network frame) frame.heading (listener_of frame.node m.outside.devices) place fate in
      let first : place_of n m.outside.devices ≡ Some place = subst (λ (k : ℕ). place_of k m.outside.devices ≡ Some place) (alone.only frame.node marked) (hears_at m.outside.outer.air.network m.outside.devices frame place fate) in
      let same : sleeper.device ≡ device = one_stands m.outside.devices sleeper.place place sleeper.device device sleeper.stands there (one_place n m.outside.devices sleeper.place place sleeper.first first) in
      let listener : listener_of frame.node m.outside.devices ≡ Some place = fate_listens frame.lost (dead_hop_of m.outside.outer.air.network frame) frame.heading (listener_of frame.node m.outside.devices) place fate in
      let awake : device.awake ≡ true = awake_at_place m.outside.devices frame.node place device listener there in
      subst (λ (d : State). AllByRecursion TellsQuietly (device_replies d (Hears frame.payload drawn))) same
      (hears_so frame.payload drawn (subst (λ (d : State). d.awake ≡ true) (sym same) awake) (says frame next out)).0

  woken_so : (node : ℕ) (route : Option Route) → SaysAs these m (Outside_does (Wakes_device node route))
  woken_so node route marked is later =
      let woken = wakes_telling is.device is.sleeps in
      let short = woken.short in
      record {
        payload = woken.payload;
        says = woken.says;
        tells = record { heard = woken.tells; some = omega (arith, short); few = omega (arith, short) };
        awake = wakes_own (λ (place : ℕ) (device : State). device.awake ≡ true) node m route is woken.up.awake later;
      }

  -- it heard something lately where that is wanted
  lately_wanted : (event : Event) (k : ℕ) → is_marked these k ≡ true → (is : HasSleeper k m.outside.devices) → IsWanted k m event → IsLately limit here m is.place is.device
  lately_wanted event k marked = of_one (λ (j : ℕ). (is : HasSleeper j m.outside.devices) → IsWanted j m event → IsLately limit here m is.place is.device) (main lively) k marked
    where
      main : IsLively limit n here past m → (is : HasSleeper n m.outside.devices) → IsWanted n m event → IsLately limit here m is.place is.device
      main (Listens_on listener) is wanted = absurd (not_both n m.outside.devices listener is)
      main (Sleeps_yet other before) is wanted = absurd (unwanted n sleeper.device here past m event apart before at wanted)
      main (Sleeps_lately other lately) is wanted = same_then (IsLately limit here m) n m.outside.devices m.outside.devices refl other lately is

  abbrev UpAt : Event → Type 0
  UpAt event = StaysUp these m event × SaysAs these m event

  as_up : (event is : Event) → event ≡ is → UpAt is → UpAt event
  as_up event is same up = subst UpAt (sym same) up

  still_so : (event : Event) → (happens m event).outside.devices ≡ m.outside.devices → SaysAs these m event → UpAt event
  still_so event same quiet = (still_up these m event same, quiet)

  effect_so : (event : Event) → IsEffect event → UpAt event
  effect_so (Outside_does (Wakes_device node route)) effect = (wakes_up these m node route, woken_so node route)
  effect_so (Outside_does (Shows node)) effect = still_so (Outside_does (Shows node)) (shows_devices m node) tt
  effect_so (Outside_does (Cuts size)) effect = still_so (Outside_does (Cuts size)) (cuts_devices m size) tt
  effect_so (Outside_does event) effect = absurd effect
  effect_so (Host_does event) effect = still_so (Host_does event) (devices_host-all m (event ∷ [])) tt
  effect_so (Refuses of refusal) effect = still_so (Refuses of refusal) (refuses_devices m of refusal) tt
  effect_so (Shows_values node) effect = still_so (Shows_values node) (values_devices m node) tt
  effect_so event effect = absurd effect

  pub up_at : (next : Phase) (event : Event) → Goes here m event next → LineAt here m → UpAt event
  up_at next event goes line_at = by here refl goes line_at
    where
      lately : (q : Phase) → here ≡ q → (e : Event) (k : ℕ) → is_marked these k ≡ true → (is : HasSleeper k m.outside.devices) → IsWanted k m e → IsLately limit q m is.place is.device
      lately q same e k marked is wanted = subst (λ (p : Phase). IsLately limit p m is.place is.device) same (lately_wanted e k marked is wanted)

      by : (q : Phase) → here ≡ q → Goes q m event next → LineAt q m → UpAt event
      by (Said_line line) same (is, to) line_at = as_up event (Outside_does Begins_line) is (still_so (Outside_does Begins_line) (line_devices m) tt)
      by (Doing line (first ∷ left)) same (is, to) line_at = as_up event first is (effect_so first line_at.0.0)
      by (To_tick (suc ticks)) same (is, to) line_at = as_up event (Outside_does Begins_tick) is (still_so (Outside_does Begins_tick) (tick_devices m) tt)
      by (Arriving (suc frames) ticks) same (drawn, route, is, to) line_at = as_up event (Outside_does (Arrives drawn route)) is (arrives_up these m drawn route (leaves drawn route), heard_quietly drawn route)
      by (Giving (suc results) ticks) same (route, is, to) line_at = as_up event (Outside_does (Gives route)) is (still_so (Outside_does (Gives route)) (given_devices m route) tt)
      by (Ticking_devices place (suc count) ticks) same (drawn, route, is, to) line_at =
          as_up event (Outside_does (Device_ticks place drawn route)) is (
            lately_up these limit (Ticking_devices place (suc count) ticks) m place drawn route (lately (Ticking_devices place (suc count) ticks) same (Outside_does (Device_ticks place drawn route))),
            λ device marked there. ticks_so these m plain tells place device drawn marked there,
          )
      by (Ticking_chip ticks) same (is, to) line_at = as_up event (Outside_does Chip_ticks) is (still_so (Outside_does Chip_ticks) (counted_devices m) tt)
      by (Ticking_decoder ticks) same (is, to) line_at = as_up event Decoder_ticks is (still_so Decoder_ticks (decoder_devices m) tt)
      by (Ticking_host (first ∷ events) ticks) same (is, to) line_at = as_up event (Host_does first) is (still_so (Host_does first) (devices_host-all m (first ∷ [])) tt)
      by (Sleeping passes ticks) same (k, wants, is, to) line_at = as_up event (Host_does (no_more_event m.host.state k)) is (still_so (Host_does (no_more_event m.host.state k)) (devices_host-all m (no_more_event m.host.state k ∷ [])) tt)
      by (Submitting passes ticks) same (asked, next_is, is, to) line_at = as_up event (Host_does asked) is (still_so (Host_does asked) (devices_host-all m (asked ∷ [])) tt)
      by (Moving passes ticks) same (rest, ways, is, to) line_at = as_up event (takes_event m rest ways) is (still_so (takes_event m rest ways) (chip_devices m (length m.outside.outer.to_chip.bytes) rest ways) tt)
      by (Moved b passes ticks) same (rest, items, done, is, to) line_at = as_up event (judges_event m rest items done) is (still_so (judges_event m rest items done) (takes_still airs m (length m.outside.outer.to_host.bytes) rest items done) tt)
      by q same goes line_at = absurd goes
