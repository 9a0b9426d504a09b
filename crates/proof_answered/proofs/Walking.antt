-- Few frames are on the air at each phase of quiet lines and ticks, where few devices are woken; so the request of the host stays tied.
use Rattle.std.proofs.Common.{◌≡◌, ◌≤◌, ◌<◌, ℕ, zero, suc, ◌+◌, ◌-◌, Bool, true, false, inl, inr, List, [], ◌∷◌, ◌++◌, length, map, refl, sym, ap, ◌∙◌, subst, arith}
use Rattle.std.proofs.lemmas.Bool.{cases_eq, cases_lt}
use Rattle.std.proofs.lemmas.List.{append-nil, length-append, length-set}
use Rattle.std.proofs.lemmas.List.Concat.{flat_map-append}
use Rattle.std.specs.Prelude.{◌⊎◌, Option, Some, None, slice_get, slice_set}
use Rattle.std.specs.Option.{is_some}
use Rattle.std.specs.List.{flat_map}
use Rattle.zw_text.specs.declared.line.Line.{Line}
use Rattle.zw_text.specs.declared.line.Line.TheVariants as lines
use Rattle.zw_text.specs.declared.entry.Entry.{Entry}
use Rattle.zw_text.specs.declared.entry.Entry.TheVariants as entry
use Rattle.zw_text.specs.Transcript.{line_of, lines_run}
use Rattle.zw_text.proofs.Views.{shown-append}
use Rattle.serial_frame.specs.Stream.{Rest}
use Rattle.serial_frame.specs.declared.item.Item.{Item}
use Rattle.route_table.specs.declared.route.Route.{Route}
use Rattle.air_frames.specs.declared.frame.Heading.{Heading}
use Rattle.air_frames.specs.declared.frame.Heading.TheVariants.{Outward, Homeward}
use Rattle.air_frames.specs.Flown.{Flown}
use Rattle.device_sim.specs.State.{State}
use Rattle.device_sim.specs.Event.{Ticks, device_after, device_replies}
use Rattle.air_frames.specs.History.{Mark}
use Rattle.law_transcript.proofs.Deciding.{not_true}
use Rattle.mesh_sim.specs.Air.{AirState}
use Rattle.law_time.specs.Stretches.{is_quiet_line, woken_by}
use Rattle.host_model.specs.Did.{outs_all}
use Rattle.host_model.specs.Events.{HostEvent, Accepts}
use Rattle.host_model.specs.Pumping.{no_more_event}
use Rattle.host_model.specs.Ticking.{tick_events}
use Rattle.outside_model.specs.declared.waits.Call.{Call}
use Rattle.outside_model.specs.declared.waits.Due.{Due}
use Rattle.outside_model.specs.Devices.{MayAct}
use Rattle.outside_model.specs.State.{Outside}
use Rattle.outside_model.specs.Events.{OuterEvent, Begins_line, Begins_tick, Arrives, Gives, Device_ticks, Chip_ticks, Chip_takes, Wakes_device, Shows, Cuts, has_entered, outcome, devices_after, May as MayOutside}
use Rattle.world_model.specs.State.{Machine}
use Rattle.world_model.specs.Events.{Event, Outside_does, Host_does, Host_takes, Decoder_ticks, Refuses, Shows_values, enters, fed, shown_values, happens, entries, May}
use Rattle.world_model.specs.Lines.{IsEffect as IsLineEffect}
use Rattle.proof_calm.specs.proof_work.Phases.{AsksNothing}
use Rattle.proof_calm.specs.proof_work.proof_walk.Phases.{Phase, Between, Said_line, Begun, Doing, To_tick, Ticked, Arriving, Giving, Ticking_devices, Ticking_chip, Ticking_decoder, Ticking_host, Sleeping, Submitting, Moving, Moved, Turns, Goes, after_pump, passes_after}
use Rattle.proof_calm.specs.proof_work.proof_walk.Walk.{WalkWhere}
use Rattle.world_model.proofs.Hosting.{devices_host-all, routed_still}
use Rattle.proof_calm.specs.proof_traffic.Facts.{flying_in, one_if}
use Rattle.proof_calm.specs.proof_traffic.Flights.{Fly}
use Rattle.proof_calm.specs.proof_traffic.OnAir.{on_air, hosts_on_air}
use Rattle.proof_calm.specs.proof_traffic.OutsideTraffic.{flags, one_outward, outward}
use Rattle.proof_calm.proofs.Arrivals.{outward-append}
use Rattle.proof_calm.proofs.ArrivedFrames.{Homes, arrives_home}
use Rattle.proof_calm.proofs.Calm.{Calm, does_calm, takes_calm, enters_calm}
use Rattle.proof_calm.proofs.Flights.{flights_are}
use Rattle.proof_calm.proofs.proof_traffic_Parts.{Airs}
use Rattle.proof_calm.specs.Awaited.{Awaits, AwaitsFrames, AwaitsAt}
use Rattle.proof_calm.specs.Resting.{IsEffect, LineAt}
use Rattle.proof_calm.specs.Routed.{IsRouted}
use Rattle.proof_calm.specs.Tied.{IsOrderly, IsOrderlyFor, IsTied, KnowTied, to_arrive}
use Rattle.proof_calm.proofs.Pending.{has_kept}
use Rattle.proof_calm.proofs.Quiet.{quiet_both}
use Rattle.proof_calm.proofs.Unmarked.{nothing_asked}
use Rattle.proof_calm.proofs.Awaiting.{few_if, outer_of}
use Rattle.proof_answered.specs.Few.{WorkApart, work_of, work_at, AreFew, AreArriving, All, Others, HaveArrived, AreTicking, EndedBefore, FewAt, wakes_in, woken_in, IsStretched, Knows, KnowFew}
use Rattle.proof_answered.specs.Outward.{IsSentTo}
use Rattle.proof_answered.proofs.Apart.{less_apart, more_apart, set_else, set_here}
use Rattle.proof_answered.proofs.Flying.{Acts, Arrival, Worked, arrives, chip_counts, takes, ticks, wakes}
use Rattle.proof_answered.proofs.Works.{ticks_say, ticks_work}

-- ---- the calls, and the frames that they are to come for

flying_most : (calls : List Bool) → flying_in calls ≤ length calls
flying_most [] = omega arith
flying_most (flies ∷ calls) = let one = few_if flies in let rest = flying_most calls in omega (arith, one, rest)

-- where no call was given up, one at most is to come
few_calls : (m : Machine) → Awaits m → m.outside.outer.chip.state.aborted ≡ 0 → length (flags m.outside.outer.calls) ≤ 1
few_calls m is none =
    let same = ap (λ (l : List Bool). length l) is.follows.knows.calls in
    let each = is.each_call in
    let gave_up = is.follows.knows.aborted ∙ none in
    let one = few_if is.course.sending in
    omega (arith, same, each, gave_up, one)

-- one frame of the host at most is on the air, and only while the chip sends
pub hosts_sent : (m : Machine) → Awaits m → m.outside.outer.chip.state.aborted ≡ 0 → hosts_on_air m.outside.outer ≤ one_if (is_some m.outside.outer.chip.state.sending)
hosts_sent m is none =
    let all = is.follows.await.frames in
    let most = flying_most (flags m.outside.outer.calls) in
    let same = ap (λ (l : List Bool). length l) is.follows.knows.calls in
    let each = is.each_call in
    let gave_up = is.follows.knows.aborted ∙ none in
    let sends = ap one_if is.follows.knows.sending in
    omega (arith, all, most, same, each, gave_up, sends)

pub one_host : (m : Machine) → Awaits m → m.outside.outer.chip.state.aborted ≡ 0 → hosts_on_air m.outside.outer ≤ 1
one_host m is none =
    let sent = hosts_sent m is none in
    let one = few_if (is_some m.outside.outer.chip.state.sending) in
    omega (arith, sent, one)

flags_same : (calls : List Call) → length (flags calls) ≡ length calls
flags_same [] = refl
flags_same (call ∷ calls) = ap suc (flags_same calls)

-- ---- where the air and the calls are as they were

module _ (airs : Airs) where
  arriving_count : (m : Machine) → Awaits m → length (on_air m.outside.outer.air.frames) ≡ to_arrive m
  arriving_count m is = airs.count is.log (on_air m.outside.outer.air.frames) m.outside.outer.air.frames is.follows.fly

  calm_few : (to_wake most : ℕ) (m n : Machine) → Awaits m → Awaits n → Calm m.outside.outer n.outside.outer → n.outside.devices ≡ m.outside.devices → AreFew to_wake most m → AreFew to_wake most n
  calm_few to_wake most m n is later calm devices few = record {
    fly =
        let a = arriving_count m is in
        let b = arriving_count n later in
        let on = ap (λ (fs : List Flown). length fs) calm.on in
        let calls = ap (λ (cs : List Call). length cs) calm.calls in
        let fly = few.fly in
        omega (arith, a, b, on, calls, fly);
    work = subst (WorkApart 4) (sym devices) few.work;
  }

  does_few : (to_wake most : ℕ) (m : Machine) (event : HostEvent) → Awaits m → Awaits (happens m (Host_does event)) → AreFew to_wake most m → AreFew to_wake most (happens m (Host_does event))
  does_few to_wake most m event is later few = calm_few to_wake most m (happens m (Host_does event)) is later (does_calm airs m event) (devices_host-all m (event ∷ [])) few

  pub takes_still : (m : Machine) (count : ℕ) (rest : Rest) (items : List Item) (events : List HostEvent) → (happens m (Host_takes count rest items events)).outside.devices ≡ m.outside.devices
  unfolding happens devices_after
  takes_still m count rest items events = routed_still (fed m count rest).outside (outs_all m.host.state events)

  host_takes_few : (most : ℕ) (m : Machine) (count : ℕ) (rest : Rest) (items : List Item) (events : List HostEvent) → Awaits m → Awaits (happens m (Host_takes count rest items events)) → AreFew 0 most m
      → AreFew 0 most (happens m (Host_takes count rest items events))
  host_takes_few most m count rest items events is later few =
      calm_few 0 most m (happens m (Host_takes count rest items events)) is later (takes_calm airs m count rest items events) (takes_still m count rest items events) few

same_few : (to_wake most : ℕ) (m n : Machine) → n.outside.outer.air ≡ m.outside.outer.air → n.outside.outer.calls ≡ m.outside.outer.calls → n.outside.devices ≡ m.outside.devices → AreFew to_wake most m → AreFew to_wake most n
same_few to_wake most m n air calls devices few = record {
  fly =
      let same = ap (λ (a : AirState). a.frames.sent - a.frames.landed) air in
      let as_many = ap (λ (cs : List Call). length cs) calls in
      let fly = few.fly in
      omega (arith, same, as_many, fly);
  work = subst (WorkApart 4) (sym devices) few.work;
}

-- ---- lines

begins_few : (to_wake most : ℕ) (m : Machine) → AreFew to_wake most m → AreFew to_wake most (happens m (Outside_does Begins_line))
unfolding happens outcome devices_after
begins_few to_wake most m few = record { fly = few.fly; work = few.work }

-- nothing is woken
none_woken : (to_wake most : ℕ) (m : Machine) → AreFew (0 + to_wake) most m → AreFew to_wake most m
none_woken to_wake most m few = record { fly = let fly = few.fly in omega (arith, fly); work = few.work }

-- a device is woken
wakes_few : (to_wake most : ℕ) (m : Machine) (node : ℕ) (route : Option Route) → AreFew (1 + to_wake) most m → AreFew to_wake most (happens m (Outside_does (Wakes_device node route)))
unfolding happens
wakes_few to_wake most m node route few =
    let woken = wakes m.outside node route in
    record {
      fly =
          let sent = woken.0.air.sent in
          let landed = woken.0.air.landed in
          let calls = ap (λ (cs : List Call). length cs) woken.0.calls in
          let fly = few.fly in
          omega (arith, sent, landed, calls, fly);
      work = woken.1 few.work;
    }

shows_few : (to_wake most : ℕ) (m : Machine) (node : ℕ) → AreFew to_wake most m → AreFew to_wake most (happens m (Outside_does (Shows node)))
unfolding happens outcome devices_after
shows_few to_wake most m node few = by (outcome m.outside (Shows node)).entries
  where
    by : (told : List Entry) → AreFew to_wake most (record m { outside = record { outer = has_entered m.outside.outer told; devices = m.outside.devices } })
    by [] = record { fly = few.fly; work = few.work }
    by (one ∷ told) = record { fly = few.fly; work = few.work }

cuts_few : (to_wake most : ℕ) (m : Machine) (size : ℕ) → AreFew to_wake most m → AreFew to_wake most (happens m (Outside_does (Cuts size)))
unfolding happens outcome devices_after
cuts_few to_wake most m size few = record { fly = few.fly; work = few.work }

module _ (airs : Airs) where
  enters_few : (to_wake most : ℕ) (m n : Machine) (entry : Entry) → n.outside ≡ (enters m entry).outside → Awaits m → Awaits n → AreFew to_wake most m → AreFew to_wake most n
  unfolding devices_after
  enters_few to_wake most m n entry is awaits later few =
      calm_few airs to_wake most m n awaits later (subst (λ (w : Outside). Calm m.outside.outer w.outer) (sym is) (enters_calm airs m entry)) (ap (λ (w : Outside). w.devices) is) few

  effect_few : (most : ℕ) (m : Machine) (first : Event) (left : List Event) → IsEffect first → Awaits m → Awaits (happens m first) → AreFew (wakes_in (first ∷ left)) most m → AreFew (wakes_in left) most (happens m first)
  unfolding happens
  effect_few most m (Outside_does (Wakes_device node route)) left is awaits later few = wakes_few (wakes_in left) most m node route few
  effect_few most m (Outside_does (Shows node)) left is awaits later few = shows_few (wakes_in left) most m node (none_woken (wakes_in left) most m few)
  effect_few most m (Outside_does (Cuts size)) left is awaits later few = cuts_few (wakes_in left) most m size (none_woken (wakes_in left) most m few)
  effect_few most m (Host_does (Accepts order carriage)) left is awaits later few = does_few airs (wakes_in left) most m (Accepts order carriage) awaits later (none_woken (wakes_in left) most m few)
  effect_few most m (Refuses line refusal) left is awaits later few = enters_few (wakes_in left) most m (happens m (Refuses line refusal)) (entry.Refused refusal) refl awaits later (none_woken (wakes_in left) most m few)
  effect_few most m (Shows_values node) left is awaits later few = enters_few (wakes_in left) most m (happens m (Shows_values node)) (shown_values m.host.state node) refl awaits later (none_woken (wakes_in left) most m few)
  effect_few most m (Outside_does event) left is awaits later few = absurd is
  effect_few most m (Host_does event) left is awaits later few = absurd is
  effect_few most m event left is awaits later few = absurd is

-- a line wakes no more devices than it says
at_most : (a b : ℕ) → a ≡ b → a ≤ b
at_most a b is = omega (arith, is)

wakes_most : (line : Line) (m : Machine) (events : List Event) → is_quiet_line line ≡ true → IsLineEffect line m events → wakes_in events ≤ length (woken_by line)
wakes_most (lines.Command order) m events quiet (inl is) = at_most (wakes_in events) 0 (ap wakes_in is)
wakes_most (lines.Command order) m events quiet (inr (refusal, is)) = at_most (wakes_in events) 0 (ap wakes_in is)
wakes_most (lines.Tick count) m events quiet is = absurd is
wakes_most (lines.Cut size) m events quiet is = at_most (wakes_in events) 0 (ap wakes_in is)
wakes_most (lines.Show node) m events quiet is = at_most (wakes_in events) 0 (ap wakes_in is)
wakes_most (lines.Store node) m events quiet is = at_most (wakes_in events) 0 (ap wakes_in is)
wakes_most (lines.Wake node) m events quiet (inner, (route, one), are) = at_most (wakes_in events) 1 (ap wakes_in (are ∙ ap (λ (l : List OuterEvent). map Outside_does l) one))
wakes_most line m events quiet is = absurd (not_true quiet)

-- ---- a tick

ticks_begin : (to_wake most : ℕ) (m : Machine) → AreFew to_wake most m → WorkApart 4 (happens m (Outside_does Begins_tick)).outside.devices
unfolding happens devices_after
ticks_begin to_wake most m few = few.work

all_apart : (devices : List State) → WorkApart 4 devices → WorkApart 5 devices
all_apart devices is = more_apart (λ a. work_at devices a) is

-- a frame arrives
home_less : (sent later landed frames : ℕ) → sent - landed ≤ suc frames → later ≡ sent → later - (landed + 1) ≤ frames
home_less sent later landed frames few same = omega (arith, few, same)

home_more : (sent later landed frames : ℕ) → sent - landed ≤ suc frames + 2 → later ≡ sent → later - (landed + 1) ≤ frames + 2
home_more sent later landed frames few same = omega (arith, few, same)

away_less : (sent later landed frames : ℕ) → sent - landed ≤ suc frames → later ≤ sent + 2 → later - (landed + 1) ≤ frames + 2
away_less sent later landed frames few more = omega (arith, few, more)

module _ (airs : Airs) (m : Machine) (drawn : List ℕ) (route : Option Route) where
  abbrev landed_there : Machine
  landed_there = happens m (Outside_does (Arrives drawn route))

  -- how many of the host's frames are there then
  pub hosts_less : (log : List Mark) (flight : Flown) (rest : List Flown) → on_air m.outside.outer.air.frames ≡ flight ∷ rest → Fly log (flight ∷ rest) m.outside.outer.air.frames
      → hosts_on_air m.outside.outer ≡ one_outward flight.heading + hosts_on_air landed_there.outside.outer
  hosts_less log flight rest are fly =
      let homes : Homes log rest landed_there.outside.outer.air.frames =
      subst (λ (w : Outside). Homes log rest w.outer.air.frames) (sym (outer_of m (Arrives drawn route))) (arrives_home airs log flight rest m.outside drawn route fly) in
      let later : hosts_on_air landed_there.outside.outer ≡ outward (rest ++ homes.home) = ap outward (sym (flights_are (log ++ homes.more) (rest ++ homes.home) landed_there.outside.outer.air.frames homes.fly)) in
      let both = outward-append rest homes.home in
      let none = homes.none_outward in
      let before : hosts_on_air m.outside.outer ≡ one_outward flight.heading + outward rest = ap outward are in
      omega (arith, later, both, none, before)

module _ (airs : Airs) (worked : Worked) (m : Machine) (drawn : List ℕ) (route : Option Route) (frames : ℕ) where
  abbrev then_there : Machine
  then_there = happens m (Outside_does (Arrives drawn route))

  at_arrival : (flight : Flown) → Arrival m.outside then_there.outside flight → hosts_on_air m.outside.outer ≤ 1 → hosts_on_air m.outside.outer ≡ one_outward flight.heading + hosts_on_air then_there.outside.outer
      → AreArriving (suc frames) m → AreArriving frames then_there
  at_arrival flight arrival one less arriving = by flight.heading refl arriving
    where
      new : ℕ
      new = then_there.outside.outer.air.frames.sent

      left : (heading : Heading) → flight.heading ≡ heading → hosts_on_air m.outside.outer ≡ one_outward heading + hosts_on_air then_there.outside.outer
      left heading is = less ∙ ap (λ (h : Heading). one_outward h + hosts_on_air then_there.outside.outer) is

      -- that it has landed
      count : (most : ℕ) → new - (m.outside.outer.air.frames.landed + 1) ≤ most → to_arrive then_there ≤ most
      count most few = let same = arrival.landed in omega (arith, few, same)

      by : (heading : Heading) → flight.heading ≡ heading → AreArriving (suc frames) m → AreArriving frames then_there
      by Homeward is (All few work) =
          let home = arrival.home is in
          All (count frames (home_less m.outside.outer.air.frames.sent new m.outside.outer.air.frames.landed frames few home.0)) (subst (WorkApart 4) (sym home.1) work)
      by Homeward is (Others none few work) =
          let home = arrival.home is in
          let same : hosts_on_air m.outside.outer ≡ 0 + hosts_on_air then_there.outside.outer = left Homeward is in
          Others (omega (arith, same, none)) (count (frames + 2) (home_more m.outside.outer.air.frames.sent new m.outside.outer.air.frames.landed frames few home.0)) (subst (WorkApart 5) (sym home.1) work)
      by Outward is (All few work) =
          let same : hosts_on_air m.outside.outer ≡ 1 + hosts_on_air then_there.outside.outer = left Outward is in
          Others (omega (arith, same, one)) (count (frames + 2) (away_less m.outside.outer.air.frames.sent new m.outside.outer.air.frames.landed frames few arrival.sent)) (arrival.work work)
      by Outward is (Others none few work) =
          let same : hosts_on_air m.outside.outer ≡ 1 + hosts_on_air then_there.outside.outer = left Outward is in
          absurd (let no : 1 ≤ 0 = omega (arith, same, none) in omega (arith, no))

  arrives_few : AwaitsFrames (suc frames) m → m.outside.outer.chip.state.aborted ≡ 0 → AreArriving (suc frames) m → AreArriving frames then_there
  arrives_few is kept arriving = by is.first is.are is.many
    where
      by : (first : List Flown) → on_air m.outside.outer.air.frames ≡ first ++ is.behind → length first ≡ suc frames → AreArriving frames then_there
      by [] are many = absurd (let no : 0 ≡ suc frames = many in omega (arith, no))
      by (flight ∷ later) are many =
          let log : List Mark = is.awaits.log in
          let fly : Fly log (flight ∷ (later ++ is.behind)) m.outside.outer.air.frames = subst (λ (fs : List Flown). Fly log fs m.outside.outer.air.frames) are is.awaits.follows.fly in
          let arrival : Arrival m.outside then_there.outside flight =
          subst (λ (w : Outside). Arrival m.outside w flight) (sym (outer_of m (Arrives drawn route)))
          (arrives worked m.outside flight drawn route (airs.next log flight (later ++ is.behind) m.outside.outer.air.frames fly)) in
          at_arrival flight arrival (one_host m is.awaits kept) (hosts_less airs m drawn route log flight (later ++ is.behind) are fly) arriving

-- all have
have_arrived : (m : Machine) → AreArriving 0 m → HaveArrived m
have_arrived m (All few work) = record { few = omega (arith, few); work = all_apart m.outside.devices work }
have_arrived m (Others none few work) = record { few = omega (arith, few); work = work }

-- the devices begin to tick
to_tick : (m : Machine) → HaveArrived m → AreTicking 0 (length m.outside.devices) m
to_tick m is = record {
  before = λ a. work_at m.outside.devices a;
  apart = is.work;
  ticked = λ a less. absurd (omega (arith, less));
  to_tick = λ a from. refl;
  all = omega arith;
  few = inl is.few;
}

-- one of them ticks
module _ (m : Machine) (place count : ℕ) (drawn : List ℕ) (route : Option Route) where
  abbrev once_ticked : Machine
  once_ticked = happens m (Outside_does (Device_ticks place drawn route))

  at_tick : (device : State) → slice_get m.outside.devices place ≡ Some device → Acts (length (device_replies device (Ticks drawn))) m.outside once_ticked.outside
      → once_ticked.outside.devices ≡ slice_set m.outside.devices place (device_after device (Ticks drawn)) → AreTicking place (suc count) m → AreTicking (place + 1) count once_ticked
  at_tick device there acts devices is = record {
    before = is.before;
    apart = is.apart;
    ticked = λ a less. ticked a less (cases_eq a place);
    to_tick = λ a from. now a ∙ set_else m.outside.devices place a later (λ here. absurd (omega (arith, from, here))) ∙ is.to_tick a (omega (arith, from));
    all =
        let same = ap (λ (ds : List State). length ds) devices in
        let long = length-set m.outside.devices place later in
        let all = is.all in
        omega (arith, same, long, all);
    few = few is.few (ticks_say device drawn);
  }
    where
      later : State
      later = device_after device (Ticks drawn)

      now : (a : ℕ) → work_at once_ticked.outside.devices a ≡ work_at (slice_set m.outside.devices place later) a
      now a = ap (λ (ds : List State). work_at ds a) devices

      -- what was left to it
      was : is.before place ≡ device.work_left
      was = sym (is.to_tick place (omega arith)) ∙ ap work_of there

      ticked : (a : ℕ) → a < place + 1 → (a ≡ place) ⊎ (a ≡ place → ⊥) → work_at once_ticked.outside.devices a ≡ is.before a - 1
      ticked a less (inl here) =
          let one : work_at once_ticked.outside.devices place ≡ device.work_left - 1 = now place ∙ set_here m.outside.devices place device later there ∙ ticks_work device drawn in
          ap (λ (n : ℕ). work_at once_ticked.outside.devices n) here ∙ one ∙ sym (ap (λ (n : ℕ). n - 1) was) ∙ sym (ap (λ (n : ℕ). is.before n - 1) here)
      ticked a less (inr other) = now a ∙ set_else m.outside.devices place a later other ∙ is.ticked a (smaller less other)
        where
          smaller : a < place + 1 → (a ≡ place → ⊥) → a < place
          smaller less other = by (cases_lt a place)
            where
              by : (a < place) ⊎ (place ≤ a) → a < place
              by (inl is_less) = is_less
              by (inr not_less) = absurd (other (omega (arith, less, not_less)))

      more : (most : ℕ) → to_arrive m ≤ most → (said : ℕ) → length (device_replies device (Ticks drawn)) ≤ said → to_arrive once_ticked ≤ most + said
      more most few said says = let sent = acts.air.sent in let landed = acts.air.landed in omega (arith, few, says, sent, landed)

      no_ended : (ended : ℕ) → ended < place → is.before ended ≡ 1 → device.work_left ≡ 1 → ⊥
      no_ended ended less one also = by (is.apart.apart ended place (one ∙ sym (was ∙ also)))
        where
          by : (ended ≡ place) ⊎ (is.before ended ≡ 0) → ⊥
          by (inl same) = absurd (let no : place < place = subst (λ (n : ℕ). n < place) same less in omega (arith, no))
          by (inr none) = absurd (let no : 1 ≡ 0 = sym one ∙ none in omega (arith, no))

      few : EndedBefore is.before place m → (device_replies device (Ticks drawn) ≡ []) ⊎ ((device.work_left ≡ 1) × (length (device_replies device (Ticks drawn)) ≤ 1)) → EndedBefore is.before (place + 1) once_ticked
      few (inl two) (inl none) = inl (more 2 two 0 (at_most _ 0 (ap (λ (l : List (List ℕ)). length l) none)))
      few (inr (three, ended, less, one)) (inl none) =
          inr (more 3 three 0 (at_most _ 0 (ap (λ (l : List (List ℕ)). length l) none)), ended, omega (arith, less), one)
      few (inl two) (inr (one, says)) = inr (more 2 two 1 says, place, omega arith, was ∙ one)
      few (inr (three, ended, less, one)) (inr (also, says)) = absurd (no_ended ended less one also)

  ticks_few : May m (Outside_does (Device_ticks place drawn route)) → AreTicking place (suc count) m → AreTicking (place + 1) count once_ticked
  unfolding May MayOutside happens
  ticks_few may is = by (slice_get m.outside.devices place) refl may.1
    where
      by : (found : Option State) → slice_get m.outside.devices place ≡ found → MayAct m.outside.outer found (Ticks drawn) route → AreTicking (place + 1) count once_ticked
      by None there may_act = absurd may_act
      by (Some device) there may_act = let acted = ticks m.outside place device drawn route there in at_tick device there acted.0 acted.1 is

-- all have ticked
have_ticked : (place : ℕ) (m : Machine) → AreTicking place 0 m → AreFew 0 3 m
have_ticked place m is = record {
  fly = few is.few;
  work = less_apart is.before (λ a. work_at m.outside.devices a) (λ a. less a (cases_lt a place)) is.apart;
}
  where
    few : EndedBefore is.before place m → to_arrive m + 0 ≤ length m.outside.outer.calls + 3
    few (inl two) = omega (arith, two)
    few (inr more) = let three = more.0 in omega (arith, three)

    none_past : (devices : List State) (a : ℕ) → length devices ≤ a → work_at devices a ≡ 0
    none_past [] a past = refl
    none_past (device ∷ devices) zero past = absurd (omega (arith, past))
    none_past (device ∷ devices) (suc a) past = none_past devices a (omega (arith, past))

    less : (a : ℕ) → (a < place) ⊎ (place ≤ a) → work_at m.outside.devices a ≡ is.before a - 1
    less a (inl before) = is.ticked a before
    less a (inr past) =
        let all = is.all in
        let none : work_at m.outside.devices a ≡ 0 = none_past m.outside.devices a (omega (arith, past, all)) in
        let same = is.to_tick a past in
        omega (arith, none, same)

chip_few : (m : Machine) → AreFew 0 3 m → AreFew 0 3 (happens m (Outside_does Chip_ticks))
chip_few m few =
    let is = outer_of m Chip_ticks in
    let counted = chip_counts m.outside in
    same_few 0 3 m (happens m (Outside_does Chip_ticks)) (ap (λ (w : Outside). w.outer.air) is ∙ counted.0) (ap (λ (w : Outside). w.outer.calls) is ∙ counted.1) (ap (λ (w : Outside). w.devices) is ∙ counted.2) few

decoder_few : (m : Machine) → AreFew 0 3 m → AreFew 0 3 (happens m Decoder_ticks)
unfolding happens
decoder_few m few = record { fly = few.fly; work = few.work }

-- ---- the chip takes bytes

takes_few : (most : ℕ) (m : Machine) (count : ℕ) (rest : Rest) (ways : List (Item × Option Route)) → AreFew 0 most m → AreFew 0 most (happens m (Outside_does (Chip_takes count rest ways)))
unfolding happens
takes_few most m count rest ways few =
    let taken = takes m.outside count rest ways in
    record {
      fly = let sent = taken.0.sent in let landed = taken.0.landed in let fly = few.fly in omega (arith, sent, landed, fly);
      work = subst (WorkApart 4) (sym taken.1) few.work;
    }

-- ---- results

-- none is due
pub none_given : (m : Machine) (results : ℕ) → IsRouted m.outside.outer → length m.outside.outer.due ≡ suc results → ⊥
none_given m results routed many =
    let none = ap (λ (due : List Due). length due) routed.none_due in
    absurd (let no : 0 ≡ suc results = sym none ∙ many in omega (arith, no))

-- ---- from phase to phase

-- what is known of the request there, and the calls
abbrev Ground : Phase → Machine → Type 0
Ground here m = LineAt here m × AwaitsAt here m × IsRouted m.outside.outer

module _ (airs : Airs) (worked : Worked) (woken : ℕ) where
  -- the event is this one, and leads there
  abbrev Leads : Phase → Machine → Event → Type 0
  Leads next m event = AwaitsAt next (happens m event) → FewAt woken next (happens m event)

  as_is : (next to : Phase) (m : Machine) (event is : Event) → event ≡ is → next ≡ to → Leads to m is → Leads next m event
  as_is next to m event is event_is next_is leads = subst (λ (e : Event). Leads next m e) (sym event_is) (subst (λ (q : Phase). Leads q m is) (sym next_is) leads)

  event_few : (here next : Phase) (m : Machine) (event : Event) → Goes here m event next → May m event → Ground here m → FewAt woken here m → Leads next m event
  event_few (Said_line line) next m event (is, to) may ground few = as_is next (Begun line) m event (Outside_does Begins_line) is to (λ later. begins_few (length (woken_by line)) (3 + woken) m few)
  event_few (Doing line (first ∷ left)) next m event (is, to) may ground few =
      as_is next (Doing line left) m event first is to (λ later. effect_few airs (3 + woken) m first left ground.0.0.0 ground.1 later few)
  event_few (To_tick (suc ticks)) next m event (is, to) may ground few = as_is next (Ticked ticks) m event (Outside_does Begins_tick) is to (λ later. ticks_begin 0 (3 + woken) m few)
  event_few (Arriving (suc frames) ticks) next m event (drawn, route, is, to) may ground few =
      as_is next (Arriving frames ticks) m event (Outside_does (Arrives drawn route)) is to (λ later. arrives_few airs worked m drawn route frames ground.1 (has_kept 0 m.outside.outer ground.0.has) few)
  event_few (Giving (suc results) ticks) next m event (route, is, to) may ground few = absurd (none_given m results ground.2 ground.1.many)
  event_few (Ticking_devices place (suc count) ticks) next m event (drawn, route, is, to) may ground few =
      as_is next (Ticking_devices (place + 1) count ticks) m event (Outside_does (Device_ticks place drawn route)) is to (λ later. ticks_few m place count drawn route (subst (May m) is may) few)
  event_few (Ticking_chip ticks) next m event (is, to) may ground few = as_is next (Ticking_decoder ticks) m event (Outside_does Chip_ticks) is to (λ later. chip_few m few)
  event_few (Ticking_decoder ticks) next m event (is, to) may ground few = as_is next (Ticking_host (tick_events m.host.state) ticks) m event Decoder_ticks is to (λ later. decoder_few m few)
  event_few (Ticking_host (first ∷ events) ticks) next m event (is, to) may ground few =
      as_is next (Ticking_host events ticks) m event (Host_does first) is to (λ later. does_few airs 0 3 m first ground.1.awaits later.awaits few)
  event_few (Sleeping passes ticks) next m event (node, wants, is, to) may ground few =
      as_is next (Sleeping passes ticks) m event (Host_does (no_more_event m.host.state node)) is to (λ later. does_few airs 0 (3 + woken) m (no_more_event m.host.state node) ground.1 later few)
  event_few (Submitting passes ticks) next m event (asked, next_is, is, to) may ground few =
      as_is next (Submitting passes ticks) m event (Host_does asked) is to (λ later. does_few airs 0 (3 + woken) m asked ground.1 later few)
  event_few (Moving passes ticks) next m event (rest, ways, is, to) may ground few =
      as_is next (Moved true passes ticks) m event (Outside_does (Chip_takes (length m.outside.outer.to_chip.bytes) rest ways)) is to
      (λ later. takes_few (3 + woken) m (length m.outside.outer.to_chip.bytes) rest ways few)
  event_few (Moved b passes ticks) next m event (rest, items, done, is, to) may ground few =
      as_is next (Sleeping passes ticks) m event (Host_takes (length m.outside.outer.to_host.bytes) rest items done) is to
      (λ later. host_takes_few airs (3 + woken) m (length m.outside.outer.to_host.bytes) rest items done ground.1 later few)
  event_few here next m event goes may ground few = absurd goes

  -- ---- parts that begin

  to_phase : (is next : Phase) (m : Machine) → next ≡ is → FewAt woken is m → FewAt woken next m
  to_phase is next m same few = subst (λ (q : Phase). FewAt woken q m) (sym same) few

  less_few : (most : ℕ) (m : Machine) (to_wake less : ℕ) → less ≤ to_wake → AreFew to_wake most m → AreFew less most m
  less_few most m to_wake less is few = record { fly = let fly = few.fly in omega (arith, fly, is); work = few.work }

  more_few : (m : Machine) → AreFew 0 3 m → AreFew 0 (3 + woken) m
  more_few m few = record { fly = let fly = few.fly in omega (arith, fly); work = few.work }

  pump_few : (passes ticks : ℕ) (m : Machine) → AreFew 0 (3 + woken) m → FewAt woken (after_pump passes ticks) m
  pump_few zero ticks m few = few
  pump_few (suc passes) ticks m few = few

  turn_few : (here next : Phase) (m : Machine) → Turns here m next → LineAt here m → FewAt woken here m → FewAt woken next m
  turn_few (Begun line) next m (inl (events, is, same)) line_at few =
      to_phase (Doing line events) next m same (less_few (3 + woken) m (length (woken_by line)) (wakes_in events) (wakes_most line m events line_at.0 is) few)
  turn_few (Begun line) next m (inr (ticks, is, same)) line_at few = to_phase (To_tick ticks) next m same (less_few (3 + woken) m (length (woken_by line)) 0 (omega arith) few)
  turn_few (Doing line []) next m same line_at few = to_phase (Sleeping 64 0) next m same few
  turn_few (To_tick zero) next m same line_at few = to_phase Between next m same few
  turn_few (Ticked ticks) next m same line_at few = to_phase (Arriving (to_arrive m) ticks) next m same (All (omega arith) few)
  turn_few (Arriving zero ticks) next m same line_at few = to_phase (Giving _ ticks) next m same (have_arrived m few)
  turn_few (Giving zero ticks) next m same line_at few = to_phase (Ticking_devices 0 (length m.outside.devices) ticks) next m same (to_tick m few)
  turn_few (Ticking_devices place zero ticks) next m same line_at few = to_phase (Ticking_chip ticks) next m same (have_ticked place m few)
  turn_few (Ticking_host [] ticks) next m same line_at few = to_phase (Sleeping 64 ticks) next m same (more_few m few)
  turn_few (Sleeping passes ticks) next m (none, same) line_at few = to_phase (Submitting passes ticks) next m same few
  turn_few (Submitting passes ticks) next m (pumped, same) line_at few = to_phase (after_pump passes ticks) next m same (pump_few passes ticks m few)
  turn_few (Moving passes ticks) next m (still, same) line_at few = to_phase (Moved false passes ticks) next m same few
  turn_few (Moved b passes ticks) next m (still, same) line_at few = to_phase (Sleeping (passes_after b passes) ticks) next m same few
  turn_few here next m turns line_at few = absurd turns

-- ---- few frames arrive

-- between ticks
few_arrive : (woken : ℕ) (m : Machine) → Awaits m → m.outside.outer.chip.state.aborted ≡ 0 → woken ≤ 16 → AreFew 0 (3 + woken) m → to_arrive m ≤ 31
few_arrive woken m is kept some few =
    let fly = few.fly in
    let one = few_calls m is kept in
    let same = flags_same m.outside.outer.calls in
    omega (arith, fly, one, same, some)

orderly_as : (m : Machine) (event is : Event) → event ≡ is → IsOrderly m is → IsOrderly m event
orderly_as m event is same orderly = subst (IsOrderly m) (sym same) orderly

orderly_effect : (m : Machine) (event : Event) → IsEffect event → IsOrderly m event
orderly_effect m (Outside_does (Wakes_device node route)) is = tt
orderly_effect m (Outside_does (Shows node)) is = tt
orderly_effect m (Outside_does (Cuts size)) is = tt
orderly_effect m (Host_does (Accepts order carriage)) is = tt
orderly_effect m (Refuses line refusal) is = tt
orderly_effect m (Shows_values node) is = tt
orderly_effect m (Outside_does event) is = absurd is
orderly_effect m (Host_does event) is = absurd is
orderly_effect m event is = absurd is

orderly : (here next : Phase) (m : Machine) (event : Event) (woken : ℕ) → woken ≤ 16 → Goes here m event next → Ground here m → FewAt woken here m → IsOrderly m event
orderly (Said_line line) next m event woken some (is, to) ground few = orderly_as m event (Outside_does Begins_line) is tt
orderly (Doing line (first ∷ left)) next m event woken some (is, to) ground few = orderly_as m event first is (orderly_effect m first ground.0.0.0)
orderly (To_tick (suc ticks)) next m event woken some (is, to) ground few =
    orderly_as m event (Outside_does Begins_tick) is (few_arrive woken m ground.1 ground.0.at_chip.none_given_up some few)
orderly (Arriving (suc frames) ticks) next m event woken some (drawn, route, is, to) ground few = orderly_as m event (Outside_does (Arrives drawn route)) is tt
orderly (Giving (suc results) ticks) next m event woken some (route, is, to) ground few = orderly_as m event (Outside_does (Gives route)) is tt
orderly (Ticking_devices place (suc count) ticks) next m event woken some (drawn, route, is, to) ground few = orderly_as m event (Outside_does (Device_ticks place drawn route)) is tt
orderly (Ticking_chip ticks) next m event woken some (is, to) ground few = orderly_as m event (Outside_does Chip_ticks) is tt
orderly (Ticking_decoder ticks) next m event woken some (is, to) ground few = orderly_as m event Decoder_ticks is tt
orderly (Ticking_host (first ∷ events) ticks) next m event woken some (is, to) ground few = orderly_as m event (Host_does first) is tt
orderly (Sleeping passes ticks) next m event woken some (node, wants, is, to) ground few = orderly_as m event (Host_does (no_more_event m.host.state node)) is tt
orderly (Submitting passes ticks) next m event woken some (asked, next_is, is, to) ground few = orderly_as m event (Host_does asked) is tt
orderly (Moving passes ticks) next m event woken some (rest, ways, is, to) ground few =
    orderly_as m event (Outside_does (Chip_takes (length m.outside.outer.to_chip.bytes) rest ways)) is tt
orderly (Moved b passes ticks) next m event woken some (rest, items, done, is, to) ground few =
    orderly_as m event (Host_takes (length m.outside.outer.to_host.bytes) rest items done) is tt
orderly here next m event woken some goes ground few = absurd goes

-- ---- lines that were said

woken-append : (past told : List Entry) → woken_in (past ++ told) ≡ woken_in past + woken_in told
woken-append past told =
    ap (λ (ls : List Line). length (flat_map woken_by ls)) (shown-append line_of past told)
    ∙ ap (λ (nodes : List ℕ). length nodes) (flat_map-append woken_by (lines_run past) (lines_run told))
    ∙ length-append (flat_map woken_by (lines_run past)) (flat_map woken_by (lines_run told))

pub stretched_before : (past told : List Entry) → IsStretched (past ++ told) → IsStretched past
stretched_before past told is = record { quiet = (quiet_both past told is.quiet).0; few = let few = is.few in let both = woken-append past told in omega (arith, few, both) }

woken_said : (words : List ℕ) (line : Line) → line_of (entry.Said words) ≡ line ∷ [] → woken_in (entry.Said words ∷ []) ≡ length (woken_by line)
woken_said words line read =
    ap (λ (ls : List Line). length (flat_map woken_by (ls ++ []))) read ∙ ap (λ (nodes : List ℕ). length nodes) (append-nil (woken_by line))

-- ---- the walk

module _ (airs : Airs) (worked : Worked) (these : List Bool) (tied : WalkWhere (IsOrderlyFor these) AsksNothing (KnowTied these)) where
  said_few : (past : List Entry) (m : Machine) (words : List ℕ) (line : Line) → line_of (entry.Said words) ≡ line ∷ [] → IsStretched (past ++ entry.Said words ∷ []) → Knows these Between past m
      → Knows these (Said_line line) (past ++ entry.Said words ∷ []) m
  said_few past m words line read is known = record {
    tied = (tied.said past m words line read known.tied).1;
    woken = known.woken + length (woken_by line);
    told = let told = known.told in let both = woken-append past (entry.Said words ∷ []) in let one = woken_said words line read in omega (arith, told, both, one);
    few = record { fly = let fly = known.few.fly in omega (arith, fly); work = known.few.work };
  }

  does_all : (here next : Phase) (past : List Entry) (m : Machine) (event : Event) → Goes here m event next → May m event → IsSentTo these m event → IsStretched (past ++ entries m event) → Knows these here past m
      → Knows these next (past ++ entries m event) (happens m event)
  does_all here next past m event goes may sent is known =
      let before = stretched_before past (entries m event) is in
      let at = known.tied before.quiet in
      let ground : Ground here m = (at.0, at.1, at.3) in
      let some : known.woken ≤ 16 = let told = known.told in let few = before.few in omega (arith, told, few) in
      let next_tied = (tied.event here next past m event goes may (orderly here next m event known.woken some goes ground known.few, sent) known.tied).1 in
      record {
        tied = next_tied;
        woken = known.woken;
        told = let told = known.told in let both = woken-append past (entries m event) in omega (arith, told, both);
        few = event_few airs worked known.woken here next m event goes may ground known.few (next_tied is.quiet).1;
      }

  pub few_walk : WalkWhere (IsSentTo these) AsksNothing (KnowFew these)
  few_walk = record {
    said = λ past m words line read known. (tt, λ is. said_few past m words line read is (known (stretched_before past (entry.Said words ∷ []) is)));
    event = λ here next past m event goes may sent known.
        (nothing_asked past (entries m event), λ is. does_all here next past m event goes may sent is (known (stretched_before past (entries m event) is)));
    turn = λ here next past m turns known is.
        let at = known is in
        record {
          tied = tied.turn here next past m turns at.tied;
          woken = at.woken;
          told = at.told;
          few = turn_few airs worked at.woken here next m turns (at.tied is.quiet).0 at.few;
        };
  }

-- where a stretch begins
pub begins_known : {these : List Bool} (m : Machine) → IsTied these m → AreFew 0 3 m → Knows these Between [] m
begins_known m is few = record { tied = λ quiet. (is.rests, is.awaits, tt, is.routed, is.on_line, is.pumped, is.tie, is.peopled); woken = 0; told = omega arith; few = few }
