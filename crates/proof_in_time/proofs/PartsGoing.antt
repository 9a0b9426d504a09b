-- From phase to phase, at an event and with none, the segments of an attempt that runs go on, until the device tells the end or is at work on the session.
use Rattle.std.proofs.Common.{◌≡◌, ◌≤◌, ◌<◌, ℕ, zero, suc, ◌+◌, inl, inr, Bool, true, false, Option, Some, None, List, [], ◌∷◌, ◌++◌, length, length-append, refl, sym, ap, ◌∙◌, subst, arith}
use Rattle.std.proofs.lemmas.List.{append-nil}
use Rattle.std.specs.Prelude.{◌⊎◌, slice_get}
use Rattle.std.specs.Option.{is_some}
use Rattle.zw_text.specs.declared.entry.Entry.TheVariants as entry
use Rattle.zw_text.specs.declared.line.Line.{Line}
use Rattle.serial_frame.specs.Frame.{FrameParts}
use Rattle.route_table.specs.declared.route.Route.{Route}
use Rattle.supervision.specs.Host.{begun_of, open_session}
use Rattle.chip_functions.specs.Field.{IsNode}
use Rattle.chip_sim.specs.Nodes.{is_marked}
use Rattle.chip_sim.specs.declared.out.Sending.{Sending}
use Rattle.air_frames.specs.Flown.{Flown}
use Rattle.air_frames.specs.Frames.{next_of as next_frame}
use Rattle.air_frames.specs.declared.frame.Heading.TheVariants.{Homeward, Outward}
use Rattle.device_sim.specs.Event.{Ticks}
use Rattle.device_sim.specs.State.{State}
use Rattle.mesh_sim.specs.Air.{AirState, is_joined}
use Rattle.mesh_sim.specs.Fates.{fate_of}
use Rattle.mesh_sim.specs.declared.fate.Fate.TheVariants.{AtDevice}
use Rattle.zw_text.specs.declared.entry.Refusal.{Refusal}
use Rattle.host_node.specs.Search.{first_wanting, next_of}
use Rattle.host_node.specs.declared.series.Series.TheVariants as series
use Rattle.host_model.specs.Events.{Accepts}
use Rattle.host_model.specs.State.{HostState, node_of}
use Rattle.outside_model.specs.Events.{Arrives, Cuts, Shows, Wakes_device, outcome}
use Rattle.world_model.specs.Events.{Event, Host_does, Host_takes, May, Outside_does, Refuses, Shows_values, happens, shown_values}
use Rattle.world_model.specs.State.{Machine}
use Rattle.proof_messages.specs.Reporting.{TellsPlainly}
use Rattle.proof_answered.specs.proof_calm.proof_traffic.Facts.{one_if}
use Rattle.proof_answered.specs.proof_calm.proof_traffic.OnAir.{on_air}
use Rattle.proof_answered.specs.proof_calm.proof_traffic.OutsideTraffic.{outward}
use Rattle.proof_answered.specs.proof_calm.proof_work.proof_walk.Phases.{Phase, Arriving, Begun, Between, Doing, Giving, Goes, Moved, Moving, Said_line, Sleeping, Submitting, Ticked, Ticking_chip, Ticking_decoder, Ticking_devices, Ticking_host, To_tick, Turns, after_pump, passes_after}
use Rattle.proof_answered.specs.proof_calm.Awaited.{Awaits, AwaitsAt}
use Rattle.proof_answered.specs.proof_calm.Live.{IsLive}
use Rattle.proof_answered.specs.proof_calm.Passes.{chip_taken}
use Rattle.proof_answered.specs.proof_calm.Resting.{IsEffect, LineAt, LineRests}
use Rattle.proof_answered.specs.proof_calm.Routed.{IsRouted}
use Rattle.proof_answered.specs.proof_calm.Tied.{IsPeopled, IsTied, RoomAt, TieAt, on_line, unheard}
use Rattle.proof_answered.specs.Heard.{AllSayHeard}
use Rattle.proof_answered.specs.Outward.{IsSentTo}
use Rattle.proof_answered.specs.Sleepers.{IsAlone}
use Rattle.proof_answered.specs.Workers.{IsFromSaying}
use Rattle.proof_answered.proofs.Calm.{enters_calm}
use Rattle.proof_answered.proofs.ChipNotices.{entered_leaves}
use Rattle.proof_answered.proofs.Outwards.{next_is_live}
use Rattle.proof_answered.proofs.Unheard.{effect_says}
use Rattle.proof_answered.proofs.Walking.{none_given}
use Rattle.proof_answered.proofs.proof_traffic_Parts.{Airs}
use Rattle.proof_in_time.specs.Coming.{IsBusy, IsReport, Stands}
use Rattle.proof_in_time.specs.Owed.{IsFreeNow}
use Rattle.proof_in_time.specs.Openly.{GoOpenly}
use Rattle.proof_in_time.specs.Parts.{HasCall, Parts}
use Rattle.proof_in_time.proofs.Bounded.{cuts_devices, open_where, refuses_devices, shows_devices, values_devices}
use Rattle.proof_in_time.proofs.Grown.{Arrived, arrives_there}
use Rattle.proof_in_time.proofs.Lasting.{most_then}
use Rattle.proof_in_time.proofs.PartsArrived.{outside_host}
use Rattle.proof_in_time.proofs.PartsArriving.{SegmentLaws, TakenStays, TakesParts, parts_arrive}
use Rattle.proof_in_time.proofs.PartsCarried.{AllHome, Wraps, itself_wraps, wraps_pile}
use Rattle.proof_in_time.proofs.PartsFlying.{call_comes, home_out, sends_as}
use Rattle.proof_in_time.proofs.PartsHosted.{accepts_parts, host_then, tick_parts}
use Rattle.proof_in_time.proofs.PartsJudged.{parts_judge}
use Rattle.proof_in_time.proofs.PartsMoved.{parts_move}
use Rattle.proof_in_time.proofs.PartsPhases.{AnswersPlainly, FirstStays, same_first, wakes_first}
use Rattle.proof_in_time.proofs.PartsSteps.{arriving_parts, begins_parts, begun_parts, between_parts, chip_parts, chip_turn_parts, decoder_parts, devices_parts, done_parts, giving_parts, line_parts, moving_parts, pumped_parts, same_on, settling_parts, sleeping_parts, still_parts, submitting_parts, ticks_parts}
use Rattle.proof_in_time.proofs.PartsSubmitted.{parts_submit}
use Rattle.proof_in_time.proofs.PartsTaken.{IsTakenNow}

-- ---- nothing of the host is on its way

all_home : (frames : List Flown) → AllHome frames → outward frames ≡ 0
all_home [] all = refl
all_home (frame ∷ frames) all = home_out frame frames all.0 ∙ all_home frames all.1

sends_none : (s : Option Sending) → one_if (is_some s) ≡ 0 → s ≡ None
sends_none None none = refl
sends_none (Some sending) none = absurd (let wrong : 1 ≡ 0 = none in omega (arith, wrong))

home_free : (m : Machine) → Awaits m → IsRouted m.outside.outer → m.outside.outer.chip.state.aborted ≡ 0 → LineRests m → AllHome (on_air m.outside.outer.air.frames) → IsFreeNow m
home_free m awaits routed none rests home =
    let sends = sends_as m awaits routed none in
    let out = all_home (on_air m.outside.outer.air.frames) home in
    record { quiet = sends_none m.outside.outer.chip.state.sending (omega (arith, sends, out)); silent = ap on_line rests.at_host.turn_is }

-- ---- effects leave the host and the air

pub refuses_host : (m : Machine) (of : Line) (refusal : Refusal) → (happens m (Refuses of refusal)).host.state ≡ m.host.state
unfolding happens
refuses_host m of refusal = refl

pub values_host : (m : Machine) (node : ℕ) → (happens m (Shows_values node)).host.state ≡ m.host.state
unfolding happens
values_host m node = refl

shows_air : (m : Machine) (node : ℕ) → on_air (happens m (Outside_does (Shows node))).outside.outer.air.frames ≡ on_air m.outside.outer.air.frames
unfolding happens outcome
shows_air m node = ap (λ (a : AirState). on_air a.frames) (entered_leaves (outcome m.outside (Shows node)).outer (outcome m.outside (Shows node)).entries).air

cuts_air : (m : Machine) (size : ℕ) → on_air (happens m (Outside_does (Cuts size))).outside.outer.air.frames ≡ on_air m.outside.outer.air.frames
unfolding happens outcome
cuts_air m size = refl

-- where a settling is over, or a tick is to begin, what is known between lines
abbrev pub TiedThen : List Bool → Phase → Machine → Type 0
TiedThen these (To_tick ticks) m = IsTied these m
TiedThen these here m = Unit {0}

module _ (airs : Airs) (laws : SegmentLaws) (these : List Bool) (many : length these ≡ 233) (n session : ℕ) (alone : IsAlone these n) (is_node : IsNode n) where
  abbrev Comes : FrameParts → Type 0
  Comes frame = IsFromSaying these TellsPlainly frame

  below : n < 233
  below = let few = is_node.1 in omega (arith, few)

  -- ---- in a line

  effect_on : (line : Line) (es : List Event) (m : Machine) (event : Event) (left : ℕ) → IsEffect event → (happens m event).host.state ≡ m.host.state → on_air (happens m event).outside.outer.air.frames ≡ on_air m.outside.outer.air.frames
      → FirstStays n m.outside.devices (happens m event).outside.devices → Parts these n session left (Doing line (event ∷ es)) m → Parts these n session left (Doing line es) (happens m event)
  effect_on line es m event left is host silent stays parts =
      same_on these n session (Doing line (event ∷ es)) (Doing line es) m (happens m event) host (λ owed due. absurd owed) (λ free home. tt) (λ asking frame on. absurd asking)
      (effect_says Comes (Wraps Comes (unheard m.outside.outer)) (wraps_pile Comes (unheard m.outside.outer)) airs m event is (itself_wraps Comes (unheard m.outside.outer)))
      (record { more = []; are = silent ∙ sym (append-nil (on_air m.outside.outer.air.frames)); plain = tt }) stays (λ place in_it. omega arith) (λ gives place one. one) (λ first second before in_it level. omega arith) left parts

  -- a device that is woken by hand says nothing
  abbrev pub WakesSilently : Machine → Event → Type 0
  WakesSilently m (Outside_does (Wakes_device node route)) = on_air (happens m (Outside_does (Wakes_device node route))).outside.outer.air.frames ≡ on_air m.outside.outer.air.frames
  WakesSilently m event = Unit {0}

  pub effect_parts : (line : Line) (es : List Event) (m : Machine) (event : Event) (left : ℕ) → IsEffect event → WakesSilently m event → length m.host.state.nodes ≡ 233 → (node_of (happens m event).host.state n).series ≡ series.Running
      → Parts these n session left (Doing line (event ∷ es)) m → Parts these n session left (Doing line es) (happens m event)
  unfolding happens outcome
  effect_parts line es m (Outside_does (Wakes_device node route)) left is silent places running parts = effect_on line es m (Outside_does (Wakes_device node route)) left is (outside_host m (Wakes_device node route)) silent (wakes_first n m node route) parts
  effect_parts line es m (Outside_does (Shows node)) left is silent places running parts =
      effect_on line es m (Outside_does (Shows node)) left is (outside_host m (Shows node)) (shows_air m node) (same_first n m.outside.devices (happens m (Outside_does (Shows node))).outside.devices (shows_devices m node)) parts
  effect_parts line es m (Outside_does (Cuts size)) left is silent places running parts =
      effect_on line es m (Outside_does (Cuts size)) left is (outside_host m (Cuts size)) (cuts_air m size) (same_first n m.outside.devices (happens m (Outside_does (Cuts size))).outside.devices (cuts_devices m size)) parts
  effect_parts line es m (Host_does (Accepts order carriage)) left is silent places running parts =
      accepts_parts airs these n session below line es order carriage m left places (subst (λ (h : HostState). (node_of h n).series ≡ series.Running) (host_then m (Accepts order carriage)) running) parts
  effect_parts line es m (Refuses of refusal) left is silent places running parts =
      effect_on line es m (Refuses of refusal) left is (refuses_host m of refusal) (enters_calm airs m (entry.Refused refusal)).on (same_first n m.outside.devices (happens m (Refuses of refusal)).outside.devices (refuses_devices m of refusal)) parts
  effect_parts line es m (Shows_values node) left is silent places running parts =
      effect_on line es m (Shows_values node) left is (values_host m node) (enters_calm airs m (shown_values m.host.state node)).on (same_first n m.outside.devices (happens m (Shows_values node)).outside.devices (values_devices m node)) parts
  effect_parts line es m (Outside_does event) left is silent places running parts = absurd is
  effect_parts line es m (Host_does event) left is silent places running parts = absurd is
  effect_parts line es m event left is silent places running parts = absurd is

  -- ---- with no event

  abbrev P : ℕ → Phase → Machine → Type 0
  P left here m = Parts these n session left here m

  to_is : (left : ℕ) (next to : Phase) (m : Machine) → next ≡ to → P left to m → P left next m
  to_is left next to m same parts = subst (λ (q : Phase). P left q m) (sym same) parts

  pump_parts : (passes ticks : ℕ) (m : Machine) (left : ℕ) → TiedThen these (after_pump passes ticks) m → (node_of m.host.state n).series ≡ series.Running → P left (Submitting passes ticks) m → P left (after_pump passes ticks) m
  pump_parts zero ticks m left tied running parts = pumped_parts these n session ticks m left tied is_node running parts
  pump_parts (suc passes) ticks m left tied running parts = moving_parts these n session passes ticks m left parts

  pub turns_parts : (here next : Phase) (m : Machine) (left : ℕ) → Turns here m next → AwaitsAt here m → IsRouted m.outside.outer → m.outside.outer.chip.state.aborted ≡ 0 → LineAt here m → TieAt here m → TieAt next m → TiedThen these next m
      → (node_of m.host.state n).series ≡ series.Running → P left here m → P left next m
  turns_parts (Begun line) next m left (inl (events, is, same)) awaits routed none at tie tie_next tied running parts =
      to_is left next (Doing line events) m same (begun_parts these n session line (Doing line events) m left (λ place. omega arith) (λ place. refl) tt parts)
  turns_parts (Begun line) next m left (inr (ticks, is, same)) awaits routed none at tie tie_next tied running parts =
      to_is left next (To_tick ticks) m same (begun_parts these n session line (To_tick ticks) m left (λ place. omega arith) (λ place. refl) tt parts)
  turns_parts (Doing line []) next m left same awaits routed none at tie tie_next tied running parts = to_is left next (Sleeping 64 0) m same (done_parts these n session line m left (λ home. home_free m awaits routed none at.1 home) parts)
  turns_parts (To_tick zero) next m left same awaits routed none at tie tie_next tied running parts = to_is left next Between m same (between_parts these n session m left parts)
  turns_parts (Ticked ticks) next m left same awaits routed none at tie tie_next tied running parts =
      to_is left next (Arriving _ ticks) m same (arriving_parts these n session ticks _ m left (airs.count awaits.log (on_air m.outside.outer.air.frames) m.outside.outer.air.frames awaits.follows.fly) parts)
  turns_parts (Arriving zero ticks) next m left same awaits routed none at tie tie_next tied running parts = to_is left next (Giving _ ticks) m same (giving_parts these n session _ ticks m left parts)
  turns_parts (Giving zero ticks) next m left same awaits routed none at tie tie_next tied running parts = to_is left next (Ticking_devices 0 (length m.outside.devices) ticks) m same (devices_parts these n session ticks m left parts)
  turns_parts (Ticking_devices place zero ticks) next m left same awaits routed none at tie tie_next tied running parts = to_is left next (Ticking_chip ticks) m same (chip_turn_parts these n session place ticks m left parts)
  turns_parts (Ticking_host [] ticks) next m left same awaits routed none at tie tie_next tied running parts = to_is left next (Sleeping 64 ticks) m same (settling_parts these n session ticks m left at.1.at_host.turn_is awaits parts)
  turns_parts (Sleeping passes ticks) next m left (none_wants, same) awaits routed none at tie tie_next tied running parts = to_is left next (Submitting passes ticks) m same (submitting_parts these n session passes ticks m left parts)
  turns_parts (Submitting passes ticks) next m left (pumped, same) awaits routed none at tie tie_next tied running parts =
      to_is left next (after_pump passes ticks) m same (pump_parts passes ticks m left (subst (λ (q : Phase). TiedThen these q m) same tied) running parts)
  turns_parts (Moving passes ticks) next m left (still, same) awaits routed none at tie tie_next tied running parts =
      to_is left next (Moved false passes ticks) m same (still_parts these n session passes ticks m left tie (subst (λ (q : Phase). TieAt q m) same tie_next) parts)
  turns_parts (Moved b passes ticks) next m left (still, same) awaits routed none at tie tie_next tied running parts =
      to_is left next (Sleeping (passes_after b passes) ticks) m same (sleeping_parts these n session b passes (passes_after b passes) ticks m left parts)
  turns_parts here next m left turns awaits routed none at tie tie_next tied running parts = absurd turns

  -- ---- at an event

  -- what is known beside
  pub record Around (here next : Phase) (m : Machine) (event : Event) : Type 0 where
    pub may : May m event
    pub line : LineAt here m
    pub awaits : AwaitsAt here m
    pub room : RoomAt here m
    pub routed : IsRouted m.outside.outer
    pub none_aborted : m.outside.outer.chip.state.aborted ≡ 0
    pub tie : TieAt here m
    pub peopled : IsPeopled these m
    pub then_line : LineAt next (happens m event)
    pub then_awaits : AwaitsAt next (happens m event)
    pub then_routed : IsRouted (happens m event).outside.outer
    pub then_none : (happens m event).outside.outer.chip.state.aborted ≡ 0
    pub then_tie : TieAt next (happens m event)
    pub sent : IsSentTo these m event
    pub silent : WakesSilently m event
    pub go : GoOpenly these m.host.state.commands
    pub joined : is_joined m.outside.outer.air n ≡ true
    pub takes : TakesParts n session m
    pub heard : (frame : Flown) → next_frame m.outside.outer.air.frames ≡ Some frame → frame.node ≡ n → frame.heading ≡ Outward → fate_of m.outside.outer.air.network m.outside.devices frame ≡ AtDevice takes.stands.place
    pub owns : (frame : Flown) → next_frame m.outside.outer.air.frames ≡ Some frame → frame.heading ≡ Homeward → is_marked these frame.node ≡ true
    pub plainly : (place : ℕ) (drawn : List ℕ) (device : State) → slice_get m.outside.devices place ≡ Some device → AnswersPlainly these device (Ticks drawn)
    pub wants : (k : ℕ) → first_wanting m.host.state.nodes ≡ Some k → ⊥
    pub workers : (k : ℕ) → next_of m.host.state.nodes m.host.state.served ≡ Some k → is_marked these k ≡ true
    pub calls : AllSayHeard (unheard m.outside.outer)
    pub begun : begun_of (node_of m.host.state n).book ≡ session
    pub running : (node_of m.host.state n).series ≡ series.Running

  -- the report of the end is on the air, or the device is at work on the session
  abbrev pub TellsOr : Machine → Type 0
  TellsOr m = Stands (IsReport n session) (on_air m.outside.outer.air.frames) ⊎ ((busy : IsBusy n session m.outside.devices) × (busy.device.work_left ≤ 5))

  pub record IsOver (left : ℕ) (next : Phase) (m : Machine) : Type 0 where
    pub frames : ℕ
    pub ticks : ℕ
    pub arriving : next ≡ Arriving frames ticks
    pub tells : TellsOr m
    pub five : 5 ≤ left
    pub taken : IsTakenNow these n session frames m

  abbrev pub Then : ℕ → Phase → Phase → Machine → Event → Type 0
  Then left here next m event = P (most_then left here) next (happens m event) ⊎ IsOver (most_then left here) next (happens m event)

  -- the node runs then
  abbrev pub RunsThen : Machine → Event → Type 0
  RunsThen m event = (node_of (happens m event).host.state n).series ≡ series.Running

  as_is : (left : ℕ) (here next to : Phase) (m : Machine) (event is : Event) → event ≡ is → next ≡ to → (Around here to m is → Then left here to m is) → Around here next m event → Then left here next m event
  as_is left here next to m event is event_is next_is leads a =
      subst (λ (e : Event). Then left here next m e) (sym event_is)
      (subst (λ (q : Phase). Then left here q m is) (sym next_is) (leads (subst (λ (q : Phase). Around here q m is) next_is (subst (λ (e : Event). Around here next m e) event_is a))))

  opened : (here next : Phase) (m : Machine) (event : Event) → Around here next m event → open_session (node_of m.host.state n).book ≡ Some session
  opened here next m event a = open_where (node_of m.host.state n) (a.peopled.facts.nodes.facts n) a.running ∙ ap Some a.begun

  -- a frame arrives
  module _ (frames ticks : ℕ) (m : Machine) (drawn : List ℕ) (route : Option Route) (a : Around (Arriving (suc frames) ticks) (Arriving frames ticks) m (Outside_does (Arrives drawn route))) where
    abbrev then_heard : Machine
    then_heard = happens m (Outside_does (Arrives drawn route))

    at_arrival : Arrived airs m a.awaits.awaits drawn route
    at_arrival = arrives_there airs m a.awaits.awaits drawn route a.may

    live_at : IsLive m.outside.outer.air.network at_arrival.frame
    live_at = next_is_live these m.outside.outer a.peopled.live at_arrival.frame at_arrival.next (a.owns at_arrival.frame at_arrival.next)

    behind_it : frames ≤ length at_arrival.rest
    behind_it =
        let all = ap (λ (l : List Flown). length l) (sym at_arrival.were ∙ a.awaits.are) in
        let both = length-append a.awaits.first a.awaits.behind in
        let first = a.awaits.many in
        let rest : length (at_arrival.frame ∷ at_arrival.rest) ≡ length at_arrival.rest + 1 = omega arith in
        omega (arith, all, both, first, rest)

    calls_it : outward (on_air m.outside.outer.air.frames) ≡ 1 → outward (on_air then_heard.outside.outer.air.frames) ≡ 0 → (more : List FrameParts) → unheard then_heard.outside.outer ≡ unheard m.outside.outer ++ more
        → HasCall then_heard.host.state.requests.last_id more
    calls_it one none more are =
        call_comes m then_heard more (outside_host m (Arrives drawn route)) are a.tie a.then_tie (sends_as m a.awaits.awaits a.routed a.none_aborted ∙ one) (sends_as then_heard a.then_awaits.awaits a.then_routed a.then_none ∙ none)

    pub arrive_so : (left : ℕ) → P left (Arriving (suc frames) ticks) m → (P left (Arriving frames ticks) then_heard × TakenStays n m.outside.devices then_heard.outside.devices) ⊎ IsOver left (Arriving frames ticks) then_heard
    arrive_so left parts =
        let few = a.room in
        over (parts_arrive airs laws these n session alone.marked below m a.awaits.awaits drawn route at_arrival a.line a.then_line (omega (arith, few)) live_at frames ticks behind_it a.peopled.facts a.go a.joined a.takes
        (λ node out. a.heard at_arrival.frame at_arrival.next node out) left parts calls_it)
      where
        over : (P left (Arriving frames ticks) then_heard × TakenStays n m.outside.devices then_heard.outside.devices) ⊎ (TellsOr then_heard × ((5 ≤ left) × IsTakenNow these n session frames then_heard))
            → (P left (Arriving frames ticks) then_heard × TakenStays n m.outside.devices then_heard.outside.devices) ⊎ IsOver left (Arriving frames ticks) then_heard
        over (inl parts_then) = inl parts_then
        over (inr (tells, (five, taken))) = inr (record { frames = frames; ticks = ticks; arriving = refl; tells = tells; five = five; taken = taken })

    arrive : (left : ℕ) → P left (Arriving (suc frames) ticks) m → Then left (Arriving (suc frames) ticks) (Arriving frames ticks) m (Outside_does (Arrives drawn route))
    arrive left parts = by (arrive_so left parts)
      where
        by : (P left (Arriving frames ticks) then_heard × TakenStays n m.outside.devices then_heard.outside.devices) ⊎ IsOver left (Arriving frames ticks) then_heard
            → Then left (Arriving (suc frames) ticks) (Arriving frames ticks) m (Outside_does (Arrives drawn route))
        by (inl on) = inl on.0
        by (inr over_it) = inr over_it

  pub goes_parts : (here next : Phase) (m : Machine) (event : Event) (left : ℕ) → Goes here m event next → Around here next m event → RunsThen m event → P left here m → Then left here next m event
  goes_parts (Said_line line) next m event left (is, to) a run parts = as_is left (Said_line line) next (Begun line) m event _ is to (λ b. inl (line_parts these n session line m left parts)) a
  goes_parts (Doing line (first ∷ es)) next m event left (is, to) a run parts =
      as_is left (Doing line (first ∷ es)) next (Doing line es) m event first is to (λ b. inl (effect_parts line es m first left b.line.0.0 b.silent b.peopled.facts.nodes.places (subst (RunsThen m) is run) parts)) a
  goes_parts (To_tick (suc ticks)) next m event left (is, to) a run parts = as_is left (To_tick (suc ticks)) next (Ticked ticks) m event _ is to (λ b. inl (begins_parts these n session ticks m left parts)) a
  goes_parts (Arriving (suc frames) ticks) next m event left (drawn, route, is, to) a run parts = as_is left (Arriving (suc frames) ticks) next (Arriving frames ticks) m event _ is to (λ b. arrive frames ticks m drawn route b left parts) a
  goes_parts (Giving (suc results) ticks) next m event left (route, is, to) a run parts = absurd (none_given m results a.routed a.awaits.many)
  goes_parts (Ticking_devices place (suc count) ticks) next m event left (drawn, route, is, to) a run parts =
      as_is left (Ticking_devices place (suc count) ticks) next (Ticking_devices (place + 1) count ticks) m event _ is to
      (λ b. inl (ticks_parts these n session airs place count ticks m b.awaits.awaits drawn route left (λ device there. b.plainly place drawn device there) parts)) a
  goes_parts (Ticking_chip ticks) next m event left (is, to) a run parts = as_is left (Ticking_chip ticks) next (Ticking_decoder ticks) m event _ is to (λ b. inl (chip_parts these n session ticks m left b.line b.then_line parts)) a
  goes_parts (Ticking_decoder ticks) next m event left (is, to) a run parts = as_is left (Ticking_decoder ticks) next (Ticking_host _ ticks) m event _ is to (λ b. inl (decoder_parts these n session ticks m left parts)) a
  goes_parts (Ticking_host (first ∷ events) ticks) next m event left (is, to) a run parts =
      as_is left (Ticking_host (first ∷ events) ticks) next (Ticking_host events ticks) m event _ is to
      (λ b.
      inl (tick_parts airs these n session below b.tie.counted first events ticks m left b.tie.left b.line.1.at_host.turn_is b.peopled.facts.nodes.places
      (subst (λ (h : HostState). (node_of h n).series ≡ series.Running) (host_then m first) (subst (RunsThen m) is run)) parts)) a
  goes_parts (Sleeping passes ticks) next m event left (k, wants, is, to) a run parts = absurd (a.wants k wants)
  goes_parts (Submitting passes ticks) next m event left (asked, next_is, is, to) a run parts =
      as_is left (Submitting passes ticks) next (Submitting passes ticks) m event _ is to
      (λ b.
      inl (parts_submit airs these n session below passes ticks m asked next_is b.tie b.peopled.facts.nodes.places (opened (Submitting passes ticks) (Submitting passes ticks) m (Host_does asked) b) b.running (λ k found. alone.only k (b.workers k found))
      (sends_as m b.awaits b.routed b.none_aborted) left parts)) a
  goes_parts (Moving passes ticks) next m event left (rest, ways, is, to) a run parts =
      as_is left (Moving passes ticks) next (Moved true passes ticks) m event _ is to
      (λ b.
      inl (parts_move airs these many n session alone.marked is_node below passes ticks m rest ways b.awaits b.may b.line b.room b.tie b.then_line b.then_tie b.sent b.peopled (sends_as m b.awaits b.routed b.none_aborted)
      (sends_as (chip_taken m rest ways) b.then_awaits b.then_routed b.then_none) left parts)) a
  goes_parts (Moved moved passes ticks) next m event left (rest, items, done, is, to) a run parts =
      as_is left (Moved moved passes ticks) next (Sleeping passes ticks) m event _ is to
      (λ b.
      inl (parts_judge airs these n session below alone.marked is_node alone.only moved passes ticks m rest items done b.may b.line b.tie b.peopled.facts.nodes.places
      (λ run_now. opened (Moved moved passes ticks) (Sleeping passes ticks) m (Host_takes (length m.outside.outer.to_host.bytes) rest items done) b) b.then_line (subst (RunsThen m) is run) left parts)) a
  goes_parts here next m event left goes a run parts = absurd goes
