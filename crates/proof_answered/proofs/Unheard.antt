-- What is so of the frames that the chip has for the host, from phase to phase of quiet lines and ticks: where it stays so as one is given more in a tick, or its answer.
use Rattle.std.proofs.Common.{◌≡◌, ◌≤◌, ℕ, suc, ◌+◌, ◌-◌, ◌==◌, ◌&&◌, nat_le, Bool, true, false, if◌then◌else◌, inl, inr, List, [], ◌∷◌, ◌++◌, length, refl, sym, ap, ◌∙◌, subst, arith}
use Rattle.std.specs.Prelude.{◌⊎◌, Option, Some, None, slice_get}
use Rattle.std.specs.List.{AllByRecursion}
use Rattle.zw_base.proofs.Each.{all-append}
use Rattle.zw_text.specs.declared.entry.Entry.{Entry}
use Rattle.serial_frame.specs.Frame.{FrameParts}
use Rattle.serial_frame.specs.Stream.{Rest, after_tick}
use Rattle.serial_frame.specs.declared.item.Item.{Item}
use Rattle.serial_frame.specs.declared.unit.Unit.{Unit as LineUnit}
use Rattle.serial_link.specs.declared.turn.Turn.{Turn}
use Rattle.serial_link.specs.declared.turn.Turn.TheVariants.{Idle, Copied, Paused}
use Rattle.serial_pipes.specs.State.{WayState}
use Rattle.route_table.specs.declared.route.Route.{Route}
use Rattle.chip_functions.specs.declared.notice.Notice.TheVariants.{ApplicationCommandHandler, ApplicationUpdate}
use Rattle.chip_functions.specs.declared.notice.TransmitStatus.{TransmitStatus}
use Rattle.chip_functions.specs.declared.notice.Update.{Update}
use Rattle.chip_sim.specs.Answers.{notice_frame}
use Rattle.chip_sim.specs.Events.{ChipEvent, Done, Heard as chip_hears, Informed, Ticked as chip_ticked, after as after_chip_event, ended, update_of}
use Rattle.chip_sim.specs.Requests.{callback_frame}
use Rattle.chip_sim.specs.declared.out.Sending.{Sending}
use Rattle.air_frames.specs.Flown.{Flown}
use Rattle.air_frames.specs.Frames.{next_of}
use Rattle.air_frames.specs.declared.frame.Heading.TheVariants.{Homeward}
use Rattle.chip_sim.specs.Did.{after_all as after_chip, judged_all}
use Rattle.chip_sim.specs.State.{ChipParts, ChipState}
use Rattle.chip_sim.specs.Waiting.{PortState, is_full, queued, queued_at}
use Rattle.device_sim.specs.Event.{Ticks, Wakes}
use Rattle.device_sim.specs.State.{State}
use Rattle.host_model.specs.Events.{HostEvent, Accepts}
use Rattle.host_model.specs.Pumping.{no_more_event}
use Rattle.host_model.specs.Ticking.{tick_events}
use Rattle.mesh_sim.specs.Fates.{place_of}
use Rattle.mesh_sim.specs.Steps.{mesh_after, mesh_outs}
use Rattle.mesh_sim.specs.Steps as mesh
use Rattle.mesh_sim.specs.declared.event.AirEvent.{AirEvent}
use Rattle.mesh_sim.specs.declared.event.AirEvent.TheVariants as air_event
use Rattle.outside_model.specs.Air.{deals, to_chip}
use Rattle.outside_model.specs.Chip.{chip_does}
use Rattle.outside_model.specs.Results.{frame_ends}
use Rattle.outside_model.specs.State.{OuterState, Outcome, Outside, each, silent}
use Rattle.outside_model.specs.Events.{OuterEvent, Begins_line, Begins_tick, Arrives, Device_ticks, Chip_ticks, Chip_takes, Wakes_device, Shows, Cuts, has_entered, mesh_of, outcome}
use Rattle.world_model.specs.State.{Machine}
use Rattle.world_model.specs.Events.{Event, Outside_does, Host_does, Host_takes, Decoder_ticks, Refuses, Shows_values, happens, May}
use Rattle.proof_calm.specs.proof_work.proof_walk.Phases.{Phase, Said_line, Begun, Doing, To_tick, Ticked, Arriving, Giving, Ticking_devices, Ticking_chip, Ticking_decoder, Ticking_host, Sleeping, Submitting, Moving, Moved, Goes}
use Rattle.proof_calm.proofs.Times.{does_chip}
use Rattle.proof_calm.proofs.Calm.{does_calm, takes_calm}
use Rattle.proof_calm.proofs.proof_traffic_Parts.{Airs}
use Rattle.proof_calm.specs.Awaited.{AwaitsAt}
use Rattle.proof_calm.specs.Calls.{answer_taken}
use Rattle.proof_calm.specs.Passes.{IsPlain, OnLine, ChipMayTake, chip_taken, frames_in}
use Rattle.proof_calm.specs.Resting.{CanMove, HasFor, IsEffect, IsGiven, LineAt}
use Rattle.proof_calm.specs.Routed.{IsRouted}
use Rattle.proof_calm.specs.Settling.{HasMoved, IsDone}
use Rattle.proof_calm.specs.Tied.{HasRoom, RoomAt, TieAt, TieOf, on_line, unheard, unheard_by}
use Rattle.proof_calm.proofs.ChipPart.{entered_state}
use Rattle.proof_calm.proofs.HostTurns.{host_turns}
use Rattle.proof_calm.proofs.Idle.{host_idles}
use Rattle.proof_calm.proofs.Homing.{arrival_of}
use Rattle.proof_calm.proofs.Pending.{IsFromAs, counted_line, has_unheard, line_of}
use Rattle.proof_calm.proofs.Results.{Calls, IsResult, end_goes}
use Rattle.proof_calm.proofs.Following.{kept}
use Rattle.proof_calm.proofs.Requested.{Judges, moved_frames, taken_state}
use Rattle.proof_calm.proofs.Submitting.{written}
use Rattle.proof_calm.proofs.Tying.{acts_chip, hand_chip, moved_lines, part_served}
use Rattle.proof_answered.proofs.Walking.{none_given}

-- what is so of frames stays so with one more before or behind them, of which something is so
pub record IsPiled (Says : FrameParts → Type 0) (On : List FrameParts → Type 0) : Type 0 where
  pub first : (frame : FrameParts) (frames : List FrameParts) → Says frame → On frames → On (frame ∷ frames)
  pub last : (frames : List FrameParts) (frame : FrameParts) → On frames → Says frame → On (frames ++ frame ∷ [])

-- so with what is so of each
pub all_piled : (Says : FrameParts → Type 0) → IsPiled Says (AllByRecursion Says)
all_piled Says = record { first = λ frame frames is all. (is, all); last = λ frames frame all is. all-append Says frames (frame ∷ []) all (is, tt) }

pub all_behind : (Says : FrameParts → Type 0) (a b : List FrameParts) → AllByRecursion Says (a ++ b) → AllByRecursion Says b
all_behind Says [] b all = all
all_behind Says (frame ∷ a) b all = all_behind Says a b all.1

-- the host judges what is on its way to it
abbrev pub AreJudged : Event → Type 0
AreJudged (Host_takes count rest items events) = Unit {0}
AreJudged event = ⊥

pub chip_is : (m : Machine) (event : OuterEvent) → (happens m (Outside_does event)).outside.outer.chip.state ≡ (outcome m.outside event).outer.chip.state
unfolding happens
chip_is m event = entered_state (outcome m.outside event).outer (outcome m.outside event).entries

module _ (Says : FrameParts → Type 0) (On : List FrameParts → Type 0) (piled : IsPiled Says On) where
  abbrev pub AllSay : List FrameParts → Type 0
  AllSay frames = On frames

  abbrev PortSays : ChipState → Type 0
  PortSays s = AllSay (line_of s.port)

  queued_says : (t : Turn) (port : PortState) (frame : FrameParts) → port.side.turn ≡ t → AllSay (on_line t ++ port.waiting) → Says frame → AllSay (line_of (queued_at t port frame))
  queued_says Idle port frame same all is = piled.first frame port.waiting is all
  queued_says (Copied g copies ticks) port frame same all is = by (is_full port.waiting)
    where
      by : (b : Bool) → AllSay (line_of (if b then port else record { side = port.side; waiting = port.waiting ++ frame ∷ [] }))
      by true = subst (λ (u : Turn). AllSay (on_line u ++ port.waiting)) (sym same) all
      by false = subst (λ (u : Turn). AllSay (on_line u ++ (port.waiting ++ frame ∷ []))) (sym same) (piled.last ((g ∷ []) ++ port.waiting) frame all is)
  queued_says (Paused g copies ticks) port frame same all is = by (is_full port.waiting)
    where
      by : (b : Bool) → AllSay (line_of (if b then port else record { side = port.side; waiting = port.waiting ++ frame ∷ [] }))
      by true = subst (λ (u : Turn). AllSay (on_line u ++ port.waiting)) (sym same) all
      by false = subst (λ (u : Turn). AllSay (on_line u ++ (port.waiting ++ frame ∷ []))) (sym same) (piled.last ((g ∷ []) ++ port.waiting) frame all is)

  pub given_says : (s : ChipState) (frame : FrameParts) → PortSays s → Says frame → AllSay (line_of (queued s.port frame))
  given_says s frame all is = queued_says s.port.side.turn s.port frame refl all is

  -- ---- where no frame is given to the chip, nor judged by the host

  still_says : (o p : OuterState) → p.chip.state ≡ o.chip.state → p.to_host ≡ o.to_host → AllSay (unheard o) → AllSay (unheard p)
  still_says o p chip to_host all =
      subst (λ (s : ChipState). AllSay (unheard_by p.to_host.bytes s.port)) (sym chip) (subst (λ (w : WayState). AllSay (unheard_by w.bytes o.chip.state.port)) (sym to_host) all)

  entered_way : (o : OuterState) (told : List Entry) → (has_entered o told).to_host ≡ o.to_host
  entered_way o [] = refl
  entered_way o (one ∷ told) = refl

  outer_says : (m : Machine) (event : OuterEvent) → (outcome m.outside event).outer.chip.state ≡ m.outside.outer.chip.state → (outcome m.outside event).outer.to_host ≡ m.outside.outer.to_host → AllSay (unheard m.outside.outer)
      → AllSay (unheard (happens m (Outside_does event)).outside.outer)
  unfolding happens
  outer_says m event chip to_host all =
      let x : Outcome = outcome m.outside event in
      still_says m.outside.outer (has_entered x.outer x.entries) (entered_state x.outer x.entries ∙ chip) (entered_way x.outer x.entries ∙ to_host) all

  pub line_says : (m : Machine) → AllSay (unheard m.outside.outer) → AllSay (unheard (happens m (Outside_does Begins_line)).outside.outer)
  unfolding outcome
  line_says m all = outer_says m Begins_line refl refl all

  pub tick_says : (m : Machine) → AllSay (unheard m.outside.outer) → AllSay (unheard (happens m (Outside_does Begins_tick)).outside.outer)
  unfolding outcome
  tick_says m all = outer_says m Begins_tick refl refl all

  pub device_says : (m : Machine) (place : ℕ) (drawn : List ℕ) (route : Option Route) → AllSay (unheard m.outside.outer) → AllSay (unheard (happens m (Outside_does (Device_ticks place drawn route))).outside.outer)
  unfolding outcome
  device_says m place drawn route all =
      let still = acts_chip m.outside.outer (slice_get m.outside.devices place) (Ticks drawn) route in outer_says m (Device_ticks place drawn route) still.0 still.1 all

  pub decoder_says : (m : Machine) → AllSay (unheard m.outside.outer) → AllSay (unheard (happens m Decoder_ticks).outside.outer)
  unfolding happens
  decoder_says m all = all

  module _ (air : Airs) where
    pub does_says : (m : Machine) (event : HostEvent) → AllSay (unheard m.outside.outer) → AllSay (unheard (happens m (Host_does event)).outside.outer)
    does_says m event all = still_says m.outside.outer (happens m (Host_does event)).outside.outer (does_calm air m event).chip (written air m event).to_host all

    pub effect_says : (m : Machine) (event : Event) → IsEffect event → AllSay (unheard m.outside.outer) → AllSay (unheard (happens m event).outside.outer)
    unfolding outcome happens
    effect_says m (Outside_does (Wakes_device node route)) is all =
        let still = hand_chip m.outside.outer m.outside.devices (place_of node m.outside.devices) Wakes route in outer_says m (Wakes_device node route) still.0 still.1 all
    effect_says m (Outside_does (Shows node)) is all = outer_says m (Shows node) refl refl all
    effect_says m (Outside_does (Cuts size)) is all = outer_says m (Cuts size) refl refl all
    effect_says m (Host_does (Accepts order carriage)) is all = does_says m (Accepts order carriage) all
    effect_says m (Refuses line refusal) is all = all
    effect_says m (Shows_values node) is all = all
    effect_says m (Outside_does event) is all = absurd is
    effect_says m (Host_does event) is all = absurd is
    effect_says m event is all = absurd is

  -- ---- the chip is given something in a tick

  pub on_port : (ticks : ℕ) (o : OuterState) → HasFor ticks o → AllSay (unheard o) → PortSays o.chip.state
  on_port ticks o has all = subst AllSay (has_unheard ticks o has) all

  pub of_port : (ticks : ℕ) (o : OuterState) → HasFor ticks o → PortSays o.chip.state → AllSay (unheard o)
  of_port ticks o has all = subst AllSay (sym (has_unheard ticks o has)) all

  pub counts_says : (m : Machine) → IsGiven 0 m → IsGiven 1 (happens m (Outside_does Chip_ticks)) → AllSay (unheard m.outside.outer) → AllSay (unheard (happens m (Outside_does Chip_ticks)).outside.outer)
  unfolding outcome
  counts_says m given later all =
      of_port 1 (happens m (Outside_does Chip_ticks)).outside.outer later.has
      (subst PortSays (sym (chip_is m Chip_ticks ∙ does_chip at chip_ticked)) (subst AllSay (sym (counted_line m.outside.outer given.has)) (on_port 0 m.outside.outer given.has all)))
    where
      at : OuterState
      at = record m.outside.outer { chip = record { decoder = after_tick m.outside.outer.chip.decoder; state = m.outside.outer.chip.state } }

  -- ---- a frame arrives

  -- the chip is given updates, calls, and what the frame brings
  module _ (update : (told : Update) → Says (notice_frame (ApplicationUpdate told))) (call : (sent : Sending) (status : TransmitStatus) → Says (callback_frame sent status)) where
    ended_says : (s : ChipState) (sending : Option Sending) (status : TransmitStatus) → PortSays s → PortSays (ended sending s status)
    ended_says s None status all = all
    ended_says s (Some sent) status all = given_says s (callback_frame sent status) all (call sent status)

    result_says : (s : ChipState) (event : ChipEvent) → IsResult event → PortSays s → PortSays (after_chip_event s event)
    result_says s (Informed n profile) result all = given_says s _ all (update (update_of n profile))
    result_says s (Done status) result all = by (s.aborted == 0)
      where
        by : (b : Bool) → PortSays (if b then ended s.sending s status else record s { aborted = s.aborted - 1 })
        by true = ended_says s s.sending status all
        by false = all
    result_says s event result all = absurd result

    abbrev Leaves : OuterState → Outcome → Type 0
    Leaves o x = PortSays o.chip.state → PortSays x.outer.chip.state

    calls : Calls Leaves
    calls = record {
      still = λ o p is all. subst PortSays (sym is.chip) all;
      both = λ o first next one later all. later first.outer (one all);
      later = λ o p x is goes all. goes (subst PortSays (sym is.chip) all);
      result = λ o event is all. subst PortSays (sym (does_chip o event)) (result_says o.chip.state event is all);
    }

    ends_say : (o : OuterState) (status : ℕ) (dead : Option (ℕ × ℕ)) → Leaves o (frame_ends o status dead)
    ends_say = end_goes Leaves calls (λ o a b all. all)

    comes_say : (o : OuterState) (from : ℕ) (payload : List ℕ) → Says (notice_frame (ApplicationCommandHandler 0 from payload)) → Leaves o (to_chip o from payload)
    comes_say o from payload says all = by (nat_le 1 (length payload) && nat_le (length payload) 46)
      where
        by : (b : Bool) → PortSays (if b then chip_does o (chip_hears from payload) else silent o).outer.chip.state
        by true = subst PortSays (sym (does_chip o (chip_hears from payload))) (given_says o.chip.state (notice_frame (ApplicationCommandHandler 0 from payload)) all says)
        by false = all

    abbrev Brings : ℕ → List ℕ → Type 0
    Brings from payload = Says (notice_frame (ApplicationCommandHandler 0 from payload))

    deals_say : (devices : List State) (o : OuterState) (event : AirEvent) → IsFromAs Brings event → Leaves o (deals devices o event)
    deals_say devices o (air_event.ToChip frame from payload) says = comes_say o from payload says
    deals_say devices o (air_event.Done frame status dead) says = ends_say o status dead
    deals_say devices o (air_event.Heard frame) says = λ all. all
    deals_say devices o (air_event.Lost frame) says = λ all. all
    deals_say devices o (air_event.Unheard frame) says = λ all. all
    deals_say devices o (air_event.Sent frame from to route payload) says = λ all. all
    deals_say devices o (air_event.Changed node at) says = λ all. all

    all_say : (devices : List State) (o : OuterState) (events : List AirEvent) → AllByRecursion (IsFromAs Brings) events → PortSays o.chip.state → PortSays (each (deals devices) o events).outer.chip.state
    all_say devices o [] says all = all
    all_say devices o (event ∷ events) says all = all_say devices (deals devices o event).outer events says.1 (deals_say devices o event says.0 all)

    arrival_says : (w : Outside) (drawn : List ℕ) (route : Option Route) → AllByRecursion (IsFromAs Brings) (mesh_outs (mesh_of w) (mesh.Arrives drawn route)) → PortSays w.outer.chip.state → PortSays (outcome w (Arrives drawn route)).outer.chip.state
    unfolding outcome
    arrival_says w drawn route says all =
        all_say (mesh_after (mesh_of w) (mesh.Arrives drawn route)).devices (record w.outer { air = (mesh_after (mesh_of w) (mesh.Arrives drawn route)).air }) (mesh_outs (mesh_of w) (mesh.Arrives drawn route)) says all

    pub arrives_says : (m : Machine) (drawn : List ℕ) (route : Option Route) → IsGiven 0 m → IsGiven 0 (happens m (Outside_does (Arrives drawn route)))
        → ((frame : Flown) → next_of m.outside.outer.air.frames ≡ Some frame → frame.heading ≡ Homeward → Brings frame.node frame.payload) → AllSay (unheard m.outside.outer)
        → AllSay (unheard (happens m (Outside_does (Arrives drawn route))).outside.outer)
    arrives_says m drawn route given later brings all =
        of_port 0 (happens m (Outside_does (Arrives drawn route))).outside.outer later.has
        (subst PortSays (sym (chip_is m (Arrives drawn route))) (arrival_says m.outside drawn route (arrival_of Brings m.outside drawn route brings) (on_port 0 m.outside.outer given.has all)))

  -- ---- a pass

  -- the chip answers a payload that it takes, behind what it has for the host
  pub chip_part_says : (answer : Says answer_taken) (passes : ℕ) (m : Machine) (rest : Rest) (ways : List (Item × Option Route)) → ChipMayTake m rest ways → IsDone m ⊎ CanMove passes m → HasRoom m.outside.outer.chip.state
      → TieOf true m (on_line m.host.state.side.turn) → IsDone (chip_taken m rest ways) ⊎ HasMoved true passes (chip_taken m rest ways) → AllSay (unheard m.outside.outer) → AllSay (unheard (chip_taken m rest ways).outside.outer)
  chip_part_says answer passes m rest ways may at room tie later all =
      subst AllSay (sym (moved_lines true passes (chip_taken m rest ways) later ∙ ap (λ (s : ChipState). line_of s.port) (taken_state m rest ways may))) (by judges.line)
    where
      s : ChipState
      s = m.outside.outer.chip.state

      t : ChipState
      t = after_chip s (judged_all ways)

      judges : Judges (kept m.host.state) (unheard m.outside.outer) s t
      judges = (part_served passes m rest ways may at room tie).1

      by : (line_of t.port ≡ unheard m.outside.outer) ⊎ (line_of t.port ≡ unheard m.outside.outer ++ answer_taken ∷ []) → AllSay (line_of t.port)
      by (inl same) = subst AllSay (sym same) all
      by (inr more) = subst AllSay (sym more) (piled.last (unheard m.outside.outer) answer_taken all answer)

  -- the host judges what is on its way to it
  module _ (air : Airs) (m : Machine) (rest : Rest) (items : List Item) (events : List HostEvent) where
    abbrev then_judged : Machine
    then_judged = happens m (Host_takes (length m.outside.outer.to_host.bytes) rest items events)

    -- nothing was on its way
    pub unheard_idle : (host turn : Turn) (frames : List FrameParts) → OnLine [] [] host turn frames m → May m (Host_takes (length m.outside.outer.to_host.bytes) rest items events) → unheard then_judged.outside.outer ≡ unheard m.outside.outer
    unheard_idle host turn frames line may =
        let idle = host_idles m host turn frames rest items events line may in
        ap (λ (bs : List ℕ). unheard_by bs then_judged.outside.outer.chip.state.port) (idle.0.at_chip.down_bytes ∙ sym line.at_chip.down_bytes)
        ∙ ap (λ (c : ChipParts). unheard_by m.outside.outer.to_host.bytes c.state.port) idle.1

    -- these units were, and those that wait are left
    pub unheard_judged : (unit : LineUnit) (units : List LineUnit) (host turn : Turn) (frames : List FrameParts) → OnLine [] (unit ∷ units) host turn frames m → AllByRecursion IsPlain (unit ∷ units) → length (unit ∷ units) ≤ 99
        → May m (Host_takes (length m.outside.outer.to_host.bytes) rest items events) → unheard then_judged.outside.outer ≡ m.outside.outer.chip.state.port.waiting
    unheard_judged unit units host turn frames line plain few may =
        let turned = host_turns air m unit units host turn frames rest items events plain (omega (arith, few)) line may in
        let chip = (takes_calm air m (length m.outside.outer.to_host.bytes) rest items events).chip in
        ap (λ (bs : List ℕ). unheard_by bs then_judged.outside.outer.chip.state.port) turned.0.at_chip.down_bytes ∙ ap (λ (s : ChipState). s.port.waiting) chip

    host_part_says : (behind : (a b : List FrameParts) → On (a ++ b) → On b) (b : Bool) (passes : ℕ) → May m (Host_takes (length m.outside.outer.to_host.bytes) rest items events) → IsDone m ⊎ HasMoved b passes m → AllSay (unheard m.outside.outer)
        → AllSay (unheard then_judged.outside.outer)
    host_part_says behind b passes may (inl done) all = subst AllSay (sym (unheard_idle Idle Idle [] done.line may)) all
    host_part_says behind b passes may (inr has) all = by has.down has.line has.plain has.few (moved_frames b passes m has)
      where
        waiting : List FrameParts
        waiting = m.outside.outer.chip.state.port.waiting

        by : (down : List LineUnit) → OnLine [] down has.host has.turn has.frames m → AllByRecursion IsPlain down → length down ≤ 99 → unheard m.outside.outer ≡ frames_in down ++ waiting → AllSay (unheard then_judged.outside.outer)
        by [] line plain few frames_are = subst AllSay (sym (unheard_idle has.host has.turn has.frames line may)) all
        by (unit ∷ units) line plain few frames_are =
            subst AllSay (sym (unheard_judged unit units has.host has.turn has.frames line plain few may)) (behind (frames_in (unit ∷ units)) waiting (subst AllSay frames_are all))

  -- ---- from phase to phase

  abbrev At : Phase → Machine → Type 0
  At here m = LineAt here m × RoomAt here m × IsRouted m.outside.outer × TieAt here m

  module _ (air : Airs) where
    abbrev Leads : Phase → Machine → Event → Type 0
    Leads next m event = LineAt next (happens m event) → AllSay (unheard (happens m event).outside.outer)

    as_is : (next to : Phase) (m : Machine) (event is : Event) → event ≡ is → next ≡ to → Leads to m is → Leads next m event
    as_is next to m event is event_is next_is leads = subst (λ (e : Event). Leads next m e) (sym event_is) (subst (λ (q : Phase). Leads q m is) (sym next_is) leads)

    pub event_says : (answer : Says answer_taken) (here next : Phase) (m : Machine) (event : Event) → (AreJudged event → (a b : List FrameParts) → On (a ++ b) → On b) → Goes here m event next → May m event → At here m
        → ((drawn : List ℕ) (route : Option Route) → event ≡ Outside_does (Arrives drawn route) → IsGiven 0 m → IsGiven 0 (happens m (Outside_does (Arrives drawn route)))
        → AllSay (unheard (happens m (Outside_does (Arrives drawn route))).outside.outer)) → AwaitsAt here m → AllSay (unheard m.outside.outer) → Leads next m event
    event_says answer (Said_line line) next m event behind (is, to) may at arrives awaits all = as_is next (Begun line) m event (Outside_does Begins_line) is to (λ later. line_says m all)
    event_says answer (Doing line (first ∷ left)) next m event behind (is, to) may at arrives awaits all = as_is next (Doing line left) m event first is to (λ later. effect_says air m first at.0.0.0 all)
    event_says answer (To_tick (suc ticks)) next m event behind (is, to) may at arrives awaits all = as_is next (Ticked ticks) m event (Outside_does Begins_tick) is to (λ later. tick_says m all)
    event_says answer (Arriving (suc frames) ticks) next m event behind (drawn, route, is, to) may at arrives awaits all =
        as_is next (Arriving frames ticks) m event (Outside_does (Arrives drawn route)) is to
        (λ later. arrives drawn route is at.0 later)
    event_says answer (Giving (suc results) ticks) next m event behind (route, is, to) may at arrives awaits all = absurd (none_given m results at.2 awaits.many)
    event_says answer (Ticking_devices place (suc count) ticks) next m event behind (drawn, route, is, to) may at arrives awaits all =
        as_is next (Ticking_devices (place + 1) count ticks) m event (Outside_does (Device_ticks place drawn route)) is to (λ later. device_says m place drawn route all)
    event_says answer (Ticking_chip ticks) next m event behind (is, to) may at arrives awaits all = as_is next (Ticking_decoder ticks) m event (Outside_does Chip_ticks) is to (λ later. counts_says m at.0 later all)
    event_says answer (Ticking_decoder ticks) next m event behind (is, to) may at arrives awaits all =
        as_is next (Ticking_host (tick_events m.host.state) ticks) m event Decoder_ticks is to (λ later. decoder_says m all)
    event_says answer (Ticking_host (first ∷ events) ticks) next m event behind (is, to) may at arrives awaits all = as_is next (Ticking_host events ticks) m event (Host_does first) is to (λ later. does_says air m first all)
    event_says answer (Sleeping passes ticks) next m event behind (node, wants, is, to) may at arrives awaits all =
        as_is next (Sleeping passes ticks) m event (Host_does (no_more_event m.host.state node)) is to (λ later. does_says air m (no_more_event m.host.state node) all)
    event_says answer (Submitting passes ticks) next m event behind (asked, next_is, is, to) may at arrives awaits all = as_is next (Submitting passes ticks) m event (Host_does asked) is to (λ later. does_says air m asked all)
    event_says answer (Moving passes ticks) next m event behind (rest, ways, is, to) may at arrives awaits all =
        as_is next (Moved true passes ticks) m event (Outside_does (Chip_takes (length m.outside.outer.to_chip.bytes) rest ways)) is to
        (λ later. chip_part_says answer passes m rest ways (subst (May m) is may) at.0 at.1 at.3 later all)
    event_says answer (Moved b passes ticks) next m event behind (rest, items, done, is, to) may at arrives awaits all =
        as_is next (Sleeping passes ticks) m event (Host_takes (length m.outside.outer.to_host.bytes) rest items done) is to
        (λ later. host_part_says air m rest items done (behind (subst AreJudged (sym is) tt)) b passes (subst (May m) is may) at.0 all)
    event_says answer here next m event behind goes may at arrives awaits all = absurd goes
