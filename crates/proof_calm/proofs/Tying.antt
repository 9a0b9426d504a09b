-- Where the request of the host is goes on from phase to phase, beside the line and the calls that the chip awaits.
use Rattle.std.proofs.Common.{◌≡◌, ◌≤◌, ℕ, zero, suc, ◌+◌, ◌-◌, Bool, true, false, if◌then◌else◌, nat_lt, inl, inr, List, [], ◌∷◌, ◌++◌, map, length, refl, sym, ap, ◌∙◌, subst, arith}
use Rattle.std.specs.Prelude.{◌⊎◌, Option, Some, None, slice_get}
use Rattle.std.specs.Option.{is_some}
use Rattle.std.specs.List.{AllByRecursion}
use Rattle.zw_text.specs.declared.entry.Entry.{Entry}
use Rattle.zw_text.specs.declared.entry.Entry.TheVariants as entry
use Rattle.serial_frame.specs.Frame.{FrameParts}
use Rattle.serial_frame.specs.Stream.{Rest, after_tick}
use Rattle.serial_frame.specs.declared.item.Item.{Item}
use Rattle.serial_frame.specs.declared.unit.Unit.{Unit as LineUnit}
use Rattle.serial_frame.specs.declared.unit.Unit.TheVariants.{Ack, Framed}
use Rattle.serial_link.specs.State.{turn_ticked}
use Rattle.serial_link.specs.declared.turn.Turn.{Turn}
use Rattle.serial_link.specs.declared.turn.Turn.TheVariants.{Idle}
use Rattle.serial_pipes.specs.State.{WayState}
use Rattle.route_table.specs.declared.route.Route.{Route}
use Rattle.chip_functions.specs.declared.notice.Notice.TheVariants.{SendData}
use Rattle.chip_sim.specs.Answers.{notice_frame}
use Rattle.chip_sim.specs.Did.{after_all as after_chip, judged_all}
use Rattle.chip_sim.specs.Events.{Ticked as chip_ticked, after as after_chip_event}
use Rattle.chip_sim.specs.State.{ChipState, ChipParts}
use Rattle.chip_sim.specs.Waiting.{served}
use Rattle.chip_sim.specs.declared.out.Sending.{Sending}
use Rattle.device_sim.specs.State.{State}
use Rattle.device_sim.specs.Event.{DeviceEvent, Ticks, Wakes}
use Rattle.mesh_sim.specs.Fates.{place_of}
use Rattle.mesh_sim.specs.Steps as mesh
use Rattle.host_requests.specs.Events.{end_at, after as after_request}
use Rattle.host_requests.specs.Events.RequestsEvent.{Ticks as request_ticks}
use Rattle.host_requests.specs.Next.{at_tick, counted_down, next_from, on_with}
use Rattle.host_requests.specs.State.{RequestsState}
use Rattle.host_requests.specs.declared.next.Next.TheVariants as next
use Rattle.host_requests.specs.declared.under_way.Progress.{Progress}
use Rattle.host_requests.specs.declared.under_way.Progress.TheVariants.{Submitted, Sent as sent_for, Answered}
use Rattle.host_requests.specs.declared.under_way.UnderWay.{UnderWay}
use Rattle.host_node.specs.declared.attempt.Moment.TheVariants.{BeforeItsTick}
use Rattle.host_model.specs.After.{after as after_host, failing_if, gives_up, line_ticked, requests_do}
use Rattle.host_model.specs.Did.{after_all as after_all_host}
use Rattle.host_model.specs.Events.{HostEvent, Accepts, Line_ticks, Requests_do, Node_ticks, Queues_no_more, Drops_no_more}
use Rattle.host_model.specs.Pumping.{IsNext, no_more_event}
use Rattle.host_model.specs.State.{HostState}
use Rattle.host_model.specs.Taking.{AreJudged}
use Rattle.host_model.specs.Ticking.{first_ticks, tick_events, ticking_nodes}
use Rattle.host_model.proofs.Submitted.{no_more_is}
use Rattle.outside_model.specs.State.{OuterState, is_stalled}
use Rattle.outside_model.specs.Devices.{acts_at, acts_by_hand}
use Rattle.outside_model.specs.Events.{OuterEvent, Begins_line, Begins_tick, Arrives, Gives, Device_ticks, Chip_ticks, Chip_takes, Wakes_device, Shows, Cuts, outcome, has_entered, May as MayOutside}
use Rattle.world_model.specs.State.{Machine}
use Rattle.world_model.specs.Events.{Event, Outside_does, Host_does, Host_takes, Decoder_ticks, Refuses, Shows_values, happens, entries, May}
use Rattle.proof_work.specs.Phases.{AsksNothing}
use Rattle.proof_work.specs.proof_walk.Phases.{Phase, Between, Said_line, Begun, Doing, To_tick, Ticked, Arriving, Giving, Ticking_devices, Ticking_chip, Ticking_decoder, Ticking_host, Sleeping, Submitting, Moving, Moved, Turns, Goes, IsStill, after_pump, passes_after}
use Rattle.proof_work.specs.proof_walk.Walk.{WalkWhere}
use Rattle.proof_work.proofs.Times.{does_chip}
use Rattle.proof_waking.proofs.Calm.{does_calm, takes_calm}
use Rattle.proof_waking.proofs.proof_traffic_Parts.{Airs}
use Rattle.proof_calm.specs.Awaited.{AwaitsAt, AwaitsNone}
use Rattle.proof_calm.specs.Passes.{OnLine, TakesEach, chip_taken, frames_in, IsPlain}
use Rattle.proof_calm.specs.Resting.{CanMove, HasFor, IsEffect, IsGiven, KnowLine, LineAt, LineRests, Stands}
use Rattle.proof_calm.specs.Settling.{Line as TheLine, Free, Asks, Heard, Heard_asks, Sent, Sent_asks, HasMoved, IsDone, IsServed}
use Rattle.proof_calm.specs.Tied.{RequestRests, IsTied, RoomAt, ends_of, on_line, unheard, unheard_by, IsFresh, Ends, Tied, Nowhere, On_way, At_chip, Called, TieOf, IsNodeTick, TickLeft, All, Request, Nodes, TiedInTick, TieAt, KnowTied, IsOrderly, IsOrderlyFor}
use Rattle.proof_calm.proofs.Awaiting.{Outsides, event_awaits, turn_awaits, sends_nothing}
use Rattle.proof_calm.proofs.Begun.{Ids, next_tied}
use Rattle.proof_calm.proofs.ChipPart.{entered_state}
use Rattle.proof_calm.proofs.Counting.{machine_arrives, machine_gives, machine_ticks}
use Rattle.proof_calm.proofs.Ending.{OfHost, goes_on, kept_with}
use Rattle.proof_calm.proofs.Following.{apart_kept, end_if_kept, kept}
use Rattle.proof_calm.proofs.HostTurns.{host_turns}
use Rattle.proof_calm.proofs.Idle.{fed_none, host_idles}
use Rattle.proof_calm.proofs.Judging.{TieBy, ends_by, tie_kept, units_tied}
use Rattle.proof_calm.proofs.Parts.{none_up}
use Rattle.proof_calm.proofs.Pending.{ChipTied, counted_line, gives_step, has_kept, has_served, has_unheard, line_of, steps_step}
use Rattle.proof_calm.proofs.Quiet.{quiet_both, said_quiet}
use Rattle.proof_calm.proofs.Requested.{moved_frames, moved_line, none_tied, part_tied, taken_state}
use Rattle.proof_calm.specs.Sending.{SendsFew}
use Rattle.proof_calm.specs.Undisturbed.{HasNone, IsTaken}
use Rattle.proof_calm.proofs.Sending.{awaits_few}
use Rattle.proof_calm.proofs.Submitting.{written}
use Rattle.proof_calm.proofs.Unmarked.{nothing_asked}
use Rattle.proof_calm.proofs.Walking.{Pumped, line_walk}
use Rattle.host_requests.specs.Next.{is_answered, is_sent, notice_ticks}
use Rattle.host_node.specs.State.{is_false}
use Rattle.host_model.specs.After.{is_busy}
use Rattle.host_model.specs.May.{May as MayHost}
use Rattle.host_model.proofs.Submitted.{next_is as next_is_so}
use Rattle.outside_model.specs.declared.waits.Call.{Call}
use Rattle.outside_model.specs.declared.waits.Due.{Due}
use Rattle.outside_model.specs.declared.waits.Call.TheVariants.{OfFrame, NoRoute as no_route_call}
use Rattle.proof_waking.specs.proof_traffic.Facts.{one_if}
use Rattle.proof_waking.specs.proof_traffic.OutsideTraffic.{of_frame}
use Rattle.proof_work.specs.Doing.{IsDone as IsDoneBy}
use Rattle.proof_work.specs.Line.{HasOnLine, IsNoItem, IsOnLine}
use Rattle.proof_waking.proofs.Calm.{enters_calm}
use Rattle.proof_calm.specs.Marks.{IsUnmarked}
use Rattle.proof_calm.specs.Routed.{IsOfFrame, IsRouted, Reaches}
use Rattle.proof_calm.specs.Tied.{HasAnswer, HasRoom}
use Rattle.proof_calm.proofs.Pending.{counted_few}
use Rattle.proof_calm.proofs.Requested.{Judges}
use Rattle.proof_calm.proofs.Routed.{arrives_routed, calm_routed, counts_routed, cut_routed, device_routed, gives_routed, line_routed, show_routed, takes_routed, tick_routed, wake_routed}
use Rattle.host_model.specs.Pumping.{HasNothing, IsPumped}
use Rattle.proof_serial.proofs.HostRuns.{FactsKept, OpenedFacts}
use Rattle.proof_calm.specs.Tied.{AsksAt, IsPeopled, PumpedAt}
use Rattle.proof_calm.specs.Live.{HasLive, IsAskedAt}
use Rattle.proof_calm.proofs.Homing.{arrival_from}
use Rattle.proof_calm.proofs.Peopled.{judged_are, next_asked, peopled_on}
use Rattle.proof_calm.proofs.Serving.{Payloads}
use Rattle.proof_calm.proofs.Ticking.{no_more_mute, tick_mute}
use Rattle.proof_calm.proofs.Written.{mute_well, next_well, takes_well}

-- ---- as it is counted

tied_later : (e : Ends) (pending asking : List FrameParts) → Tied false e pending asking → Tied true e pending asking
tied_later e pending asking (Nowhere is) = Nowhere is
tied_later e pending asking (On_way u of fresh is) = On_way u of fresh is
tied_later e pending asking (At_chip u of fresh is) = At_chip u of fresh is
tied_later e pending asking (Called u of fresh is) = Called u of tt is

tie_later : (m : Machine) (asking : List FrameParts) → TieOf false m asking → TieOf true m asking
tie_later m asking tie = record { paid = tie.paid; tied = tied_later _ _ asking tie.tied }

counted_later : (counted : Bool) (m : Machine) (asking : List FrameParts) → TieOf counted m asking → TieOf true m asking
counted_later true m asking tie = tie
counted_later false m asking tie = tie_later m asking tie

not_empty : (before : List FrameParts) (call : FrameParts) (behind : List FrameParts) → before ++ call ∷ behind ≡ [] → ⊥
not_empty [] call behind is_none = cc
not_empty (one ∷ before) call behind is_none = cc

-- where the host has judged all, no call is on its way to it
tied_rests : (e : Ends) (pending asking : List FrameParts) → pending ≡ [] → Tied true e pending asking → Tied false e pending asking
tied_rests e pending asking none (Nowhere is) = Nowhere is
tied_rests e pending asking none (On_way u of fresh is) = On_way u of fresh is
tied_rests e pending asking none (At_chip u of fresh is) = At_chip u of fresh is
tied_rests e pending asking none (Called u of fresh is) = absurd (not_empty is.before _ is.behind (sym is.are ∙ none))

-- ---- where both ends stay

module _ (counted : Bool) (asking : List FrameParts) where
  -- the host becomes this, the chip is so, and has these frames for it
  tie_as : (n : Machine) (k : OfHost) (s : ChipState) (pending : List FrameParts) → kept n.host.state ≡ k → n.outside.outer.chip.state ≡ s → unheard n.outside.outer ≡ pending → TieBy counted k s pending asking → TieOf counted n asking
  tie_as n k s pending host chip frames tie =
      subst (λ (j : OfHost). TieBy counted j n.outside.outer.chip.state (unheard n.outside.outer) asking) (sym host)
      (subst (λ (t : ChipState). TieBy counted k t (unheard n.outside.outer) asking) (sym chip) (subst (λ (fs : List FrameParts). TieBy counted k s fs asking) (sym frames) tie))

  same_unheard : (o p : OuterState) → p.chip.state ≡ o.chip.state → p.to_host ≡ o.to_host → unheard p ≡ unheard o
  same_unheard o p chip to_host = ap (λ (w : WayState). unheard_by w.bytes p.chip.state.port) to_host ∙ ap (λ (s : ChipState). unheard_by o.to_host.bytes s.port) chip

  -- an event of the host beside the line
  does_tied : (air : Airs) (m : Machine) (event : HostEvent) → TieBy counted (kept (after_host m.host.state event)) m.outside.outer.chip.state (unheard m.outside.outer) asking → TieOf counted (happens m (Host_does event)) asking
  unfolding happens
  does_tied air m event tie =
      let n : Machine = happens m (Host_does event) in
      let chip : n.outside.outer.chip.state ≡ m.outside.outer.chip.state = (does_calm air m event).chip in
      tie_as n (kept (after_host m.host.state event)) m.outside.outer.chip.state (unheard m.outside.outer) refl chip (same_unheard m.outside.outer n.outside.outer chip (written air m event).to_host) tie

  kept_tied : (air : Airs) (m : Machine) (event : HostEvent) → kept (after_host m.host.state event) ≡ kept m.host.state → TieOf counted m asking → TieOf counted (happens m (Host_does event)) asking
  kept_tied air m event same tie = does_tied air m event (tie_kept counted (kept m.host.state) (kept (after_host m.host.state event)) m.outside.outer.chip.state (unheard m.outside.outer) asking same tie)

  -- an event outside at which the chip says nothing
  still_tied : (m : Machine) (event : OuterEvent) → (outcome m.outside event).outer.chip.state ≡ m.outside.outer.chip.state → (outcome m.outside event).outer.to_host ≡ m.outside.outer.to_host → TieOf counted m asking
      → TieOf counted (happens m (Outside_does event)) asking
  unfolding happens
  still_tied m event chip to_host tie =
      let n : Machine = happens m (Outside_does event) in
      let x = outcome m.outside event in
      let there : n.outside.outer.chip.state ≡ m.outside.outer.chip.state = entered_state x.outer x.entries ∙ chip in
      tie_as n (kept m.host.state) m.outside.outer.chip.state (unheard m.outside.outer) refl there (same_unheard m.outside.outer n.outside.outer there (entered_way x.outer x.entries ∙ to_host)) tie
    where
      entered_way : (o : OuterState) (told : List Entry) → (has_entered o told).to_host ≡ o.to_host
      entered_way o [] = refl
      entered_way o (one ∷ told) = refl

-- ---- events outside at which the chip says nothing

pub acts_chip : (o : OuterState) (device : Option State) (event : DeviceEvent) (route : Option Route) → ((acts_at o device event route).outer.chip.state ≡ o.chip.state) × ((acts_at o device event route).outer.to_host ≡ o.to_host)
acts_chip o None event route = (refl, refl)
acts_chip o (Some device) event route = (refl, refl)

pub hand_chip : (o : OuterState) (devices : List State) (place : Option ℕ) (event : DeviceEvent) (route : Option Route)
    → ((acts_by_hand o devices place event route).outer.chip.state ≡ o.chip.state) × ((acts_by_hand o devices place event route).outer.to_host ≡ o.to_host)
hand_chip o devices None event route = (refl, refl)
hand_chip o devices (Some place) event route = acts_chip o (slice_get devices place) event route

line_tied : (m : Machine) → TieOf false m [] → TieOf false (happens m (Outside_does Begins_line)) []
unfolding outcome
line_tied m tie = still_tied false [] m Begins_line refl refl tie

tick_tied : (m : Machine) → TieOf false m [] → TieOf false (happens m (Outside_does Begins_tick)) []
unfolding outcome
tick_tied m tie = still_tied false [] m Begins_tick refl refl tie

device_tied : (m : Machine) (place : ℕ) (drawn : List ℕ) (route : Option Route) → TieOf false m [] → TieOf false (happens m (Outside_does (Device_ticks place drawn route))) []
unfolding outcome
device_tied m place drawn route tie =
    let acts = acts_chip m.outside.outer (slice_get m.outside.devices place) (Ticks drawn) route in
    still_tied false [] m (Device_ticks place drawn route) acts.0 acts.1 tie

module _ (air : Airs) where
  effect_tied : (m : Machine) (event : Event) → IsEffect event → TieOf false m [] → TieOf false (happens m event) []
  unfolding outcome happens
  effect_tied m (Outside_does (Wakes_device node route)) is tie =
      let acts = hand_chip m.outside.outer m.outside.devices (place_of node m.outside.devices) Wakes route in
      still_tied false [] m (Wakes_device node route) acts.0 acts.1 tie
  effect_tied m (Outside_does (Shows node)) is tie = still_tied false [] m (Shows node) refl refl tie
  effect_tied m (Outside_does (Cuts size)) is tie = still_tied false [] m (Cuts size) refl refl tie
  effect_tied m (Host_does (Accepts order carriage)) is tie = kept_tied false [] air m (Accepts order carriage) (apart_kept m.host.state (Accepts order carriage) tt) tie
  effect_tied m (Refuses line refusal) is tie = tie_as false [] (happens m (Refuses line refusal)) (kept m.host.state) m.outside.outer.chip.state (unheard m.outside.outer) refl refl refl tie
  effect_tied m (Shows_values node) is tie = tie_as false [] (happens m (Shows_values node)) (kept m.host.state) m.outside.outer.chip.state (unheard m.outside.outer) refl refl refl tie
  effect_tied m (Outside_does event) is tie = absurd is
  effect_tied m (Host_does event) is tie = absurd is
  effect_tied m event is tie = absurd is

-- ---- the chip is given something, or counts

chip_tied : (ticks : ℕ) (m : Machine) → HasFor ticks m.outside.outer → TieOf false m [] → ChipTied (kept m.host.state) m.outside.outer.chip.state
chip_tied ticks m has tie = record {
  kept_all = has_kept ticks m.outside.outer has;
  is_served = has_served ticks m.outside.outer has;
  tie = subst (λ (fs : List FrameParts). TieBy false (kept m.host.state) m.outside.outer.chip.state fs []) (has_unheard ticks m.outside.outer has) tie;
}

given_tied : (ticks : ℕ) (m : Machine) (event : OuterEvent) → HasFor ticks (happens m (Outside_does event)).outside.outer
    → TieBy false (kept m.host.state) (outcome m.outside event).outer.chip.state (line_of (outcome m.outside event).outer.chip.state.port) [] → TieOf false (happens m (Outside_does event)) []
unfolding happens
given_tied ticks m event has tie =
    let n : Machine = happens m (Outside_does event) in
    let x = outcome m.outside event in
    let chip : n.outside.outer.chip.state ≡ x.outer.chip.state = entered_state x.outer x.entries in
    tie_as false [] n (kept m.host.state) x.outer.chip.state (line_of x.outer.chip.state.port) refl chip (has_unheard ticks n.outside.outer has ∙ ap (λ (s : ChipState). line_of s.port) chip) tie

few_in : (m : Machine) (event : OuterEvent) → length (happens m (Outside_does event)).outside.outer.chip.state.port.waiting ≤ 31 → length (outcome m.outside event).outer.chip.state.port.waiting ≤ 31
unfolding happens
few_in m event few = subst (λ (s : ChipState). length s.port.waiting ≤ 31) (entered_state (outcome m.outside event).outer (outcome m.outside event).entries) few

arrives_tied : {these : List Bool} (m : Machine) (drawn : List ℕ) (route : Option Route) → length (happens m (Outside_does (Arrives drawn route))).outside.outer.chip.state.port.waiting ≤ 31 → IsGiven 0 m → IsGiven 0 (happens m (Outside_does (Arrives drawn route))) → IsPeopled these m → TieOf false m []
    → TieOf false (happens m (Outside_does (Arrives drawn route))) []
unfolding outcome
arrives_tied m drawn route few given later peopled tie =
    given_tied 0 m (Arrives drawn route) later.has
    (steps_step (kept m.host.state) m.outside (mesh.Arrives drawn route) (arrival_from m.outside.outer.chip.state.joined m.outside drawn route peopled.live.sized peopled.speaks) (few_in m (Arrives drawn route) few) (chip_tied 0 m given.has tie)).tie

gives_tied : (m : Machine) (route : Option Route) → length (happens m (Outside_does (Gives route))).outside.outer.chip.state.port.waiting ≤ 31 → IsGiven 0 m → IsGiven 0 (happens m (Outside_does (Gives route))) → TieOf false m [] → TieOf false (happens m (Outside_does (Gives route))) []
unfolding outcome
gives_tied m route few given later tie =
    given_tied 0 m (Gives route) later.has
    (gives_step (kept m.host.state) m.outside.outer m.outside.devices m.outside.outer.due route (few_in m (Gives route) few) (chip_tied 0 m given.has tie)).tie

counts_tied : (m : Machine) → IsGiven 0 m → IsGiven 1 (happens m (Outside_does Chip_ticks)) → TieOf false m [] → TieOf false (happens m (Outside_does Chip_ticks)) []
unfolding outcome
counts_tied m given later tie =
    given_tied 1 m Chip_ticks later.has
    (subst (λ (s : ChipState). TieBy false k s (line_of s.port) []) (sym (does_chip at chip_ticked))
    (subst (λ (fs : List FrameParts). TieBy false k (after_chip_event m.outside.outer.chip.state chip_ticked) fs []) (sym (counted_line m.outside.outer given.has)) (chip_tied 0 m given.has tie).tie))
  where
    k : OfHost
    k = kept m.host.state

    at : OuterState
    at = record m.outside.outer { chip = record { decoder = after_tick m.outside.outer.chip.decoder; state = m.outside.outer.chip.state } }

-- ---- the host counts

counts_on : (progress : Progress) → IsFresh progress → (later : Progress) × (on_with (counted_down progress) ≡ next.GoesOn later)
counts_on Submitted fresh = (Submitted, refl)
counts_on (sent_for left) fresh = (sent_for (left - 1), ap (λ (n : ℕ). on_with (if nat_lt 1 n then Some (sent_for (left - 1)) else None)) fresh)
counts_on (Answered sent left) fresh = (Answered sent (left - 1), ap (λ (n : ℕ). on_with (if nat_lt 1 n then Some (Answered sent (left - 1)) else None)) fresh)

request_counts : (h : HostState) (s : ChipState) (pending : List FrameParts) → s.sending ≡ None → TieBy false (kept h) s pending [] → TieBy true (kept (after_host h (Requests_do request_ticks BeforeItsTick))) s pending []
request_counts h s pending idle tie = tie_kept true (kept_with h r) (kept (after_host h (Requests_do request_ticks BeforeItsTick))) s pending [] (end_if_kept (requests_do h request_ticks) (end_at h.requests request_ticks) BeforeItsTick) (by tie.tied)
  where
    r : RequestsState
    r = after_request h.requests request_ticks

    by : Tied false (ends_by (kept h) s) pending [] → TieBy true (kept_with h r) s pending []
    by (On_way u of fresh is) = absurd (let no = is.asked in cc)
    by (At_chip u of fresh is) = absurd (let no : Some (record { node = is.asks.node; callback_id = h.requests.last_id }) ≡ None = sym is.is_sending ∙ idle in cc)
    by (Nowhere is) =
        tie_kept true (kept h) (kept_with h r) s pending [] (ap (λ (o : Option UnderWay). kept_with h (next_from h.requests at_tick o)) is.none)
        (record { paid = tie.paid; tied = Nowhere (record { none = is.none; idle = is.idle; leave = is.leave; nothing = is.nothing }) })
    by (Called u of fresh is) =
        let on = counts_on u.progress fresh in
        tie_kept true (h.side, Some (record { purpose = u.purpose; progress = on.0 }), h.requests.owes, h.requests.last_id) (kept_with h r) s pending []
        (ap (kept_with h) (goes_on h.requests at_tick u on.0 of.under_way on.1))
        (record {
          paid = tie.paid;
          tied = Called (record { purpose = u.purpose; progress = on.0 }) (record { under_way = refl; sends = of.sends }) tt
              (record { idle = is.idle; before = is.before; status = is.status; behind = is.behind; are = is.are; before_leave = is.before_leave; behind_leave = is.behind_leave; nothing = is.nothing });
        })

line_counts : (h : HostState) → h.side.turn ≡ Idle → (after_host h Line_ticks).requests ≡ h.requests
line_counts h idle = subst (λ (t : Turn). (failing_if (gives_up t (turn_ticked t)) (line_ticked h)).requests ≡ h.requests) (sym idle) refl

node_kept : (h : HostState) (event : HostEvent) → IsNodeTick event → kept (after_host h event) ≡ kept h
node_kept h (Node_ticks n) is = apart_kept h (Node_ticks n) tt
node_kept h event is = absurd is

idle_of : (sending : Option Sending) → is_some sending ≡ false → sending ≡ None
idle_of None none = refl
idle_of (Some sending) none = absurd cc

node_ticks : (nodes : List ℕ) → AllByRecursion IsNodeTick (map (λ n. Node_ticks n) nodes)
node_ticks [] = tt
node_ticks (n ∷ nodes) = (tt, node_ticks nodes)

decoder_tied : (m : Machine) → TieOf false m [] → TiedInTick (tick_events m.host.state) (happens m Decoder_ticks)
unfolding happens
decoder_tied m tie = record {
  counted = false;
  left = All (map (λ n. Node_ticks n) (ticking_nodes (after_all_host m.host.state first_ticks))) (node_ticks (ticking_nodes (after_all_host m.host.state first_ticks))) refl refl;
  tie = tie_as false [] (happens m Decoder_ticks) (kept m.host.state) m.outside.outer.chip.state (unheard m.outside.outer) refl refl refl tie;
}

module _ (air : Airs) where
  request_tied : (m : Machine) → m.outside.outer.chip.state.sending ≡ None → TieOf false m [] → TieOf true (happens m (Host_does (Requests_do request_ticks BeforeItsTick))) []
  request_tied m idle tie =
      does_tied true [] air m (Requests_do request_ticks BeforeItsTick) (request_counts m.host.state m.outside.outer.chip.state (unheard m.outside.outer) idle tie)

  link_tied : (counted : Bool) (m : Machine) → m.host.state.side.turn ≡ Idle → TieOf counted m [] → TieOf counted (happens m (Host_does Line_ticks)) []
  link_tied counted m idle tie =
      does_tied counted [] air m Line_ticks
      (subst (λ (r : RequestsState). TieBy counted (kept_with m.host.state r) m.outside.outer.chip.state (unheard m.outside.outer) []) (sym (line_counts m.host.state idle)) tie)

  host_tied : (m : Machine) (first : HostEvent) (events : List HostEvent) → IsGiven 1 m → AwaitsNone m → TiedInTick (first ∷ events) m → TiedInTick events (happens m (Host_does first))
  host_tied m first events given awaits at = by at.counted at.left at.tie
    where
      as_first : (counted : Bool) (is : HostEvent) → first ≡ is → TieOf counted (happens m (Host_does is)) [] → TieOf counted (happens m (Host_does first)) []
      as_first counted is same tie = subst (λ (e : HostEvent). TieOf counted (happens m (Host_does e)) []) (sym same) tie

      by : (counted : Bool) → TickLeft counted (first ∷ events) → TieOf counted m [] → TiedInTick events (happens m (Host_does first))
      by counted (All nodes are is none) tie =
          let one : first ≡ Line_ticks = cc in
          let more : events ≡ Requests_do request_ticks BeforeItsTick ∷ nodes = cc in
          record { counted = counted; left = Request nodes are more none; tie = as_first counted Line_ticks one (link_tied counted m given.at_host.turn_is tie) }
      by counted (Request nodes are is none) tie =
          let one : first ≡ Requests_do request_ticks BeforeItsTick = cc in
          let more : events ≡ nodes = cc in
          record {
            counted = true;
            left = Nodes (subst (AllByRecursion IsNodeTick) (sym more) are) refl;
            tie = as_first true (Requests_do request_ticks BeforeItsTick) one
                (request_tied m (idle_of m.outside.outer.chip.state.sending (sends_nothing m awaits)) (subst (λ (b : Bool). TieOf b m []) none tie));
          }
      by counted (Nodes are done) tie = record { counted = counted; left = Nodes are.1 done; tie = kept_tied counted [] air m first (node_kept m.host.state first are.0) tie }

  -- ---- the host pumps

  no_more_tied : (m : Machine) (node : ℕ) → TieOf true m [] → TieOf true (happens m (Host_does (no_more_event m.host.state node))) []
  no_more_tied m node tie =
      kept_tied true [] air m (no_more_event m.host.state node)
      (no_more_is (λ (e : HostEvent). kept (after_host m.host.state e) ≡ kept m.host.state)
      (record { queues = λ n. apart_kept m.host.state (Queues_no_more n) tt; drops = λ n. apart_kept m.host.state (Drops_no_more n) tt }) m.host.state node) tie

  asks_tied : (ids : Ids) (m : Machine) (event : HostEvent) → IsNext m.host.state event → May m (Host_does event) → AsksAt m.outside.outer.chip.state.joined m.host.state event → TieOf true m (on_line m.host.state.side.turn)
      → TieOf true (happens m (Host_does event)) (on_line (happens m (Host_does event)).host.state.side.turn)
  unfolding happens May
  asks_tied ids m event next_is may asks tie =
      does_tied true (on_line (after_host m.host.state event).side.turn) air m event
      (next_tied ids m.outside.outer.chip.state m.host.state event (unheard m.outside.outer) next_is may.0 asks tie)

-- the line is the host's to use
rests_turn : (passes : ℕ) (m : Machine) → IsDone m ⊎ Stands passes m → m.host.state.side.turn ≡ Idle
rests_turn passes m (inl done) = done.line.at_host.turn_is
rests_turn passes m (inr stands) = stands.turn

asking_none : (m : Machine) → m.host.state.side.turn ≡ Idle → on_line m.host.state.side.turn ≡ []
asking_none m idle = ap on_line idle

-- where the line rests, the host has judged all
pub rests_unheard : (m : Machine) → LineRests m → unheard m.outside.outer ≡ []
rests_unheard m line = ap (λ (bs : List ℕ). unheard_by bs m.outside.outer.chip.state.port) line.at_chip.down_bytes ∙ line.at_chip.waiting

rests_tied : (m : Machine) → LineRests m → TieOf true m (on_line m.host.state.side.turn) → TieOf false m []
rests_tied m line tie =
    let there : TieOf true m [] = subst (TieOf true m) (asking_none m line.at_host.turn_is) tie in
    record { paid = there.paid; tied = tied_rests _ _ [] (rests_unheard m line) there.tied }

-- ---- the chip's part of a pass

pub part_served : (passes : ℕ) (m : Machine) (rest : Rest) (ways : List (Item × Option Route)) → May m (Outside_does (Chip_takes (length m.outside.outer.to_chip.bytes) rest ways)) → IsDone m ⊎ CanMove passes m
    → HasRoom m.outside.outer.chip.state → TieOf true m (on_line m.host.state.side.turn)
    → TakesEach m.outside.outer.chip.state ways × Judges (kept m.host.state) (unheard m.outside.outer) m.outside.outer.chip.state (after_chip m.outside.outer.chip.state (judged_all ways))
unfolding May MayOutside
part_served passes m rest ways may (inr can) room tie = part_tied m can.live.line rest ways can.moves may room tie
part_served passes m rest ways may (inl done) room tie =
    let o : OuterState = m.outside.outer in
    let at = done.line.at_chip in
    let there : TieOf true m [] = subst (TieOf true m) (asking_none m done.line.at_host.turn_is) tie in
    let fed = fed_none o.to_chip.bytes o.chip.decoder rest (map (λ (w : Item × Option Route). w.0) ways) at.decoder at.up_bytes may.1.feeds in
    let lines : unheard o ≡ line_of o.chip.state.port =
    ap (λ (bs : List ℕ). unheard_by bs o.chip.state.port) at.down_bytes ∙ sym (ap (λ (t : Turn). on_line t ++ o.chip.state.port.waiting) at.turn_is) in
    subst (λ (fs : List FrameParts). TakesEach o.chip.state ways × Judges (kept m.host.state) fs o.chip.state (after_chip o.chip.state (judged_all ways))) (sym lines)
    (none_tied (kept m.host.state) o.chip.state ways fed.0 (subst (λ (fs : List FrameParts). TieBy true (kept m.host.state) o.chip.state fs []) lines there))

part_unmarked : (passes : ℕ) (m : Machine) → IsDone m ⊎ CanMove passes m → IsUnmarked m
part_unmarked passes m (inl done) = done.line.unmarked
part_unmarked passes m (inr can) = by can.live.line
  where
    by : TheLine m → IsUnmarked m
    by (Free line) = line.unmarked
    by (Asks asked fits line) = line.unmarked
    by (Heard frame ticks frames line) = line.unmarked
    by (Heard_asks asked frame ticks frames fits line) = line.unmarked
    by (Sent frame ticks frames line) = line.unmarked
    by (Sent_asks asked frame ticks frames fits line) = line.unmarked

rests_line : (m : Machine) → LineRests m → unheard m.outside.outer ≡ line_of m.outside.outer.chip.state.port
rests_line m line = rests_unheard m line ∙ sym (ap (λ (t : Turn). on_line t ++ m.outside.outer.chip.state.port.waiting) line.at_chip.turn_is ∙ line.at_chip.waiting)

pub moved_lines : (b : Bool) (passes : ℕ) (m : Machine) → IsDone m ⊎ HasMoved b passes m → unheard m.outside.outer ≡ line_of m.outside.outer.chip.state.port
moved_lines b passes m (inl done) = rests_line m done.line
moved_lines b passes m (inr has) = moved_line b passes m has

host_same : (m : Machine) (rest : Rest) (ways : List (Item × Option Route)) → kept (chip_taken m rest ways).host.state ≡ kept m.host.state
unfolding happens
host_same m rest ways = refl

part_tied_on : (passes : ℕ) (m : Machine) (rest : Rest) (ways : List (Item × Option Route)) → May m (Outside_does (Chip_takes (length m.outside.outer.to_chip.bytes) rest ways))
    → IsDone (chip_taken m rest ways) ⊎ HasMoved true passes (chip_taken m rest ways)
    → TieBy true (kept m.host.state) (after_chip m.outside.outer.chip.state (judged_all ways)) (line_of (after_chip m.outside.outer.chip.state (judged_all ways)).port) [] → TieOf true (chip_taken m rest ways) []
part_tied_on passes m rest ways may later tie =
    let n : Machine = chip_taken m rest ways in
    let chip = taken_state m rest ways may in
    tie_as true [] n (kept m.host.state) (after_chip m.outside.outer.chip.state (judged_all ways)) (line_of (after_chip m.outside.outer.chip.state (judged_all ways)).port) (host_same m rest ways) chip
    (moved_lines true passes n later ∙ ap (λ (s : ChipState). line_of s.port) chip) tie

-- no byte moves to the chip
still_turn : (m : Machine) (line : TheLine m) → m.outside.outer.to_chip.bytes ≡ [] → m.host.state.side.turn ≡ Idle
still_turn m (Free line) none = line.at_host.turn_is
still_turn m (Heard frame ticks frames line) none = line.at_host.turn_is
still_turn m (Sent frame ticks frames line) none = line.at_host.turn_is
still_turn m (Asks asked fits line) none = absurd (none_up (Framed asked) [] (sym line.at_chip.up_bytes ∙ none))
still_turn m (Heard_asks asked frame ticks frames fits line) none = absurd (none_up Ack (Framed asked ∷ []) (sym line.at_chip.up_bytes ∙ none))
still_turn m (Sent_asks asked frame ticks frames fits line) none = absurd (none_up (Framed asked) [] (sym line.at_chip.up_bytes ∙ none))

moving_turn : (passes : ℕ) (m : Machine) → IsStill (is_stalled m.outside.outer) m.outside.outer.to_chip.bytes → IsDone m ⊎ CanMove passes m → m.host.state.side.turn ≡ Idle
moving_turn passes m still (inl done) = done.line.at_host.turn_is
moving_turn passes m (inr none) (inr can) = still_turn m can.live.line none
moving_turn passes m (inl stalled) (inr can) = absurd (let no : false ≡ true = sym (part_unmarked passes m (inr can)).moves ∙ stalled in cc)

-- ---- the host's part of a pass

-- what it judges is these units
module _ (air : Airs) where
  judged_tied : (b : Bool) (passes : ℕ) (m : Machine) (rest : Rest) (items : List Item) (events : List HostEvent) → May m (Host_takes (length m.outside.outer.to_host.bytes) rest items events) → IsDone m ⊎ HasMoved b passes m
      → TieOf true m [] → TieOf true (happens m (Host_takes (length m.outside.outer.to_host.bytes) rest items events)) []
  judged_tied b passes m rest items events may at tie = by at
    where
      n : Machine
      n = happens m (Host_takes (length m.outside.outer.to_host.bytes) rest items events)

      waiting : List FrameParts
      waiting = m.outside.outer.chip.state.port.waiting

      -- nothing is on its way to it then
      taken_unheard : n.outside.outer.to_host.bytes ≡ [] → n.outside.outer.chip.state ≡ m.outside.outer.chip.state → unheard n.outside.outer ≡ waiting
      taken_unheard none chip = ap (λ (bs : List ℕ). unheard_by bs n.outside.outer.chip.state.port) none ∙ ap (λ (s : ChipState). s.port.waiting) chip

      idles : (host turn : Turn) (frames : List FrameParts) → OnLine [] [] host turn frames m → unheard m.outside.outer ≡ waiting → TieOf true n []
      idles host turn frames line frames_are =
          let idle = host_idles m host turn frames rest items events line may in
          let chip : n.outside.outer.chip.state ≡ m.outside.outer.chip.state = ap (λ (c : ChipParts). c.state) idle.1 in
          tie_as true [] n (kept m.host.state) m.outside.outer.chip.state waiting (ap kept idle.2) chip (taken_unheard idle.0.at_chip.down_bytes chip)
          (subst (λ (fs : List FrameParts). TieBy true (kept m.host.state) m.outside.outer.chip.state fs []) frames_are tie)

      judges : (down : List LineUnit) (has : HasMoved b passes m) → OnLine [] down has.host has.turn has.frames m → AllByRecursion IsPlain down → length down ≤ 99 → unheard m.outside.outer ≡ frames_in down ++ waiting → TieOf true n []
      judges [] has line plain few frames_are = idles has.host has.turn has.frames line frames_are
      judges (unit ∷ units) has line plain few frames_are =
          let turned = host_turns air m unit units has.host has.turn has.frames rest items events plain (omega (arith, few)) line may in
          let chip : n.outside.outer.chip.state ≡ m.outside.outer.chip.state = (takes_calm air m (length m.outside.outer.to_host.bytes) rest items events).chip in
          tie_as true [] n (kept (after_all_host m.host.state events)) m.outside.outer.chip.state waiting (ap kept turned.3) chip (taken_unheard turned.0.at_chip.down_bytes chip)
          (units_tied true m.outside.outer.chip.state [] m.host.state (unit ∷ units) waiting events plain (judged_are m (length m.outside.outer.to_host.bytes) rest items events (unit ∷ units) may turned.2)
          (subst (λ (fs : List FrameParts). TieBy true (kept m.host.state) m.outside.outer.chip.state fs []) frames_are tie))

      by : IsDone m ⊎ HasMoved b passes m → TieOf true n []
      by (inl done) = idles Idle Idle [] done.line (ap (λ (bs : List ℕ). unheard_by bs m.outside.outer.chip.state.port) done.line.at_chip.down_bytes)
      by (inr has) = judges has.down has has.line has.plain has.few (moved_frames b passes m has)

-- ---- what the premises give of each event

effect_served : (m : Machine) (event : Event) → IsEffect event → IsOrderly m event → IsServed m event
effect_served m (Outside_does (Wakes_device node route)) is orderly = tt
effect_served m (Outside_does (Shows node)) is orderly = tt
effect_served m (Outside_does (Cuts size)) is orderly = tt
effect_served m (Host_does (Accepts order carriage)) is orderly = tt
effect_served m (Refuses line refusal) is orderly = tt
effect_served m (Shows_values node) is orderly = tt
effect_served m (Outside_does event) is orderly = absurd is
effect_served m (Host_does event) is orderly = absurd is
effect_served m event is orderly = absurd is

-- ---- the host has pumped

pumped_to : (is next : Phase) (m : Machine) → next ≡ is → PumpedAt is m → PumpedAt next m
pumped_to is next m same pumped = subst (λ (q : Phase). PumpedAt q m) (sym same) pumped

pumped_on : (here next : Phase) (m : Machine) (event : Event) → Goes here m event next → PumpedAt here m → PumpedAt next (happens m event)
unfolding happens
pumped_on (Said_line line) next m event (is, to) pumped = subst (λ (e : Event). PumpedAt next (happens m e)) (sym is) (subst (λ (q : Phase). PumpedAt q (happens m (Outside_does Begins_line))) (sym to) pumped)
pumped_on (Doing line (first ∷ left)) next m event (is, to) pumped = pumped_to (Doing line left) next (happens m event) to tt
pumped_on (To_tick (suc ticks)) next m event (is, to) pumped = pumped_to (Ticked ticks) next (happens m event) to tt
pumped_on (Arriving (suc frames) ticks) next m event (drawn, route, is, to) pumped = pumped_to (Arriving frames ticks) next (happens m event) to tt
pumped_on (Giving (suc results) ticks) next m event (route, is, to) pumped = pumped_to (Giving results ticks) next (happens m event) to tt
pumped_on (Ticking_devices place (suc count) ticks) next m event (drawn, route, is, to) pumped = pumped_to (Ticking_devices (place + 1) count ticks) next (happens m event) to tt
pumped_on (Ticking_chip ticks) next m event (is, to) pumped = pumped_to (Ticking_decoder ticks) next (happens m event) to tt
pumped_on (Ticking_decoder ticks) next m event (is, to) pumped = pumped_to (Ticking_host (tick_events m.host.state) ticks) next (happens m event) to tt
pumped_on (Ticking_host (first ∷ events) ticks) next m event (is, to) pumped = pumped_to (Ticking_host events ticks) next (happens m event) to tt
pumped_on (Sleeping passes ticks) next m event (node, wants, is, to) pumped = pumped_to (Sleeping passes ticks) next (happens m event) to tt
pumped_on (Submitting passes ticks) next m event (asked, next_is, is, to) pumped = pumped_to (Submitting passes ticks) next (happens m event) to tt
pumped_on (Moving passes ticks) next m event (rest, ways, is, to) pumped = pumped_to (Moved true passes ticks) next (happens m event) to tt
pumped_on (Moved b passes ticks) next m event (rest, items, done, is, to) pumped = pumped_to (Sleeping passes ticks) next (happens m event) to tt
pumped_on here next m event goes pumped = absurd goes

after_pumped : (passes ticks : ℕ) (m : Machine) → IsPumped m.host.state → PumpedAt (after_pump passes ticks) m
after_pumped zero ticks m pumped = pumped
after_pumped (suc passes) ticks m pumped = tt

turn_pumped : (here next : Phase) (m : Machine) → Turns here m next → PumpedAt here m → PumpedAt next m
turn_pumped (Begun line) next m (inl (events, is, same)) pumped = pumped_to (Doing line events) next m same tt
turn_pumped (Begun line) next m (inr (ticks, is, same)) pumped = pumped_to (To_tick ticks) next m same pumped
turn_pumped (Doing line []) next m same pumped = pumped_to (Sleeping 64 0) next m same tt
turn_pumped (To_tick zero) next m same pumped = pumped_to Between next m same pumped
turn_pumped (Ticked ticks) next m same pumped = pumped_to (Arriving _ ticks) next m same tt
turn_pumped (Arriving zero ticks) next m same pumped = pumped_to (Giving _ ticks) next m same tt
turn_pumped (Giving zero ticks) next m same pumped = pumped_to (Ticking_devices 0 _ ticks) next m same tt
turn_pumped (Ticking_devices place zero ticks) next m same pumped = pumped_to (Ticking_chip ticks) next m same tt
turn_pumped (Ticking_host [] ticks) next m same pumped = pumped_to (Sleeping 64 ticks) next m same tt
turn_pumped (Sleeping passes ticks) next m (none, same) pumped = pumped_to (Submitting passes ticks) next m same tt
turn_pumped (Submitting passes ticks) next m (is, same) pumped = pumped_to (after_pump passes ticks) next m same (after_pumped passes ticks m is)
turn_pumped (Moving passes ticks) next m (still, same) pumped = pumped_to (Moved false passes ticks) next m same tt
turn_pumped (Moved b passes ticks) next m (still, same) pumped = pumped_to (Sleeping (passes_after b passes) ticks) next m same tt
turn_pumped here next m turns pumped = absurd turns

-- ---- the chip's room

room_as : (next to : Phase) (m : Machine) (event is : Event) → event ≡ is → next ≡ to → RoomAt to (happens m is) → RoomAt next (happens m event)
room_as next to m event is event_is next_is room = subst (λ (e : Event). RoomAt next (happens m e)) (sym event_is) (subst (λ (q : Phase). RoomAt q (happens m is)) (sym next_is) room)

arrived_room : (waits more frames due less : ℕ) → waits + (suc frames + due) ≤ 31 → more ≤ waits + 1 → less ≤ due → more + (frames + less) ≤ 31
arrived_room waits more frames due less room one no_more = omega (arith, room, one, no_more)

given_room : (waits more results : ℕ) → waits + suc results ≤ 31 → more ≤ waits + 1 → more + results ≤ 31
given_room waits more results room one = omega (arith, room, one)

pump_room : (passes ticks : ℕ) (m : Machine) → HasRoom m.outside.outer.chip.state → RoomAt (after_pump passes ticks) m
pump_room zero ticks m room = tt
pump_room (suc passes) ticks m room = room

few_as : (m n : Machine) → n.outside.outer.chip.state ≡ m.outside.outer.chip.state → length m.outside.outer.chip.state.port.waiting ≤ 31 → length n.outside.outer.chip.state.port.waiting ≤ 31
few_as m n same few = subst (λ (s : ChipState). length s.port.waiting ≤ 31) (sym same) few

room_of : (m n : Machine) → n.outside.outer.chip.state ≡ m.outside.outer.chip.state → HasRoom m.outside.outer.chip.state → HasRoom n.outside.outer.chip.state
room_of m n same room = subst HasRoom (sym same) room

still_chip : (m : Machine) (event : OuterEvent) → (outcome m.outside event).outer.chip.state ≡ m.outside.outer.chip.state → (happens m (Outside_does event)).outside.outer.chip.state ≡ m.outside.outer.chip.state
unfolding happens
still_chip m event same = entered_state (outcome m.outside event).outer (outcome m.outside event).entries ∙ same

device_chip : (m : Machine) (place : ℕ) (drawn : List ℕ) (route : Option Route) → (happens m (Outside_does (Device_ticks place drawn route))).outside.outer.chip.state ≡ m.outside.outer.chip.state
unfolding outcome
device_chip m place drawn route = still_chip m (Device_ticks place drawn route) (acts_chip m.outside.outer (slice_get m.outside.devices place) (Ticks drawn) route).0

chip_few : (m : Machine) → length m.outside.outer.chip.state.port.waiting ≤ 31 → length (happens m (Outside_does Chip_ticks)).outside.outer.chip.state.port.waiting ≤ 31
unfolding happens outcome
chip_few m few =
    let at : OuterState = record m.outside.outer { chip = record { decoder = after_tick m.outside.outer.chip.decoder; state = m.outside.outer.chip.state } } in
    let less = counted_few m.outside.outer.chip.state.port in
    subst (λ (s : ChipState). length s.port.waiting ≤ 31) (sym (entered_state _ _ ∙ does_chip at chip_ticked)) (omega (arith, less, few))

decoder_few : (m : Machine) → length m.outside.outer.chip.state.port.waiting ≤ 31 → length (happens m Decoder_ticks).outside.outer.chip.state.port.waiting ≤ 31
unfolding happens
decoder_few m few = few

module _ (air : Airs) where
  event_room : (here next : Phase) (m : Machine) (event : Event) → Goes here m event next → May m event → IsOrderly m event → LineAt here m → RoomAt here m → TieAt here m → IsRouted m.outside.outer → RoomAt next (happens m event)
  event_room (Said_line line) next m event (is, to) may orderly line_at room tie routed = room_as next (Begun line) m event (Outside_does Begins_line) is to tt
  event_room (Doing line (first ∷ left)) next m event (is, to) may orderly line_at room tie routed = room_as next (Doing line left) m event first is to tt
  event_room (To_tick (suc ticks)) next m event (is, to) may orderly line_at room tie routed =
      let few = subst (IsOrderly m) is orderly in
      let none : length m.outside.outer.chip.state.port.waiting ≡ 0 = ap (λ (fs : List FrameParts). length fs) line_at.at_chip.waiting in
      let none_due : length m.outside.outer.due ≡ 0 = ap (λ (due : List Due). length due) routed.none_due in
      room_as next (Ticked ticks) m event (Outside_does Begins_tick) is to (machine_ticks m (omega (arith, few, none, none_due)))
  event_room (Arriving (suc frames) ticks) next m event (drawn, route, is, to) may orderly line_at room tie routed =
      let more = machine_arrives m drawn route in
      room_as next (Arriving frames ticks) m event (Outside_does (Arrives drawn route)) is to
      (arrived_room (length m.outside.outer.chip.state.port.waiting) _ frames (length m.outside.outer.due) _ room more.chip more.due)
  event_room (Giving (suc results) ticks) next m event (route, is, to) may orderly line_at room tie routed =
      room_as next (Giving results ticks) m event (Outside_does (Gives route)) is to (given_room (length m.outside.outer.chip.state.port.waiting) _ results room (machine_gives m route))
  event_room (Ticking_devices place (suc count) ticks) next m event (drawn, route, is, to) may orderly line_at room tie routed =
      room_as next (Ticking_devices (place + 1) count ticks) m event (Outside_does (Device_ticks place drawn route)) is to (few_as m (happens m (Outside_does (Device_ticks place drawn route))) (device_chip m place drawn route) room)
  event_room (Ticking_chip ticks) next m event (is, to) may orderly line_at room tie routed = room_as next (Ticking_decoder ticks) m event (Outside_does Chip_ticks) is to (chip_few m room)
  event_room (Ticking_decoder ticks) next m event (is, to) may orderly line_at room tie routed = room_as next (Ticking_host (tick_events m.host.state) ticks) m event Decoder_ticks is to (decoder_few m room)
  event_room (Ticking_host (first ∷ events) ticks) next m event (is, to) may orderly line_at room tie routed =
      room_as next (Ticking_host events ticks) m event (Host_does first) is to (few_as m (happens m (Host_does first)) (does_calm air m first).chip room)
  event_room (Sleeping passes ticks) next m event (node, wants, is, to) may orderly line_at room tie routed =
      room_as next (Sleeping passes ticks) m event (Host_does (no_more_event m.host.state node)) is to (room_of m (happens m (Host_does (no_more_event m.host.state node))) (does_calm air m (no_more_event m.host.state node)).chip room)
  event_room (Submitting passes ticks) next m event (asked, next_is, is, to) may orderly line_at room tie routed =
      room_as next (Submitting passes ticks) m event (Host_does asked) is to (room_of m (happens m (Host_does asked)) (does_calm air m asked).chip room)
  event_room (Moving passes ticks) next m event (rest, ways, is, to) may orderly line_at room tie routed =
      let e : Event = Outside_does (Chip_takes (length m.outside.outer.to_chip.bytes) rest ways) in
      let may_it : May m e = subst (May m) is may in
      let fewer = (part_served passes m rest ways may_it line_at room tie).1.fewer in
      room_as next (Moved true passes ticks) m event e is to
      (subst HasRoom (sym (taken_state m rest ways may_it)) (λ idle. let less = fewer idle in let most = room less.0 in let few = less.1 in omega (arith, most, few)))
  event_room (Moved b passes ticks) next m event (rest, items, done, is, to) may orderly line_at room tie routed =
      room_as next (Sleeping passes ticks) m event (Host_takes (length m.outside.outer.to_host.bytes) rest items done) is to
      (room_of m (happens m (Host_takes (length m.outside.outer.to_host.bytes) rest items done)) (takes_calm air m (length m.outside.outer.to_host.bytes) rest items done).chip room)
  event_room here next m event goes may orderly line_at room tie routed = absurd goes

room_to : (is next : Phase) (m : Machine) → next ≡ is → RoomAt is m → RoomAt next m
room_to is next m same room = subst (λ (q : Phase). RoomAt q m) (sym same) room

rests_room : (m : Machine) → LineRests m → HasRoom m.outside.outer.chip.state
rests_room m line idle = let none : length m.outside.outer.chip.state.port.waiting ≡ 0 = ap (λ (fs : List FrameParts). length fs) line.at_chip.waiting in omega (arith, none)

turn_room : (here next : Phase) (m : Machine) → Turns here m next → LineAt here m → RoomAt here m → RoomAt next m
turn_room (Begun line) next m (inl (events, is, same)) line_at room = room_to (Doing line events) next m same tt
turn_room (Begun line) next m (inr (ticks, is, same)) line_at room = room_to (To_tick ticks) next m same tt
turn_room (Doing line []) next m same line_at room = room_to (Sleeping 64 0) next m same (rests_room m line_at.1)
turn_room (To_tick zero) next m same line_at room = room_to Between next m same tt
turn_room (Ticked ticks) next m same line_at room = room_to (Arriving _ ticks) next m same room
turn_room (Arriving zero ticks) next m same line_at room = room_to (Giving _ ticks) next m same (omega (arith, room))
turn_room (Giving zero ticks) next m same line_at room = room_to (Ticking_devices 0 _ ticks) next m same (omega (arith, room))
turn_room (Ticking_devices place zero ticks) next m same line_at room = room_to (Ticking_chip ticks) next m same room
turn_room (Ticking_host [] ticks) next m same line_at room = room_to (Sleeping 64 ticks) next m same (λ idle. room)
turn_room (Sleeping passes ticks) next m (none, same) line_at room = room_to (Submitting passes ticks) next m same room
turn_room (Submitting passes ticks) next m (pumped, same) line_at room = room_to (after_pump passes ticks) next m same (pump_room passes ticks m room)
turn_room (Moving passes ticks) next m (still, same) line_at room = room_to (Moved false passes ticks) next m same room
turn_room (Moved b passes ticks) next m (still, same) line_at room = room_to (Sleeping (passes_after b passes) ticks) next m same room
turn_room here next m turns line_at room = absurd turns

-- ---- the chip's calls

module _ (air : Airs) where
  does_routed : (m : Machine) (event : HostEvent) → IsRouted m.outside.outer → IsRouted (happens m (Host_does event)).outside.outer
  does_routed m event routed = calm_routed m.outside.outer (happens m (Host_does event)).outside.outer (does_calm air m event) routed

  effect_routed : (m : Machine) (event : Event) → IsEffect event → IsRouted m.outside.outer → IsRouted (happens m event).outside.outer
  unfolding happens
  effect_routed m (Outside_does (Wakes_device node route)) is routed = wake_routed m node route routed
  effect_routed m (Outside_does (Shows node)) is routed = show_routed m node routed
  effect_routed m (Outside_does (Cuts size)) is routed = cut_routed m size routed
  effect_routed m (Host_does (Accepts order carriage)) is routed = does_routed m (Accepts order carriage) routed
  effect_routed m (Refuses line refusal) is routed = calm_routed m.outside.outer (happens m (Refuses line refusal)).outside.outer (enters_calm air m _) routed
  effect_routed m (Shows_values node) is routed = calm_routed m.outside.outer (happens m (Shows_values node)).outside.outer (enters_calm air m _) routed
  effect_routed m (Outside_does event) is routed = absurd is
  effect_routed m (Host_does event) is routed = absurd is
  effect_routed m event is routed = absurd is

  decoder_routed : (m : Machine) → IsRouted m.outside.outer → IsRouted (happens m Decoder_ticks).outside.outer
  unfolding happens
  decoder_routed m routed = routed

  -- the table of the chip has a walk to each of these
  reaches_of : (these : List Bool) (m : Machine) → HasLive these m.outside.outer → Reaches m.outside.outer.chip.state.table these
  reaches_of these m live n marked = let reached = live.reached n marked in (reached.apart, (reached.over, reached.walk))

  as_routed : (m : Machine) (event is : Event) → event ≡ is → IsRouted (happens m is).outside.outer → IsRouted (happens m event).outside.outer
  as_routed m event is same routed = subst (λ (e : Event). IsRouted (happens m e).outside.outer) (sym same) routed

  routed_on : (these : List Bool) (here next : Phase) (m : Machine) (event : Event) → Goes here m event next → May m event → IsAskedAt these event → HasLive these m.outside.outer → IsServed m event → LineAt here m
      → IsRouted m.outside.outer → IsRouted (happens m event).outside.outer
  routed_on these (Said_line line) next m event (is, to) may only live served line_at routed = as_routed m event (Outside_does Begins_line) is (line_routed m routed)
  routed_on these (Doing line (first ∷ left)) next m event (is, to) may only live served line_at routed = as_routed m event first is (effect_routed m first line_at.0.0 routed)
  routed_on these (To_tick (suc ticks)) next m event (is, to) may only live served line_at routed = as_routed m event (Outside_does Begins_tick) is (tick_routed m routed)
  routed_on these (Arriving (suc frames) ticks) next m event (drawn, route, is, to) may only live served line_at routed = as_routed m event (Outside_does (Arrives drawn route)) is (arrives_routed m drawn route routed)
  routed_on these (Giving (suc results) ticks) next m event (route, is, to) may only live served line_at routed = as_routed m event (Outside_does (Gives route)) is (gives_routed m route routed)
  routed_on these (Ticking_devices place (suc count) ticks) next m event (drawn, route, is, to) may only live served line_at routed =
      as_routed m event (Outside_does (Device_ticks place drawn route)) is (device_routed m place drawn route routed)
  routed_on these (Ticking_chip ticks) next m event (is, to) may only live served line_at routed = as_routed m event (Outside_does Chip_ticks) is (counts_routed m routed)
  routed_on these (Ticking_decoder ticks) next m event (is, to) may only live served line_at routed = as_routed m event Decoder_ticks is (decoder_routed m routed)
  routed_on these (Ticking_host (first ∷ events) ticks) next m event (is, to) may only live served line_at routed = as_routed m event (Host_does first) is (does_routed m first routed)
  routed_on these (Sleeping passes ticks) next m event (node, wants, is, to) may only live served line_at routed =
      as_routed m event (Host_does (no_more_event m.host.state node)) is (does_routed m (no_more_event m.host.state node) routed)
  routed_on these (Submitting passes ticks) next m event (asked, next_is, is, to) may only live served line_at routed = as_routed m event (Host_does asked) is (does_routed m asked routed)
  routed_on these (Moving passes ticks) next m event (rest, ways, is, to) may only live served line_at routed =
      as_routed m event (Outside_does (Chip_takes (length m.outside.outer.to_chip.bytes) rest ways)) is
      (takes_routed these m rest ways (part_unmarked passes m line_at) (subst (May m) is may) (subst (IsServed m) is served) (subst (IsAskedAt these) is only) (reaches_of these m live) routed)
  routed_on these (Moved b passes ticks) next m event (rest, items, done, is, to) may only live served line_at routed =
      as_routed m event (Host_takes (length m.outside.outer.to_host.bytes) rest items done) is
      (calm_routed m.outside.outer (happens m (Host_takes (length m.outside.outer.to_host.bytes) rest items done)).outside.outer (takes_calm air m (length m.outside.outer.to_host.bytes) rest items done) routed)
  routed_on these here next m event goes may only live served line_at routed = absurd goes

-- ---- the frame of the request is on the line until it is acknowledged

-- what is proved of a host
pub record StaysOnLine : Type 0 where
  pub each : (h : HostState) (event : HostEvent) → HasOnLine h → IsDoneBy event → IsNoItem event → MayHost h event → HasOnLine (after_host h event)
  pub items : (h : HostState) (items : List Item) (events : List HostEvent) → HasOnLine h → AreJudged h items events → HasOnLine (after_all_host h events)

module _ (stays : StaysOnLine) where
  on_line_as : (m : Machine) (event is : Event) → event ≡ is → HasOnLine (happens m is).host.state → HasOnLine (happens m event).host.state
  on_line_as m event is same on = subst (λ (e : Event). HasOnLine (happens m e).host.state) (sym same) on

  outer_lines : (m : Machine) (event : OuterEvent) → HasOnLine m.host.state → HasOnLine (happens m (Outside_does event)).host.state
  unfolding happens
  outer_lines m event on = on

  decoder_lines : (m : Machine) → HasOnLine m.host.state → HasOnLine (happens m Decoder_ticks).host.state
  unfolding happens
  decoder_lines m on = on

  does_lines : (m : Machine) (event : HostEvent) → IsDoneBy event → IsNoItem event → May m (Host_does event) → HasOnLine m.host.state → HasOnLine (happens m (Host_does event)).host.state
  unfolding happens May
  does_lines m event done no_item may on = stays.each m.host.state event on done no_item may.0

  takes_lines : (m : Machine) (count : ℕ) (rest : Rest) (items : List Item) (events : List HostEvent) → May m (Host_takes count rest items events) → HasOnLine m.host.state
      → HasOnLine (happens m (Host_takes count rest items events)).host.state
  unfolding happens May
  takes_lines m count rest items events may on = stays.items m.host.state items events on may.judged

  effect_lines : (m : Machine) (event : Event) → IsEffect event → May m event → HasOnLine m.host.state → HasOnLine (happens m event).host.state
  unfolding happens
  effect_lines m (Outside_does (Wakes_device node route)) is may on = on
  effect_lines m (Outside_does (Shows node)) is may on = on
  effect_lines m (Outside_does (Cuts size)) is may on = on
  effect_lines m (Host_does (Accepts order carriage)) is may on = does_lines m (Accepts order carriage) tt tt may on
  effect_lines m (Refuses line refusal) is may on = on
  effect_lines m (Shows_values node) is may on = on
  effect_lines m (Outside_does event) is may on = absurd is
  effect_lines m (Host_does event) is may on = absurd is
  effect_lines m event is may on = absurd is

  host_lines : (m : Machine) (first : HostEvent) (events : List HostEvent) → TiedInTick (first ∷ events) m → May m (Host_does first) → HasOnLine m.host.state → HasOnLine (happens m (Host_does first)).host.state
  host_lines m first events at may on = by at.left
    where
      as_first : (is : HostEvent) → first ≡ is → IsDoneBy is → IsNoItem is → HasOnLine (happens m (Host_does first)).host.state
      as_first is same done no_item = does_lines m first (subst IsDoneBy (sym same) done) (subst IsNoItem (sym same) no_item) may on

      node_is : (event : HostEvent) → IsNodeTick event → IsDoneBy event × IsNoItem event
      node_is (Node_ticks n) is = (tt, tt)
      node_is event is = absurd is

      by : TickLeft at.counted (first ∷ events) → HasOnLine (happens m (Host_does first)).host.state
      by (All nodes are is none) = let one : first ≡ Line_ticks = cc in as_first Line_ticks one tt tt
      by (Request nodes are is none) = let one : first ≡ Requests_do request_ticks BeforeItsTick = cc in as_first (Requests_do request_ticks BeforeItsTick) one tt tt
      by (Nodes are done) = let is = node_is first are.0 in does_lines m first is.0 is.1 may on

  abbrev IsPlainEvent : HostEvent → Type 0
  IsPlainEvent event = IsDoneBy event × IsNoItem event

  next_plain : (h : HostState) (event : HostEvent) → IsNext h event → IsPlainEvent event
  next_plain h event is =
      next_is_so IsPlainEvent
      (record { abort = (tt, tt); front = (tt, tt); starts = λ n plan more payload. (tt, tt); text = λ n payload. (tt, tt); segment = λ n more payload. (tt, tt); begins = λ n session command. (tt, tt); unkept = λ n. (tt, tt) })
      h event is

  more_plain : (h : HostState) (n : ℕ) → IsPlainEvent (no_more_event h n)
  more_plain h n = no_more_is IsPlainEvent (record { queues = λ node. (tt, tt); drops = λ node. (tt, tt) }) h n

  lines_on : (here next : Phase) (m : Machine) (event : Event) → Goes here m event next → May m event → LineAt here m → TieAt here m → HasOnLine m.host.state → HasOnLine (happens m event).host.state
  lines_on (Said_line line) next m event (is, to) may line_at tie on = on_line_as m event (Outside_does Begins_line) is (outer_lines m Begins_line on)
  lines_on (Doing line (first ∷ left)) next m event (is, to) may line_at tie on = on_line_as m event first is (effect_lines m first line_at.0.0 (subst (May m) is may) on)
  lines_on (To_tick (suc ticks)) next m event (is, to) may line_at tie on = on_line_as m event (Outside_does Begins_tick) is (outer_lines m Begins_tick on)
  lines_on (Arriving (suc frames) ticks) next m event (drawn, route, is, to) may line_at tie on = on_line_as m event (Outside_does (Arrives drawn route)) is (outer_lines m (Arrives drawn route) on)
  lines_on (Giving (suc results) ticks) next m event (route, is, to) may line_at tie on = on_line_as m event (Outside_does (Gives route)) is (outer_lines m (Gives route) on)
  lines_on (Ticking_devices place (suc count) ticks) next m event (drawn, route, is, to) may line_at tie on =
      on_line_as m event (Outside_does (Device_ticks place drawn route)) is (outer_lines m (Device_ticks place drawn route) on)
  lines_on (Ticking_chip ticks) next m event (is, to) may line_at tie on = on_line_as m event (Outside_does Chip_ticks) is (outer_lines m Chip_ticks on)
  lines_on (Ticking_decoder ticks) next m event (is, to) may line_at tie on = on_line_as m event Decoder_ticks is (decoder_lines m on)
  lines_on (Ticking_host (first ∷ events) ticks) next m event (is, to) may line_at tie on = on_line_as m event (Host_does first) is (host_lines m first events tie (subst (May m) is may) on)
  lines_on (Sleeping passes ticks) next m event (node, wants, is, to) may line_at tie on =
      let plain = more_plain m.host.state node in
      on_line_as m event (Host_does (no_more_event m.host.state node)) is (does_lines m (no_more_event m.host.state node) plain.0 plain.1 (subst (May m) is may) on)
  lines_on (Submitting passes ticks) next m event (asked, next_is, is, to) may line_at tie on =
      let plain = next_plain m.host.state asked next_is in on_line_as m event (Host_does asked) is (does_lines m asked plain.0 plain.1 (subst (May m) is may) on)
  lines_on (Moving passes ticks) next m event (rest, ways, is, to) may line_at tie on =
      on_line_as m event (Outside_does (Chip_takes (length m.outside.outer.to_chip.bytes) rest ways)) is (outer_lines m (Chip_takes (length m.outside.outer.to_chip.bytes) rest ways) on)
  lines_on (Moved b passes ticks) next m event (rest, items, done, is, to) may line_at tie on =
      on_line_as m event (Host_takes (length m.outside.outer.to_host.bytes) rest items done) is (takes_lines m (length m.outside.outer.to_host.bytes) rest items done (subst (May m) is may) on)
  lines_on here next m event goes may line_at tie on = absurd goes

-- ---- events

module _ (laws : Outsides) (ids : Ids) (payloads : Payloads) where
  served_as : (m : Machine) (event is : Event) → event ≡ is → IsServed m is → IsServed m event
  served_as m event is same served = subst (IsServed m) (sym same) served

  event_served : {these : List Bool} (here next : Phase) (m : Machine) (event : Event) → Goes here m event next → May m event → IsOrderly m event → LineAt here m → RoomAt here m → TieAt here m → IsPeopled these m → IsServed m event
  event_served (Said_line line) next m event (is, to) may orderly line_at room tie at = served_as m event (Outside_does Begins_line) is tt
  event_served (Doing line (first ∷ left)) next m event (is, to) may orderly line_at room tie at = served_as m event first is (effect_served m first line_at.0.0 (subst (IsOrderly m) is orderly))
  event_served (To_tick (suc ticks)) next m event (is, to) may orderly line_at room tie at = served_as m event (Outside_does Begins_tick) is tt
  event_served (Arriving (suc frames) ticks) next m event (drawn, route, is, to) may orderly line_at room tie at = served_as m event (Outside_does (Arrives drawn route)) is tt
  event_served (Giving (suc results) ticks) next m event (route, is, to) may orderly line_at room tie at = served_as m event (Outside_does (Gives route)) is tt
  event_served (Ticking_devices place (suc count) ticks) next m event (drawn, route, is, to) may orderly line_at room tie at = served_as m event (Outside_does (Device_ticks place drawn route)) is tt
  event_served (Ticking_chip ticks) next m event (is, to) may orderly line_at room tie at = served_as m event (Outside_does Chip_ticks) is tt
  event_served (Ticking_decoder ticks) next m event (is, to) may orderly line_at room tie at = served_as m event Decoder_ticks is tt
  event_served (Ticking_host (first ∷ events) ticks) next m event (is, to) may orderly line_at room tie at =
      served_as m event (Host_does first) is (mute_well m first (tick_mute m.host.state first line_at.0.0 line_at.1.at_host.turn_is))
  event_served (Sleeping passes ticks) next m event (node, wants, is, to) may orderly line_at room tie at =
      served_as m event (Host_does (no_more_event m.host.state node)) is (mute_well m (no_more_event m.host.state node) (no_more_mute laws.air m.host.state node))
  event_served (Submitting passes ticks) next m event (asked, next_is, is, to) may orderly line_at room tie at =
      served_as m event (Host_does asked) is (next_well m m.outside.outer.chip.state asked next_is (subst (May m) is may) (next_asked payloads m asked next_is (subst (May m) is may) tie.paid at).0 tie.paid)
  event_served (Moving passes ticks) next m event (rest, ways, is, to) may orderly line_at room tie at =
      served_as m event (Outside_does (Chip_takes (length m.outside.outer.to_chip.bytes) rest ways)) is (part_served passes m rest ways (subst (May m) is may) line_at room tie).0
  event_served (Moved b passes ticks) next m event (rest, items, done, is, to) may orderly line_at room tie at =
      served_as m event (Host_takes (length m.outside.outer.to_host.bytes) rest items done) is (takes_well b passes m rest items done (subst (May m) is may) line_at)
  event_served here next m event goes may orderly line_at room tie at = absurd goes

  -- the event is this one, and leads there
  abbrev Leads : Phase → Machine → Event → Type 0
  Leads next m event = LineAt next (happens m event) → RoomAt next (happens m event) → TieAt next (happens m event)

  as_is : (next to : Phase) (m : Machine) (event is : Event) → event ≡ is → next ≡ to → Leads to m is → Leads next m event
  as_is next to m event is event_is next_is leads = subst (λ (e : Event). Leads next m e) (sym event_is) (subst (λ (q : Phase). Leads q m is) (sym next_is) leads)

  few_arrive : (waits frames due : ℕ) → waits + (frames + due) ≤ 31 → waits ≤ 31
  few_arrive waits frames due few = omega (arith, few)

  few_given : (waits results : ℕ) → waits + results ≤ 31 → waits ≤ 31
  few_given waits results few = omega (arith, few)

  event_ties : {these : List Bool} (here next : Phase) (m : Machine) (event : Event) → Goes here m event next → May m event → IsOrderly m event → LineAt here m → AwaitsAt here m → RoomAt here m → TieAt here m → IsPeopled these m → Leads next m event
  event_ties (Said_line line) next m event (is, to) may orderly line_at awaits has tie at = as_is next (Begun line) m event (Outside_does Begins_line) is to (λ later room. line_tied m tie)
  event_ties (Doing line (first ∷ left)) next m event (is, to) may orderly line_at awaits has tie at = as_is next (Doing line left) m event first is to (λ later room. effect_tied laws.air m first line_at.0.0 tie)
  event_ties (To_tick (suc ticks)) next m event (is, to) may orderly line_at awaits has tie at = as_is next (Ticked ticks) m event (Outside_does Begins_tick) is to (λ later room. tick_tied m tie)
  event_ties (Arriving (suc frames) ticks) next m event (drawn, route, is, to) may orderly line_at awaits has tie at =
      as_is next (Arriving frames ticks) m event (Outside_does (Arrives drawn route)) is to (λ later room. arrives_tied m drawn route (few_arrive _ frames _ room) line_at later at tie)
  event_ties (Giving (suc results) ticks) next m event (route, is, to) may orderly line_at awaits has tie at =
      as_is next (Giving results ticks) m event (Outside_does (Gives route)) is to (λ later room. gives_tied m route (few_given _ results room) line_at later tie)
  event_ties (Ticking_devices place (suc count) ticks) next m event (drawn, route, is, to) may orderly line_at awaits has tie at =
      as_is next (Ticking_devices (place + 1) count ticks) m event (Outside_does (Device_ticks place drawn route)) is to (λ later room. device_tied m place drawn route tie)
  event_ties (Ticking_chip ticks) next m event (is, to) may orderly line_at awaits has tie at = as_is next (Ticking_decoder ticks) m event (Outside_does Chip_ticks) is to (λ later room. counts_tied m line_at later tie)
  event_ties (Ticking_decoder ticks) next m event (is, to) may orderly line_at awaits has tie at =
      as_is next (Ticking_host (tick_events m.host.state) ticks) m event Decoder_ticks is to (λ later room. decoder_tied m tie)
  event_ties (Ticking_host (first ∷ events) ticks) next m event (is, to) may orderly line_at awaits has tie at =
      as_is next (Ticking_host events ticks) m event (Host_does first) is to (λ later room. host_tied laws.air m first events line_at.1 awaits tie)
  event_ties (Sleeping passes ticks) next m event (node, wants, is, to) may orderly line_at awaits has tie at =
      as_is next (Sleeping passes ticks) m event (Host_does (no_more_event m.host.state node)) is to (λ later room. no_more_tied laws.air m node tie)
  event_ties (Submitting passes ticks) next m event (asked, next_is, is, to) may orderly line_at awaits has tie at =
      as_is next (Submitting passes ticks) m event (Host_does asked) is to (λ later room. asks_tied laws.air ids m asked next_is (subst (May m) is may) (next_asked payloads m asked next_is (subst (May m) is may) tie.paid at).0 tie)
  event_ties (Moving passes ticks) next m event (rest, ways, is, to) may orderly line_at awaits has tie at =
      as_is next (Moved true passes ticks) m event (Outside_does (Chip_takes (length m.outside.outer.to_chip.bytes) rest ways)) is to
      (λ later room. part_tied_on passes m rest ways (subst (May m) is may) later (part_served passes m rest ways (subst (May m) is may) line_at has tie).1.tied)
  event_ties (Moved b passes ticks) next m event (rest, items, done, is, to) may orderly line_at awaits has tie at =
      as_is next (Sleeping passes ticks) m event (Host_takes (length m.outside.outer.to_host.bytes) rest items done) is to
      (λ later room. judged_tied laws.air b passes m rest items done (subst (May m) is may) line_at tie)
  event_ties here next m event goes may orderly line_at awaits has tie at = absurd goes

  -- ---- parts that begin

  to : (is next : Phase) (m : Machine) → next ≡ is → TieAt is m → TieAt next m
  to is next m same tie = subst (λ (q : Phase). TieAt q m) (sym same) tie

  pump_tied : (passes ticks : ℕ) (m : Machine) → LineAt (after_pump passes ticks) m → TieOf true m (on_line m.host.state.side.turn) → TieAt (after_pump passes ticks) m
  pump_tied zero ticks m later tie = rests_tied m later tie
  pump_tied (suc passes) ticks m later tie = tie

  asking_as : (m : Machine) → m.host.state.side.turn ≡ Idle → TieOf true m [] → TieOf true m (on_line m.host.state.side.turn)
  asking_as m idle tie = subst (TieOf true m) (sym (asking_none m idle)) tie

  turn_ties : (here next : Phase) (m : Machine) → Turns here m next → LineAt here m → LineAt next m → TieAt here m → TieAt next m
  turn_ties (Begun line) next m (inl (events, is, same)) line_at later tie = to (Doing line events) next m same tie
  turn_ties (Begun line) next m (inr (ticks, is, same)) line_at later tie = to (To_tick ticks) next m same tie
  turn_ties (Doing line []) next m same line_at later tie = to (Sleeping 64 0) next m same (tie_later m [] tie)
  turn_ties (To_tick zero) next m same line_at later tie = to Between next m same tie
  turn_ties (Ticked ticks) next m same line_at later tie = to (Arriving _ ticks) next m same tie
  turn_ties (Arriving zero ticks) next m same line_at later tie = to (Giving _ ticks) next m same tie
  turn_ties (Giving zero ticks) next m same line_at later tie = to (Ticking_devices 0 _ ticks) next m same tie
  turn_ties (Ticking_devices place zero ticks) next m same line_at later tie = to (Ticking_chip ticks) next m same tie
  turn_ties (Ticking_host [] ticks) next m same line_at later tie = to (Sleeping 64 ticks) next m same (counted_later tie.counted m [] tie.tie)
  turn_ties (Sleeping passes ticks) next m (none, same) line_at later tie = to (Submitting passes ticks) next m same (asking_as m (rests_turn passes m line_at) tie)
  turn_ties (Submitting passes ticks) next m (pumped, same) line_at later tie =
      to (after_pump passes ticks) next m same (pump_tied passes ticks m (subst (λ (q : Phase). LineAt q m) same later) tie)
  turn_ties (Moving passes ticks) next m (still, same) line_at later tie = to (Moved false passes ticks) next m same (subst (TieOf true m) (asking_none m (moving_turn passes m still line_at)) tie)
  turn_ties (Moved b passes ticks) next m (still, same) line_at later tie = to (Sleeping (passes_after b passes) ticks) next m same tie
  turn_ties here next m turns line_at later tie = absurd turns

  -- ---- the walk

  module _ (pumps : Pumped) (stays : StaysOnLine) (facts_kept : FactsKept) (opened : OpenedFacts) where
    lines : WalkWhere IsServed AsksNothing KnowLine
    lines = line_walk laws.air pumps

    pub tied_walk : (these : List Bool) → WalkWhere (IsOrderlyFor these) AsksNothing (KnowTied these)
    tied_walk these = record {
      said = λ past m words line read known. (
        tt,
        λ quiet. let both = quiet_both past (entry.Said words ∷ []) quiet in let here = known both.0 in ((said_quiet words line read both.1, here.0), here.1, tt, here.3, here.4, here.5, here.6, here.7),
      );
      event = λ here next past m event goes may orderly known. (
        nothing_asked past (entries m event),
        λ quiet.
            let at = known (quiet_both past (entries m event) quiet).0 in
            let served : IsServed m event = event_served here next m event goes may orderly.0 at.0 at.2 at.6 at.7 in
            let later : LineAt next (happens m event) = (lines.event here next past m event goes may served (λ said. at.0)).1 quiet in
            let room : RoomAt next (happens m event) = event_room laws.air here next m event goes may orderly.0 at.0 at.2 at.6 at.3 in
            (later, event_awaits laws here next m event goes may at.0 at.1, room, routed_on laws.air these here next m event goes may orderly.1 at.7.live served at.0 at.3, lines_on stays here next m event goes may at.0 at.6 at.4, pumped_on here next m event goes at.5, event_ties here next m event goes may orderly.0 at.0 at.1 at.2 at.6 at.7 later room, peopled_on payloads laws.air facts_kept opened here next m event goes may orderly.1 at.0 at.6 at.7),
      );
      turn = λ here next past m turns known quiet.
          let at = known quiet in
          let later : LineAt next m = lines.turn here next past m turns (λ said. at.0) quiet in
          (later, turn_awaits laws here next m turns at.1, turn_room here next m turns at.0 at.2, at.3, at.4, turn_pumped here next m turns at.5, turn_ties here next m turns at.0 later at.6, at.7);
    }

-- ---- between lines

-- it was answered, and acknowledged
fresh_answered : (progress : Progress) → IsFresh progress → is_answered progress ≡ true → is_busy Idle ≡ is_false (is_sent progress) → progress ≡ Answered true notice_ticks
fresh_answered Submitted fresh answered sent = absurd cc
fresh_answered (sent_for left) fresh answered sent = absurd cc
fresh_answered (Answered true left) fresh answered sent = ap (λ (n : ℕ). Answered true n) fresh
fresh_answered (Answered false left) fresh answered sent = absurd cc

pub request_rests : {these : List Bool} (m : Machine) → IsTied these m → RequestRests m
request_rests m is = record { none_due = is.routed.none_due; paid = is.tie.paid; request = by is.tie.tied (awaits_few m is.awaits is.rests) }
  where
    h : HostState
    h = m.host.state

    s : ChipState
    s = m.outside.outer.chip.state

    none_left : unheard m.outside.outer ≡ []
    none_left = rests_unheard m is.rests

    call_is : (call : Call) → IsOfFrame call → call ≡ OfFrame
    call_is OfFrame of_frame = refl
    call_is no_route_call of_frame = absurd of_frame

    answers : (u : UnderWay) → (is_answered u.progress ≡ true) ⊎ HasAnswer (unheard m.outside.outer) → is_answered u.progress ≡ true
    answers u (inl answered) = answered
    answers u (inr has) = absurd (subst HasAnswer none_left has)

    nothing_left : h.requests.under_way ≡ None → IsPumped h → HasNothing h
    nothing_left none (inl busy) = absurd (busy (record { none_under_way = none; free_line = ap is_busy is.rests.at_host.turn_is }))
    nothing_left none (inr nothing) = nothing

    by : Tied false (ends_of h s) (unheard m.outside.outer) [] → SendsFew m → (HasNone m × HasNothing h) ⊎ IsTaken m
    by (On_way u of fresh at) few = absurd (let no = at.asked in cc)
    by (Called u of fresh at) few = absurd (not_empty at.before (notice_frame (SendData h.requests.last_id at.status)) at.behind (sym at.are ∙ none_left))
    by (Nowhere at) (inl nothing) = inl (record { no_request = at.none; sends = nothing }, nothing_left at.none is.pumped)
    by (Nowhere at) (inr one) = absurd (let no : is_some s.sending ≡ false = ap (λ (o : Option Sending). is_some o) at.idle in let yes = one.sending in cc)
    by (At_chip u of fresh at) (inl nothing) = absurd (let yes : is_some s.sending ≡ true = ap (λ (o : Option Sending). is_some o) at.is_sending in let no = nothing.not_sending in cc)
    by (At_chip u of fresh at) (inr one) =
        let call : one.call ≡ OfFrame = call_is one.call (subst (AllByRecursion IsOfFrame) one.one_call is.routed.of_frames).0 in
        let line : IsOnLine (Some u) Idle = subst (λ (t : Turn). IsOnLine (Some u) t) is.rests.at_host.turn_is (subst (λ (o : Option UnderWay). IsOnLine o h.side.turn) of.under_way is.on_line) in
        let progress : u.progress ≡ Answered true notice_ticks = fresh_answered u.progress fresh (answers u at.answered) line in
        inr (record {
          purpose = u.purpose;
          under_way = of.under_way ∙ ap (λ (p : Progress). Some (record { purpose = u.purpose; progress = p })) progress;
          sends = of.sends;
          asks = at.asks;
          sending = at.is_sending;
          one_call = one.one_call ∙ ap (λ (c : Call). c ∷ []) call;
          one_flies = one.flies ∙ ap (λ (c : Call). one_if (of_frame c)) call;
        })
