-- A law that tells apart what a line has done, and nothing else in a line, is a walk; and which events the effect of a line has.
use Rattle.std.proofs.Common.{◌≡◌, ℕ, zero, suc, ◌+◌, true, false, inl, inr, List, [], ◌∷◌, ◌++◌, length, map, refl, sym, ap, ◌∙◌, subst, append-nil}
use Rattle.std.specs.Prelude.{Option, Some, None}
use Rattle.std.specs.List.{AllByRecursion}
use Rattle.zw_base.proofs.Each.{all-weaker}
use Rattle.zw_text.specs.declared.line.Line.{Line}
use Rattle.zw_text.specs.declared.line.Line.TheVariants as lines
use Rattle.zw_text.specs.declared.entry.Entry.{Entry}
use Rattle.zw_text.specs.declared.entry.Entry.TheVariants as entry
use Rattle.zw_text.specs.Transcript.{line_of, line_last, line_after}
use Rattle.zw_text.proofs.Views.{folded-append}
use Rattle.proof_host.specs.law_transcript.Lists.{EachAfter}
use Rattle.host_orders.specs.declared.refused.Refused.{Refused}
use Rattle.host_orders.specs.Refusals.{classes_of}
use Rattle.host_orders.specs.Errands.{send_refusal, send_text, get_refusal, get_text}
use Rattle.host_requests.specs.declared.task.Task.TheVariants as task
use Rattle.proof_host.specs.host_model.Outs.{Silent}
use Rattle.proof_host.specs.host_model.State.{HostState, node_of}
use Rattle.proof_host.specs.host_model.Events.{HostEvent, Accepts, Cancels, Joins as joins_host, Queues, Queues_interview, Queues_probe}
use Rattle.proof_host.specs.host_model.Pumping.{no_more_event, IsNext}
use Rattle.proof_host.proofs.Silence.{tick_silent}
use Rattle.proof_host.proofs.Submitted.{SubmittedAre, next_is, no_more_is}
use Rattle.proof_host.specs.host_model.May.{known_of}
use Rattle.proof_host.specs.host_model.Asking.{carriage_for, places_refusal, interview_refusal}
use Rattle.proof_host.specs.host_model.Ticking.{tick_events}
use Rattle.proof_device.specs.outside_model.Events.{OuterEvent, Begins_line, Joins, Repeats, Wakes_device, Sets_device, Discovers, outcome}
use Rattle.proof_device.specs.world_model.State.{Machine}
use Rattle.proof_device.specs.world_model.Events.{Event, Outside_does, Host_does, Host_takes, Decoder_ticks, happens, entries, May}
use Rattle.proof_device.specs.world_model.Lines.{IsRefusal, IsDone, Asks as asks_line, IsEffect}
use Rattle.proof_walk.specs.Phases.{Phase, Between, Said_line, Begun, Doing, To_tick, Ticked, Arriving, Giving, Ticking_devices, Ticking_chip, Ticking_decoder, Ticking_host, Sleeping, Submitting, Moving, Moved, Turns, Goes, passes_after}
use Rattle.proof_walk.specs.Walk.{Walk, TiedWalk}
use Rattle.proof_walk.specs.Outside.{CoversOuter}
use Rattle.proof_walk.specs.ByLine.{KnownOf, by_line, IsOfTick, IsCommon, CoversLine, IsAsked, OfEffect, Asked, begun, Opened, InLine, ByLine, TiedByLine}
use Rattle.proof_walk.proofs.Stepping.{Steps, event_then}

-- ---- which events the effect of a line has

module _ (Covers : OuterEvent → Type 0) where
  abbrev Covered : List Event → Type 0
  Covered events = AllByRecursion (OfEffect Covers) events

  these : (events are : List Event) → events ≡ are → Covered are → Covered events
  these events are is covered = subst Covered (sym is) covered

  refusal_covered : (line : Line) (events : List Event) → IsRefusal line events → Covered events
  refusal_covered line events (refusal, are) = these events _ are (tt, tt)

  done_covered : (line : Line) (are events : List Event) → Covered are → IsDone line are events → Covered events
  done_covered line are events covered (inl is) = these events are is covered
  done_covered line are events covered (inr refused) = refusal_covered line events refused

  asks_covered : (refused : Option Refused) (line : Line) (event : HostEvent) (events : List Event) → IsAsked event → asks_line refused line event events → Covered events
  asks_covered None line event events asked is = these events _ is (asked, tt)
  asks_covered (Some refused) line event events asked (refusal, shown, is) = these events _ is (tt, tt)

  one_covered : (event : OuterEvent) (inner : List OuterEvent) (events : List Event) → Covers event → inner ≡ event ∷ [] → events ≡ map Outside_does inner → Covered events
  one_covered event inner events covers one are = these events (Outside_does event ∷ []) (are ∙ ap (λ (l : List OuterEvent). map Outside_does l) one) (covers, tt)

  pub effect_asks : (line : Line) (m : Machine) (events : List Event) → CoversLine Covers line → IsEffect line m events → Covered events
  effect_asks (lines.Command order) m events covers is = done_covered (lines.Command order) (Host_does (Accepts order (carriage_for m.host.state order)) ∷ []) events (tt, tt) is
  effect_asks (lines.Tick count) m events covers is = absurd is
  effect_asks (lines.Cut size) m events covers is = these events _ is (covers, tt)
  effect_asks (lines.Stall ticks) m events covers is = these events _ is (covers, tt)
  effect_asks (lines.Drop by) m events covers is = these events _ is (covers, tt)
  effect_asks (lines.Garble by place xor) m events covers is = these events _ is (covers, tt)
  effect_asks lines.Collide m events covers is = these events _ is (covers, tt)
  effect_asks (lines.Send node word) m events covers is =
      asks_covered (send_refusal (known_of (node_of m.host.state node)) (length m.host.state.requests.queue) word) (lines.Send node word)
      (Queues (task.Plain node (send_text (classes_of (known_of (node_of m.host.state node))) word))) events tt is
  effect_asks (lines.Get node end) m events covers is =
      asks_covered (get_refusal (known_of (node_of m.host.state node)) (length m.host.state.requests.queue) end) (lines.Get node end)
      (Queues (task.Plain node (get_text (classes_of (known_of (node_of m.host.state node))) end))) events tt is
  effect_asks (lines.Join node) m events covers is = done_covered (lines.Join node) (Host_does (joins_host node) ∷ Outside_does (Joins node) ∷ []) events (tt, (covers, tt)) is
  effect_asks (lines.Interview node) m events covers is = asks_covered (interview_refusal m.host.state node) (lines.Interview node) (Queues_interview node) events tt is
  effect_asks (lines.Lose count) m events covers is = these events _ is (covers, tt)
  effect_asks (lines.LoseAck count) m events covers is = these events _ is (covers, tt)
  effect_asks (lines.Repeat frame) m events covers (inner, (drawn, route, one), are) = one_covered (Repeats frame drawn route) inner events (covers drawn route) one are
  effect_asks (lines.Wake node) m events covers (inner, (route, one), are) = one_covered (Wakes_device node route) inner events (covers route) one are
  effect_asks (lines.Cancel command) m events covers is = done_covered (lines.Cancel command) (Host_does (Cancels command) ∷ []) events (tt, tt) is
  effect_asks (lines.Link first second) m events covers is = these events _ is (covers, tt)
  effect_asks (lines.Unlink first second) m events covers is = these events _ is (covers, tt)
  effect_asks lines.Discover m events covers (asked, asks, are) =
      these events (Outside_does Discovers ∷ asked) are (covers, asks_covered (places_refusal m.host.state 1) lines.Discover (Queues task.Members) asked tt asks)
  effect_asks (lines.Neighbours node) m events covers is = asks_covered (places_refusal m.host.state 1) (lines.Neighbours node) (Queues (task.Neighbours node)) events tt is
  effect_asks (lines.Failed node) m events covers is = asks_covered (places_refusal m.host.state 1) (lines.Failed node) (Queues (task.IsFailed node)) events tt is
  effect_asks lines.Probe m events covers is = asks_covered (places_refusal m.host.state 3) lines.Probe Queues_probe events tt is
  effect_asks (lines.Local node value) m events covers (inner, (route, one), are) = one_covered (Sets_device node value route) inner events (covers route) one are
  effect_asks (lines.Show node) m events covers is = these events _ is (covers, tt)
  effect_asks (lines.Store node) m events covers is = these events _ is (covers, tt)
  effect_asks lines.Restart m events covers (inl (state, is)) = these events _ is (tt, (covers.0, (covers.1, tt)))
  effect_asks lines.Restart m events covers (inr refused) = refusal_covered lines.Restart events refused

  effect_outside : (event : Event) → OfEffect Covers event → CoversOuter Covers event
  effect_outside (Outside_does event) covers = covers
  effect_outside event covers = tt

  pub effect_covered : (line : Line) (m : Machine) (events : List Event) → CoversLine Covers line → IsEffect line m events → AllByRecursion (CoversOuter Covers) events
  effect_covered line m events covers is = all-weaker (OfEffect Covers) (CoversOuter Covers) effect_outside events (effect_asks line m events covers is)

  -- and so an event that is no line's own, where those of ticks and settlings are covered
  pub common_covered : ((event : OuterEvent) → IsOfTick event → Covers event) → (event : Event) → IsCommon event → CoversOuter Covers event
  common_covered of_tick (Outside_does event) common = of_tick event common
  common_covered of_tick (Host_does event) common = tt
  common_covered of_tick (Host_takes count rest items events) common = tt
  common_covered of_tick Decoder_ticks common = tt
  common_covered of_tick event common = absurd common

-- ---- where a line begins

pub last_is : (before : List Entry) (e : Entry) → line_last (before ++ e ∷ []) ≡ line_of e
last_is before e = folded-append line_after [] before (e ∷ [])

pub said_last : (Tied : KnownOf) (line : Line) (past : List Entry) (m : Machine) (asked : Asked Tied line past m) → line_last past ≡ line ∷ []
said_last Tied line past m asked = ap (λ (l : List Entry). line_last l) asked.is ∙ (last_is asked.before (entry.Said asked.words) ∙ asked.read)

pub begins_none : (m : Machine) → entries m (Outside_does Begins_line) ≡ []
unfolding entries outcome
begins_none m = refl

pub opens : (Asks : List Entry → Entry → Type 0) (Tied : KnownOf) (line : Line) (past : List Entry) (m : Machine) → Asked Tied line past m
    → EachAfter Asks past (entries m (Outside_does Begins_line)) × Opened Tied line (past ++ entries m (Outside_does Begins_line)) (begun m)
opens Asks Tied line past m asked =
    subst (λ (told : List Entry). EachAfter Asks past told × Opened Tied line (past ++ told) (begun m)) (sym (begins_none m))
    (tt, (m, record { before = asked.before; words = asked.words; is = append-nil past ∙ asked.is; read = asked.read; ties = asked.ties }, refl))

-- ---- the walk

-- what a host does in a pump answers no line
pub no_more_silent : (h : HostState) (n : ℕ) → Silent (no_more_event h n ∷ [])
no_more_silent h n = no_more_is (λ event. Silent (event ∷ [])) (record { queues = λ n. (λ g. refl, tt); drops = λ n. (λ g. refl, tt) }) h n

pub next_silent : (h : HostState) (event : HostEvent) → IsNext h event → Silent (event ∷ [])
next_silent h event next = next_is (λ event. Silent (event ∷ [])) each h event next
  where
    each : SubmittedAre (λ event. Silent (event ∷ []))
    each = record {
      abort = (λ g. refl, tt);
      front = (λ g. refl, tt);
      starts = λ n plan more payload. (λ g. refl, tt);
      text = λ n payload. (λ g. refl, tt);
      segment = λ n more payload. (λ g. refl, tt);
      begins = λ n session command. (λ g. refl, tt);
      unkept = λ n. (λ g. refl, tt);
    }

module _ (Asks : List Entry → Entry → Type 0) (Words Opened : Line → KnownOf) (Left : Line → List Event → KnownOf) (Else : KnownOf) (law : InLine Asks Words Opened Left Else) where
  abbrev Know : Phase → KnownOf
  Know = by_line Words Opened Left Else

  -- what is entered at an event, and known after it
  abbrev Keeps : Phase → List Entry → Machine → Event → Type 0
  Keeps = Steps Asks Know

  -- an event that is no line's own
  common : (next to : Phase) (event is : Event) (past : List Entry) (m : Machine) → event ≡ is → next ≡ to → IsCommon is → May m event → Else past m
      → ((later : List Entry) (n : Machine) → Else later n → Know to later n) → Keeps next past m event
  common next to event is past m event_is next_is of_none may known there =
      let got = law.common past m is of_none (subst (May m) event_is may) known in
      event_then Asks Know next to event is past m event_is next_is (got.0, there (past ++ entries m is) (happens m is) got.1)

  event_keeps : (here next : Phase) (past : List Entry) (m : Machine) (event : Event) → Goes here m event next → May m event → Know here past m → Keeps next past m event
  event_keeps (Said_line line) next past m event (event_is, next_is) may known =
      event_then Asks Know next (Begun line) event (Outside_does Begins_line) past m event_is next_is (law.begins line past m known)
  event_keeps (Doing line (first ∷ left)) next past m event (event_is, next_is) may known =
      event_then Asks Know next (Doing line left) event first past m event_is next_is (law.does line first left past m (subst (May m) event_is may) known)
  event_keeps (To_tick (suc ticks)) next past m event (event_is, next_is) may known = common next (Ticked ticks) event _ past m event_is next_is tt may known (λ p n k. k)
  event_keeps (Arriving (suc frames) ticks) next past m event (drawn, route, event_is, next_is) may known =
      common next (Arriving frames ticks) event _ past m event_is next_is tt may known (λ p n k. k)
  event_keeps (Giving (suc results) ticks) next past m event (route, event_is, next_is) may known =
      common next (Giving results ticks) event _ past m event_is next_is tt may known (λ p n k. k)
  event_keeps (Ticking_devices place (suc count) ticks) next past m event (drawn, route, event_is, next_is) may known =
      common next (Ticking_devices (place + 1) count ticks) event _ past m event_is next_is tt may known (λ p n k. k)
  event_keeps (Ticking_chip ticks) next past m event (event_is, next_is) may known = common next (Ticking_decoder ticks) event _ past m event_is next_is tt may known (λ p n k. k)
  event_keeps (Ticking_decoder ticks) next past m event (event_is, next_is) may known =
      common next (Ticking_host (tick_events m.host.state) ticks) event _ past m event_is next_is tt may known (λ p n k. (tick_silent m.host.state, k))
  event_keeps (Ticking_host (first ∷ events) ticks) next past m event (event_is, next_is) may known =
      common next (Ticking_host events ticks) event _ past m event_is next_is (known.0.0, tt) may known.1 (λ p n k. (known.0.1, k))
  event_keeps (Sleeping passes ticks) next past m event (node, wants, event_is, next_is) may known =
      common next (Sleeping passes ticks) event _ past m event_is next_is (no_more_silent m.host.state node) may known (λ p n k. k)
  event_keeps (Submitting passes ticks) next past m event (asked, is, event_is, next_is) may known =
      common next (Submitting passes ticks) event _ past m event_is next_is (next_silent m.host.state asked is) may known (λ p n k. k)
  event_keeps (Moving passes ticks) next past m event (rest, ways, event_is, next_is) may known =
      common next (Moved true passes ticks) event _ past m event_is next_is tt may known (λ p n k. k)
  event_keeps (Moved has_moved passes ticks) next past m event (rest, items, done, event_is, next_is) may known =
      common next (Sleeping passes ticks) event _ past m event_is next_is tt may known (λ p n k. k)
  event_keeps here next past m event goes may known = absurd goes

  -- a part begins
  to : (next phase : Phase) (past : List Entry) (m : Machine) → next ≡ phase → Know phase past m → Know next past m
  to next phase past m is known = subst (λ (q : Phase). Know q past m) (sym is) known

  turn_keeps : (here next : Phase) (past : List Entry) (m : Machine) → Turns here m next → Know here past m → Know next past m
  turn_keeps (Begun line) next past m (inl (events, is, next_is)) known = to next (Doing line events) past m next_is (law.effect line past m events is known)
  turn_keeps (Begun line) next past m (inr (ticks, line_is, next_is)) known =
      to next (To_tick ticks) past m next_is (law.ticks ticks past m (subst (λ (l : Line). Opened l past m) line_is known))
  turn_keeps (Doing line []) next past m next_is known = to next (Sleeping 64 0) past m next_is (law.done line past m known)
  turn_keeps (To_tick zero) next past m next_is known = to next Between past m next_is known
  turn_keeps (Ticked ticks) next past m next_is known = to next _ past m next_is known
  turn_keeps (Arriving zero ticks) next past m next_is known = to next _ past m next_is known
  turn_keeps (Giving zero ticks) next past m next_is known = to next _ past m next_is known
  turn_keeps (Ticking_devices place zero ticks) next past m next_is known = to next _ past m next_is known
  turn_keeps (Ticking_host [] ticks) next past m next_is known = to next (Sleeping 64 ticks) past m next_is known.1
  turn_keeps (Sleeping passes ticks) next past m (wants, next_is) known = to next (Submitting passes ticks) past m next_is known
  turn_keeps (Submitting zero ticks) next past m (pumped, next_is) known = to next (To_tick ticks) past m next_is known
  turn_keeps (Submitting (suc passes) ticks) next past m (pumped, next_is) known = to next (Moving passes ticks) past m next_is known
  turn_keeps (Moving passes ticks) next past m (still, next_is) known = to next (Moved false passes ticks) past m next_is known
  turn_keeps (Moved has_moved passes ticks) next past m (still, next_is) known = to next (Sleeping (passes_after has_moved passes) ticks) past m next_is known
  turn_keeps here next past m turns known = absurd turns

module _ (Asks : List Entry → Entry → Type 0) (Words Opened : Line → KnownOf) (Left : Line → List Event → KnownOf) (Else : KnownOf) where
  pub walk_of : ByLine Asks Words Opened Left Else → Walk Asks (by_line Words Opened Left Else)
  walk_of law = record { said = law.said; event = event_keeps Asks Words Opened Left Else law.in_line; turn = turn_keeps Asks Words Opened Left Else law.in_line }

  pub tied_walk_of : (Tied : KnownOf) → TiedByLine Tied Asks Words Opened Left Else → TiedWalk Tied Asks (by_line Words Opened Left Else)
  tied_walk_of Tied law = record { said = law.said; event = event_keeps Asks Words Opened Left Else law.in_line; turn = turn_keeps Asks Words Opened Left Else law.in_line }
