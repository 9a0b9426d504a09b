-- From phase to phase of lines for some nodes, the host has to do with these alone, and these alone speak on the air.
use Rattle.std.proofs.Common.{◌≡◌, ℕ, zero, suc, ◌+◌, Bool, true, false, inl, inr, List, [], ◌∷◌, ◌++◌, map, length, sym, ap, ◌∙◌, subst}
use Rattle.std.proofs.lemmas.Bool.{and_parts}
use Rattle.std.specs.Prelude.{Some}
use Rattle.std.specs.List.{AllByRecursion, list_all}
use Rattle.zw_text.specs.declared.line.Line.{Line}
use Rattle.zw_text.specs.declared.line.Line.TheVariants as lines
use Rattle.zw_text.specs.declared.entry.Entry.{Entry}
use Rattle.zw_text.specs.declared.entry.Entry.TheVariants as entry
use Rattle.zw_text.specs.Transcript.{line_of, lines_run}
use Rattle.zw_text.proofs.Views.{shown-append}
use Rattle.law_transcript.proofs.Deciding.{not_true}
use Rattle.law_time.specs.Stretches.{is_quiet_line}
use Rattle.zw_base.proofs.Each.{all-weaker}
use Rattle.zw_base.specs.declared.order.Order.{Order}
use Rattle.host_orders.specs.declared.carriage.Carriage.{Carriage}
use Rattle.host_model.specs.Events.{HostEvent, Accepts}
use Rattle.air_frames.specs.Flown.{Flown}
use Rattle.air_frames.specs.Frames.{next_of}
use Rattle.chip_sim.specs.Nodes.{is_marked}
use Rattle.outside_model.specs.Events.{OuterEvent, Wakes_device, devices_after, outcome, ticked_entry}
use Rattle.world_model.specs.Events.{Event, Outside_does, Host_does, Host_takes, Decoder_ticks, Refuses, Restarts, Shows_values, happens, entries, May}
use Rattle.world_model.specs.Lines.{IsEffect as IsLineEffect}
use Rattle.world_model.specs.State.{Machine, host_does, host_entries}
use Rattle.proof_calm.specs.proof_work.Phases.{AsksNothing}
use Rattle.proof_calm.specs.proof_work.proof_walk.Phases.{Phase, Between, Said_line, Begun, Doing, To_tick, Ticked, Arriving, Giving, Ticking_devices, Ticking_chip, Ticking_decoder, Ticking_host, Sleeping, Submitting, Moving, Moved, Goes, Turns, after_pump, passes_after}
use Rattle.proof_calm.specs.proof_work.proof_walk.Outside.{CoversOuter}
use Rattle.proof_calm.specs.proof_work.proof_walk.Walk.{WalkWhere}
use Rattle.proof_calm.proofs.proof_traffic_Parts.{Airs}
use Rattle.proof_calm.specs.proof_traffic.OnAir.{on_air}
use Rattle.proof_calm.specs.Awaited.{Awaits}
use Rattle.proof_calm.specs.Marks.{IsQuietEvent}
use Rattle.proof_calm.specs.Resting.{LineAt}
use Rattle.proof_calm.specs.Tied.{unheard}
use Rattle.proof_calm.proofs.Peopled.{covers_of}
use Rattle.proof_calm.proofs.Quiet.{all_both}
use Rattle.proof_calm.proofs.Unmarked.{nothing_asked}
use Rattle.world_model.proofs.Hosting.{devices_host-all}
use Rattle.proof_answered.specs.Heard.{IsHeardThen}
use Rattle.proof_answered.specs.Outward.{IsOf, IsOfSaying, IsSentTo}
use Rattle.proof_answered.specs.Workers.{AllFrom, IsAway, IsFrom, IsFromSaying, IsLineFor, IsOrderFor, IsWorkedFor, IsWorkFor, IsWorkHeard, KnowStaff, KnowWorkers, LinesAt, OnlySpeak, Staffed, is_accepted_for, is_line_for}
use Rattle.proof_answered.proofs.Outwards.{awaits_of}
use Rattle.proof_answered.proofs.Speaking.{AnyText, Same, event_of, next_is_so, outside_away, pending_from, speak_any}
use Rattle.proof_answered.proofs.Staffing.{sent_on}
use Rattle.proof_answered.proofs.Walking.{stretched_before, takes_still}
use Rattle.proof_answered.proofs.WokenLast.{woken_before}

-- ---- lines that were said

pub worked_before : (these : List Bool) (past told : List Entry) → IsWorkedFor these (past ++ told) → IsWorkedFor these past
worked_before these past told is = record {
  stretched = stretched_before past told is.stretched;
  lines = (all_both (is_line_for these) (lines_run past) (lines_run told) (ap (λ (ls : List Line). list_all (is_line_for these) ls) (sym (shown-append line_of past told)) ∙ is.lines)).0;
  accepted = (all_both (is_accepted_for these) past told is.accepted).0;
  woken = λ n marked. woken_before n past told (is.woken n marked);
}

worked_said : (these : List Bool) (past : List Entry) (words : List ℕ) (line : Line) → line_of (entry.Said words) ≡ line ∷ [] → IsWorkedFor these (past ++ entry.Said words ∷ []) → is_line_for these line ≡ true
worked_said these past words line read is =
    let both = all_both (is_line_for these) (lines_run past) (lines_run (entry.Said words ∷ [])) (ap (λ (ls : List Line). list_all (is_line_for these) ls) (sym (shown-append line_of past (entry.Said words ∷ []))) ∙ is.lines) in
    (and_parts (is_line_for these line) true (ap (λ (ls : List Line). list_all (is_line_for these) (ls ++ [])) (sym read) ∙ both.1)).0

-- ---- an order that is accepted

accepted_marked : (these : List Bool) (m : Machine) (order : Order) (carriage : Carriage) → list_all (is_accepted_for these) (entries m (Host_does (Accepts order carriage))) ≡ true → is_marked these order.node ≡ true
unfolding entries outcome
accepted_marked these m order carriage all =
    let event : HostEvent = Accepts order carriage in
    let does : Machine = host_does m (event ∷ []) in
    let answer : Entry = entry.Accepted (length m.host.state.commands + 1) order.node in
    let noted : List Entry = ticked_entry does.outside.outer ++ answer ∷ [] in
    let answered = (all_both (is_accepted_for these) (host_entries m (event ∷ [])) (noted ++ []) all).1 in
    let stamped = (all_both (is_accepted_for these) noted [] answered).0 in
    let alone = (all_both (is_accepted_for these) (ticked_entry does.outside.outer) (answer ∷ []) stamped).1 in
    (and_parts (is_marked these order.node) true alone).0

order_marked : (these : List Bool) (m : Machine) (event : HostEvent) → list_all (is_accepted_for these) (entries m (Host_does event)) ≡ true → IsOrderFor these event
order_marked these m (Accepts order carriage) all = accepted_marked these m order carriage all
order_marked these m event all = tt

-- ---- what a line does

these_do : (these : List Bool) (events are : List Event) → events ≡ are → AllByRecursion (IsLineFor these) are → AllByRecursion (IsLineFor these) events
these_do these events are is all = subst (AllByRecursion (IsLineFor these)) (sym is) all

effect_for : (these : List Bool) (line : Line) (m : Machine) (events : List Event) → is_quiet_line line ≡ true → is_line_for these line ≡ true → IsLineEffect line m events → AllByRecursion (IsLineFor these) events
effect_for these (lines.Command order) m events quiet is_for (inl is) = these_do these events _ is (tt, tt)
effect_for these (lines.Command order) m events quiet is_for (inr (refusal, is)) = these_do these events _ is (tt, tt)
effect_for these (lines.Tick count) m events quiet is_for is = absurd is
effect_for these (lines.Cut size) m events quiet is_for is = these_do these events _ is (tt, tt)
effect_for these (lines.Wake node) m events quiet is_for (inner, (route, one), are) =
    these_do these events (Outside_does (Wakes_device node route) ∷ []) (are ∙ ap (λ (l : List OuterEvent). map Outside_does l) one) (is_for, tt)
effect_for these (lines.Show node) m events quiet is_for is = these_do these events _ is (tt, tt)
effect_for these (lines.Store node) m events quiet is_for is = these_do these events _ is (tt, tt)
effect_for these line m events quiet is_for is = absurd (not_true quiet)

-- ---- at each phase

line_as : (these : List Bool) (event is : Event) → event ≡ is → IsLineFor these is → IsLineFor these event
line_as these event is same is_for = subst (IsLineFor these) (sym same) is_for

pub line_on : (these : List Bool) (here next : Phase) (m : Machine) (event : Event) → Goes here m event next → LinesAt these here → IsLineFor these event
line_on these (Said_line line) next m event (is, to) at = line_as these event _ is tt
line_on these (Doing line (first ∷ left)) next m event (is, to) at = line_as these event first is at.0
line_on these (To_tick (suc ticks)) next m event (is, to) at = line_as these event _ is tt
line_on these (Arriving (suc frames) ticks) next m event (drawn, route, is, to) at = line_as these event _ is tt
line_on these (Giving (suc results) ticks) next m event (route, is, to) at = line_as these event _ is tt
line_on these (Ticking_devices place (suc count) ticks) next m event (drawn, route, is, to) at = line_as these event _ is tt
line_on these (Ticking_chip ticks) next m event (is, to) at = line_as these event _ is tt
line_on these (Ticking_decoder ticks) next m event (is, to) at = line_as these event _ is tt
line_on these (Ticking_host (first ∷ events) ticks) next m event (is, to) at = line_as these event _ is tt
line_on these (Sleeping passes ticks) next m event (node, wants, is, to) at = line_as these event _ is tt
line_on these (Submitting passes ticks) next m event (asked, next_is_so, is, to) at = line_as these event _ is tt
line_on these (Moving passes ticks) next m event (rest, ways, is, to) at = line_as these event _ is tt
line_on these (Moved b passes ticks) next m event (rest, items, done, is, to) at = line_as these event _ is tt
line_on these here next m event goes at = absurd goes

lines_to : (these : List Bool) (is next : Phase) → next ≡ is → LinesAt these is → LinesAt these next
lines_to these is next same at = subst (LinesAt these) (sym same) at

lines_next : (these : List Bool) (here next : Phase) (m : Machine) (event : Event) → Goes here m event next → LinesAt these here → LinesAt these next
lines_next these (Said_line line) next m event (is, to) at = lines_to these (Begun line) next to at
lines_next these (Doing line (first ∷ left)) next m event (is, to) at = lines_to these (Doing line left) next to at.1
lines_next these (To_tick (suc ticks)) next m event (is, to) at = lines_to these (Ticked ticks) next to tt
lines_next these (Arriving (suc frames) ticks) next m event (drawn, route, is, to) at = lines_to these (Arriving frames ticks) next to tt
lines_next these (Giving (suc results) ticks) next m event (route, is, to) at = lines_to these (Giving results ticks) next to tt
lines_next these (Ticking_devices place (suc count) ticks) next m event (drawn, route, is, to) at = lines_to these (Ticking_devices _ count ticks) next to tt
lines_next these (Ticking_chip ticks) next m event (is, to) at = lines_to these (Ticking_decoder ticks) next to tt
lines_next these (Ticking_decoder ticks) next m event (is, to) at = lines_to these (Ticking_host _ ticks) next to tt
lines_next these (Ticking_host (first ∷ events) ticks) next m event (is, to) at = lines_to these (Ticking_host events ticks) next to tt
lines_next these (Sleeping passes ticks) next m event (node, wants, is, to) at = lines_to these (Sleeping passes ticks) next to tt
lines_next these (Submitting passes ticks) next m event (asked, next_is_so, is, to) at = lines_to these (Submitting passes ticks) next to tt
lines_next these (Moving passes ticks) next m event (rest, ways, is, to) at = lines_to these (Moved true passes ticks) next to tt
lines_next these (Moved b passes ticks) next m event (rest, items, done, is, to) at = lines_to these (Sleeping passes ticks) next to tt
lines_next these here next m event goes at = absurd goes

pump_lines : (these : List Bool) (passes ticks : ℕ) → LinesAt these (after_pump passes ticks)
pump_lines these zero ticks = tt
pump_lines these (suc passes) ticks = tt

lines_turn : (these : List Bool) (here next : Phase) (m : Machine) → Turns here m next → LineAt here m → LinesAt these here → LinesAt these next
lines_turn these (Begun line) next m (inl (events, is, same)) line_at at = lines_to these (Doing line events) next same (effect_for these line m events line_at.0 at is)
lines_turn these (Begun line) next m (inr (ticks, is, same)) line_at at = lines_to these (To_tick ticks) next same tt
lines_turn these (Doing line []) next m same line_at at = lines_to these (Sleeping 64 0) next same tt
lines_turn these (To_tick zero) next m same line_at at = lines_to these Between next same tt
lines_turn these (Ticked ticks) next m same line_at at = lines_to these (Arriving _ ticks) next same tt
lines_turn these (Arriving zero ticks) next m same line_at at = lines_to these (Giving _ ticks) next same tt
lines_turn these (Giving zero ticks) next m same line_at at = lines_to these (Ticking_devices 0 _ ticks) next same tt
lines_turn these (Ticking_devices place zero ticks) next m same line_at at = lines_to these (Ticking_chip ticks) next same tt
lines_turn these (Ticking_host [] ticks) next m same line_at at = lines_to these (Sleeping 64 ticks) next same tt
lines_turn these (Sleeping passes ticks) next m (none, same) line_at at = lines_to these (Submitting passes ticks) next same tt
lines_turn these (Submitting passes ticks) next m (pumped, same) line_at at = lines_to these (after_pump passes ticks) next same (pump_lines these passes ticks)
lines_turn these (Moving passes ticks) next m (still, same) line_at at = lines_to these (Moved false passes ticks) next same tt
lines_turn these (Moved b passes ticks) next m (still, same) line_at at = lines_to these (Sleeping (passes_after b passes) ticks) next same tt
lines_turn these here next m turns line_at at = absurd turns

-- ---- who speaks

work_of : (these : List Bool) (m : Machine) (event : Event) → list_all (is_accepted_for these) (entries m event) ≡ true → AllFrom these (unheard m.outside.outer) → IsWorkFor these m event
work_of these m (Outside_does event) accepted pending = tt
work_of these m (Host_does event) accepted pending = order_marked these m event accepted
work_of these m (Host_takes count rest items events) accepted pending = pending
work_of these m event accepted pending = tt

module _ (airs : Airs) (same : Same) (these : List Bool) (many : length these ≡ 233) where
  event_away : (m : Machine) (event : Event) → CoversOuter IsQuietEvent event → IsLineFor these event → ((frame : Flown) → next_of m.outside.outer.air.frames ≡ Some frame → is_marked these frame.node ≡ true)
      → AllByRecursion (IsAway these) m.outside.devices → AllByRecursion (IsAway these) (happens m event).outside.devices
  unfolding happens devices_after
  event_away m (Outside_does event) covers is_for marked all = outside_away same these m.outside all event covers is_for marked
  event_away m (Host_does event) covers is_for marked all = subst (AllByRecursion (IsAway these)) (sym (devices_host-all m (event ∷ []))) all
  event_away m (Host_takes count rest items events) covers is_for marked all = subst (AllByRecursion (IsAway these)) (sym (takes_still airs m count rest items events)) all
  event_away m Decoder_ticks covers is_for marked all = all
  event_away m (Refuses line refusal) covers is_for marked all = all
  event_away m (Shows_values node) covers is_for marked all = all
  event_away m (Restarts state) covers is_for marked all = all

  module _ (workers : WalkWhere (IsWorkHeard these) AsksNothing (KnowWorkers these)) where
    does_all : (here next : Phase) (past : List Entry) (m : Machine) (event : Event) → Goes here m event next → May m event → IsHeardThen m event → IsWorkedFor these (past ++ entries m event) → KnowStaff these here past m
        → KnowWorkers these next (past ++ entries m event) (happens m event) × Staffed these next (happens m event)
    does_all here next past m event goes may heard is known =
        let before = worked_before these past (entries m event) is in
        let at = known before in
        let speak : OnlySpeak these m = at.1.speak in
        let tied = (at.0.0 before.stretched).0.tied before.stretched.quiet in
        let is_for : IsLineFor these event = line_on these here next m event goes at.1.lines in
        let accepted = (all_both (is_accepted_for these) past (entries m event) is.accepted).1 in
        let later = (workers.event here next past m event goes may (work_of these m event accepted speak.pending, heard) at.0).1 in
        let next_tied = (later.0 is.stretched).0.tied is.stretched.quiet in
        let awaits : Awaits m = awaits_of here m tied.1 in
        let covers = covers_of here next m event goes tied.0 in
        let sent : IsSentTo these m event = sent_on these here next m event goes may tied.0 tied.6 (at.0.1 before.stretched).request in
        let frames = all-weaker (IsOf these) (IsOfSaying these AnyText) (λ frame of. (of, λ home. tt)) (on_air m.outside.outer.air.frames) speak.frames in
        let pending = all-weaker (IsFrom these) (IsFromSaying these AnyText) (λ frame from n payload is. (from n payload is, tt)) (unheard m.outside.outer) speak.pending in
        let next_is = next_is_so airs these AnyText many m awaits frames in
        let devices = speak_any these m.outside.devices in (
          later,
          record {
            lines = lines_next these here next m event goes at.1.lines;
            speak = record {
              frames = all-weaker (IsOfSaying these AnyText) (IsOf these) (λ frame of. of.0) (on_air (happens m event).outside.outer.air.frames)
                  (event_of airs these AnyText many m awaits frames same event covers may sent is_for speak.devices devices);
              devices = event_away m event covers is_for (λ frame next. (next_is frame next).0) speak.devices;
              pending = all-weaker (IsFromSaying these AnyText) (IsFrom these) (λ frame from n payload is. (from n payload is).0) (unheard (happens m event).outside.outer)
                  (pending_from these AnyText airs here next m event goes may (tied.0, tied.2, tied.3, tied.6) tied.1 next_tied.0 next_is pending);
            };
          },
        )

    pub staff_walk : WalkWhere IsHeardThen AsksNothing (KnowStaff these)
    staff_walk = record {
      said = λ past m words line read known. (
        tt,
        λ is.
            let at = known (worked_before these past (entry.Said words ∷ []) is) in
            ((workers.said past m words line read at.0).1, record { lines = worked_said these past words line read is; speak = at.1.speak }),
      );
      event = λ here next past m event goes may heard known. (nothing_asked past (entries m event), λ is. does_all here next past m event goes may heard is known);
      turn = λ here next past m turns known is.
          let at = known is in
          let tied = (at.0.0 is.stretched).0.tied is.stretched.quiet in
          (workers.turn here next past m turns at.0, record { lines = lines_turn these here next m turns tied.0 at.1.lines; speak = at.1.speak });
    }
