-- At each phase of a line as many ticks have begun as lines have asked for, but for those to come; numbers of ticks rise.
use Rattle.std.proofs.Common.{◌≡◌, ◌≤◌, ◌<◌, ℕ, zero, suc, ◌+◌, ◌&&◌, not, Bool, true, false, if◌then◌else◌, List, [], ◌∷◌, ◌++◌, inl, inr, refl, sym, ap, subst, ◌∙◌, append-nil, arith}
use Rattle.zw_text.specs.declared.line.Line.{Line}
use Rattle.zw_text.specs.declared.line.Line.TheVariants as lines
use Rattle.zw_text.specs.declared.entry.Entry.{Entry}
use Rattle.zw_text.specs.declared.entry.Entry.TheVariants as entry
use Rattle.zw_text.specs.Transcript.{line_of, lines_run, tick_at, ticks, last_number, time_of}
use Rattle.zw_text.proofs.Views.{shown-append}
use Rattle.proof_host.specs.law_transcript.Lists.{EachAfter}
use Rattle.proof_host.specs.law_transcript.Restarts.{ticks_of, ticks_asked}
use Rattle.proof_host.proofs.Lists.{each-anywhere}
use Rattle.proof_host.specs.host_model.Ticking.{tick_events}
use Rattle.proof_device.specs.outside_model.State.{OuterState, Outside, first_outer}
use Rattle.proof_device.specs.outside_model.Events.{Begins_tick, outcome, devices_after, ticked_entry}
use Rattle.proof_device.specs.world_model.State.{Machine}
use Rattle.proof_device.specs.world_model.Events.{Event, Outside_does, happens, entries, May}
use Rattle.proof_device.specs.world_model.Lines.{IsEffect}
use Rattle.proof_walk.specs.Phases.{Phase, Between, Said_line, Begun, Doing, To_tick, Ticked, Arriving, Giving, Ticking_devices, Ticking_chip, Ticking_decoder, Ticking_host, Sleeping, Submitting, Moving, Moved, Turns, Goes}
use Rattle.proof_walk.specs.Walk.{Walk}
use Rattle.proof_walk.specs.Outside.{Moves, Link, CoversOuter}
use Rattle.proof_walk.specs.ByLine.{CoversLine}
use Rattle.proof_walk.specs.Time.{MayCount, TieTime, BeginsNoTick, KnownTime, KnowTime}
use Rattle.proof_walk.proofs.Linking.{of_link}
use Rattle.proof_walk.proofs.Machines.{machine_keeps}
use Rattle.proof_walk.proofs.ByLine.{effect_covered}
use Rattle.proof_walk.proofs.Stepping.{Steps, event_then}
use Rattle.proof_walk.proofs.Untimed.{IsUntimed, AreUntimed, same_lines, same_time, hosts_no_tick, untimed_law}

-- ---- numbers

untimed_stands : (past : List Entry) (e : Entry) → IsUntimed e → MayCount past e
untimed_stands past (entry.Time tick) untimed = absurd untimed
untimed_stands past e untimed = tt

pub last_of_more : (before : ℕ) (ns : List ℕ) (n : ℕ) → last_number before (ns ++ n ∷ []) ≡ n
last_of_more before [] n = refl
last_of_more before (first ∷ ns) n = last_of_more first ns n

-- ---- the law outside the host

module _ (extra : ℕ) where
  -- the clock stays
  untimed : (w later : Outside) (told : List Entry) → AreUntimed told → later.outer.clock ≡ w.outer.clock → Moves MayCount (TieTime extra) w told (TieTime extra) later
  untimed w later told none same awaits past silent tie =
      let shown : time_of (past ++ told) ≡ time_of past = same_time past told none in (
        each-anywhere MayCount IsUntimed untimed_stands past told none,
        record {
          clock = ap (λ (n : ℕ). n + extra) same ∙ (tie.clock ∙ ap ticks_asked (sym (same_lines past told none)));
          shown = subst (λ (n : ℕ). time_of (past ++ told) ≤ n) (sym same) (subst (λ (n : ℕ). n ≤ w.outer.clock) (sym shown) tie.shown);
          later = λ waits. subst (λ (n : ℕ). time_of (past ++ told) < n) (sym same) (subst (λ (n : ℕ). n < w.outer.clock) (sym shown) (tie.later waits));
        },
      )

  -- its number is the last
  number_last : (past : List Entry) (w : Outside) → TieTime extra true past w → TieTime extra false (past ++ entry.Time w.outer.clock ∷ []) w
  number_last past w tie =
      let is : time_of (past ++ entry.Time w.outer.clock ∷ []) ≡ w.outer.clock =
      ap (last_number 0) (shown-append tick_at past (entry.Time w.outer.clock ∷ [])) ∙ last_of_more 0 (ticks past) w.outer.clock in
      record {
        clock = tie.clock ∙ ap ticks_asked (sym (shown-append line_of past (entry.Time w.outer.clock ∷ []) ∙ append-nil (lines_run past)));
        shown = omega (arith, is);
        later = λ waits. absurd (let none : false ≡ true = waits in cc);
      }

  time_law : Link MayCount (TieTime extra) BeginsNoTick
  time_law =
      untimed_law MayCount (TieTime extra) BeginsNoTick untimed (λ covers. covers)
      (λ covers awaits past w tie. record { clock = tie.clock; shown = tie.shown; later = λ waits. absurd (let none : false ≡ true = waits in cc) }) number_last

  -- ---- an event of the machine

  kept : (past : List Entry) (m : Machine) (event : Event) → CoversOuter BeginsNoTick event → May m event → KnownTime extra past m
      → EachAfter MayCount past (entries m event) × KnownTime extra (past ++ entries m event) (happens m event)
  kept past m event covers may known =
      machine_keeps MayCount (λ pending. TieTime extra) BeginsNoTick (of_link MayCount (TieTime extra) BeginsNoTick time_law) hosts_no_tick m event covers may past known

  -- the number may stand where it is awaited
  number_stands : (past : List Entry) (w : Outside) → TieTime extra (w.outer.in_tick && not w.outer.stamped) past w → EachAfter MayCount past (ticked_entry w.outer)
  number_stands past w tie = by (w.outer.in_tick && not w.outer.stamped) tie
    where
      by : (b : Bool) → TieTime extra b past w → EachAfter MayCount past (if b then entry.Time w.outer.clock ∷ [] else [])
      by true tie = ((tie.later refl, (let is = tie.clock in omega (arith, is))), tt)
      by false tie = tt

-- ---- the words of a line

pub asked-append : (xs ys : List Line) → ticks_asked (xs ++ ys) ≡ ticks_asked xs + ticks_asked ys
asked-append [] ys = let none : ticks_asked ys ≡ 0 + ticks_asked ys = omega arith in none
asked-append (x ∷ xs) ys =
    let rest = asked-append xs ys in
    let sum : ticks_of x + ticks_asked (xs ++ ys) ≡ (ticks_of x + ticks_asked xs) + ticks_asked ys = omega (arith, rest) in
    sum

said : (past : List Entry) (m : Machine) (words : List ℕ) (line : Line) → line_of (entry.Said words) ≡ line ∷ [] → KnowTime Between past m
    → MayCount past (entry.Said words) × KnowTime (Said_line line) (past ++ entry.Said words ∷ []) m
said past m words line read known =
    let later : List Entry = past ++ entry.Said words ∷ [] in
    let tie = known.0.0 in
    let asked : ticks_asked (lines_run later) ≡ ticks_asked (lines_run past) + (ticks_of line + 0) =
    ap ticks_asked (shown-append line_of past (entry.Said words ∷ []) ∙ ap (λ (l : List Line). lines_run past ++ (l ++ [])) read) ∙ asked-append (lines_run past) (line ∷ []) in
    let shown : time_of later ≡ time_of past = ap (last_number 0) (shown-append tick_at past (entry.Said words ∷ []) ∙ append-nil (ticks past)) in
    let was = tie.clock in
    let now : TieTime (ticks_of line) (m.outside.outer.in_tick && not m.outside.outer.stamped) later m.outside =
    record {
      clock = omega (arith, was, asked);
      shown = subst (λ (n : ℕ). n ≤ m.outside.outer.clock) (sym shown) tie.shown;
      later = λ waits. subst (λ (n : ℕ). n < m.outside.outer.clock) (sym shown) (tie.later waits);
    } in
    (tt, ((now, number_stands (ticks_of line) later m.outside now), tt))

-- ---- a tick begins

begins_tick : (ticks : ℕ) (past : List Entry) (m : Machine) → KnownTime (suc ticks) past m
    → EachAfter MayCount past (entries m (Outside_does Begins_tick)) × KnownTime ticks (past ++ entries m (Outside_does Begins_tick)) (happens m (Outside_does Begins_tick))
unfolding happens entries outcome devices_after
begins_tick ticks past m known =
    let tie = known.0 in
    let was = tie.clock in
    let shown = tie.shown in
    let now : TieTime ticks true past (happens m (Outside_does Begins_tick)).outside =
    record { clock = omega (arith, was); shown = omega (arith, shown); later = λ waits. omega (arith, shown) } in
    (tt, subst (λ (l : List Entry). KnownTime ticks l (happens m (Outside_does Begins_tick))) (sym (append-nil past)) (now, number_stands ticks past (happens m (Outside_does Begins_tick)).outside now))

-- ---- phases

abbrev Keeps : Phase → List Entry → Machine → Event → Type 0
Keeps = Steps MayCount KnowTime

-- one that begins no tick
stays : (extra : ℕ) (next to : Phase) (event is : Event) (past : List Entry) (m : Machine) → event ≡ is → next ≡ to → CoversOuter BeginsNoTick is → May m event → KnownTime extra past m
    → ((later : List Entry) (n : Machine) → KnownTime extra later n → KnowTime to later n) → Keeps next past m event
stays extra next to event is past m event_is next_is covers may known there =
    let got = kept extra past m is covers (subst (May m) event_is may) known in
    event_then MayCount KnowTime next to event is past m event_is next_is (got.0, there (past ++ entries m is) (happens m is) got.1)

event_keeps : (here next : Phase) (past : List Entry) (m : Machine) (event : Event) → Goes here m event next → May m event → KnowTime here past m → Keeps next past m event
event_keeps (Said_line line) next past m event (event_is, next_is) may known = stays (ticks_of line) next (Begun line) event _ past m event_is next_is tt may known.0 (λ p n k. (k, tt))
event_keeps (Doing line (first ∷ left)) next past m event (event_is, next_is) may known = stays 0 next (Doing line left) event first past m event_is next_is known.1.0 may known.0 (λ p n k. (k, known.1.1))
event_keeps (To_tick (suc ticks)) next past m event (event_is, next_is) may known =
    let got = begins_tick ticks past m known.0 in event_then MayCount KnowTime next (Ticked ticks) event (Outside_does Begins_tick) past m event_is next_is (got.0, (got.1, tt))
event_keeps (Arriving (suc frames) ticks) next past m event (drawn, route, event_is, next_is) may known = stays ticks next (Arriving frames ticks) event _ past m event_is next_is tt may known.0 (λ p n k. (k, tt))
event_keeps (Giving (suc results) ticks) next past m event (route, event_is, next_is) may known = stays ticks next (Giving results ticks) event _ past m event_is next_is tt may known.0 (λ p n k. (k, tt))
event_keeps (Ticking_devices place (suc count) ticks) next past m event (drawn, route, event_is, next_is) may known =
    stays ticks next (Ticking_devices (place + 1) count ticks) event _ past m event_is next_is tt may known.0 (λ p n k. (k, tt))
event_keeps (Ticking_chip ticks) next past m event (event_is, next_is) may known = stays ticks next (Ticking_decoder ticks) event _ past m event_is next_is tt may known.0 (λ p n k. (k, tt))
event_keeps (Ticking_decoder ticks) next past m event (event_is, next_is) may known =
    stays ticks next (Ticking_host (tick_events m.host.state) ticks) event _ past m event_is next_is tt may known.0 (λ p n k. (k, tt))
event_keeps (Ticking_host (first ∷ events) ticks) next past m event (event_is, next_is) may known = stays ticks next (Ticking_host events ticks) event _ past m event_is next_is tt may known.0 (λ p n k. (k, tt))
event_keeps (Sleeping passes ticks) next past m event (node, wants, event_is, next_is) may known = stays ticks next (Sleeping passes ticks) event _ past m event_is next_is tt may known.0 (λ p n k. (k, tt))
event_keeps (Submitting passes ticks) next past m event (asked, is, event_is, next_is) may known = stays ticks next (Submitting passes ticks) event _ past m event_is next_is tt may known.0 (λ p n k. (k, tt))
event_keeps (Moving passes ticks) next past m event (rest, ways, event_is, next_is) may known = stays ticks next (Moved true passes ticks) event _ past m event_is next_is tt may known.0 (λ p n k. (k, tt))
event_keeps (Moved has_moved passes ticks) next past m event (rest, items, done, event_is, next_is) may known =
    stays ticks next (Sleeping passes ticks) event _ past m event_is next_is tt may known.0 (λ p n k. (k, tt))
event_keeps here next past m event goes may known = absurd goes

-- ---- a part begins

covers_line : (line : Line) → CoversLine BeginsNoTick line
covers_line (lines.Repeat frame) = λ drawn route. tt
covers_line (lines.Wake node) = λ route. tt
covers_line (lines.Local node value) = λ route. tt
covers_line lines.Restart = (tt, tt)
covers_line line = tt

-- a line with an effect asks for no tick
pub no_ticks_asked : (line : Line) (m : Machine) (events : List Event) → IsEffect line m events → ticks_of line ≡ 0
no_ticks_asked (lines.Tick count) m events is = absurd is
no_ticks_asked line m events is = refl

to : (next phase : Phase) (past : List Entry) (m : Machine) → next ≡ phase → KnowTime phase past m → KnowTime next past m
to next phase past m is known = subst (λ (q : Phase). KnowTime q past m) (sym is) known

turn_keeps : (here next : Phase) (past : List Entry) (m : Machine) → Turns here m next → KnowTime here past m → KnowTime next past m
turn_keeps (Begun line) next past m (inl (events, is, next_is)) known =
    to next (Doing line events) past m next_is
    (subst (λ (n : ℕ). KnownTime n past m) (no_ticks_asked line m events is) known.0, effect_covered BeginsNoTick line m events (covers_line line) is)
turn_keeps (Begun line) next past m (inr (ticks, line_is, next_is)) known =
    to next (To_tick ticks) past m next_is (subst (λ (l : Line). KnownTime (ticks_of l) past m) line_is known.0, tt)
turn_keeps (Doing line []) next past m next_is known = to next (Sleeping 64 0) past m next_is (known.0, tt)
turn_keeps (To_tick zero) next past m next_is known = to next Between past m next_is known
turn_keeps (Ticked ticks) next past m next_is known = to next _ past m next_is known
turn_keeps (Arriving zero ticks) next past m next_is known = to next _ past m next_is known
turn_keeps (Giving zero ticks) next past m next_is known = to next _ past m next_is known
turn_keeps (Ticking_devices place zero ticks) next past m next_is known = to next _ past m next_is known
turn_keeps (Ticking_host [] ticks) next past m next_is known = to next (Sleeping 64 ticks) past m next_is known
turn_keeps (Sleeping passes ticks) next past m (wants, next_is) known = to next (Submitting passes ticks) past m next_is known
turn_keeps (Submitting zero ticks) next past m (pumped, next_is) known = to next (To_tick ticks) past m next_is known
turn_keeps (Submitting (suc passes) ticks) next past m (pumped, next_is) known = to next (Moving passes ticks) past m next_is known
turn_keeps (Moving passes ticks) next past m (still, next_is) known = to next (Moved false passes ticks) past m next_is known
turn_keeps (Moved has_moved passes ticks) next past m (still, next_is) known = to next (Sleeping _ ticks) past m next_is known
turn_keeps here next past m turns known = absurd turns

pub time_walk : Walk MayCount KnowTime
time_walk = record { said = said; event = event_keeps; turn = turn_keeps }

-- at first no tick has begun, and none was asked for
pub first_time : (m : Machine) → m.outside.outer ≡ first_outer → KnowTime Between [] m
unfolding first_outer
first_time m is =
    let clock : m.outside.outer.clock ≡ 0 = ap (λ (o : OuterState). o.clock) is in
    let still : (m.outside.outer.in_tick && not m.outside.outer.stamped) ≡ false = ap (λ (o : OuterState). o.in_tick && not o.stamped) is in
    let tie : TieTime 0 (m.outside.outer.in_tick && not m.outside.outer.stamped) [] m.outside =
    record {
      clock = omega (arith, clock);
      shown = omega (arith, clock);
      later = λ waits. absurd (let none : false ≡ true = sym still ∙ waits in cc);
    } in
    ((tie, number_stands 0 [] m.outside tie), tt)
