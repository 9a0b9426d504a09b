-- Over the phases of a line: the air has as many marks that lose acknowledgements as the transcript says are left.
use Rattle.std.proofs.Common.{◌≡◌, ℕ, zero, suc, ◌+◌, true, false, inl, inr, List, [], ◌∷◌, ◌++◌, map, refl, sym, ap, ap₂, subst, ◌∙◌, append-nil, arith}
use Rattle.std.specs.List.{AllByRecursion}
use Rattle.device_sim.specs.State.{State}
use Rattle.zw_text.specs.declared.line.Line.{Line}
use Rattle.zw_text.specs.declared.line.Line.TheVariants as lines
use Rattle.zw_text.specs.declared.entry.Entry.{Entry}
use Rattle.zw_text.specs.declared.entry.Entry.TheVariants as entry
use Rattle.zw_text.specs.Transcript.{line_of}
use Rattle.law_transcript.specs.Lists.{EachAfter}
use Rattle.law_transcript.specs.Restarts.{is_repeat}
use Rattle.law_wire.specs.Results.{ack_marks_of}
use Rattle.host_model.specs.Ticking.{tick_events}
use Rattle.outside_model.specs.State.{OuterState, first_outer}
use Rattle.outside_model.specs.Events.{OuterEvent, Begins_line, Arrives, Repeats, Loses_acks, Wakes_device, Sets_device, outcome, devices_after}
use Rattle.world_model.specs.State.{Machine}
use Rattle.world_model.specs.Events.{Event, Outside_does, entries, happens, May}
use Rattle.world_model.specs.Lines.{IsEffect}
use Rattle.proof_air.proofs.Entering.{HearsNone}
use Rattle.proof_air.specs.proof_walk.ByLine.{CoversLine}
use Rattle.proof_air.specs.proof_walk.Outside.{CoversOuter}
use Rattle.proof_air.specs.proof_walk.Phases.{Phase, Between, Said_line, Begun, Doing, To_tick, Ticked, Arriving, Giving, Ticking_devices, Ticking_chip, Ticking_decoder, Ticking_host, Sleeping, Submitting, Moving, Moved, Turns, Goes}
use Rattle.proof_air.specs.proof_walk.Walk.{WalkOver}
use Rattle.proof_air.proofs.ByLine.{effect_covered}
use Rattle.proof_air.proofs.Stepping.{Steps, event_then}
use Rattle.proof_devices.specs.Acks.{MarksNone, IsMarking, HasAcks, AwaitsAcks, KnowAcks}
use Rattle.proof_devices.specs.Living.{Acts, KnowDevices, MayAny}
use Rattle.proof_devices.specs.Meeting.{Ground}
use Rattle.proof_devices.proofs.Acks.{acks_grow, again_acks, arrival_acks, quiet_acks}
use Rattle.proof_devices.proofs.Meeting.{covers_none, unrepeated}
use Rattle.proof_devices.proofs.Repeating.{saying_last}

-- nothing is asked of an entry
any_stand : (past told : List Entry) → EachAfter MayAny past told
any_stand past [] = tt
any_stand past (e ∷ told) = (tt, any_stand (past ++ e ∷ []) told)

abbrev Leads : List Entry → Machine → Event → Type 0
Leads past m event = EachAfter MayAny past (entries m event) × HasAcks (past ++ entries m event) (happens m event)

leads : (past : List Entry) (m : Machine) (event : Event) → HasAcks (past ++ entries m event) (happens m event) → Leads past m event
leads past m event has = (any_stand past (entries m event), has)

-- ---- an event by which no frame arrives or is heard again

rests : (next to : Phase) (event is : Event) (past : List Entry) (m : Machine) → event ≡ is → next ≡ to → CoversOuter MarksNone is → CoversOuter HearsNone is → May m event → HasAcks past m
    → ((later : List Entry) (n : Machine) → HasAcks later n → KnowAcks to later n) → Steps MayAny KnowAcks next past m event
rests next to event is past m event_is next_is none hears may known there =
    event_then MayAny KnowAcks next to event is past m event_is next_is
    (any_stand past (entries m is), there (past ++ entries m is) (happens m is) (quiet_acks past m is none hears (subst (May m) event_is may) known))

-- a line begins
begins : (line : Line) (past : List Entry) (m : Machine) → AwaitsAcks line past m → Steps MayAny KnowAcks (Begun line) past m (Outside_does Begins_line)
unfolding happens entries outcome devices_after
begins line past m known = (tt, subst (λ (l : List Entry). KnowAcks (Begun line) l (happens m (Outside_does Begins_line))) (sym (append-nil past)) known)

-- ---- the effect of a line

-- it asks for marks
marked : (past : List Entry) (m : Machine) (count : ℕ) → AwaitsAcks (lines.LoseAck count) past m → Leads past m (Outside_does (Loses_acks count))
unfolding happens entries outcome devices_after
marked past m count known = (tt, subst (λ (l : List Entry). HasAcks l (happens m (Outside_does (Loses_acks count)))) (sym (append-nil past)) known)

marks : (line : Line) (first : Event) (left : List Event) (past : List Entry) (m : Machine) → IsMarking line → IsEffect line m (first ∷ left) → AwaitsAcks line past m
    → Steps MayAny KnowAcks (Doing line left) past m first
marks (lines.LoseAck count) first left past m marking is known =
    let now : Event = Outside_does (Loses_acks count) in
    let all : first ∷ left ≡ now ∷ [] = is in
    let same : first ≡ now = cc in
    let none : left ≡ [] = cc in
    let got = marked past m count known in
    subst (λ (e : Event). Steps MayAny KnowAcks (Doing (lines.LoseAck count) left) past m e) (sym same)
    (got.0, inr (subst (AllByRecursion (CoversOuter MarksNone)) (sym none) tt, got.1))
marks line first left past m marking is known = absurd marking

module _ (devices : List State) where
  -- a device hears a frame again, wakes or is set by hand
  acting : (line : Line) (first : Event) (left : List Event) (past : List Entry) (m : Machine) → May m first → Acts devices line (first ∷ left) past m → HasAcks past m → Leads past m first
  acting (lines.Repeat frame) first left past m may (opened, acts, (inner, (drawn, route, one), are)) known =
      let now : Event = Outside_does (Repeats frame drawn route) in
      let all : first ∷ left ≡ now ∷ [] = are ∙ ap (λ (l : List OuterEvent). map Outside_does l) one in
      let same : first ≡ now = cc in
      subst (Leads past m) (sym same)
      (leads past m now (again_acks past m frame drawn route (subst (May m) same may) (ap is_repeat (saying_last devices (lines.Repeat frame) past m opened.0)) opened.1 known))
  acting (lines.Wake node) first left past m may (opened, acts, (inner, (route, one), are)) known =
      let now : Event = Outside_does (Wakes_device node route) in
      let all : first ∷ left ≡ now ∷ [] = are ∙ ap (λ (l : List OuterEvent). map Outside_does l) one in
      let same : first ≡ now = cc in
      subst (Leads past m) (sym same) (leads past m now (quiet_acks past m now tt tt (subst (May m) same may) known))
  acting (lines.Local node value) first left past m may (opened, acts, (inner, (route, one), are)) known =
      let now : Event = Outside_does (Sets_device node value route) in
      let all : first ∷ left ≡ now ∷ [] = are ∙ ap (λ (l : List OuterEvent). map Outside_does l) one in
      let same : first ≡ now = cc in
      subst (Leads past m) (sym same) (leads past m now (quiet_acks past m now tt tt (subst (May m) same may) known))
  acting line first left past m may (opened, acts, is) known = absurd acts

  does : (line : Line) (first : Event) (left : List Event) (past : List Entry) (m : Machine) → May m first → KnowDevices devices (Doing line (first ∷ left)) past m → CoversOuter MarksNone first
      → HasAcks past m → Leads past m first
  does line first left past m may (inl acts) none known = acting line first left past m may acts known
  does line first left past m may (inr (moves, rested)) none known = leads past m first (quiet_acks past m first none (covers_none first moves.0) may known)

  doing : (line : Line) (first : Event) (left : List Event) (past : List Entry) (m : Machine) → May m first → KnowDevices devices (Doing line (first ∷ left)) past m
      → KnowAcks (Doing line (first ∷ left)) past m → Steps MayAny KnowAcks (Doing line left) past m first
  doing line first left past m may lives (inl (marking, is, known)) = marks line first left past m marking is known
  doing line first left past m may lives (inr (none, known)) = let got = does line first left past m may lives none.0 known in (got.0, inr (none.1, got.1))

  -- ---- an event of a run

  goes_on : (here next : Phase) (past : List Entry) (m : Machine) (event : Event) → Goes here m event next → May m event → Ground devices here past m → KnowAcks here past m
      → Steps MayAny KnowAcks next past m event
  goes_on (Said_line line) next past m event (event_is, next_is) may ground known =
      event_then MayAny KnowAcks next (Begun line) event (Outside_does Begins_line) past m event_is next_is (begins line past m known)
  goes_on (Doing line (first ∷ left)) next past m event (event_is, next_is) may ground known =
      event_then MayAny KnowAcks next (Doing line left) event first past m event_is next_is (doing line first left past m (subst (May m) event_is may) ground.0.1 known)
  goes_on (To_tick (suc ticks)) next past m event (event_is, next_is) may ground known = rests next (Ticked ticks) event _ past m event_is next_is tt tt may known (λ p n k. k)
  goes_on (Arriving (suc frames) ticks) next past m event (drawn, route, event_is, next_is) may ground known =
      let now : Event = Outside_does (Arrives drawn route) in
      event_then MayAny KnowAcks next (Arriving frames ticks) event now past m event_is next_is
      (leads past m now (arrival_acks past m drawn route (subst (May m) event_is may) ground.1.1.0.0 (unrepeated past m.outside ground.0.1.1.0) known))
  goes_on (Giving (suc results) ticks) next past m event (route, event_is, next_is) may ground known =
      rests next (Giving results ticks) event _ past m event_is next_is tt tt may known (λ p n k. k)
  goes_on (Ticking_devices place (suc count) ticks) next past m event (drawn, route, event_is, next_is) may ground known =
      rests next (Ticking_devices (place + 1) count ticks) event _ past m event_is next_is tt tt may known (λ p n k. k)
  goes_on (Ticking_chip ticks) next past m event (event_is, next_is) may ground known = rests next (Ticking_decoder ticks) event _ past m event_is next_is tt tt may known (λ p n k. k)
  goes_on (Ticking_decoder ticks) next past m event (event_is, next_is) may ground known =
      rests next (Ticking_host (tick_events m.host.state) ticks) event _ past m event_is next_is tt tt may known (λ p n k. k)
  goes_on (Ticking_host (first ∷ events) ticks) next past m event (event_is, next_is) may ground known =
      rests next (Ticking_host events ticks) event _ past m event_is next_is tt tt may known (λ p n k. k)
  goes_on (Sleeping passes ticks) next past m event (node, wants, event_is, next_is) may ground known =
      rests next (Sleeping passes ticks) event _ past m event_is next_is tt tt may known (λ p n k. k)
  goes_on (Submitting passes ticks) next past m event (asked, is, event_is, next_is) may ground known =
      rests next (Submitting passes ticks) event _ past m event_is next_is tt tt may known (λ p n k. k)
  goes_on (Moving passes ticks) next past m event (rest, ways, event_is, next_is) may ground known =
      rests next (Moved true passes ticks) event _ past m event_is next_is tt tt may known (λ p n k. k)
  goes_on (Moved has_moved passes ticks) next past m event (rest, items, done, event_is, next_is) may ground known =
      rests next (Sleeping passes ticks) event _ past m event_is next_is tt tt may known (λ p n k. k)
  goes_on here next past m event goes may ground known = absurd goes

-- ---- the words of a line

said : (past : List Entry) (m : Machine) (words : List ℕ) (line : Line) → line_of (entry.Said words) ≡ line ∷ [] → HasAcks past m → AwaitsAcks line (past ++ entry.Said words ∷ []) m
said past m words line read known = acks_grow past (entry.Said words ∷ []) ∙ ap₂ (λ (n : ℕ) (l : List Line). n + ack_marks_of l) known read

-- ---- each part that begins

covers_line : (line : Line) → (IsMarking line → ⊥) → CoversLine MarksNone line
covers_line (lines.LoseAck count) none = absurd (none tt)
covers_line (lines.Repeat frame) none = λ drawn route. tt
covers_line (lines.Wake node) none = λ route. tt
covers_line (lines.Local node value) none = λ route. tt
covers_line lines.Restart none = (tt, tt)
covers_line line none = tt

-- it asks for none
unasked : (line : Line) (past : List Entry) (m : Machine) → ack_marks_of (line ∷ []) ≡ 0 → AwaitsAcks line past m → HasAcks past m
unasked line past m none awaits = omega (arith, none, awaits)

begins_effect : (line : Line) (events : List Event) (past : List Entry) (m : Machine) → IsEffect line m events → AwaitsAcks line past m → KnowAcks (Doing line events) past m
begins_effect (lines.LoseAck count) events past m is awaits = inl (tt, is, awaits)
begins_effect line events past m is awaits = inr (effect_covered MarksNone line m events (covers_line line (λ marking. marking)) is, unasked line past m refl awaits)

effect_done : (line : Line) (past : List Entry) (m : Machine) → KnowAcks (Doing line []) past m → HasAcks past m
effect_done (lines.LoseAck count) past m (inl (marking, is, known)) = absurd (let none : [] ≡ Outside_does (Loses_acks count) ∷ [] = is in cc)
effect_done line past m (inl (marking, is, known)) = absurd marking
effect_done line past m (inr (none, known)) = known

to : (next phase : Phase) (past : List Entry) (m : Machine) → next ≡ phase → KnowAcks phase past m → KnowAcks next past m
to next phase past m is known = subst (λ (q : Phase). KnowAcks q past m) (sym is) known

turns_on : (here next : Phase) (past : List Entry) (m : Machine) → Turns here m next → KnowAcks here past m → KnowAcks next past m
turns_on (Begun line) next past m (inl (events, is, next_is)) known = to next (Doing line events) past m next_is (begins_effect line events past m is known)
turns_on (Begun line) next past m (inr (ticks, line_is, next_is)) known =
    to next (To_tick ticks) past m next_is (unasked (lines.Tick ticks) past m refl (subst (λ (l : Line). AwaitsAcks l past m) line_is known))
turns_on (Doing line []) next past m next_is known = to next (Sleeping 64 0) past m next_is (effect_done line past m known)
turns_on (To_tick zero) next past m next_is known = to next Between past m next_is known
turns_on (Ticked ticks) next past m next_is known = to next (Arriving _ ticks) past m next_is known
turns_on (Arriving zero ticks) next past m next_is known = to next (Giving _ ticks) past m next_is known
turns_on (Giving zero ticks) next past m next_is known = to next (Ticking_devices 0 _ ticks) past m next_is known
turns_on (Ticking_devices place zero ticks) next past m next_is known = to next (Ticking_chip ticks) past m next_is known
turns_on (Ticking_host [] ticks) next past m next_is known = to next (Sleeping 64 ticks) past m next_is known
turns_on (Sleeping passes ticks) next past m (wants, next_is) known = to next (Submitting passes ticks) past m next_is known
turns_on (Submitting zero ticks) next past m (pumped, next_is) known = to next (To_tick ticks) past m next_is known
turns_on (Submitting (suc passes) ticks) next past m (pumped, next_is) known = to next (Moving passes ticks) past m next_is known
turns_on (Moving passes ticks) next past m (still, next_is) known = to next (Moved false passes ticks) past m next_is known
turns_on (Moved has_moved passes ticks) next past m (still, next_is) known = to next (Sleeping _ ticks) past m next_is known
turns_on here next past m turns known = absurd turns

pub acks_walk : (devices : List State) → WalkOver (Ground devices) MayAny KnowAcks
acks_walk devices = record {
  said = λ past m words line read ground known. (tt, said past m words line read known);
  event = λ here next past m event goes may ground known. goes_on devices here next past m event goes may ground known;
  turn = λ here next past m turns ground known. turns_on here next past m turns known;
}

-- ---- the beginning

pub first_acks : (m : Machine) → m.outside.outer ≡ first_outer → KnowAcks Between [] m
unfolding first_outer
first_acks m is = subst (λ (o : OuterState). 0 ≡ o.air.ack_losing) (sym is) refl
