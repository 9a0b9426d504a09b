-- The number of a tick stands before its first entry, and nowhere else: nothing is entered where a `tick` line waits for its first tick, and a number is never left last.
use Rattle.std.proofs.Common.{◌≡◌, ◌≤◌, ℕ, zero, suc, ◌+◌, ◌-◌, ◌&&◌, ◌||◌, not, Bool, true, false, if◌then◌else◌, List, [], ◌∷◌, ◌++◌, length, take, inl, inr, refl, sym, ap, subst, ◌∙◌, append-nil, append_assoc, arith}
use Rattle.std.specs.List.{list_any}
use Rattle.zw_text.specs.declared.line.Line.{Line}
use Rattle.zw_text.specs.declared.line.Line.TheVariants as lines
use Rattle.zw_text.specs.declared.entry.Entry.{Entry}
use Rattle.zw_text.specs.declared.entry.Entry.TheVariants as entry
use Rattle.zw_text.specs.Transcript.{line_of, lines_run, line_last}
use Rattle.zw_text.proofs.Views.{shown-append}
use Rattle.law_wire.specs.law_transcript.Lists.{EachAfter}
use Rattle.law_wire.specs.law_transcript.Restarts.{ticks_of, ticks_asked}
use Rattle.law_wire.specs.Asked.{lines_before}
use Rattle.law_wire.specs.Times.{is_time, tells_tick, IsDue, MayBeTold}
use Rattle.proof_walk.specs.outside_model.State.{OuterState, Outside, first_outer}
use Rattle.proof_walk.specs.outside_model.Events.{OuterEvent, Begins_line, Begins_tick, outcome, devices_after, is_own}
use Rattle.proof_walk.specs.world_model.State.{Machine}
use Rattle.proof_walk.specs.world_model.Events.{Event, Outside_does, happens, entries, May}
use Rattle.proof_walk.specs.Outside.{Moves, Link, CoversOuter}
use Rattle.proof_walk.specs.Phases.{Phase, Between, Said_line, Begun, Doing, To_tick, Ticked, Arriving, Giving, Ticking_devices, Ticking_chip, Ticking_decoder, Ticking_host, Sleeping, Submitting, Moving, Moved, Turns, Goes}
use Rattle.proof_walk.specs.Walk.{WalkOver}
use Rattle.proof_walk.specs.ByLine.{CoversLine}
use Rattle.proof_walk.specs.Time.{BeginsNoTick, KnowTime}
use Rattle.proof_walk.proofs.Linking.{of_link}
use Rattle.proof_walk.proofs.Machines.{machine_keeps}
use Rattle.proof_walk.proofs.ByLine.{effect_covered}
use Rattle.proof_walk.proofs.Stepping.{Steps, event_then}
use Rattle.proof_walk.proofs.Untimed.{IsUntimed, AreUntimed, untimed_line, same_lines, untimed_law}
use Rattle.proof_walk.proofs.Ending.{EndsUntimed, event_ends}
use Rattle.proof_walk.proofs.Clock.{no_ticks_asked}
use Rattle.proof_line.specs.Times.{TieNumbers, GoesWithin, KnownNumbers, KnowNumbers}
use Rattle.proof_line.proofs.Standing.{last_only, but_last}
use Rattle.proof_walk.proofs.ByLine.{last_is as line_then}

-- ---- the last entry

last_told : (past : List Entry) (e : Entry) → tells_tick (past ++ e ∷ []) ≡ is_time e
last_told past e = ap (λ (l : List Entry). list_any is_time l) (last_only past e) ∙ alone (is_time e)
  where
    alone : (b : Bool) → b || false ≡ b
    alone true = refl
    alone false = refl

untimed_told : (e : Entry) → IsUntimed e → is_time e ≡ false
untimed_told (entry.Said words) untimed = absurd untimed
untimed_told (entry.Time tick) untimed = absurd untimed
untimed_told e untimed = refl

ends_told : (past : List Entry) (e : Entry) (told : List Entry) → EndsUntimed (e ∷ told) → tells_tick (past ++ e ∷ told) ≡ false
ends_told past e [] ends = last_told past e ∙ untimed_told e ends
ends_told past e (next ∷ told) ends = ap tells_tick (sym (append_assoc past (e ∷ []) (next ∷ told))) ∙ ends_told (past ++ e ∷ []) next told ends

still_told : (past told : List Entry) → EndsUntimed told → tells_tick past ≡ false → tells_tick (past ++ told) ≡ false
still_told past [] ends none = ap tells_tick (append-nil past) ∙ none
still_told past (e ∷ told) ends none = ends_told past e told ends

-- ---- entries that are neither lines nor numbers

untimed_stands : (past : List Entry) (e : Entry) → IsUntimed e → ticks_asked (line_last past) ≡ 0 → MayBeTold past e
untimed_stands past (entry.Said words) untimed none = absurd untimed
untimed_stands past (entry.Time tick) untimed none = absurd untimed
untimed_stands past e untimed none = none

-- they may stand where the last line, if it was just said, asks for no tick; and then no line was just said
all_stand : (past told : List Entry) → AreUntimed told → ticks_asked (line_last past) ≡ 0 → EachAfter MayBeTold past told × (ticks_asked (line_last (past ++ told)) ≡ 0)
all_stand past [] untimed none = (tt, ap (λ (l : List Entry). ticks_asked (line_last l)) (append-nil past) ∙ none)
all_stand past (e ∷ told) untimed none =
    let rest = all_stand (past ++ e ∷ []) told untimed.1 (ap ticks_asked (line_then past e ∙ untimed_line e untimed.0)) in
    ((untimed_stands past e untimed.0 none, rest.0), ap (λ (l : List Entry). ticks_asked (line_last l)) (sym (append_assoc past (e ∷ []) told)) ∙ rest.1)

same_before : (past told : List Entry) → AreUntimed told → lines_before (past ++ told) ≡ lines_before past
same_before past told untimed = ap (λ (l : List Line). take (length l - 1) l) (same_lines past told untimed)

-- ---- the law outside the host

none_more : (n : ℕ) → n ≤ 0 → n ≡ 0
none_more n few = omega (arith, few)

no_more : (n : ℕ) → n ≡ 0 → n ≤ 0
no_more n none = omega (arith, none)

-- the clock stays
begun_then : (w later : Outside) (past told : List Entry) → AreUntimed told → later.outer.clock ≡ w.outer.clock → ticks_asked (lines_before past) ≤ w.outer.clock
    → ticks_asked (lines_before (past ++ told)) ≤ later.outer.clock
begun_then w later past told untimed same begun =
    subst (λ (n : ℕ). ticks_asked (lines_before (past ++ told)) ≤ n) (sym same)
    (subst (λ (l : List Line). ticks_asked l ≤ w.outer.clock) (sym (same_before past told untimed)) begun)

untimed_moves : (w later : Outside) (told : List Entry) → AreUntimed told → later.outer.clock ≡ w.outer.clock → Moves MayBeTold (TieNumbers 0) w told (TieNumbers 0) later
untimed_moves w later told untimed same awaits past silent tie = by awaits silent tie
  where
    by : (b : Bool) → (b ≡ true → told ≡ []) → TieNumbers 0 b past w → EachAfter MayBeTold past told × TieNumbers 0 b (past ++ told) later
    by true silent tie = (
      subst (λ (l : List Entry). EachAfter MayBeTold past l) (sym (silent refl)) tt,
      record { begun = begun_then w later past told untimed same tie.begun; quiet = λ is. absurd (let none : true ≡ false = is in cc) },
    )
    by false silent tie =
        let stand = all_stand past told untimed (none_more (ticks_asked (line_last past)) (tie.quiet refl)) in
        (stand.0, record { begun = begun_then w later past told untimed same tie.begun; quiet = λ is. no_more (ticks_asked (line_last (past ++ told))) stand.1 })

-- after a number no line was just said
number_last : (past : List Entry) (w : Outside) → TieNumbers 0 true past w → TieNumbers 0 false (past ++ entry.Time w.outer.clock ∷ []) w
number_last past w tie = record {
  begun = subst (λ (l : List Line). ticks_asked (take (length l - 1) l) ≤ w.outer.clock) (sym (shown-append line_of past (entry.Time w.outer.clock ∷ []) ∙ append-nil (lines_run past))) tie.begun;
  quiet = λ is. no_more (ticks_asked (line_last (past ++ entry.Time w.outer.clock ∷ []))) (ap ticks_asked (line_then past (entry.Time w.outer.clock)));
}

numbers : Link MayBeTold (TieNumbers 0) GoesWithin
numbers = untimed_law MayBeTold (TieNumbers 0) GoesWithin untimed_moves (λ covers. covers) (λ covers. absurd covers) number_last

-- ---- an event of the machine

pub hosts : (event : OuterEvent) → is_own event ≡ false → GoesWithin event
hosts Begins_line own = absurd (let none : true ≡ false = own in cc)
hosts Begins_tick own = absurd (let none : true ≡ false = own in cc)
hosts event own = tt

within_no_tick : (event : OuterEvent) → GoesWithin event → BeginsNoTick event
within_no_tick Begins_tick within = absurd within
within_no_tick event within = tt

no_tick : (event : Event) → CoversOuter GoesWithin event → CoversOuter BeginsNoTick event
no_tick (Outside_does event) within = within_no_tick event within
no_tick event within = tt

kept : (past : List Entry) (m : Machine) (event : Event) → CoversOuter GoesWithin event → May m event → KnownNumbers 0 past m
    → EachAfter MayBeTold past (entries m event) × KnownNumbers 0 (past ++ entries m event) (happens m event)
kept past m event within may known =
    let got = machine_keeps MayBeTold (λ pending. TieNumbers 0) GoesWithin (of_link MayBeTold (TieNumbers 0) GoesWithin numbers) hosts m event within may past known.0 in
    (got.0, (got.1, still_told past (entries m event) (event_ends m event (no_tick event within) may) known.1))

-- ---- the words of a line, its beginning, and a tick

said : (past : List Entry) (m : Machine) (words : List ℕ) (line : Line) → line_of (entry.Said words) ≡ line ∷ [] → KnowTime Between past m → KnowNumbers Between past m
    → MayBeTold past (entry.Said words) × KnowNumbers (Said_line line) (past ++ entry.Said words ∷ []) m
said past m words line read time known =
    let later : List Entry = past ++ entry.Said words ∷ [] in
    let run : lines_run later ≡ lines_run past ++ line ∷ [] = shown-append line_of past (entry.Said words ∷ []) ∙ ap (λ (l : List Line). lines_run past ++ (l ++ [])) read in
    let before : ticks_asked (lines_before later) ≡ ticks_asked (lines_run past) =
    ap (λ (l : List Line). ticks_asked (take (length l - 1) l)) run ∙ ap ticks_asked (but_last (lines_run past) line) in
    let asked : ticks_asked (line_last later) ≡ ticks_of line + 0 = ap ticks_asked (line_then past (entry.Said words) ∙ read) in
    let clock = time.0.0.clock in
    (known.1, (record { begun = omega (arith, before, clock); quiet = λ is. omega (arith, asked) }, last_told past (entry.Said words)))

begins_line : (line : Line) (past : List Entry) (m : Machine) → KnowNumbers (Said_line line) past m
    → EachAfter MayBeTold past (entries m (Outside_does Begins_line)) × KnowNumbers (Begun line) (past ++ entries m (Outside_does Begins_line)) (happens m (Outside_does Begins_line))
unfolding happens entries outcome devices_after
begins_line line past m known =
    let later : Machine = happens m (Outside_does Begins_line) in
    let now : TieNumbers (ticks_of line) false past later.outside = record { begun = known.0.begun; quiet = known.0.quiet } in
    (tt, subst (λ (l : List Entry). KnownNumbers (ticks_of line) l later) (sym (append-nil past)) ((now, tt), known.1))

begins_tick : (ticks : ℕ) (past : List Entry) (m : Machine) → KnowTime (To_tick (suc ticks)) past m → KnowNumbers (To_tick (suc ticks)) past m
    → EachAfter MayBeTold past (entries m (Outside_does Begins_tick)) × KnowNumbers (Ticked ticks) (past ++ entries m (Outside_does Begins_tick)) (happens m (Outside_does Begins_tick))
unfolding happens entries outcome devices_after
begins_tick ticks past m time known =
    let later : Machine = happens m (Outside_does Begins_tick) in
    let clock = time.0.0.clock in
    let shown = time.0.0.shown in
    let begun = known.0.0.begun in
    let due : IsDue past (m.outside.outer.clock + 1) = record { later = omega (arith, shown, begun); asked = omega (arith, clock); filled = known.1 } in
    let now : TieNumbers 0 true past later.outside = record { begun = omega (arith, begun); quiet = λ is. absurd (let none : true ≡ false = is in cc) } in
    (tt, subst (λ (l : List Entry). KnownNumbers 0 l later) (sym (append-nil past)) ((now, (due, tt)), known.1))

-- ---- phases

abbrev Keeps : Phase → List Entry → Machine → Event → Type 0
Keeps = Steps MayBeTold KnowNumbers

-- one within a line or a tick
stays : (next to : Phase) (event is : Event) (past : List Entry) (m : Machine) → event ≡ is → next ≡ to → CoversOuter GoesWithin is → May m event → KnownNumbers 0 past m
    → ((later : List Entry) (n : Machine) → KnownNumbers 0 later n → KnowNumbers to later n) → Keeps next past m event
stays next to event is past m event_is next_is within may known there =
    let got = kept past m is within (subst (May m) event_is may) known in
    event_then MayBeTold KnowNumbers next to event is past m event_is next_is (got.0, there (past ++ entries m is) (happens m is) got.1)

event_keeps : (here next : Phase) (past : List Entry) (m : Machine) (event : Event) → Goes here m event next → May m event → KnowTime here past m → KnowNumbers here past m → Keeps next past m event
event_keeps (Said_line line) next past m event (event_is, next_is) may time known =
    event_then MayBeTold KnowNumbers next (Begun line) event (Outside_does Begins_line) past m event_is next_is (begins_line line past m known)
event_keeps (Doing line (first ∷ left)) next past m event (event_is, next_is) may time known =
    stays next (Doing line left) event first past m event_is next_is known.1.0 may known.0 (λ p n k. (k, known.1.1))
event_keeps (To_tick (suc ticks)) next past m event (event_is, next_is) may time known =
    event_then MayBeTold KnowNumbers next (Ticked ticks) event (Outside_does Begins_tick) past m event_is next_is (begins_tick ticks past m time known)
event_keeps (Arriving (suc frames) ticks) next past m event (drawn, route, event_is, next_is) may time known = stays next (Arriving frames ticks) event _ past m event_is next_is tt may known (λ p n k. k)
event_keeps (Giving (suc results) ticks) next past m event (route, event_is, next_is) may time known = stays next (Giving results ticks) event _ past m event_is next_is tt may known (λ p n k. k)
event_keeps (Ticking_devices place (suc count) ticks) next past m event (drawn, route, event_is, next_is) may time known =
    stays next (Ticking_devices (place + 1) count ticks) event _ past m event_is next_is tt may known (λ p n k. k)
event_keeps (Ticking_chip ticks) next past m event (event_is, next_is) may time known = stays next (Ticking_decoder ticks) event _ past m event_is next_is tt may known (λ p n k. k)
event_keeps (Ticking_decoder ticks) next past m event (event_is, next_is) may time known =
    stays next _ event _ past m event_is next_is tt may known (λ p n k. k)
event_keeps (Ticking_host (first ∷ events) ticks) next past m event (event_is, next_is) may time known = stays next (Ticking_host events ticks) event _ past m event_is next_is tt may known (λ p n k. k)
event_keeps (Sleeping passes ticks) next past m event (node, wants, event_is, next_is) may time known = stays next (Sleeping passes ticks) event _ past m event_is next_is tt may known (λ p n k. k)
event_keeps (Submitting passes ticks) next past m event (asked, is, event_is, next_is) may time known = stays next (Submitting passes ticks) event _ past m event_is next_is tt may known (λ p n k. k)
event_keeps (Moving passes ticks) next past m event (rest, ways, event_is, next_is) may time known = stays next (Moved true passes ticks) event _ past m event_is next_is tt may known (λ p n k. k)
event_keeps (Moved has_moved passes ticks) next past m event (rest, items, done, event_is, next_is) may time known =
    stays next (Sleeping passes ticks) event _ past m event_is next_is tt may known (λ p n k. k)
event_keeps here next past m event goes may time known = absurd goes

-- ---- a part begins

covers_line : (line : Line) → CoversLine GoesWithin line
covers_line (lines.Repeat frame) = λ drawn route. tt
covers_line (lines.Wake node) = λ route. tt
covers_line (lines.Local node value) = λ route. tt
covers_line lines.Restart = (tt, tt)
covers_line line = tt

-- more ticks may have been asked for
may_ask : (ticks : ℕ) (past : List Entry) (m : Machine) → KnownNumbers 0 past m → KnownNumbers ticks past m
may_ask ticks past m known = ((record { begun = known.0.0.begun; quiet = λ is. let few = known.0.0.quiet is in omega (arith, few) }, known.0.1), known.1)

to : (next phase : Phase) (past : List Entry) (m : Machine) → next ≡ phase → KnowNumbers phase past m → KnowNumbers next past m
to next phase past m is known = subst (λ (q : Phase). KnowNumbers q past m) (sym is) known

turn_keeps : (here next : Phase) (past : List Entry) (m : Machine) → Turns here m next → KnowTime here past m → KnowNumbers here past m → KnowNumbers next past m
turn_keeps (Begun line) next past m (inl (events, is, next_is)) time known =
    to next (Doing line events) past m next_is
    (subst (λ (n : ℕ). KnownNumbers n past m) (no_ticks_asked line m events is) known, effect_covered GoesWithin line m events (covers_line line) is)
turn_keeps (Begun line) next past m (inr (ticks, line_is, next_is)) time known =
    to next (To_tick ticks) past m next_is (subst (λ (l : Line). KnownNumbers (ticks_of l) past m) line_is known)
turn_keeps (Doing line []) next past m next_is time known = to next (Sleeping 64 0) past m next_is known.0
turn_keeps (To_tick zero) next past m next_is time known = to next Between past m next_is known
turn_keeps (Ticked ticks) next past m next_is time known = to next _ past m next_is known
turn_keeps (Arriving zero ticks) next past m next_is time known = to next _ past m next_is known
turn_keeps (Giving zero ticks) next past m next_is time known = to next _ past m next_is known
turn_keeps (Ticking_devices place zero ticks) next past m next_is time known = to next _ past m next_is known
turn_keeps (Ticking_host [] ticks) next past m next_is time known = to next (Sleeping 64 ticks) past m next_is known
turn_keeps (Sleeping passes ticks) next past m (wants, next_is) time known = to next (Submitting passes ticks) past m next_is known
turn_keeps (Submitting zero ticks) next past m (pumped, next_is) time known = to next (To_tick ticks) past m next_is (may_ask ticks past m known)
turn_keeps (Submitting (suc passes) ticks) next past m (pumped, next_is) time known = to next (Moving passes ticks) past m next_is known
turn_keeps (Moving passes ticks) next past m (still, next_is) time known = to next (Moved false passes ticks) past m next_is known
turn_keeps (Moved has_moved passes ticks) next past m (still, next_is) time known = to next (Sleeping _ ticks) past m next_is known
turn_keeps here next past m turns time known = absurd turns

pub number_walk : WalkOver KnowTime MayBeTold KnowNumbers
number_walk = record { said = said; event = event_keeps; turn = turn_keeps }

-- at first nothing was asked for, and nothing entered
pub numbers_first : (m : Machine) → m.outside.outer ≡ first_outer → KnowNumbers Between [] m
unfolding first_outer
numbers_first m is =
    let still : (m.outside.outer.in_tick && not m.outside.outer.stamped) ≡ false = ap (λ (o : OuterState). o.in_tick && not o.stamped) is in
    let tie : TieNumbers 0 (m.outside.outer.in_tick && not m.outside.outer.stamped) [] m.outside = record { begun = omega arith; quiet = λ awaits. omega arith } in
    ((tie, subst (λ (b : Bool). EachAfter MayBeTold [] (if b then entry.Time m.outside.outer.clock ∷ [] else [])) (sym still) tt), refl)
