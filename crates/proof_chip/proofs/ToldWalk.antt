-- Over the phases of a line: what is due to the chip is told, but for the time in a tick until all its results have come.
use Rattle.std.proofs.Common.{◌≡◌, ℕ, zero, suc, ◌+◌, true, false, inl, inr, Bool, List, [], ◌∷◌, ◌++◌, refl, sym, subst, append-nil, arith}
use Rattle.std.specs.Prelude.{Option}
use Rattle.s0_crypto.specs.declared.key_pair.Keys.{Keys}
use Rattle.zw_text.specs.declared.entry.Entry.{Entry}
use Rattle.zw_text.specs.declared.entry.Entry.TheVariants as entry
use Rattle.host_model.specs.Ticking.{tick_events}
use Rattle.outside_model.specs.Devices.{State}
use Rattle.outside_model.specs.State.{first_outer}
use Rattle.outside_model.specs.Events.{Begins_line, Begins_tick, outcome}
use Rattle.world_model.specs.State.{Machine, first_machine}
use Rattle.world_model.specs.Events.{Event, Outside_does, May, entries, happens}
use Rattle.proof_air.specs.proof_walk.Outside.{CoversOuter, awaits_number}
use Rattle.proof_air.specs.proof_walk.Phases.{Phase, Between, Said_line, Begun, Doing, To_tick, Ticked, Arriving, Giving, Ticking_devices, Ticking_chip, Ticking_decoder, Ticking_host, Sleeping, Submitting, Moving, Moved, Goes, Turns}
use Rattle.proof_air.specs.proof_walk.Walk.{WalkOver}
use Rattle.proof_air.specs.Landing.{KnowLanding, TieSent}
use Rattle.proof_air.proofs.ByLine.{effect_covered}
use Rattle.proof_air.proofs.Counting.{each-left}
use Rattle.proof_air.proofs.Stepping.{Steps, event_then}
use Rattle.proof_air.proofs.Times.{IsWithin}
use Rattle.proof_chip.specs.Knowing.{AnyEntry}
use Rattle.proof_chip.specs.Tally.{IsOfLine}
use Rattle.proof_chip.specs.Told.{IsTold, KnowResults, KnowTold, ToldBefore}
use Rattle.proof_chip.proofs.Finishing.{no_length}
use Rattle.proof_chip.proofs.Learning.{any_each}
use Rattle.proof_chip.proofs.Tallies.{covers_line}
use Rattle.proof_chip.proofs.Told.{Clocked, event_told}
use Rattle.proof_chip.proofs.Staying.{covers_within}

-- ---- the clock

of_sent : (before clock : ℕ) (ticking awaits : Bool) (past : List Entry) → TieSent before ticking awaits past clock → Clocked awaits past clock
of_sent before clock ticking awaits past tie = record { begun = tie.begun; now = tie.now }

clocked : (here : Phase) (past : List Entry) (m : Machine) → KnowLanding here past m → Clocked (awaits_number m.outside.outer) past m.outside.outer.clock
clocked (Said_line line) past m saying = let at = saying.now in record { begun = omega (arith, at); now = λ is. at }
clocked (Begun line) past m opened = let at = opened.0.now in record { begun = omega (arith, at); now = λ is. at }
clocked (Doing line left) past m (inl repeating) = let at = repeating.opened.0.now in record { begun = omega (arith, at); now = λ is. at }
clocked (Doing line left) past m (inr (lands_none, landed)) = of_sent landed.before m.outside.outer.clock false (awaits_number m.outside.outer) past landed.sent.0
clocked (Ticked ticks) past m landing = of_sent landing.before m.outside.outer.clock true (awaits_number m.outside.outer) past landing.sent.0
clocked (Arriving left ticks) past m landing = of_sent landing.before m.outside.outer.clock true (awaits_number m.outside.outer) past landing.sent.0
clocked here past m landed = of_sent landed.before m.outside.outer.clock false (awaits_number m.outside.outer) past landed.sent.0

-- ---- events

begun_told : (past : List Entry) (m : Machine) → IsTold past m.outside.outer → IsTold (past ++ entries m (Outside_does Begins_line)) (happens m (Outside_does Begins_line)).outside.outer
unfolding happens entries outcome
begun_told past m told = subst (λ (l : List Entry). IsTold l m.outside.outer) (sym (append-nil past)) told

abbrev Keeps : Phase → List Entry → Machine → Event → Type 0
Keeps = Steps AnyEntry KnowTold

-- the event is this one
leads : (next to : Phase) (event is : Event) (past : List Entry) (m : Machine) → event ≡ is → next ≡ to → KnowTold to (past ++ entries m is) (happens m is) → Keeps next past m event
leads next to event is past m event_is next_is known = event_then AnyEntry KnowTold next to event is past m event_is next_is (any_each past (entries m is), known)

-- and begins neither a line nor a tick
goes : (here next to : Phase) (event is : Event) (past : List Entry) (m : Machine) → event ≡ is → next ≡ to → CoversOuter IsWithin is → May m event → KnowResults here past m → IsTold past m.outside.outer
    → (IsTold (past ++ entries m is) (happens m is).outside.outer → KnowTold to (past ++ entries m is) (happens m is)) → Keeps next past m event
goes here next to event is past m event_is next_is covers may ground told so =
    leads next to event is past m event_is next_is (so (event_told past m is covers (subst (May m) event_is may) (clocked here past m ground.0) told))

event_goes : (here next : Phase) (past : List Entry) (m : Machine) (event : Event) → Goes here m event next → May m event → KnowResults here past m → KnowTold here past m → Keeps next past m event
event_goes (Said_line line) next past m event (event_is, next_is) may ground known = leads next (Begun line) event (Outside_does Begins_line) past m event_is next_is (begun_told past m known.0, tt)
event_goes (Doing line (first ∷ left)) next past m event (event_is, next_is) may ground known =
    goes (Doing line (first ∷ left)) next (Doing line left) event first past m event_is next_is (covers_within first known.1.0) may ground known.0 (λ told. (told, known.1.1))
event_goes (To_tick (suc ticks)) next past m event (event_is, next_is) may ground known = leads next (Ticked ticks) event (Outside_does Begins_tick) past m event_is next_is (tt, tt)
event_goes (Arriving (suc left) ticks) next past m event (drawn, route, event_is, next_is) may ground known = leads next (Arriving left ticks) event _ past m event_is next_is (tt, tt)
event_goes (Giving (suc left) ticks) next past m event (route, event_is, next_is) may ground known = leads next (Giving left ticks) event _ past m event_is next_is (tt, tt)
event_goes (Ticking_devices place (suc count) ticks) next past m event (drawn, route, event_is, next_is) may ground known =
    goes (Ticking_devices place (suc count) ticks) next (Ticking_devices (place + 1) count ticks) event _ past m event_is next_is tt may ground known.0 (λ told. (told, tt))
event_goes (Ticking_chip ticks) next past m event (event_is, next_is) may ground known =
    goes (Ticking_chip ticks) next (Ticking_decoder ticks) event _ past m event_is next_is tt may ground known.0 (λ told. (told, tt))
event_goes (Ticking_decoder ticks) next past m event (event_is, next_is) may ground known =
    goes (Ticking_decoder ticks) next (Ticking_host (tick_events m.host.state) ticks) event _ past m event_is next_is tt may ground known.0 (λ told. (told, tt))
event_goes (Ticking_host (first ∷ events) ticks) next past m event (event_is, next_is) may ground known =
    goes (Ticking_host (first ∷ events) ticks) next (Ticking_host events ticks) event _ past m event_is next_is tt may ground known.0 (λ told. (told, tt))
event_goes (Sleeping passes ticks) next past m event (node, wants, event_is, next_is) may ground known =
    goes (Sleeping passes ticks) next (Sleeping passes ticks) event _ past m event_is next_is tt may ground known.0 (λ told. (told, tt))
event_goes (Submitting passes ticks) next past m event (asked, is, event_is, next_is) may ground known =
    goes (Submitting passes ticks) next (Submitting passes ticks) event _ past m event_is next_is tt may ground known.0 (λ told. (told, tt))
event_goes (Moving passes ticks) next past m event (rest, ways, event_is, next_is) may ground known =
    goes (Moving passes ticks) next (Moved true passes ticks) event _ past m event_is next_is tt may ground known.0 (λ told. (told, tt))
event_goes (Moved has_moved passes ticks) next past m event (rest, items, done, event_is, next_is) may ground known =
    goes (Moved has_moved passes ticks) next (Sleeping passes ticks) event _ past m event_is next_is tt may ground known.0 (λ told. (told, tt))
event_goes here next past m event goes_so may ground known = absurd goes_so

-- ---- a part begins

to : (next phase : Phase) (past : List Entry) (m : Machine) → next ≡ phase → KnowTold phase past m → KnowTold next past m
to next phase past m is known = subst (λ (q : Phase). KnowTold q past m) (sym is) known

turn_goes : (here next : Phase) (past : List Entry) (m : Machine) → Turns here m next → KnowResults here past m → KnowTold here past m → KnowTold next past m
turn_goes (Begun line) next past m (inl (events, is, next_is)) ground known = to next (Doing line events) past m next_is (known.0, effect_covered IsOfLine line m events (covers_line line) is)
turn_goes (Begun line) next past m (inr (ticks, line_is, next_is)) ground known = to next (To_tick ticks) past m next_is known
turn_goes (Doing line []) next past m next_is ground known = to next (Sleeping 64 0) past m next_is (known.0, tt)
turn_goes (To_tick zero) next past m next_is ground known = to next Between past m next_is known
turn_goes (Ticked ticks) next past m next_is ground known = to next (Arriving _ ticks) past m next_is known
turn_goes (Arriving zero ticks) next past m next_is ground known = to next (Giving _ ticks) past m next_is known
turn_goes (Giving zero ticks) next past m next_is ground known =
    let none = no_length m.outside.outer.due ground.1.1.many in to next (Ticking_devices 0 _ ticks) past m next_is (λ each_told waits. none, tt)
turn_goes (Ticking_devices place zero ticks) next past m next_is ground known = to next (Ticking_chip ticks) past m next_is known
turn_goes (Ticking_host [] ticks) next past m next_is ground known = to next (Sleeping 64 ticks) past m next_is known
turn_goes (Sleeping passes ticks) next past m (wants, next_is) ground known = to next (Submitting passes ticks) past m next_is known
turn_goes (Submitting zero ticks) next past m (pumped, next_is) ground known = to next (To_tick ticks) past m next_is known
turn_goes (Submitting (suc passes) ticks) next past m (pumped, next_is) ground known = to next (Moving passes ticks) past m next_is known
turn_goes (Moving passes ticks) next past m (still, next_is) ground known = to next (Moved false passes ticks) past m next_is known
turn_goes (Moved has_moved passes ticks) next past m (still, next_is) ground known = to next (Sleeping _ ticks) past m next_is known
turn_goes here next past m turns ground known = absurd turns

pub told_walk : WalkOver KnowResults AnyEntry KnowTold
told_walk = record {
  said = λ past m words line read ground known.
      (tt, (λ each_told waits. known.0 (each-left (ToldBefore m.outside.outer.clock) [] past (entry.Said words ∷ []) each_told) waits, tt));
  event = event_goes;
  turn = turn_goes;
}

-- ---- at first nothing is due

pub told_first : (keys : Keys) (records : Option (List (List ℕ))) (devices : List State) → KnowTold Between [] (first_machine keys records devices)
unfolding first_outer
told_first keys records devices = (λ each_told waits. refl, tt)
