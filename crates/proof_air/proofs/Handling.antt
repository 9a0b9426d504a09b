-- Over the phases of a line: the frames that the chip holds for the host bring what was heard, where the history of the air is known.
use Rattle.std.proofs.Common.{◌≡◌, ℕ, suc, ◌&&◌, not, Bool, true, false, if◌then◌else◌, inl, inr, List, [], ◌∷◌, ◌++◌, sym, subst}
use Rattle.zw_text.specs.declared.line.Line.{Line}
use Rattle.zw_text.specs.declared.entry.Entry.{Entry}
use Rattle.zw_text.specs.declared.entry.Entry.TheVariants as entry
use Rattle.zw_text.specs.Transcript.{line_of}
use Rattle.law_wire.specs.law_transcript.Lists.{EachAfter}
use Rattle.law_wire.specs.law_transcript.Carrying.{MayBring}
use Rattle.proof_walk.specs.host_model.Events.{Joins as joins_host}
use Rattle.proof_walk.specs.outside_model.State.{OuterState, first_outer}
use Rattle.proof_walk.specs.outside_model.Events.{Repeats, ticked_entry}
use Rattle.proof_walk.specs.world_model.State.{Machine}
use Rattle.proof_walk.specs.world_model.Events.{Event, Outside_does, Host_does, happens, entries, May}
use Rattle.proof_walk.specs.Outside.{nothing, CoversOuter}
use Rattle.proof_walk.specs.Phases.{Phase, Between, Said_line, Begun, Doing, To_tick, Arriving, Giving, Ticking_devices, Ticking_chip, Ticking_decoder, Ticking_host, Sleeping, Submitting, Moving, Moved, Goes}
use Rattle.proof_walk.specs.Walk.{WalkOver}
use Rattle.proof_walk.proofs.Machines.{machine_keeps}
use Rattle.proof_air.specs.Logs.{Tie}
use Rattle.proof_air.specs.Hearing.{JoinsNode, KnowAir}
use Rattle.proof_air.specs.Carrying.{KnowsBeside, KnowHandlers}
use Rattle.proof_air.proofs.Judging.{StartsSo}
use Rattle.proof_air.proofs.Hearing.{hosts}
use Rattle.proof_air.proofs.Homes.{port_stays}
use Rattle.proof_air.proofs.Putting.{BringNone, all_stand}
use Rattle.proof_air.proofs.Bringing.{bring_law}

-- ---- what is known of the air

pub tie_here : (here : Phase) (past : List Entry) (m : Machine) → KnowAir here past m → Tie nothing past m.outside
tie_here (Said_line line) past m known = known.0
tie_here (Begun line) past m known = known.0
tie_here (Doing line left) past m (inl awaits) = awaits.tie
tie_here (Doing line left) past m (inr known) = known.1.0.0
tie_here (Ticking_host events ticks) past m known = known.1.0.0
tie_here here past m known = known.0.0

-- the event is this one, at which the controller does not join
joins_none : (event is : Event) → event ≡ is → CoversOuter JoinsNode is → CoversOuter JoinsNode event
joins_none event is same none = subst (CoversOuter JoinsNode) (sym same) none

covers_here : (here next : Phase) (past : List Entry) (m : Machine) (event : Event) → Goes here m event next → KnowAir here past m → CoversOuter JoinsNode event
covers_here (Said_line line) next past m event (is, next_is) known = joins_none event _ is tt
covers_here (Doing line (first ∷ left)) next past m event (is, next_is) (inl awaits) =
    let all = awaits.is in
    let one : first ≡ Outside_does (Repeats awaits.number awaits.drawn awaits.route) = cc in
    joins_none event first is (joins_none first _ one tt)
covers_here (Doing line (first ∷ left)) next past m event (is, next_is) (inr (inl (node, all), known)) =
    let one : first ≡ Host_does (joins_host node) = cc in
    joins_none event first is (joins_none first _ one tt)
covers_here (Doing line (first ∷ left)) next past m event (is, next_is) (inr (inr all, known)) = joins_none event first is all.0
covers_here (To_tick (suc ticks)) next past m event (is, next_is) known = joins_none event _ is tt
covers_here (Arriving (suc frames) ticks) next past m event (drawn, route, is, next_is) known = joins_none event _ is tt
covers_here (Giving (suc results) ticks) next past m event (route, is, next_is) known = joins_none event _ is tt
covers_here (Ticking_devices place (suc count) ticks) next past m event (drawn, route, is, next_is) known = joins_none event _ is tt
covers_here (Ticking_chip ticks) next past m event (is, next_is) known = joins_none event _ is tt
covers_here (Ticking_decoder ticks) next past m event (is, next_is) known = joins_none event _ is tt
covers_here (Ticking_host (first ∷ events) ticks) next past m event (is, next_is) known = joins_none event _ is tt
covers_here (Sleeping passes ticks) next past m event (node, wants, is, next_is) known = joins_none event _ is tt
covers_here (Submitting passes ticks) next past m event (asked, may, is, next_is) known = joins_none event _ is tt
covers_here (Moving passes ticks) next past m event (rest, ways, is, next_is) known = joins_none event _ is tt
covers_here (Moved has_moved passes ticks) next past m event (rest, items, done, is, next_is) known = joins_none event _ is tt
covers_here here next past m event goes known = absurd goes

-- ---- the walk

number_stands : (past : List Entry) (o : OuterState) → EachAfter MayBring past (ticked_entry o)
number_stands past o = all_stand past (ticked_entry o) (by (o.in_tick && not o.stamped))
  where
    by : (b : Bool) → BringNone (if b then entry.Time o.clock ∷ [] else [])
    by true = (tt, tt)
    by false = tt

said : (past : List Entry) (m : Machine) (words : List ℕ) (line : Line) → line_of (entry.Said words) ≡ line ∷ [] → KnowAir Between past m → KnowHandlers Between past m
    → MayBring past (entry.Said words) × KnowHandlers (Said_line line) (past ++ entry.Said words ∷ []) m
said past m words line read air known = (tt, port_stays past (entry.Said words ∷ []) m.outside.outer.chip.state.port known)

module _ (rules : StartsSo) where
  event_keeps : (here next : Phase) (past : List Entry) (m : Machine) (event : Event) → Goes here m event next → May m event → KnowAir here past m → KnowHandlers here past m
      → EachAfter MayBring past (entries m event) × KnowHandlers next (past ++ entries m event) (happens m event)
  event_keeps here next past m event goes may air known =
      let got = machine_keeps MayBring KnowsBeside JoinsNode (bring_law rules) hosts m event (covers_here here next past m event goes air) may past
      ((tie_here here past m air, record { port = known; come = tt }), number_stands past m.outside.outer) in
      (got.0, got.1.0.1.port)

  pub handler_walk : WalkOver KnowAir MayBring KnowHandlers
  handler_walk = record { said = said; event = event_keeps; turn = λ here next past m turns air known. known }

-- at first the chip has no frame
pub handlers_first : (m : Machine) → m.outside.outer ≡ first_outer → KnowHandlers Between [] m
unfolding first_outer
handlers_first m is = subst (λ (o : OuterState). KnowHandlers Between [] (record m { outside = record m.outside { outer = o } })) (sym is) (record { turn = tt; waiting = tt })
