-- Where lines are quiet no host starts, whatever is known of the machine.
use Rattle.std.proofs.Common.{◌≡◌, ℕ, zero, suc, inl, inr, true, false, List, [], ◌∷◌, ◌++◌, sym, subst}
use Rattle.std.specs.List.{AllByRecursion}
use Rattle.zw_text.specs.declared.line.Line.{Line}
use Rattle.zw_text.specs.declared.entry.Entry.{Entry}
use Rattle.zw_text.specs.declared.entry.Entry.TheVariants as entry
use Rattle.zw_text.specs.Transcript.{line_of}
use Rattle.law_time.specs.Stretches.{is_quiet_line}
use Rattle.world_model.specs.State.{Machine}
use Rattle.world_model.specs.Events.{Event, Restarts, entries}
use Rattle.proof_answered.specs.proof_calm.Quiet.{AreQuiet}
use Rattle.proof_answered.specs.proof_calm.Resting.{IsEffect, LineAt}
use Rattle.proof_answered.specs.proof_calm.proof_work.proof_walk.Phases.{Phase, Said_line, Begun, Doing, To_tick, Arriving, Giving, Ticking_devices, Ticking_chip, Ticking_decoder, Ticking_host, Sleeping, Submitting, Moving, Moved, Ticked, Between, Goes, Turns, after_pump}
use Rattle.proof_answered.proofs.Quiet.{quiet_both, said_quiet}
use Rattle.proof_answered.proofs.Ticking.{quiet_effect}

-- a quiet line has begun, and what is to come of it is of its effect
abbrev pub QuietAt : Phase → Type 0
QuietAt (Said_line line) = is_quiet_line line ≡ true
QuietAt (Begun line) = is_quiet_line line ≡ true
QuietAt (Doing line left) = AllByRecursion IsEffect left
QuietAt here = Unit {0}

pub quiet_at : (here : Phase) (m : Machine) → LineAt here m → QuietAt here
quiet_at (Said_line line) m at = at.0
quiet_at (Begun line) m at = at.0
quiet_at (Doing line left) m at = at.0
quiet_at here m at = tt

to : (is next : Phase) → next ≡ is → QuietAt is → QuietAt next
to is next same quiet = subst QuietAt (sym same) quiet

next_quiet : (here next : Phase) (m : Machine) (event : Event) → Goes here m event next → QuietAt here → QuietAt next
next_quiet (Said_line line) next m event (is, same) quiet = to (Begun line) next same quiet
next_quiet (Doing line (first ∷ left)) next m event (is, same) quiet = to (Doing line left) next same quiet.1
next_quiet (To_tick (suc ticks)) next m event (is, same) quiet = to (Ticked ticks) next same tt
next_quiet (Arriving (suc frames) ticks) next m event (drawn, route, is, same) quiet = to (Arriving frames ticks) next same tt
next_quiet (Giving (suc results) ticks) next m event (route, is, same) quiet = to (Giving results ticks) next same tt
next_quiet (Ticking_devices place (suc count) ticks) next m event (drawn, route, is, same) quiet = to (Ticking_devices _ count ticks) next same tt
next_quiet (Ticking_chip ticks) next m event (is, same) quiet = to (Ticking_decoder ticks) next same tt
next_quiet (Ticking_decoder ticks) next m event (is, same) quiet = to (Ticking_host _ ticks) next same tt
next_quiet (Ticking_host (first ∷ events) ticks) next m event (is, same) quiet = to (Ticking_host events ticks) next same tt
next_quiet (Sleeping passes ticks) next m event (node, wants, is, same) quiet = to (Sleeping passes ticks) next same tt
next_quiet (Submitting passes ticks) next m event (asked, next_is, is, same) quiet = to (Submitting passes ticks) next same tt
next_quiet (Moving passes ticks) next m event (rest, ways, is, same) quiet = to (Moved true passes ticks) next same tt
next_quiet (Moved b passes ticks) next m event (rest, items, done, is, same) quiet = to (Sleeping passes ticks) next same tt
next_quiet here next m event goes quiet = absurd goes

pumped_quiet : (passes ticks : ℕ) → QuietAt (after_pump passes ticks)
pumped_quiet zero ticks = tt
pumped_quiet (suc passes) ticks = tt

turn_quiet : (here next : Phase) (m : Machine) → Turns here m next → QuietAt here → QuietAt next
turn_quiet (Begun line) next m (inl (events, is, same)) quiet = to (Doing line events) next same (quiet_effect line m events quiet is)
turn_quiet (Begun line) next m (inr (ticks, is, same)) quiet = to (To_tick ticks) next same tt
turn_quiet (Doing line []) next m same quiet = to (Sleeping 64 0) next same tt
turn_quiet (To_tick zero) next m same quiet = to Between next same tt
turn_quiet (Ticked ticks) next m same quiet = to (Arriving _ ticks) next same tt
turn_quiet (Arriving zero ticks) next m same quiet = to (Giving _ ticks) next same tt
turn_quiet (Giving zero ticks) next m same quiet = to (Ticking_devices 0 _ ticks) next same tt
turn_quiet (Ticking_devices place zero ticks) next m same quiet = to (Ticking_chip ticks) next same tt
turn_quiet (Ticking_host [] ticks) next m same quiet = to (Sleeping 64 ticks) next same tt
turn_quiet (Sleeping passes ticks) next m (none, same) quiet = to (Submitting passes ticks) next same tt
turn_quiet (Submitting passes ticks) next m (pumped, same) quiet = to (after_pump passes ticks) next same (pumped_quiet passes ticks)
turn_quiet (Moving passes ticks) next m (still, same) quiet = to (Moved false passes ticks) next same tt
turn_quiet (Moved b passes ticks) next m (still, same) quiet = to (Sleeping _ ticks) next same tt
turn_quiet here next m turns quiet = absurd turns

-- ---- so over lines

abbrev pub KnowQuiet : Phase → List Entry → Type 0
KnowQuiet here past = AreQuiet past → QuietAt here

pub quiet_said : (past : List Entry) (words : List ℕ) (line : Line) → line_of (entry.Said words) ≡ line ∷ [] → KnowQuiet (Said_line line) (past ++ entry.Said words ∷ [])
quiet_said past words line read quiet = said_quiet words line read (quiet_both past (entry.Said words ∷ []) quiet).1

pub quiet_on : (here next : Phase) (past : List Entry) (m : Machine) (event : Event) → Goes here m event next → KnowQuiet here past → KnowQuiet next (past ++ entries m event)
quiet_on here next past m event goes known quiet = next_quiet here next m event goes (known (quiet_both past (entries m event) quiet).0)

pub quiet_turn : (here next : Phase) (past : List Entry) (m : Machine) → Turns here m next → KnowQuiet here past → KnowQuiet next past
quiet_turn here next past m turns known quiet = turn_quiet here next m turns (known quiet)

-- ---- no host starts

abbrev pub IsNoStart : Event → Type 0
IsNoStart (Restarts state) = ⊥
IsNoStart event = Unit {0}

no_start_as : (event is : Event) → event ≡ is → IsNoStart is → IsNoStart event
no_start_as event is same none = subst IsNoStart (sym same) none

effect_no_start : (event : Event) → IsEffect event → IsNoStart event
effect_no_start (Restarts state) is = absurd is
effect_no_start event is = tt

pub no_start_of : (here next : Phase) (m : Machine) (event : Event) → Goes here m event next → QuietAt here → IsNoStart event
no_start_of (Said_line line) next m event (is, same) quiet = no_start_as event _ is tt
no_start_of (Doing line (first ∷ left)) next m event (is, same) quiet = no_start_as event first is (effect_no_start first quiet.0)
no_start_of (To_tick (suc ticks)) next m event (is, same) quiet = no_start_as event _ is tt
no_start_of (Arriving (suc frames) ticks) next m event (drawn, route, is, same) quiet = no_start_as event _ is tt
no_start_of (Giving (suc results) ticks) next m event (route, is, same) quiet = no_start_as event _ is tt
no_start_of (Ticking_devices place (suc count) ticks) next m event (drawn, route, is, same) quiet = no_start_as event _ is tt
no_start_of (Ticking_chip ticks) next m event (is, same) quiet = no_start_as event _ is tt
no_start_of (Ticking_decoder ticks) next m event (is, same) quiet = no_start_as event _ is tt
no_start_of (Ticking_host (first ∷ events) ticks) next m event (is, same) quiet = no_start_as event _ is tt
no_start_of (Sleeping passes ticks) next m event (node, wants, is, same) quiet = no_start_as event _ is tt
no_start_of (Submitting passes ticks) next m event (asked, next_is, is, same) quiet = no_start_as event _ is tt
no_start_of (Moving passes ticks) next m event (rest, ways, is, same) quiet = no_start_as event _ is tt
no_start_of (Moved b passes ticks) next m event (rest, items, done, is, same) quiet = no_start_as event _ is tt
no_start_of here next m event goes quiet = absurd goes
