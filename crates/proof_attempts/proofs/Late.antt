-- A request that is under way has not ended before a tick whose number is still to be entered; and the nodes that are to tick are nodes.
use Rattle.std.proofs.Common.{◌≡◌, ℕ, zero, suc, ◌+◌, ◌-◌, ◌≤◌, Bool, true, false, if◌then◌else◌, inl, inr, List, [], ◌∷◌, ◌++◌, map, filter, Option, Some, None, refl, sym, ap, ◌∙◌, subst, append-nil, arith}
use Rattle.std.specs.Prelude.{is_none}
use Rattle.std.specs.List.{AllByRecursion, range_with_len}
use Rattle.std.proofs.lemmas.Bool.{both_ways}
use Rattle.serial_frame.specs.Items.{unit_text}
use Rattle.serial_frame.specs.declared.unit.Unit.{Unit as LineUnit}
use Rattle.serial_frame.specs.declared.unit.Unit.TheVariants.{Framed}
use Rattle.zw_words.specs.declared.side.Side.TheVariants.{Host}
use Rattle.zw_text.specs.declared.entry.Entry.{Entry}
use Rattle.zw_text.specs.declared.entry.Entry.TheVariants as entry
use Rattle.proof_work.specs.law_time.Requests.{asked}
use Rattle.proof_work.specs.law_time.Ends.{has_ended}
use Rattle.host_requests.specs.State.{RequestsState}
use Rattle.host_requests.specs.declared.under_way.UnderWay.{UnderWay}
use Rattle.host_node.specs.State.{needs_tick}
use Rattle.proof_requests.specs.host_model.State.{HostState, node_of}
use Rattle.proof_requests.specs.host_model.After.{after}
use Rattle.proof_requests.specs.host_model.Did.{after_all}
use Rattle.proof_requests.specs.host_model.Events.{HostEvent, Node_ticks}
use Rattle.proof_requests.specs.host_model.Ticking.{first_ticks, tick_events, ticking_nodes}
use Rattle.proof_requests.specs.proof_alone.State.{HostMachine, done}
use Rattle.proof_requests.specs.proof_alone.Steps.{AreFrames, Step, Tells, Comes, Misses, Says, Says_nothing, Asks, Refuses, Shows, Restarts, Begins_tick, Numbers, Judges, Does, entries, happens}
use Rattle.proof_requests.specs.proof_alone.Phases.{Phase, Resting, Asked, Risen, Ticking, Open, Behind, Sleeping, Submitting, GoesBy, May, Turns}
use Rattle.proof_requests.specs.proof_alone.Runs.{Knowledge, both_know}
use Rattle.proof_requests.specs.proof_waking.Judged.{KnowsJudged}
use Rattle.proof_requests.specs.Asking.{Doing, TieAsked, doing_of}
use Rattle.proof_requests.specs.Walking.{CameAt, Ground as RequestsGround, KnowsAsked}
use Rattle.proof_requests.proofs.Doing.{beside_same}
use Rattle.proof_requests.proofs.Ending.{told_of_host}
use Rattle.proof_requests.proofs.Stepping.{asked_beside}
use Rattle.proof_attempts.specs.Asleep.{KnowsTicking, KnowsUnended, NodesTick, TicksNode}
use Rattle.proof_attempts.specs.Since.{WalkBoth}
use Rattle.proof_attempts.proofs.Requested.{event_keeps}
use Rattle.proof_attempts.proofs.Wrote.{Wrote, writes}
use Rattle.proof_attempts.proofs.Wrote.Wrote.{Quietly, Again, Anew}

-- ---- unended

abbrev Unended : List Entry → RequestsState → ℕ → Type 0
Unended past requests now = (u : UnderWay) → requests.under_way ≡ Some u → has_ended (asked past) now ≡ false

-- at rest, by what is known of the request
pub unended_at : (past : List Entry) (now : ℕ) (came : List LineUnit) (h : HostState) → AreFrames came → TieAsked past now now came (doing_of h) → Unended past h.requests now
unended_at past now came h frames (inl none) u is = absurd (let nothing = none.none in let bad : None ≡ Some u = sym nothing ∙ is in cc)
unended_at past now came h frames (inr (was, asks)) u is =
    (told_of_host past now came (doing_of h) (inr (was, asks))).ended was frames ∙ ap (λ (o : Option UnderWay). is_none o) is

unnumbered : (awaits : Bool) → awaits ≡ false → awaits ≡ true → ⊥
unnumbered awaits none is = both_ways awaits none is

told_none : (awaits : Bool) (e : Entry) (told more : List Entry) → (awaits ≡ true → told ≡ []) → told ≡ e ∷ more → awaits ≡ true → ⊥
told_none awaits e told more numbered are is = let none = numbered is in let bad : e ∷ more ≡ [] = sym are ∙ none in cc

unended_end : (past told : List Entry) (requests : RequestsState) (now : ℕ) → told ≡ [] → Unended past requests now → Unended (past ++ told) requests now
unended_end past told requests now is un = subst (λ (l : List Entry). Unended l requests now) (sym (ap (λ (l : List Entry). past ++ l) is ∙ append-nil past)) un

pub less : (n : ℕ) → n + 1 - 1 ≡ n
less n = omega arith

does_unended : (here next : Phase) (past told : List Entry) (m : HostMachine) (event : HostEvent) → May here m (Does event told) next → Wrote here past told m.state event → KnowsUnended here past m
    → KnowsUnended next (past ++ told) (done m event)
does_unended here next past told m event may (Quietly un quiet) known awaits u is =
    let (v, was, same) = (event_keeps m.state event un).same u is in
    unended_end past told m.state.requests (m.clock - 1) (may.3 awaits) (known awaits) v was
does_unended here next past told m event may (Again f rest un is_so old quiet) known awaits u is = absurd (told_none m.awaits (entry.Written Host (unit_text (Framed f))) told rest may.3 is_so awaits)
does_unended here next past told m event may (Anew purpose f marks here_is free is_so new all now) known awaits u is = absurd (told_none m.awaits (entry.Written Host (unit_text (Framed f))) told marks may.3 is_so awaits)

step_unended : (here next : Phase) (past : List Entry) (m : HostMachine) (one : Step) → May here m one next → both_know RequestsGround KnowsAsked here past m → KnowsUnended here past m
    → KnowsUnended next (past ++ entries m one) (happens m one)
step_unended here next past m (Tells e) may ground known awaits = absurd (unnumbered m.awaits may.2 awaits)
step_unended here next past m (Comes unit) may ground known awaits = absurd (unnumbered m.awaits may.1 awaits)
step_unended here next past m (Misses text marks) may ground known awaits = absurd (unnumbered m.awaits may.2 awaits)
step_unended here next past m (Says words line) may ground known awaits = absurd (let bad : false ≡ true = awaits in cc)
step_unended here next past m (Says_nothing words) may ground known awaits = absurd (let bad : false ≡ true = awaits in cc)
step_unended here next past m (Asks event) may ground known awaits = λ u is.
    let same : (after m.state event).requests.under_way ≡ m.state.requests.under_way = ap (λ (d : Doing). d.under_way) (beside_same m.state event (asked_beside may.0 m.state event may.2)) in
    unended_end past (entries m (Asks event)) m.state.requests (m.clock - 1) (may.4 awaits) (known awaits) u (sym same ∙ is)
step_unended here next past m (Refuses refusal) may ground known awaits = absurd (unnumbered m.awaits may.3 awaits)
step_unended here next past m (Shows node) may ground known awaits = absurd (unnumbered m.awaits may.1 awaits)
step_unended here next past m (Restarts state) may ground known awaits =
    absurd (unnumbered m.awaits (subst (λ (p : Phase). KnowsJudged p past m) may.0 ground.0.0.0.1).unnumbered awaits)
step_unended here next past m (Begins_tick left) may ground known awaits = λ u is.
    let asks : TieAsked past m.clock m.clock m.came (doing_of m.state) = subst (λ (p : Phase). KnowsAsked p past m) may.0 ground.1 in
    let frames : AreFrames m.came = subst (λ (p : Phase). CameAt p m.came) may.0 ground.0.0.1 in
    unended_end past [] m.state.requests (m.clock + 1 - 1) refl
    (subst (λ (n : ℕ). Unended past m.state.requests n) (sym (less m.clock)) (unended_at past m.clock m.came m.state frames asks)) u is
step_unended here next past m Numbers may ground known awaits = absurd (let bad : false ≡ true = awaits in cc)
step_unended here next past m (Judges item rest behind told) may ground known awaits =
    unended_end past told m.state.requests (m.clock - 1) (may.1.numbered awaits) (known awaits)
step_unended here next past m (Does event told) may ground known awaits = does_unended here next past told m event may (writes here next past told m event may ground.0 ground.1) known awaits

pub unended_walk : WalkBoth (both_know RequestsGround KnowsAsked) KnowsUnended
unended_walk = record {
  step = λ here next past m one may ground later known. step_unended here next past m one may ground known;
  turn = λ here next past m turns ground known. known;
}

-- ---- which nodes tick

within : (p : ℕ → Bool) (from count : ℕ) → 1 ≤ from → from + count ≤ 233 → AllByRecursion TicksNode (map Node_ticks (filter p (range_with_len from count)))
within p from zero least most = tt
within p from (suc count) least most = by (p from) (within p (from + 1) count (omega (arith, least)) (omega (arith, most)))
  where
    by : (b : Bool) → AllByRecursion TicksNode (map Node_ticks (filter p (range_with_len (from + 1) count)))
        → AllByRecursion TicksNode (map Node_ticks (if b then from ∷ filter p (range_with_len (from + 1) count) else filter p (range_with_len (from + 1) count)))
    by true rest = ((least, omega (arith, most)), rest)
    by false rest = rest

nodes_tick : (h : HostState) → AllByRecursion TicksNode (map Node_ticks (ticking_nodes h))
unfolding ticking_nodes
nodes_tick h = within (λ n. needs_tick (node_of h n)) 1 232 (omega arith) (omega arith)

tick_nodes : (h : HostState) → AllByRecursion TicksNode (tick_events h)
tick_nodes h = (tt, (tt, nodes_tick (after_all h first_ticks)))

ticks_at : (next to : Phase) → next ≡ to → NodesTick to → NodesTick next
ticks_at next to is known = subst NodesTick (sym is) known

does_ticking : (here next : Phase) (m : HostMachine) (event : HostEvent) → GoesBy here m.state event next → NodesTick here → NodesTick next
does_ticking (Ticking (first ∷ left)) next m event goes known = ticks_at next (Ticking left) goes.1 known.1
does_ticking (Behind (first ∷ left)) next m event goes known = ticks_at next (Behind left) goes.1 tt
does_ticking Sleeping next m event (node, wants, is, to_is) known = ticks_at next Sleeping to_is tt
does_ticking Submitting next m event goes known = ticks_at next Submitting goes.1 tt
does_ticking here next m event goes known = absurd goes

step_ticking : (here next : Phase) (m : HostMachine) (one : Step) → May here m one next → NodesTick here → NodesTick next
step_ticking here next m (Tells e) may known = ticks_at next here may.3 known
step_ticking here next m (Comes unit) may known = ticks_at next here may.2 known
step_ticking here next m (Misses text marks) may known = ticks_at next here may.3 known
step_ticking here next m (Says words line) may known = ticks_at next (Asked line) may.3 tt
step_ticking here next m (Says_nothing words) may known = ticks_at next here may.3 known
step_ticking here next m (Asks event) may known = ticks_at next Open may.5 tt
step_ticking here next m (Refuses refusal) may known = ticks_at next Open may.4 tt
step_ticking here next m (Shows node) may known = ticks_at next Open may.2 tt
step_ticking here next m (Restarts state) may known = ticks_at next Open may.2 tt
step_ticking here next m (Begins_tick left) may known = ticks_at next Risen may.2 tt
step_ticking here next m Numbers may known = ticks_at next here may.1 known
step_ticking here next m (Judges item rest behind told) may known = ticks_at next (Behind behind) may.2 tt
step_ticking here next m (Does event told) may known = does_ticking here next m event may.0 known

turn_ticking : (here next : Phase) (m : HostMachine) → Turns here m next → NodesTick here → NodesTick next
turn_ticking Resting next m is known = ticks_at next Open is tt
turn_ticking (Asked line) next m (inl (nothing, is)) known = ticks_at next Open is tt
turn_ticking (Asked line) next m (inr (ticks, line_is, is)) known = ticks_at next Resting is tt
turn_ticking Risen next m is known = ticks_at next (Ticking (tick_events m.state)) is (tick_nodes m.state)
turn_ticking (Ticking []) next m is known = ticks_at next Open is tt
turn_ticking (Ticking (event ∷ left)) next m is known = absurd is
turn_ticking Open next m is known = ticks_at next Sleeping is tt
turn_ticking (Behind []) next m is known = ticks_at next Open is tt
turn_ticking (Behind (event ∷ left)) next m is known = absurd is
turn_ticking Sleeping next m is known = ticks_at next Submitting is.1 tt
turn_ticking Submitting next m is known = ticks_at next Resting is.1 tt

pub ticking_walk : (Ground : Knowledge) → WalkBoth Ground KnowsTicking
ticking_walk Ground = record {
  step = λ here next past m one may ground later known. step_ticking here next m one may known;
  turn = λ here next past m turns ground known. turn_ticking here next m turns known;
}
