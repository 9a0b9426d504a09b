-- From phase to phase an open session comes nearer to its end, with each tick that begins.
use Rattle.std.proofs.Common.{◌≡◌, ◌≢◌, ◌≤◌, ◌<◌, ℕ, suc, ◌+◌, ◌-◌, inl, inr, Bool, true, false, if◌then◌else◌, List, [], ◌∷◌, ◌++◌, length, refl, sym, ap, subst, arith}
use Rattle.std.specs.Prelude.{◌⊎◌, Option, Some, None, IsSome}
use Rattle.std.specs.List.{AllByRecursion}
use Rattle.zw_text.specs.declared.entry.Entry.{Entry}
use Rattle.zw_text.specs.declared.entry.Entry.TheVariants as entry
use Rattle.zw_text.specs.declared.line.Line.{Line}
use Rattle.zw_text.specs.Transcript.{line_of}
use Rattle.serial_frame.specs.Stream.{Rest}
use Rattle.serial_frame.specs.declared.item.Item.{Item}
use Rattle.supervision.specs.Host.{open_session}
use Rattle.chip_functions.specs.Field.{IsNode}
use Rattle.chip_sim.specs.Nodes.{is_marked}
use Rattle.host_node.specs.Search.{next_of}
use Rattle.host_node.specs.Facts.{NodeFacts, SeriesFacts}
use Rattle.host_node.specs.State.{NodeState}
use Rattle.host_node.specs.declared.series.Series.{Series}
use Rattle.host_node.specs.declared.series.Series.TheVariants as series
use Rattle.host_model.specs.After.{after}
use Rattle.host_model.specs.Events.{HostEvent, Accepts, Begin_unkept}
use Rattle.host_model.specs.Facts.{HostFacts}
use Rattle.host_model.specs.May.{May as MayHost}
use Rattle.host_model.specs.Pumping.{no_more_event}
use Rattle.host_model.specs.State.{HostState, node_of}
use Rattle.outside_model.specs.Events.{OuterEvent, Begins_line, Begins_tick, Arrives, Gives, Device_ticks, Chip_ticks, Chip_takes, Wakes_device, Shows, Cuts}
use Rattle.world_model.specs.Events.{Event, Outside_does, Host_does, Host_takes, Decoder_ticks, Refuses, Shows_values, happens, entries, May}
use Rattle.world_model.specs.State.{Machine}
use Rattle.proof_answered.specs.proof_calm.proof_work.Line.{HasOnLine}
use Rattle.proof_answered.specs.proof_calm.proof_work.Phases.{AsksNothing}
use Rattle.proof_answered.specs.proof_calm.proof_work.proof_walk.Phases.{Phase, Between, Said_line, Doing, To_tick, Arriving, Giving, Ticking_devices, Ticking_chip, Ticking_decoder, Ticking_host, Sleeping, Submitting, Moving, Moved, Goes, Turns}
use Rattle.proof_answered.specs.proof_calm.proof_work.proof_walk.Walk.{WalkWhere}
use Rattle.proof_answered.specs.proof_calm.Awaited.{AwaitsAt}
use Rattle.proof_answered.specs.proof_calm.Resting.{IsEffect, IsOuterEffect, LineAt}
use Rattle.proof_answered.specs.proof_calm.Routed.{IsRouted}
use Rattle.proof_answered.specs.proof_calm.Tied.{IsPeopled, IsTied, PumpedAt, RoomAt, TieAt, unheard}
use Rattle.proof_answered.specs.FirstAttempts.{IsInTime}
use Rattle.proof_answered.specs.Heard.{AllSayHeard}
use Rattle.proof_answered.proofs.FirstWalk.{first_on}
use Rattle.proof_answered.proofs.Peopled.{takes_are}
use Rattle.proof_answered.proofs.TurnOrder.{comes_no_later, turn_least, turn_most}
use Rattle.proof_answered.proofs.Unmarked.{nothing_asked}
use Rattle.proof_answered.proofs.proof_traffic_Parts.{Airs}
use Rattle.proof_answered.specs.Turns.{turn_of}
use Rattle.proof_answered.specs.Workers.{AllFrom, IsFrom, KnowWorkers, KnowsWorkers, Staffed}
use Rattle.proof_spoken.proofs.Keeping.{GivesNoPart}
use Rattle.proof_in_time.specs.Coming.{IsKeptFor}
use Rattle.proof_in_time.specs.Sleeping.{ComesUp}
use Rattle.proof_in_time.specs.InHand.{ComesAfter, HasEnded, IsInHand, Opened, RestsBefore, Unopened, ticks_begun, ticks_blocked, ticks_enough, ticks_of_all}
use Rattle.proof_in_time.proofs.Bounded.{either_node}
use Rattle.proof_in_time.proofs.InHand.{Due, Ended, EndsLater, Goes_on, HandAt, HasTurn, Idles, KeptLaws, Rests, Runs, Sleeps_on, event_hand, later_hand_as, later_kept}
use Rattle.proof_in_time.specs.Owed.{IsOwed}
use Rattle.proof_in_time.proofs.InTurn.{ComesTo, In_turn, Owed, no_part, none_owed, owed_on, owed_turn, turn_ticks}
use Rattle.proof_in_time.proofs.Keeping.{kept_before, none_unkept, told_kept}
use Rattle.proof_in_time.proofs.Lasting.{most_then}
use Rattle.proof_in_time.proofs.Retried.{held_on, own_tick_left, rests_on, rests_turn, ticks_then}
use Rattle.proof_in_time.proofs.Rising.{HasRisen, IsServed, Risen}
use Rattle.proof_in_time.proofs.Rousing.{some_up, up_said}
use Rattle.proof_in_time.proofs.Counting.{Ground, IsStep, IsTurn}
use Rattle.proof_in_time.proofs.Served.{BeginsNone, BeginsNoTick, IsPartOf, ServesNext, each_no_part, event_clock, events_served, served_now, tick_clock}

-- an attempt of the node runs, and has its end within so many ticks
pub record RunsOn (Within : ℕ → Phase → Machine → Type 0) (ticks : ℕ) (here : Phase) (m : Machine) : Type 0 where
  pub most : ℕ
  pub waits : Within most here m
  pub few : most + 1 ≤ ticks

-- the wait after a series is over, and the next one can begin, with ticks enough for its session and those that follow
abbrev pub IsOverSoon : ℕ → List Bool → ℕ → ℕ → ℕ → ℕ → Phase → Type 0
IsOverSoon long these n ticks more wait here = suc wait + (1 + ticks_of_all long these (suc (suc more))) ≤ ticks + own_tick_left n here

-- the node is blocked until its tick, and then ticks enough are left for the sessions up to its own
abbrev pub IsHeldSoon : ℕ → List Bool → ℕ → ℕ → ℕ → Phase → Type 0
IsHeldSoon long these n ticks more here = 1 + ticks_of_all long these (suc more) ≤ ticks + own_tick_left n here

abbrev pub Never : ℕ → Type 0
Never more = ⊥

abbrev pub NeverRests : ℕ → ℕ → Type 0
NeverRests more wait = ⊥

-- the session of the command is over within so many ticks: those of the sessions that are to follow the one that is to begin or is open come after that
abbrev pub EndsSoon : (ℕ → Phase → Machine → Type 0) → ℕ → List Bool → ℕ → ℕ → ℕ → Phase → Machine → Type 0
EndsSoon Within long these n command ticks here m =
    EndsLater command (λ (more : ℕ). ComesTo long these n (ticks - ticks_of_all long these more) here m) (λ (more : ℕ). RunsOn Within (ticks - ticks_of_all long these more) here m) (λ (more : ℕ). IsHeldSoon long these n ticks more here)
    (λ (more wait : ℕ). IsOverSoon long these n ticks more wait here) Never (node_of m.host.state n)

-- so many ticks are enough for those sessions, once so many others have begun
abbrev pub Enough : ℕ → List Bool → ℕ → ℕ → ℕ → Type 0
Enough long these late ticks more = late + ticks_of_all long these (suc more) ≤ ticks

-- whatever becomes of the node until then
abbrev pub WaitsOn : ℕ → List Bool → ℕ → ℕ → ℕ → NodeState → Type 0
WaitsOn long these command late ticks x = EndsLater command (Enough long these late ticks) (Enough long these late ticks) (Enough long these late ticks) NeverRests (λ (more : ℕ). Enough long these late ticks (suc more)) x

-- so it is; or the node was woken, and its Notification comes to the host within so many ticks, and one before that
pub data Soon (Within : ℕ → Phase → Machine → Type 0) (listening : Bool) (long : ℕ) (these : List Bool) (n command ticks : ℕ) (here : Phase) (past : List Entry) (m : Machine) : Type 0 where
  Wakes_soon : listening ≡ false → (left : ℕ) → ComesUp n left here m → WaitsOn long these command (left + 1) ticks (node_of m.host.state n) → Soon Within listening long these n command ticks here past m
  Ends_soon : Risen listening n here past m → EndsSoon Within long these n command ticks here m → Soon Within listening long these n command ticks here past m

-- what is known beside: the session of the command is over within as many ticks as are left
abbrev pub KnowSoon : (Phase → List Entry → Machine → Type 0) → (ℕ → Phase → Machine → Type 0) → Bool → ℕ → List Bool → ℕ → ℕ → ℕ → Phase → List Entry → Machine → Type 0
KnowSoon Know Within listening long these n command most here past m = Know here past m × (IsKeptFor these past → Soon Within listening long these n command (most - ticks_begun m) here past m)

-- ---- where the node may still be woken

module _ (long : ℕ) (these : List Bool) (command late ticks : ℕ) where
  pub waiting_kept : KeptLaws (WaitsOn long these command late ticks)
  waiting_kept =
      later_kept command (Enough long these late ticks) (Enough long these late ticks) (Enough long these late ticks) (λ more q. q) (λ more q. omega (arith, q)) (λ more q. omega (arith, q)) (λ more q. omega (arith, q)) (λ more q. q) NeverRests
      (λ more wait w. w) (λ more wait w. absurd w) (λ more wait w. absurd w) (λ more wait w. absurd w) (λ (more : ℕ). Enough long these late ticks (suc more)) (λ more s. s) (λ more s. s)

  -- with other ticks, where these are enough
  pub waiting_as : (then_late then_ticks : ℕ) (x : NodeState) → ((more : ℕ) → Enough long these late ticks more → Enough long these then_late then_ticks more) → WaitsOn long these command late ticks x → WaitsOn long these command then_late then_ticks x
  waiting_as then_late then_ticks x with_more (Goes_on (Ended is)) = Goes_on (Ended is)
  waiting_as then_late then_ticks x with_more (Goes_on (Idles more none idle at d v)) = Goes_on (Idles more none idle at (λ is_free. with_more more (d is_free)) (λ is_blocked. with_more more (v is_blocked)))
  waiting_as then_late then_ticks x with_more (Goes_on (Due more session opened so at d v)) = Goes_on (Due more session opened so at (with_more more d) (λ is_blocked. with_more more (v is_blocked)))
  waiting_as then_late then_ticks x with_more (Goes_on (Runs more session opened so at r v)) = Goes_on (Runs more session opened so at (with_more more r) (λ is_blocked. with_more more (v is_blocked)))
  waiting_as then_late then_ticks x with_more (Rests more session wait listens opened idle again at w) = absurd w
  waiting_as then_late then_ticks x with_more (Sleeps_on more down idle at s) = Sleeps_on more down idle at (with_more (suc more) s)

  -- once it has risen, its turn comes
  pub waiting_ends : (Within : ℕ → Phase → Machine → Type 0) (n : ℕ) (here : Phase) (m : Machine) → IsNode n → 1 ≤ late → IsServed n m.host.state → Within long here m → WaitsOn long these command late ticks (node_of m.host.state n)
      → EndsSoon Within long these n command ticks here m
  waiting_ends Within n here m node some served all waits =
      later_hand_as command (Enough long these late ticks) (Enough long these late ticks) (Enough long these late ticks) (λ (more : ℕ). ComesTo long these n (ticks - ticks_of_all long these more) here m) (λ (more : ℕ). RunsOn Within (ticks - ticks_of_all long these more) here m)
      (λ (more : ℕ). IsHeldSoon long these n ticks more here) NeverRests (λ (more wait : ℕ). IsOverSoon long these n ticks more wait here) (λ (more : ℕ). Enough long these late ticks (suc more)) Never (node_of m.host.state n) served.up
      (λ more has q. let most = turn_most these m.host.state.served n node.1 in In_turn (omega (arith, q, most))) (λ more so q. record { most = long; waits = all; few = omega (arith, q) }) (λ more blocked q. omega (arith, q, some))
      (λ more wait idle again w. absurd w) waits

-- ---- from phase to phase

module _ (airs : Airs) (long : ℕ) (these : List Bool) (workers : (h : HostState) (k : ℕ) → KnowsWorkers these h → next_of h.nodes h.served ≡ Some k → is_marked these k ≡ true) (n : ℕ) (marked : is_marked these n ≡ true) (node : IsNode n) (command : ℕ)
    (Within : ℕ → Phase → Machine → Type 0) where
  below : n < 233
  below = let few = node.1 in omega (arith, few)

  abbrev Tied_at : Phase → Machine → Type 0
  Tied_at here m = LineAt here m × AwaitsAt here m × RoomAt here m × IsRouted m.outside.outer × HasOnLine m.host.state × PumpedAt here m × TieAt here m × IsPeopled these m

  -- ---- another node that is served comes no later

  turned : (h : HostState) (event : HostEvent) → HostFacts h → MayHost h event → HasTurn (node_of h n) → (node_of (after h event) n).series ≢ series.Running → turn_of these (after h event).served n ≤ turn_of these h.served n
  turned h event facts may has then_rests = by (served_now h event may)
    where
      by : ((after h event).served ≡ h.served) ⊎ ServesNext h event → turn_of these (after h event).served n ≤ turn_of these h.served n
      by (inl same) = subst (λ (s : ℕ). turn_of these s n ≤ turn_of these h.served n) (sym same) (omega arith)
      by (inr next) = of (either_node n next.node)
        where
          of : (next.node ≡ n) ⊎ (next.node ≢ n) → turn_of these (after h event).served n ≤ turn_of these h.served n
          of (inl same) = absurd (no_part n below h event facts may (subst (λ (k : ℕ). IsPartOf event k) same next.part) has.0 then_rests)
          of (inr other) =
              let passed = comes_no_later these h.nodes h.served next.node n has.1 node.0 (omega (arith, below)) (λ e. other (sym e)) next.is_next in
              subst (λ (s : ℕ). turn_of these s n ≤ turn_of these h.served n) (sym next.served) passed

  abbrev Passes : Machine → Event → Type 0
  Passes m event = HasTurn (node_of m.host.state n) → (node_of (happens m event).host.state n).series ≢ series.Running → turn_of these (happens m event).host.state.served n ≤ turn_of these m.host.state.served n

  as_passed : (m : Machine) (event is : Event) → event ≡ is → Passes m is → Passes m event
  as_passed m event is same passes = subst (Passes m) (sym same) passes

  outer_passes : (m : Machine) (event : OuterEvent) → Passes m (Outside_does event)
  unfolding happens
  outer_passes m event has rests = omega arith

  decoder_passes : (m : Machine) → Passes m Decoder_ticks
  unfolding happens
  decoder_passes m has rests = omega arith

  does_passes : (m : Machine) (event : HostEvent) → HostFacts m.host.state → May m (Host_does event) → Passes m (Host_does event)
  unfolding happens May
  does_passes m event facts may has rests = turned m.host.state event facts may.0 has rests

  effect_passes : (m : Machine) (event : Event) → IsEffect event → HostFacts m.host.state → May m event → Passes m event
  unfolding happens
  effect_passes m (Outside_does event) is facts may has rests = omega arith
  effect_passes m (Host_does (Accepts order carriage)) is facts may has rests = does_passes m (Accepts order carriage) facts may has rests
  effect_passes m (Refuses line refusal) is facts may has rests = omega arith
  effect_passes m (Shows_values k) is facts may has rests = omega arith
  effect_passes m (Host_does event) is facts may has rests = absurd is
  effect_passes m event is facts may has rests = absurd is

  takes_passes : (m : Machine) (count : ℕ) (rest : Rest) (items : List Item) (events : List HostEvent) → AllByRecursion GivesNoPart events → Passes m (Host_takes count rest items events)
  unfolding happens
  takes_passes m count rest items events none has rests = subst (λ (s : ℕ). turn_of these s n ≤ turn_of these m.host.state.served n) (sym (events_served m.host.state events none)) (omega arith)

  passes_on : (here next : Phase) (m : Machine) (event : Event) → Goes here m event next → May m event → Tied_at here m → AllFrom these (unheard m.outside.outer) → Passes m event
  passes_on (Said_line line) next m event (is, to) may at pending = as_passed m event _ is (outer_passes m Begins_line)
  passes_on (Doing line (first ∷ left)) next m event (is, to) may at pending = as_passed m event first is (effect_passes m first at.0.0.0 at.7.facts (subst (May m) is may))
  passes_on (To_tick (suc ticks)) next m event (is, to) may at pending = as_passed m event _ is (outer_passes m Begins_tick)
  passes_on (Arriving (suc frames) ticks) next m event (drawn, route, is, to) may at pending = as_passed m event _ is (outer_passes m (Arrives drawn route))
  passes_on (Giving (suc results) ticks) next m event (route, is, to) may at pending = as_passed m event _ is (outer_passes m (Gives route))
  passes_on (Ticking_devices place (suc count) ticks) next m event (drawn, route, is, to) may at pending = as_passed m event _ is (outer_passes m (Device_ticks place drawn route))
  passes_on (Ticking_chip ticks) next m event (is, to) may at pending = as_passed m event _ is (outer_passes m Chip_ticks)
  passes_on (Ticking_decoder ticks) next m event (is, to) may at pending = as_passed m event _ is (decoder_passes m)
  passes_on (Ticking_host (first ∷ events) ticks) next m event (is, to) may at pending = as_passed m event _ is (does_passes m first at.7.facts (subst (May m) is may))
  passes_on (Sleeping passes ticks) next m event (k, wants, is, to) may at pending = as_passed m event _ is (does_passes m (no_more_event m.host.state k) at.7.facts (subst (May m) is may))
  passes_on (Submitting passes ticks) next m event (asked, next_so, is, to) may at pending = as_passed m event _ is (does_passes m asked at.7.facts (subst (May m) is may))
  passes_on (Moving passes ticks) next m event (rest, ways, is, to) may at pending = as_passed m event _ is (outer_passes m (Chip_takes (length m.outside.outer.to_chip.bytes) rest ways))
  passes_on (Moved b passes ticks) next m event (rest, items, events, is, to) may at pending =
      as_passed m event _ is
      (takes_passes m (length m.outside.outer.to_host.bytes) rest items events
      (takes_are GivesNoPart (IsFrom these) airs b passes m rest items events (each_no_part (IsFrom these) m.outside.outer.chip.state.joined) (subst (May m) is may) at.0 at.6 pending))
  passes_on here next m event goes may at pending = absurd goes

  -- some are left of an attempt that runs as a tick begins
  abbrev SomeLeft : Machine → Type 0
  SomeLeft m = (most ticks : ℕ) → Within most (To_tick (suc ticks)) m → 1 ≤ most

  few_on : (here : Phase) (most ticks : ℕ) (m : Machine) → Within most here m → SomeLeft m → most + 1 ≤ ticks → most_then most here + 1 ≤ ticks_then ticks here
  few_on (To_tick (suc more)) most ticks m w some few = let one = some most more w in omega (arith, one, few)
  few_on here most ticks m w some few = few

  turn_on : (here : Phase) (ticks : ℕ) (m : Machine) → ComesTo long these n ticks here m → long + 1 ≤ ticks_then ticks here
  turn_on (To_tick (suc more)) ticks m (In_turn few) = let least = turn_least these m.host.state.served n marked in omega (arith, few, least)
  turn_on (To_tick (suc more)) ticks m (Owed owed few) = absurd owed
  turn_on here ticks m comes = turn_ticks long these n ticks here m marked comes

  begins_comes : (ticks more : ℕ) (next : Phase) (m : Machine) (event : Event) → Goes (To_tick (suc more)) m event next → turn_of these (happens m event).host.state.served n ≤ turn_of these m.host.state.served n
      → ComesTo long these n ticks (To_tick (suc more)) m → ComesTo long these n (ticks - 1) next (happens m event)
  begins_comes ticks more next m event (is, to) passed (In_turn few) = Owed (subst (λ (q : Phase). IsOwed q (happens m event)) (sym to) tt) (omega (arith, passed, few))
  begins_comes ticks more next m event (is, to) passed (Owed owed few) = absurd owed

  comes_as : (ticks : ℕ) (here next : Phase) (m : Machine) (event : Event) → turn_of these (happens m event).host.state.served n ≤ turn_of these m.host.state.served n
      → (IsOwed here m → IsOwed next (happens m event) ⊎ (turn_of these (happens m event).host.state.served n + 1 ≤ turn_of these m.host.state.served n)) → ComesTo long these n ticks here m → ComesTo long these n ticks next (happens m event)
  comes_as ticks here next m event passed owed_then (In_turn few) = In_turn (omega (arith, passed, few))
  comes_as ticks here next m event passed owed_then (Owed owed few) = by (owed_then owed)
    where
      by : IsOwed next (happens m event) ⊎ (turn_of these (happens m event).host.state.served n + 1 ≤ turn_of these m.host.state.served n) → ComesTo long these n ticks next (happens m event)
      by (inl later) = Owed later (omega (arith, passed, few))
      by (inr nearer) = In_turn (omega (arith, nearer, few))

  comes_on : (ticks : ℕ) (here next : Phase) (m : Machine) (event : Event) → Goes here m event next → turn_of these (happens m event).host.state.served n ≤ turn_of these m.host.state.served n
      → (IsOwed here m → IsOwed next (happens m event) ⊎ (turn_of these (happens m event).host.state.served n + 1 ≤ turn_of these m.host.state.served n)) → ComesTo long these n ticks here m → ComesTo long these n (ticks_then ticks here) next (happens m event)
  comes_on ticks (To_tick (suc more)) next m event goes passed owed_then comes = begins_comes ticks more next m event goes passed comes
  comes_on ticks here next m event goes passed owed_then comes = comes_as ticks here next m event passed owed_then comes

  -- as many ticks are left for the sessions that follow
  then_less : (ticks less : ℕ) (here : Phase) → ticks_then (ticks - less) here ≡ ticks_then ticks here - less
  then_less ticks less (To_tick (suc more)) = omega arith
  then_less ticks less here = refl

  -- none but the one that begins is lost, and then the node has its own
  then_most : (ticks : ℕ) (here : Phase) → ticks + own_tick_left n here ≤ ticks_then ticks here + 1
  then_most ticks (To_tick (suc more)) = omega arith
  then_most ticks here = omega arith

  -- a session is over, and the ticks of another are left
  abbrev HasMore : ℕ → ℕ → Type 0
  HasMore ticks more = ticks_enough long these ≤ ticks - ticks_of_all long these more

  has_more : (ticks more some : ℕ) → 1 ≤ some → some ≤ ticks - ticks_of_all long these (suc more) → HasMore ticks more
  has_more ticks more some least few = omega (arith, least, few)

  -- what is so of the node stays so
  run : (E : NodeState → Type 0) → KeptLaws E → (here next : Phase) (m : Machine) (event : Event) → Goes here m event next → May m event → IsInTime m event → ((k : ℕ) → event ≡ Host_does (Begin_unkept k) → ⊥) → Tied_at here m
      → AllSayHeard (unheard m.outside.outer) → E (node_of m.host.state n) → E (node_of (happens m event).host.state n)
  run E kept_laws here next m event goes may on_time kept at heard e =
      let later = first_on (λ (h : HostState). HandAt E kept_laws n h.nodes) (λ h one lasts may_it on. event_hand E kept_laws n below h one lasts may_it on) airs here next m event goes may on_time at.0 at.1 at.6 heard (λ k same on. absurd (kept k same))
      (record { places = at.7.facts.nodes.places; hand = e }) in
      later.hand

  soon_on : (ticks : ℕ) (here next : Phase) (m : Machine) (event : Event) → Goes here m event next → May m event → IsInTime m event → ((k : ℕ) → event ≡ Host_does (Begin_unkept k) → ⊥) → Tied_at here m → AllSayHeard (unheard m.outside.outer)
      → KnowsWorkers these m.host.state → AllFrom these (unheard m.outside.outer) → Tied_at next (happens m event) → Within long next (happens m event)
      → ((node_of m.host.state n).series ≡ series.Running → SomeLeft m × ((most : ℕ) → Within most here m → Within (most_then most here) next (happens m event))) → IsServed n m.host.state → IsServed n (happens m event).host.state
      → EndsSoon Within long these n command ticks here m → EndsSoon Within long these n command (ticks_then ticks here) next (happens m event)
  soon_on ticks here next m event goes may on_time kept at heard knows pending next_at all waits_on served then_served soon =
      later_hand_as command D R V (λ (more : ℕ). ComesTo long these n (ticks_then ticks here - ticks_of_all long these more) next (happens m event)) (λ (more : ℕ). RunsOn Within (ticks_then ticks here - ticks_of_all long these more) next (happens m event))
      (λ (more : ℕ). IsHeldSoon long these n (ticks_then ticks here) more next) C (λ (more wait : ℕ). IsOverSoon long these n (ticks_then ticks here) more wait next) Never Never (node_of (happens m event).host.state n) then_served.up due runs held rests later
    where
      A : ℕ → Type 0
      A more = HasTurn (node_of m.host.state n) × ComesTo long these n (ticks - ticks_of_all long these more) here m

      B : ℕ → Type 0
      B more = ((node_of m.host.state n).series ≡ series.Running) × RunsOn Within (ticks - ticks_of_all long these more) here m

      D : ℕ → Type 0
      D more = A more ⊎ HasMore (ticks_then ticks here) more

      R : ℕ → Type 0
      R more = (B more ⊎ A more) ⊎ HasMore (ticks_then ticks here) more

      old : ℕ
      old = (node_of m.host.state n).again_wait

      C : ℕ → ℕ → Type 0
      C more wait = (old + (1 + ticks_of_all long these (suc (suc more))) ≤ ticks + own_tick_left n here) × (suc wait ≤ old)

      -- it is blocked until its tick; or it is as if it were so after that
      V : ℕ → Type 0
      V more = (((node_of m.host.state n).blocked ≡ true) × IsHeldSoon long these n ticks more here) ⊎ (1 + ticks_of_all long these (suc more) ≤ ticks_then ticks here)

      one : ticks + own_tick_left n here ≤ ticks_then ticks here + 1
      one = then_most ticks here

      turn_has : (more : ℕ) → A (suc more) → HasMore (ticks_then ticks here) more
      turn_has more (has, comes) =
          has_more (ticks_then ticks here) more (long + 1) (omega arith) (subst (λ (k : ℕ). long + 1 ≤ k) (then_less ticks (ticks_of_all long these (suc more)) here) (turn_on here (ticks - ticks_of_all long these (suc more)) m comes))

      ran_has : (more : ℕ) → B (suc more) → HasMore (ticks_then ticks here) more
      ran_has more (so, r) =
          has_more (ticks_then ticks here) more (most_then r.most here + 1) (omega arith)
          (subst (λ (k : ℕ). most_then r.most here + 1 ≤ k) (then_less ticks (ticks_of_all long these (suc more)) here) (few_on here r.most (ticks - ticks_of_all long these (suc more)) m r.waits (waits_on so).0 r.few))

      fewer_has : (more : ℕ) → HasMore (ticks_then ticks here) (suc more) → HasMore (ticks_then ticks here) more
      fewer_has more left = omega (arith, left)

      less : (more : ℕ) → D (suc more) → D more
      less more (inl a) = inr (turn_has more a)
      less more (inr left) = inr (fewer_has more left)

      over : (more : ℕ) → R (suc more) → D more
      over more (inl (inl ran)) = inr (ran_has more ran)
      over more (inl (inr a)) = inr (turn_has more a)
      over more (inr left) = inr (fewer_has more left)

      starts : (more : ℕ) → D more → R more
      starts more (inl a) = inl (inr a)
      starts more (inr left) = inr left

      fewer : (more : ℕ) → V (suc more) → V more
      fewer more (inl (blocked, enough)) = inl (blocked, omega (arith, enough))
      fewer more (inr enough) = inr (omega (arith, enough))

      freed : (more : ℕ) → V more → D more
      freed more (inl (blocked, enough)) = inr (omega (arith, enough, one))
      freed more (inr enough) = inr (omega (arith, enough))

      kept_laws : KeptLaws (EndsLater command D R V C Never)
      kept_laws =
          later_kept command D R V starts less over fewer freed C (λ more wait w. (w.0, let fall = w.1 in omega (arith, fall))) (λ more wait w. inr (let enough = w.0 in let fall = w.1 in omega (arith, enough, fall, one)))
          (λ more wait w. inr (let enough = w.0 in let fall = w.1 in omega (arith, enough, fall, one))) (λ more wait w. inr (let enough = w.0 in let fall = w.1 in omega (arith, enough, fall, one))) Never (λ more s. absurd s) (λ more s. absurd s)

      later : EndsLater command D R V C Never (node_of (happens m event).host.state n)
      later =
          run (EndsLater command D R V C Never) kept_laws here next m event goes may on_time kept at heard
          (later_hand_as command (λ (more : ℕ). ComesTo long these n (ticks - ticks_of_all long these more) here m) (λ (more : ℕ). RunsOn Within (ticks - ticks_of_all long these more) here m) (λ (more : ℕ). IsHeldSoon long these n ticks more here) D R V
          (λ (more wait : ℕ). IsOverSoon long these n ticks more wait here) C Never Never (node_of m.host.state n) served.up (λ more has comes. inl (has, comes)) (λ more so runs_on. inl (inl (so, runs_on))) (λ more blocked v. inl (blocked, v))
          (λ more wait idle again w. (omega (arith, w, again), omega (arith, again))) soon)

      rests : (more wait : ℕ) → (node_of (happens m event).host.state n).series ≡ series.Idle → (node_of (happens m event).host.state n).again_wait ≡ suc wait → C more wait → IsOverSoon long these n (ticks_then ticks here) more wait next
      rests more wait idle again (enough, fall) = rests_on n (node.0, below) ticks wait (1 + ticks_of_all long these (suc (suc more))) here next m event goes on_time at.7.facts.nodes.places (omega arith) idle again fall enough

      held : (more : ℕ) → (node_of (happens m event).host.state n).blocked ≡ true → V more → IsHeldSoon long these n (ticks_then ticks here) more next
      held more later_so (inl (blocked, enough)) = held_on n (node.0, below) ticks (ticks_of_all long these (suc more)) here next m event goes at.7.facts.nodes.places (omega arith) blocked later_so enough
      held more later_so (inr enough) = omega (arith, enough)

      due : (more : ℕ) → HasTurn (node_of (happens m event).host.state n) → D more → ComesTo long these n (ticks_then ticks here - ticks_of_all long these more) next (happens m event)
      due more then_has (inl (has, comes)) =
          let passed = passes_on here next m event goes may at pending has then_has.0 in
          subst (λ (k : ℕ). ComesTo long these n k next (happens m event)) (then_less ticks (ticks_of_all long these more) here)
          (comes_on (ticks - ticks_of_all long these more) here next m event goes passed
          (λ owed.
          owed_on airs these n marked node here next m event goes may at.0 at.2 at.6 next_at.0 next_at.6 (served.empty has) at.7.facts (λ k is_next. workers m.host.state k knows is_next) has then_has.0 owed) comes)
      due more then_has (inr left) =
          let most = turn_most these (happens m event).host.state.served n node.1 in In_turn (omega (arith, left, most))

      runs : (more : ℕ) → (node_of (happens m event).host.state n).series ≡ series.Running → R more → RunsOn Within (ticks_then ticks here - ticks_of_all long these more) next (happens m event)
      runs more then_runs (inl (inr (has, comes))) =
          record { most = long; waits = all; few = subst (λ (k : ℕ). long + 1 ≤ k) (then_less ticks (ticks_of_all long these more) here) (turn_on here (ticks - ticks_of_all long these more) m comes) }
      runs more then_runs (inl (inl (so, runs_on))) =
          record {
            most = most_then runs_on.most here;
            waits = (waits_on so).1 runs_on.most runs_on.waits;
            few = subst (λ (k : ℕ). most_then runs_on.most here + 1 ≤ k) (then_less ticks (ticks_of_all long these more) here) (few_on here runs_on.most (ticks - ticks_of_all long these more) m runs_on.waits (waits_on so).0 runs_on.few);
          }
      runs more then_runs (inr left) = record { most = long; waits = all; few = omega (arith, left) }

  tied_before : (next : Phase) (m : Machine) → Tied_at next m → (ticks : ℕ) → next ≡ To_tick ticks → IsTied these m
  tied_before next m at ticks is =
      let x : Tied_at (To_tick ticks) m = subst (λ (q : Phase). Tied_at q m) is at in
      record { rests = x.0; awaits = x.1; routed = x.3; on_line = x.4; pumped = x.5; tie = x.6; peopled = x.7 }

  soon_turn : (ticks : ℕ) (here next : Phase) (m : Machine) → Turns here m next → Tied_at here m → Tied_at next m → ((most : ℕ) → Within most here m → Within most next m) → EndsSoon Within long these n command ticks here m → IsServed n m.host.state
      → EndsSoon Within long these n command ticks next m
  soon_turn ticks here next m turns at next_at waits_on soon served =
      later_hand_as command (λ (more : ℕ). ComesTo long these n (ticks - ticks_of_all long these more) here m) (λ (more : ℕ). RunsOn Within (ticks - ticks_of_all long these more) here m) (λ (more : ℕ). IsHeldSoon long these n ticks more here)
      (λ (more : ℕ). ComesTo long these n (ticks - ticks_of_all long these more) next m) (λ (more : ℕ). RunsOn Within (ticks - ticks_of_all long these more) next m) (λ (more : ℕ). IsHeldSoon long these n ticks more next)
      (λ (more wait : ℕ). IsOverSoon long these n ticks more wait here) (λ (more wait : ℕ). IsOverSoon long these n ticks more wait next) Never Never (node_of m.host.state n) served.up due runs
      (λ more blocked v. let same = rests_turn n (node.0, below) here next m turns in omega (arith, v, same)) (λ more wait idle again w. let same = rests_turn n (node.0, below) here next m turns in omega (arith, w, same)) soon
    where
      due : (more : ℕ) → HasTurn (node_of m.host.state n) → ComesTo long these n (ticks - ticks_of_all long these more) here m → ComesTo long these n (ticks - ticks_of_all long these more) next m
      due more has (In_turn few) = In_turn few
      due more has (Owed owed few) = Owed (owed_turn airs these n marked node here next m turns at.0 at.1 (tied_before next m next_at) (λ tied free. none_owed airs these n marked node m tied has free) owed) few

      runs : (more : ℕ) → (node_of m.host.state n).series ≡ series.Running → RunsOn Within (ticks - ticks_of_all long these more) here m → RunsOn Within (ticks - ticks_of_all long these more) next m
      runs more so r = record { most = r.most; waits = waits_on r.most r.waits; few = r.few }

  soon_said : (ticks : ℕ) (line : Line) (m : Machine) → ((most : ℕ) → Within most Between m → Within most (Said_line line) m) → EndsSoon Within long these n command ticks Between m → IsServed n m.host.state
      → EndsSoon Within long these n command ticks (Said_line line) m
  soon_said ticks line m waits_on soon served =
      later_hand_as command (λ (more : ℕ). ComesTo long these n (ticks - ticks_of_all long these more) Between m) (λ (more : ℕ). RunsOn Within (ticks - ticks_of_all long these more) Between m) (λ (more : ℕ). IsHeldSoon long these n ticks more Between)
      (λ (more : ℕ). ComesTo long these n (ticks - ticks_of_all long these more) (Said_line line) m) (λ (more : ℕ). RunsOn Within (ticks - ticks_of_all long these more) (Said_line line) m) (λ (more : ℕ). IsHeldSoon long these n ticks more (Said_line line))
      (λ (more wait : ℕ). IsOverSoon long these n ticks more wait Between) (λ (more wait : ℕ). IsOverSoon long these n ticks more wait (Said_line line)) Never Never (node_of m.host.state n) served.up due runs (λ more blocked v. v)
      (λ more wait idle again w. w) soon
    where
      due : (more : ℕ) → HasTurn (node_of m.host.state n) → ComesTo long these n (ticks - ticks_of_all long these more) Between m → ComesTo long these n (ticks - ticks_of_all long these more) (Said_line line) m
      due more has (In_turn few) = In_turn few
      due more has (Owed owed few) = absurd owed

      runs : (more : ℕ) → (node_of m.host.state n).series ≡ series.Running → RunsOn Within (ticks - ticks_of_all long these more) Between m → RunsOn Within (ticks - ticks_of_all long these more) (Said_line line) m
      runs more so r = record { most = r.most; waits = waits_on r.most r.waits; few = r.few }

  -- ---- ticks that have begun

  same_ticks : (most : ℕ) (m : Machine) (event is : Event) → event ≡ is → BeginsNoTick is → most - ticks_begun m ≡ most - ticks_begun (happens m event)
  same_ticks most m event is same none = subst (λ (e : Event). most - ticks_begun m ≡ most - ticks_begun (happens m e)) (sym same) (ap (λ (k : ℕ). most - k) (sym (event_clock m is none)))

  effect_none : (event : Event) → IsEffect event → BeginsNoTick event
  effect_none (Outside_does event) is = outer_none event is
    where
      outer_none : (e : OuterEvent) → IsOuterEffect e → BeginsNone e
      outer_none (Wakes_device k route) effect = tt
      outer_none (Shows k) effect = tt
      outer_none (Cuts size) effect = tt
      outer_none e effect = absurd effect
  effect_none event is = tt

  ticks_on : (most : ℕ) (here next : Phase) (m : Machine) (event : Event) → Goes here m event next → LineAt here m → ticks_then (most - ticks_begun m) here ≡ most - ticks_begun (happens m event)
  ticks_on most (Said_line line) next m event (is, to) at = same_ticks most m event _ is tt
  ticks_on most (Doing line (first ∷ left)) next m event (is, to) at = same_ticks most m event first is (effect_none first at.0.0)
  ticks_on most (To_tick (suc ticks)) next m event (is, to) at =
      let one = tick_clock m in
      subst (λ (e : Event). (most - ticks_begun m) - 1 ≡ most - ticks_begun (happens m e)) (sym is) (omega (arith, one))
  ticks_on most (Arriving (suc frames) ticks) next m event (drawn, route, is, to) at = same_ticks most m event _ is tt
  ticks_on most (Giving (suc results) ticks) next m event (route, is, to) at = same_ticks most m event _ is tt
  ticks_on most (Ticking_devices place (suc count) ticks) next m event (drawn, route, is, to) at = same_ticks most m event _ is tt
  ticks_on most (Ticking_chip ticks) next m event (is, to) at = same_ticks most m event _ is tt
  ticks_on most (Ticking_decoder ticks) next m event (is, to) at = same_ticks most m event _ is tt
  ticks_on most (Ticking_host (first ∷ events) ticks) next m event (is, to) at = same_ticks most m event _ is tt
  ticks_on most (Sleeping passes ticks) next m event (k, wants, is, to) at = same_ticks most m event _ is tt
  ticks_on most (Submitting passes ticks) next m event (asked, next_so, is, to) at = same_ticks most m event _ is tt
  ticks_on most (Moving passes ticks) next m event (rest, ways, is, to) at = same_ticks most m event _ is tt
  ticks_on most (Moved b passes ticks) next m event (rest, items, done, is, to) at = same_ticks most m event _ is tt
  ticks_on most here next m event goes at = absurd goes

  -- as many ticks fewer are left, until the Notification comes too
  later_enough : (here : Phase) (left ticks : ℕ) (m : Machine) → ComesUp n left here m → (more : ℕ) → Enough long these (left + 1) ticks more → Enough long these (ticks_then left here + 1) (ticks_then ticks here) more
  later_enough (To_tick (suc rest)) left ticks m comes more enough = let some = some_up n left rest m comes in omega (arith, some, enough)
  later_enough here left ticks m comes more enough = enough

  -- ---- the walk

  module _ (listening : Bool) (most : ℕ) (Up : Machine → Event → Type 0) (Know : Phase → List Entry → Machine → Type 0) (ground : Ground these n long listening Up Know Within) where
    abbrev Soon_so : ℕ → Phase → List Entry → Machine → Type 0
    Soon_so ticks here past m = Soon Within listening long these n command ticks here past m

    tied_of : (here : Phase) (past : List Entry) (m : Machine) → IsKeptFor these past → Know here past m → Tied_at here m
    tied_of here past m kept known = ((ground.lines.workers here past m kept known).0.0 kept.worked.stretched).0.tied kept.worked.stretched.quiet

    -- its Notification is on its way still, or it has risen
    rouses : (here next : Phase) (past : List Entry) (m : Machine) (event : Event) → (left : ℕ) → ComesUp n left here m → listening ≡ false → (ticks : ℕ) → WaitsOn long these command (left + 1) ticks (node_of (happens m event).host.state n)
        → Within long next (happens m event) → (Risen listening n next past (happens m event) → IsServed n (happens m event).host.state) → ComesUp n (ticks_then left here) next (happens m event) ⊎ HasRisen n next past (happens m event)
        → Soon_so (ticks_then ticks here) next past (happens m event)
    rouses here next past m event left comes sleeps ticks waits all served_then (inl on) =
        Wakes_soon sleeps (ticks_then left here) on (waiting_as long these command (left + 1) ticks (ticks_then left here + 1) (ticks_then ticks here) (node_of (happens m event).host.state n) (later_enough here left ticks m comes) waits)
    rouses here next past m event left comes sleeps ticks waits all served_then (inr has) =
        let risen : Risen listening n next past (happens m event) = subst (λ (b : Bool). Risen b n next past (happens m event)) (sym sleeps) has in
        Ends_soon risen
        (waiting_ends long these command (ticks_then left here + 1) (ticks_then ticks here) Within n next (happens m event) node (omega arith) (served_then risen) all
        (waiting_as long these command (left + 1) ticks (ticks_then left here + 1) (ticks_then ticks here) (node_of (happens m event).host.state n) (later_enough here left ticks m comes) waits))

    soon_all : (here next : Phase) (past : List Entry) (m : Machine) (event : Event) → IsStep these Up Know here next past m event → (IsKeptFor these past → Soon_so (most - ticks_begun m) here past m)
        → Soon_so (most - ticks_begun (happens m event)) next (past ++ entries m event) (happens m event)
    soon_all here next past m event step soon_was = subst (λ (ticks : ℕ). Soon_so ticks next (past ++ entries m event) (happens m event)) (ticks_on most here next m event step.goes tied.0) (by (soon_was before))
      where
        before : IsKeptFor these past
        before = kept_before these past (entries m event) step.kept

        staff : KnowWorkers these here past m × Staffed these here m
        staff = ground.lines.workers here past m before step.was

        tied : Tied_at here m
        tied = tied_of here past m before step.was

        next_tied : Tied_at next (happens m event)
        next_tied = tied_of next (past ++ entries m event) (happens m event) step.kept step.then_is

        heard : AllSayHeard (unheard m.outside.outer)
        heard = (staff.0.0 before.worked.stretched).1

        on_time : IsInTime m event
        on_time = ground.lines.in_time here past m event before step.was

        kept : (k : ℕ) → event ≡ Host_does (Begin_unkept k) → ⊥
        kept = none_unkept m event (told_kept these past (entries m event) step.kept)

        all : Within long next (happens m event)
        all = ground.within next (past ++ entries m event) (happens m event) step.kept step.then_is

        then_served : Risen listening n next (past ++ entries m event) (happens m event) → IsServed n (happens m event).host.state
        then_served risen = ground.served next (past ++ entries m event) (happens m event) step.kept step.then_is risen

        by : Soon_so (most - ticks_begun m) here past m → Soon_so (ticks_then (most - ticks_begun m) here) next (past ++ entries m event) (happens m event)
        by (Ends_soon risen soon) =
            let then_risen = ground.risen_on here next past m event step risen in
            Ends_soon then_risen
            (soon_on (most - ticks_begun m) here next m event step.goes step.may on_time kept tied heard (staff.0.1 before.worked.stretched) staff.1.speak.pending next_tied all
            (λ runs. (λ left ticks w. ground.some left ticks m runs w, λ left w. ground.on here next past m event step left runs w)) (ground.served here past m before step.was risen) (then_served then_risen) soon)
        by (Wakes_soon sleeps left comes waits) =
            rouses here next (past ++ entries m event) m event left comes sleeps (most - ticks_begun m)
            (run (WaitsOn long these command (left + 1) (most - ticks_begun m)) (waiting_kept long these command (left + 1) (most - ticks_begun m)) here next m event step.goes step.may on_time kept tied heard waits) all then_served
            (ground.comes_on here next past m event step sleeps left comes)

    soon_turned : (here next : Phase) (past : List Entry) (m : Machine) → IsTurn these Know here next past m → Soon_so (most - ticks_begun m) here past m → Soon_so (most - ticks_begun m) next past m
    soon_turned here next past m turn (Ends_soon risen soon) =
        Ends_soon (ground.risen_turn here next past m turn risen)
        (soon_turn (most - ticks_begun m) here next m turn.turns (tied_of here past m turn.kept turn.was) (tied_of next past m turn.kept turn.then_is) (λ left w. ground.turn here next past m turn left w) soon
        (ground.served here past m turn.kept turn.was risen))
    soon_turned here next past m turn (Wakes_soon sleeps left comes waits) = Wakes_soon sleeps left (ground.comes_turn here next past m turn sleeps left comes) waits

    soon_begins : (past : List Entry) (m : Machine) (words : List ℕ) (line : Line) → line_of (entry.Said words) ≡ line ∷ [] → IsKeptFor these (past ++ entry.Said words ∷ []) → Know Between past m → Soon_so (most - ticks_begun m) Between past m
        → Soon_so (most - ticks_begun m) (Said_line line) (past ++ entry.Said words ∷ []) m
    soon_begins past m words line read is known (Ends_soon risen soon) =
        Ends_soon (ground.risen_said past m words line read is risen)
        (soon_said (most - ticks_begun m) line m (λ left w. ground.said line m left w) soon (ground.served Between past m (kept_before these past (entry.Said words ∷ []) is) known risen))
    soon_begins past m words line read is known (Wakes_soon sleeps left comes waits) = Wakes_soon sleeps left (up_said n left line m comes) waits

    pub soon_walk : WalkWhere Up AsksNothing (KnowSoon Know Within listening long these n command most)
    soon_walk = record {
      said = λ past m words line read known.
          (tt, ((ground.lines.walk.said past m words line read known.0).1, λ is. soon_begins past m words line read is known.0 (known.1 (kept_before these past (entry.Said words ∷ []) is))));
      event = λ here next past m event goes may up known.
          let later = (ground.lines.walk.event here next past m event goes may up known.0).1 in
          (nothing_asked past (entries m event), (later, λ is. soon_all here next past m event (record { goes = goes; may = may; up = up; kept = is; was = known.0; then_is = later }) known.1));
      turn = λ here next past m turns known.
          let later = ground.lines.walk.turn here next past m turns known.0 in
          (later, λ is. soon_turned here next past m (record { turns = turns; kept = is; was = known.0; then_is = later }) (known.1 is));
    }

-- ---- at the beginning, and in the end

series_or : (s : Series) → s ≢ series.Idle → (s ≡ series.Due) ⊎ (s ≡ series.Running)
series_or series.Idle busy = absurd (busy refl)
series_or series.Due busy = inl refl
series_or series.Running busy = inr refl

-- where none is open, none is due or runs
pub idle_of : (x : NodeState) → NodeFacts x → open_session x.book ≡ None → x.series ≡ series.Idle
idle_of x facts none = by x.series refl facts.series
  where
    no : IsSome (open_session x.book) → ⊥
    no some = absurd (let wrong : false ≡ true = subst (λ (o : Option ℕ). IsSome o) none some in cc)

    by : (s : Series) → x.series ≡ s → SeriesFacts s x.book x.attempt_wait x.again_wait x.next_segment x.segments x.text x.pending → x.series ≡ series.Idle
    by series.Idle so is = so
    by series.Due so is = absurd (no is.0.is_open)
    by series.Running so is = absurd (no is.0.is_open)

soon_first : (Within : ℕ → Phase → Machine → Type 0) (long : ℕ) (these : List Bool) (n command more ticks : ℕ) (m : Machine) → IsNode n → NodeFacts (node_of m.host.state n) → IsInHand command more (node_of m.host.state n) → Within long Between m
    → ticks_blocked (node_of m.host.state n) + ticks_of_all long these (suc more) ≤ ticks → EndsSoon Within long these n command ticks Between m
soon_first Within long these n command more ticks m node facts is waits enough = by is
  where
    left : ticks_enough long these ≤ ticks - ticks_of_all long these more
    left = omega (arith, enough)

    comes : ComesTo long these n (ticks - ticks_of_all long these more) Between m
    comes = let most = turn_most these m.host.state.served n node.1 in In_turn (omega (arith, most, left))

    goes : RunsOn Within (ticks - ticks_of_all long these more) Between m
    goes = record { most = long; waits = waits; few = omega (arith, left) }

    held : (node_of m.host.state n).blocked ≡ true → IsHeldSoon long these n ticks more Between
    held blocked = let one : ticks_blocked (node_of m.host.state n) ≡ 1 = ap (λ (b : Bool). if b then 1 else 0) blocked in omega (arith, enough, one)

    opened : (session : ℕ) → open_session (node_of m.host.state n).book ≡ Some session → ComesAfter more command session (node_of m.host.state n) → ((node_of m.host.state n).series ≡ series.Due) ⊎ ((node_of m.host.state n).series ≡ series.Running)
        → EndsSoon Within long these n command ticks Between m
    opened session opens after_it (inl due) = Goes_on (Due more session opens due after_it comes held)
    opened session opens after_it (inr run) = Goes_on (Runs more session opens run after_it goes held)

    by : IsInHand command more (node_of m.host.state n) → EndsSoon Within long these n command ticks Between m
    by (Opened session opens busy after_it) = opened session opens after_it (series_or (node_of m.host.state n).series busy)
    by (Unopened none at) = Goes_on (Idles more none (idle_of (node_of m.host.state n) facts none) at (λ free. comes) held)

-- and so it is where that is known of the machine, and the host listens to these nodes
module _ (these : List Bool) (n long : ℕ) (Up : Machine → Event → Type 0) (Know : Phase → List Entry → Machine → Type 0) (Within : ℕ → Phase → Machine → Type 0) (ground : Ground these n long true Up Know Within) (command more ticks : ℕ) (past : List Entry)
    (m : Machine) where
  pub soon_then : IsNode n → Know Between past m → IsInHand command more (node_of m.host.state n) → ticks_blocked (node_of m.host.state n) + ticks_of_all long these (suc more) ≤ ticks → IsKeptFor these past
      → Soon Within true long these n command ticks Between past m
  soon_then node known is enough kept =
      let stretched = kept.worked.stretched in
      let tied = ((ground.lines.workers Between past m kept known).0.0 stretched).0.tied stretched.quiet in
      Ends_soon tt (soon_first Within long these n command more ticks m node (tied.7.facts.nodes.facts n) is (ground.within Between past m kept known) enough)

  pub soon_rested : Know Between past m → RestsBefore command more (node_of m.host.state n) → (node_of m.host.state n).again_wait + (1 + ticks_of_all long these (suc (suc more))) ≤ ticks → IsKeptFor these past
      → Soon Within true long these n command ticks Between past m
  soon_rested known is enough kept =
      let again = is.again in Ends_soon tt (Rests more is.session is.wait (ground.listens Between past m refl kept known) is.opened is.idle is.again is.stands (omega (arith, enough, again)))

-- no ticks are left
pub soon_past : (Within : ℕ → Phase → Machine → Type 0) (listening : Bool) (long : ℕ) (these : List Bool) (n command : ℕ) (here : Phase) (past : List Entry) (m : Machine) → 1 ≤ long → Soon Within listening long these n command 0 here past m
    → HasEnded command (node_of m.host.state n).book
soon_past Within listening long these n command here past m most soon = by soon
  where
    one_most : own_tick_left n here ≤ 1
    one_most = omega arith

    none_comes : (more : ℕ) → ComesTo long these n (0 - ticks_of_all long these more) here m → ⊥
    none_comes more (In_turn few) = absurd (omega (arith, few))
    none_comes more (Owed owed few) = absurd (omega (arith, few, most))

    none_runs : (more : ℕ) → RunsOn Within (0 - ticks_of_all long these more) here m → ⊥
    none_runs more r = let few = r.few in absurd (omega (arith, few))

    none_idles : (more : ℕ) (b : Bool) → (b ≡ false → ComesTo long these n (0 - ticks_of_all long these more) here m) → (b ≡ true → IsHeldSoon long these n 0 more here) → ⊥
    none_idles more false d v = none_comes more (d refl)
    none_idles more true d v = let held = v refl in absurd (omega (arith, held, one_most))

    not_enough : (left more : ℕ) → Enough long these (left + 1) 0 more → ⊥
    not_enough left more q = absurd (omega (arith, q))

    none_waits : (left more : ℕ) (b : Bool) → (b ≡ false → Enough long these (left + 1) 0 more) → (b ≡ true → Enough long these (left + 1) 0 more) → ⊥
    none_waits left more false d v = not_enough left more (d refl)
    none_waits left more true d v = not_enough left more (v refl)

    ends : EndsSoon Within long these n command 0 here m → HasEnded command (node_of m.host.state n).book
    ends (Goes_on (Ended is)) = is
    ends (Goes_on (Idles more none idle at d v)) = absurd (none_idles more (node_of m.host.state n).blocked d v)
    ends (Goes_on (Due more session opened so at d v)) = absurd (none_comes more d)
    ends (Goes_on (Runs more session opened so at r v)) = absurd (none_runs more r)
    ends (Rests more session wait listens opened idle again at w) = absurd (omega (arith, w, one_most))
    ends (Sleeps_on more down idle at s) = absurd s

    waits : (left : ℕ) → WaitsOn long these command (left + 1) 0 (node_of m.host.state n) → HasEnded command (node_of m.host.state n).book
    waits left (Goes_on (Ended is)) = is
    waits left (Goes_on (Idles more none idle at d v)) = absurd (none_waits left more (node_of m.host.state n).blocked d v)
    waits left (Goes_on (Due more session opened so at d v)) = absurd (not_enough left more d)
    waits left (Goes_on (Runs more session opened so at r v)) = absurd (not_enough left more r)
    waits left (Rests more session wait listens opened idle again at w) = absurd w
    waits left (Sleeps_on more down idle at s) = absurd (not_enough left (suc more) s)

    by : Soon Within listening long these n command 0 here past m → HasEnded command (node_of m.host.state n).book
    by (Wakes_soon sleeps left comes waiting) = waits left waiting
    by (Ends_soon risen ending) = ends ending
