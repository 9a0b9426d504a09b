-- Of one node alone that listens and takes segments it is known from phase to phase what its attempt waits for: a report, or that the device hears its segments; and what is left of those on their way.
use Rattle.std.proofs.Common.{◌≡◌, ◌≢◌, ◌≤◌, ◌<◌, ℕ, suc, inl, inr, Bool, true, false, List, length, sym, ap, ◌∙◌, subst, arith}
use Rattle.std.specs.Prelude.{◌⊎◌, Some}
use Rattle.zw_text.specs.declared.line.Line.{Line}
use Rattle.supervision.specs.Host.{begun_of}
use Rattle.chip_functions.specs.Field.{IsNode}
use Rattle.host_node.specs.Facts.{NodeFacts}
use Rattle.host_node.specs.Search.{next_of}
use Rattle.host_node.specs.declared.attempt.Plan.{Plan}
use Rattle.host_node.specs.declared.series.Series.TheVariants as series
use Rattle.host_model.specs.Events.{HostEvent, Starts}
use Rattle.host_model.specs.State.{HostState, node_of}
use Rattle.host_model.specs.Taking.{is_secure}
use Rattle.chip_sim.specs.Nodes.{is_marked}
use Rattle.world_model.specs.Events.{Event, Host_does, May, happens}
use Rattle.world_model.specs.State.{Machine}
use Rattle.proof_answered.specs.proof_calm.proof_work.proof_walk.Phases.{Phase, Between, Said_line, To_tick}
use Rattle.proof_answered.specs.Sleepers.{IsAlone}
use Rattle.proof_answered.specs.Workers.{KnowsWorkers}
use Rattle.proof_answered.proofs.SleeperAloft.{none_aborted}
use Rattle.proof_answered.proofs.proof_traffic_Parts.{Airs}
use Rattle.proof_in_time.specs.Coming.{IsPlainStart, WaitsFor, most_then, own_ticks}
use Rattle.proof_in_time.specs.Open.{Gives, OpenAt, Still, Trails, WaitsParts}
use Rattle.proof_in_time.specs.Trail.{HasTaken, IsQuiet, Trail}
use Rattle.proof_in_time.proofs.Bounded.{Devices, either_node, lasts_of, later_waits, some_left}
use Rattle.proof_in_time.proofs.Lasting.{LaterOn, Starts_plainly, event_waits, said_waits, turns_wait}
use Rattle.proof_in_time.proofs.OpenBeside.{Beside, BesideTurn, StartsNone, tied_then}
use Rattle.proof_in_time.proofs.PartsArriving.{SegmentLaws}
use Rattle.proof_in_time.proofs.PartsBegins.{BegunAs, begins_of}
use Rattle.proof_in_time.proofs.PartsGiven.{GivesFirst, GivesWhole}
use Rattle.proof_in_time.proofs.PartsGoing.{IsOver}
use Rattle.proof_in_time.proofs.PartsSteps.{said_parts, some_left_parts}
use Rattle.proof_in_time.proofs.PartsSupplied.{around_of}
use Rattle.proof_in_time.proofs.FarWaits.{not_last}
use Rattle.proof_in_time.proofs.PartsWaits.{EndsSo, events_wait, turns_waits}
use Rattle.proof_in_time.proofs.Plainly.{Tells}

-- one starts where it is due
pub starts_due : (m : Machine) (n : ℕ) (plan : Plan) (more : Bool) (payload : List ℕ) → May m (Host_does (Starts n plan more payload)) → (node_of m.host.state n).series ≡ series.Due
unfolding May
starts_due m n plan more payload may = may.0.2.0

module _ (airs : Airs) (devices : Devices) (laws : SegmentLaws) (tells : Tells) (these : List Bool) (many : length these ≡ 233) (n : ℕ) (alone : IsAlone these n) (is_node : IsNode n)
    (workers : (h : HostState) (k : ℕ) → KnowsWorkers these h → next_of h.nodes h.served ≡ Some k → is_marked these k ≡ true) where
  below : n < 233
  below = let few = is_node.1 in omega (arith, few)

  -- what is on its way still where the device has taken the session, or nothing
  abbrev pub TrailOr : Phase → Machine → Type 0
  TrailOr here m = Trail these n here m ⊎ IsQuiet these n here m

  -- what is proved of these
  pub record TrailSteps : Type 0 where
    pub quiet : (here next : Phase) (m : Machine) (event : Event) → Beside these n here next m event → StartsNone n event → IsQuiet these n here m → IsQuiet these n next (happens m event)
    pub starts_whole : (here next : Phase) (m : Machine) (event : Event) (b : Beside these n here next m event) (plan : Plan) (more : Bool) (payload : List ℕ) → event ≡ Host_does (Starts n plan more payload)
        → GivesWhole these m.host.state n b.tied.peopled.facts b.go alone.marked plan payload → IsQuiet these n here m → IsQuiet these n next (happens m event)
    pub starts_cut : (here next : Phase) (m : Machine) (event : Event) (b : Beside these n here next m event) (plan : Plan) (more : Bool) (payload : List ℕ) → event ≡ Host_does (Starts n plan more payload)
        → GivesFirst these m.host.state n b.tied.peopled.facts b.go alone.marked plan payload → HasTaken n (happens m event) → IsQuiet these n here m → IsQuiet these n next (happens m event)
    pub quiet_turn : (here next : Phase) (m : Machine) → BesideTurn these here next m → IsQuiet these n here m → IsQuiet these n next m
    pub quiet_said : (line : Line) (m : Machine) → IsQuiet these n Between m → IsQuiet these n (Said_line line) m
    pub trail : (here next : Phase) (m : Machine) (event : Event) → Beside these n here next m event → (node_of m.host.state n).attempt_wait ≢ 1 → Trail these n here m → TrailOr next (happens m event)
    pub trail_turn : (here next : Phase) (m : Machine) → BesideTurn these here next m → Trail these n here m → Trail these n next m
    pub over : (here next : Phase) (m : Machine) (event : Event) → Beside these n here next m event → (left : ℕ) → (node_of m.host.state n).series ≡ series.Running
        → IsOver airs laws these many n (begun_of (node_of m.host.state n).book) alone is_node left next (happens m event) → TrailOr next (happens m event)

  module _ (trails : TrailSteps) where
    -- ---- an event of the node, or none of it

    which : (m : Machine) (event : Event) → ((plan : Plan) × ((more : Bool) × ((payload : List ℕ) × (event ≡ Host_does (Starts n plan more payload)))))
        ⊎ (StartsNone n event × Starts_plainly airs these many devices false n 23 alone.marked is_node m event)
    which m (Host_does asked) = by asked
      where
        by : (one : HostEvent) → ((plan : Plan) × ((more : Bool) × ((payload : List ℕ) × (Host_does one ≡ Host_does (Starts n plan more payload)))))
            ⊎ (StartsNone n (Host_does one) × Starts_plainly airs these many devices false n 23 alone.marked is_node m (Host_does one))
        by (Starts k plan more payload) = of (either_node n k)
          where
            of : (k ≡ n) ⊎ (k ≢ n) → ((other_plan : Plan) × ((other_more : Bool) × ((other : List ℕ) × (Host_does (Starts k plan more payload) ≡ Host_does (Starts n other_plan other_more other)))))
                ⊎ (StartsNone n (Host_does (Starts k plan more payload)) × Starts_plainly airs these many devices false n 23 alone.marked is_node m (Host_does (Starts k plan more payload)))
            of (inl same) = inl (plan, (more, (payload, ap (λ (j : ℕ). Host_does (Starts j plan more payload)) same)))
            of (inr other) = inr (
              λ other_plan other_more others is. absurd (other (let same : k ≡ n = cc in same)),
              λ again is. subst (IsPlainStart these m.host.state) (let one : Starts k plan more payload ≡ again = cc in one) (λ marked. absurd (other (alone.only k marked))),
            )
        by one = inr (
          λ plan more payload is. absurd (let wrong : Host_does one ≡ Host_does (Starts n plan more payload) = is in cc),
          λ again is. subst (IsPlainStart these m.host.state) (let same : one ≡ again = cc in same) tt,
        )
    which m event = inr (
      λ plan more payload is. absurd (let wrong : event ≡ Host_does (Starts n plan more payload) = is in cc),
      λ again is. absurd (let wrong : event ≡ Host_does again = is in cc),
    )

    -- ---- at an event

    -- within so many, or an attempt that was due has started
    abbrev pub OpenThen : ℕ → Phase → Machine → Event → Type 0
    OpenThen most next m event = OpenAt these n most next (happens m event) ⊎ (((node_of m.host.state n).series ≡ series.Due) × OpenAt these n 23 next (happens m event))

    or_trail : (most : ℕ) (here : Phase) (m : Machine) → WaitsFor false n most here m → TrailOr here m → OpenAt these n most here m
    or_trail most here m w (inl trail) = Trails w trail
    or_trail most here m w (inr quiet) = Still w quiet

    module _ (here next : Phase) (m : Machine) (event : Event) (b : Beside these n here next m event) (most : ℕ) where
      -- no attempt of the node starts
      goes_on : WaitsFor false n most here m → Starts_plainly airs these many devices false n 23 alone.marked is_node m event → TrailOr next (happens m event) → OpenThen (most_then most here) next m event
      goes_on w starts trail =
          later
          (event_waits airs these many devices false n most alone.marked is_node here next m event b.goes b.may b.step b.keeps starts b.tied.line b.tied.awaits b.tied.room b.tied.routed b.tied.tie b.tied.peopled b.hears b.sent b.joined w
          b.then_tied.line)
        where
          later : LaterOn airs these many devices false n most alone.marked is_node (most_then most here) next m event → OpenThen (most_then most here) next m event
          later (inl on) = inl (or_trail (most_then most here) next (happens m event) on trail)
          later (inr (due, on)) = inr (due, or_trail 23 next (happens m event) (later_waits false n 6 23 next (happens m event) (omega arith) on) trail)

      -- one does
      begins : WaitsFor false n most here m → IsQuiet these n here m → (plan : Plan) (more : Bool) (payload : List ℕ) → event ≡ Host_does (Starts n plan more payload) → OpenThen (most_then most here) next m event
      begins w quiet plan more payload is =
          inr (
            starts_due m n plan more payload (subst (May m) is b.may),
            of (begins_of airs laws.slices these n alone.marked below is_node here next m event b.goes b.may b.tied b.go quiet.speak b.step b.cut (b.listen.nodes n alone.marked) w.openly plan more payload is),
          )
        where
          of : BegunAs airs laws.slices these n alone.marked below is_node next m event b.tied.peopled.facts b.go plan payload → OpenAt these n 23 next (happens m event)
          of (inl (waits, whole)) = Still waits (trails.starts_whole here next m event b plan more payload is whole quiet)
          of (inr (parts, first)) = Gives parts (λ taken. trails.starts_cut here next m event b plan more payload is first taken quiet)

      -- its segments are on their way
      none_starts : (node_of m.host.state n).series ≡ series.Running → StartsNone n event
      none_starts run plan more payload is = let wrong : series.Running ≡ series.Due = sym run ∙ starts_due m n plan more payload (subst (May m) is b.may) in absurd cc

      gives_on : (w : WaitsParts these n most here m) → (HasTaken n m → IsQuiet these n here m) → OpenThen (most_then most here) next m event
      gives_on w quiet =
          of
          (events_wait airs laws these many n alone is_node here next m most event b.goes
          (around_of airs laws these many n alone is_node tells workers here next m event b.goes b.may b.tied b.then_tied b.sent b.lines b.speak b.knows b.go b.joined b.listen b.step b.cut b.served b.calls w.running) w)
        where
          again : HasTaken n m → IsQuiet these n next (happens m event)
          again taken = trails.quiet here next m event b (none_starts w.running) (quiet taken)

          of : (WaitsParts these n (most_then most here) next (happens m event) × (HasTaken n (happens m event) → HasTaken n m))
              ⊎ (WaitsFor false n (most_then most here) next (happens m event) × EndsSo airs laws these many n alone is_node here next m most event w) → OpenThen (most_then most here) next m event
          of (inl (parts, before)) = inl (Gives parts (λ taken. again (before taken)))
          of (inr (waits, inl over)) = inl (or_trail (most_then most here) next (happens m event) waits (trails.over here next m event b (most_then w.left here) w.running over))
          of (inr (waits, inr taken)) = inl (Still waits (again (record { first = w.parts.stands; taken = taken })))

      pub open_later : OpenAt these n most here m → OpenThen (most_then most here) next m event
      open_later (Still w quiet) = by (which m event)
        where
          by : ((plan : Plan) × ((more : Bool) × ((payload : List ℕ) × (event ≡ Host_does (Starts n plan more payload))))) ⊎ (StartsNone n event × Starts_plainly airs these many devices false n 23 alone.marked is_node m event) → OpenThen (most_then most here) next m event
          by (inl (plan, (more, (payload, is)))) = begins w quiet plan more payload is
          by (inr (none, starts)) = goes_on w starts (inr (trails.quiet here next m event b none quiet))
      open_later (Gives w quiet) = gives_on w quiet
      open_later (Trails w trail) = by (which m event)
        where
          by : ((plan : Plan) × ((more : Bool) × ((payload : List ℕ) × (event ≡ Host_does (Starts n plan more payload))))) ⊎ (StartsNone n event × Starts_plainly airs these many devices false n 23 alone.marked is_node m event) → OpenThen (most_then most here) next m event
          by (inl (plan, (more, (payload, is)))) = absurd (none_starts trail.running plan more payload is)
          by (inr (none, starts)) = goes_on w starts (trails.trail here next m event b (lasts_of false n most here m (b.tied.peopled.facts.nodes.facts n) w) trail)

    -- ---- with no event

    pub open_turned : (here next : Phase) (m : Machine) → BesideTurn these here next m → (most : ℕ) → OpenAt these n most here m → OpenAt these n most next m
    open_turned here next m b most (Still w quiet) =
        Still (turns_wait airs these many devices false n most alone.marked is_node here next m b.turns b.tied.1 b.tied.6 b.then_tied.0 b.then_tied.6 w) (trails.quiet_turn here next m b quiet)
    open_turned here next m b most (Gives w quiet) =
        Gives (turns_waits airs laws these many n alone is_node here next m most b.turns b.tied.1 b.tied.3 (none_aborted here m b.tied.0) b.tied.0 b.tied.6 b.then_tied.6 (tied_then these next m b.then_tied) w)
        (λ taken. trails.quiet_turn here next m b (quiet taken))
    open_turned here next m b most (Trails w trail) =
        Trails (turns_wait airs these many devices false n most alone.marked is_node here next m b.turns b.tied.1 b.tied.6 b.then_tied.0 b.then_tied.6 w) (trails.trail_turn here next m b trail)

    -- a line is said
    pub open_said : (line : Line) (m : Machine) (most : ℕ) → OpenAt these n most Between m → OpenAt these n most (Said_line line) m
    open_said line m most (Still w quiet) = Still (said_waits airs these many devices false n most alone.marked is_node line m w) (trails.quiet_said line m quiet)
    open_said line m most (Gives w quiet) =
        Gives (record {
          openly = w.openly;
          once = w.once;
          running = w.running;
          left = w.left;
          few = w.few;
          within = w.within;
          parts = said_parts these n (begun_of (node_of m.host.state n).book) line m w.left w.parts;
          waits = w.waits;
        }) (λ taken. trails.quiet_said line m (quiet taken))
    open_said line m most (Trails w trail) = absurd trail.owed

    -- ---- at a moment

    -- before a tick some ticks are left
    waits_some : (most ticks : ℕ) (m : Machine) → (node_of m.host.state n).series ≡ series.Running → WaitsFor false n most (To_tick (suc ticks)) m → 1 ≤ most
    waits_some most ticks m run w =
        let b = w.bounded run in
        let some = some_left airs these many devices false n most alone.marked is_node ticks (begun_of (node_of m.host.state n).book) b.left m b.comes in
        let within = b.within in
        omega (arith, some, within)

    pub open_some : (most ticks : ℕ) (m : Machine) → (node_of m.host.state n).series ≡ series.Running → OpenAt these n most (To_tick (suc ticks)) m → 1 ≤ most
    open_some most ticks m run (Still w quiet) = waits_some most ticks m run w
    open_some most ticks m run (Gives w quiet) =
        let some = some_left_parts these n (begun_of (node_of m.host.state n).book) ticks m w.left w.parts in
        let within = w.within in
        omega (arith, some, within)
    open_some most ticks m run (Trails w trail) = waits_some most ticks m run w

-- ---- of each such node

module _ (these : List Bool) (n : ℕ) (here : Phase) (m : Machine) where
  -- the wait of an attempt that runs is not at its last tick
  pub open_lasts : (most : ℕ) → NodeFacts (node_of m.host.state n) → OpenAt these n most here m → (node_of m.host.state n).attempt_wait ≢ 1
  open_lasts most facts (Still w quiet) = lasts_of false n most here m facts w
  open_lasts most facts (Gives w quiet) = not_last (node_of m.host.state n).attempt_wait w.left (own_ticks n here) w.waits
  open_lasts most facts (Trails w trail) = lasts_of false n most here m facts w

  -- it does not list Security 0
  pub open_bare : (most : ℕ) → OpenAt these n most here m → is_secure (node_of m.host.state n).classes ≡ false
  open_bare most (Still w quiet) = w.openly
  open_bare most (Gives w quiet) = w.openly
  open_bare most (Trails w trail) = w.openly

  -- within more ticks
  pub open_more : (most more : ℕ) → most ≤ more → OpenAt these n most here m → OpenAt these n more here m
  open_more most more less (Still w quiet) = Still (later_waits false n most more here m less w) quiet
  open_more most more less (Gives w quiet) =
      let within = w.within in
      Gives (record { openly = w.openly; once = w.once; running = w.running; left = w.left; few = w.few; within = omega (arith, within, less); parts = w.parts; waits = w.waits }) quiet
  open_more most more less (Trails w trail) = Trails (later_waits false n most more here m less w) trail
