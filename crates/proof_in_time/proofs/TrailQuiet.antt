-- Where no segment is asked for, none is at the next event, nor as a phase turns into another; and so where an attempt starts whose first payload is answered plainly.
use Rattle.std.proofs.Common.{◌≡◌, ◌≤◌, ◌<◌, ℕ, zero, ◌%◌, inl, inr, Bool, true, List, [], ◌∷◌, length, refl, sym, ap, ◌∙◌, subst, arith}
use Rattle.std.specs.Prelude.{◌⊎◌, Option, Some}
use Rattle.std.specs.List.{AllByRecursion}
use Rattle.serial_frame.specs.Stream.{Rest}
use Rattle.serial_frame.specs.declared.item.Item.{Item}
use Rattle.route_table.specs.declared.route.Route.{Route}
use Rattle.supervision.specs.Host.{begun_of}
use Rattle.zw_text.specs.declared.line.Line.{Line}
use Rattle.transport_segments.specs.Runs.{IsPart}
use Rattle.chip_functions.specs.Field.{IsNode}
use Rattle.chip_sim.specs.Nodes.{is_marked}
use Rattle.air_frames.specs.Flown.{Flown}
use Rattle.host_node.specs.Search.{next_of}
use Rattle.host_node.specs.State.{NodeState}
use Rattle.host_node.specs.Steps.{after_start}
use Rattle.host_node.specs.declared.attempt.Plan.{Plan}
use Rattle.host_node.specs.declared.attempt.Plan.TheVariants.{Whole}
use Rattle.host_node.specs.declared.series.Series.TheVariants as series
use Rattle.host_requests.specs.Frames.{frame_of}
use Rattle.host_requests.specs.declared.task.Purpose.TheVariants.{Attempt}
use Rattle.host_requests.specs.declared.under_way.Progress.TheVariants.{Submitted}
use Rattle.host_model.specs.After.{after}
use Rattle.host_model.specs.Events.{HostEvent, Starts}
use Rattle.host_model.specs.Pumping.{IsNext}
use Rattle.host_model.specs.State.{HostState, node_of}
use Rattle.outside_model.specs.Events.{Chip_takes}
use Rattle.world_model.specs.Events.{Event, Host_does, May, Outside_does, happens}
use Rattle.world_model.specs.State.{Machine}
use Rattle.proof_answered.specs.proof_calm.proof_traffic.OnAir.{on_air}
use Rattle.proof_answered.specs.proof_calm.proof_work.proof_walk.Phases.{Phase, Begun, Between, Doing, Arriving, Giving, Moved, Moving, Said_line, Sleeping, Submitting, Ticked, Ticking_devices, Ticking_host, To_tick, Turns}
use Rattle.proof_answered.specs.proof_calm.Resting.{LineAt}
use Rattle.proof_answered.specs.proof_calm.Tied.{on_line}
use Rattle.proof_answered.specs.Outward.{IsSentTo}
use Rattle.proof_answered.specs.Sleepers.{IsAlone}
use Rattle.proof_answered.specs.Workers.{KnowsWorkers}
use Rattle.proof_answered.proofs.Calm.{does_calm}
use Rattle.proof_answered.proofs.Outwards.{IsOut, awaits_of, home_out}
use Rattle.proof_answered.proofs.SleeperAloft.{none_fly}
use Rattle.proof_answered.proofs.Speaking.{Same}
use Rattle.proof_answered.proofs.proof_traffic_Parts.{Airs}
use Rattle.proof_in_time.specs.Coming.{IsAsking, IsMessage}
use Rattle.proof_in_time.specs.InHand.{AllServe}
use Rattle.proof_in_time.specs.InStep.{HasInStep}
use Rattle.proof_in_time.specs.Parts.{By_attempt}
use Rattle.proof_in_time.specs.Plainly.{SpeakPlainly}
use Rattle.proof_in_time.specs.Trail.{GivesPlainly, HasTaken, Is_again, Is_whole, IsHeardPlainly, IsQuiet, last_begun}
use Rattle.proof_in_time.proofs.AskedSo.{Goes_on, Step, Submits, Takes, starts_begun, step_of}
use Rattle.proof_in_time.proofs.Bounded.{Devices}
use Rattle.proof_in_time.proofs.InTurn.{left_of}
use Rattle.proof_in_time.proofs.NodeWaits.{own_book, own_start}
use Rattle.proof_in_time.proofs.OpenBeside.{Beside, BesideTurn, StartsNone}
use Rattle.proof_in_time.proofs.OpenSpeaks.{says_then, speaks_then}
use Rattle.proof_in_time.proofs.PartsArriving.{SegmentLaws}
use Rattle.proof_in_time.proofs.PartsBegins.{StartsIn, SubmitsAt, submits_at}
use Rattle.proof_in_time.proofs.PartsGiven.{GivesFirst, GivesWhole, few_bytes, some_bytes}
use Rattle.proof_in_time.proofs.PartsHosted.{host_then}
use Rattle.proof_in_time.proofs.PartsSupplied.{TiedAt}
use Rattle.proof_in_time.proofs.Plainly.{Tells}
use Rattle.proof_in_time.proofs.Queued.{queue_on}
use Rattle.proof_in_time.proofs.TrailDevices.{AgainLaws, says_plainly}
use Rattle.proof_in_time.proofs.TrailOut.{IsOutPlainly, steady_plainly, submits_plainly, takes_plainly}

-- ---- where the host writes nothing

settled_line : (passes ticks : ℕ) (m : Machine) → LineAt (Sleeping passes ticks) m → on_line m.host.state.side.turn ≡ []
settled_line passes ticks m (inl done) = ap on_line done.line.at_host.turn_is
settled_line passes ticks m (inr stands) = ap on_line stands.turn

module _ (airs : Airs) (devices : Devices) (laws : SegmentLaws) (again : AgainLaws) (tells : Tells) (same : Same) (these : List Bool) (many : length these ≡ 233) (n : ℕ) (alone : IsAlone these n) (is_node : IsNode n)
    (workers : (h : HostState) (k : ℕ) → KnowsWorkers these h → next_of h.nodes h.served ≡ Some k → is_marked these k ≡ true) where
  within : n < 233
  within = let few = is_node.1 in omega (arith, few)

  -- ---- what the host has out

  out_of : (here : Phase) (m : Machine) → IsQuiet these n here m → IsOutPlainly n here m
  out_of here m q = record { flying = q.flying; given = q.given; taken = q.taken }

  out_on : (here next : Phase) (m : Machine) (event : Event) → Beside these n here next m event → StartsNone n event → IsQuiet these n here m → IsOutPlainly n next (happens m event)
  out_on here next m event b none q = by (step_of airs here next m event b.goes b.may b.tied.line b.tied.tie b.tied.peopled.facts.nodes.places)
    where
      submits : (passes ticks : ℕ) (asked : HostEvent) → here ≡ Submitting passes ticks → next ≡ Submitting passes ticks → event ≡ Host_does asked → IsNext m.host.state asked → IsOutPlainly n next (happens m event)
      submits passes ticks asked at to is next_is =
          subst (λ (q2 : Phase). IsOutPlainly n q2 (happens m event)) (sym to)
          (subst (λ (e : Event). IsOutPlainly n (Submitting passes ticks) (happens m e)) (sym is)
          (submits_plainly airs devices laws again these many n alone is_node passes ticks m (subst (λ (q2 : Phase). TiedAt these q2 m) at b.tied) b.go b.step.unsealed (λ k first. workers m.host.state k b.knows first) q.no_task asked next_is (subst (May m) is b.may)
          (λ plan more payload starts. none plan more payload (is ∙ starts)) q.taken))

      takes : (passes ticks : ℕ) (rest : Rest) (ways : List (Item × Option Route)) → here ≡ Moving passes ticks → next ≡ Moved true passes ticks → event ≡ Outside_does (Chip_takes (length m.outside.outer.to_chip.bytes) rest ways)
          → IsOutPlainly n next (happens m event)
      takes passes ticks rest ways at to is =
          subst (λ (q2 : Phase). IsOutPlainly n q2 (happens m event)) (sym to)
          (subst (λ (e : Event). IsOutPlainly n (Moved true passes ticks) (happens m e)) (sym is)
          (takes_plainly airs devices laws again these many n alone is_node passes ticks m rest ways (subst (May m) is b.may) (subst (λ (q2 : Phase). TiedAt these q2 m) at b.tied)
          (subst (λ (e : Event). TiedAt these (Moved true passes ticks) (happens m e)) is (subst (λ (q2 : Phase). TiedAt these q2 (happens m event)) to b.then_tied)) (subst (IsSentTo these m) is b.sent)
          (subst (λ (q2 : Phase). IsOutPlainly n q2 m) at (out_of here m q))))

      by : Step here next m event → IsOutPlainly n next (happens m event)
      by (Goes_on steady calm none_takes) =
          steady_plainly airs devices laws again these many n alone is_node here next m event b.goes b.may b.tied b.then_tied b.speak b.listen b.step b.cut q.flying steady none_takes calm q.taken
      by (Submits passes ticks asked at to is next_is) = submits passes ticks asked at to is next_is
      by (Takes passes ticks rest ways at to is) = takes passes ticks rest ways at to is

  -- ---- at an event

  -- what is on its way to the host asks for nothing, and no task waits
  steps : (m : Machine) → HasInStep n m → (k : ℕ) → is_marked these k ≡ true → HasInStep k m
  steps m step k marked = subst (λ (j : ℕ). HasInStep j m) (sym (alone.only k marked)) step

  speaks_on : (here next : Phase) (m : Machine) (event : Event) → Beside these n here next m event → IsQuiet these n here m → SpeakPlainly these (happens m event)
  speaks_on here next m event b q =
      speaks_then airs same these many here next m event b.goes b.may b.tied b.then_tied.line b.sent b.lines b.speak
      (says_then these m event (steps m b.step) tells
      (λ drawn route is. says_plainly airs devices again these n alone m (awaits_of here m b.tied.awaits) b.listen b.step b.cut b.speak b.tied.peopled.live q.flying drawn route)) q.speak

  empty_on : (here next : Phase) (m : Machine) (event : Event) → Beside these n here next m event → IsQuiet these n here m → (happens m event).host.state.requests.queue ≡ []
  empty_on here next m event b q =
      let serves : AllServe these m.host.state = record { listens = λ k marked. subst (λ (j : ℕ). (node_of m.host.state j).listens ≡ true) (sym (alone.only k marked)) b.served; no_task = q.no_task } in
      queue_on airs these here next m event b.goes b.may b.tied.line b.tied.tie q.speak serves b.knows q.no_task

  quiet_so : (here next : Phase) (m : Machine) (event : Event) → Beside these n here next m event → IsQuiet these n here m → IsOutPlainly n next (happens m event) → IsQuiet these n next (happens m event)
  quiet_so here next m event b q out = record { no_task = empty_on here next m event b q; speak = speaks_on here next m event b q; flying = out.flying; given = out.given; taken = out.taken }

  pub quiet_on : (here next : Phase) (m : Machine) (event : Event) → Beside these n here next m event → StartsNone n event → IsQuiet these n here m → IsQuiet these n next (happens m event)
  quiet_on here next m event b none q = quiet_so here next m event b q (out_on here next m event b none q)

  -- ---- an attempt starts

  module _ (m : Machine) (plan : Plan) (more : Bool) (payload : List ℕ) where
    -- the sessions are as they were
    begun_then : length m.host.state.nodes ≡ 233 → last_begun n (happens m (Host_does (Starts n plan more payload))) ≡ last_begun n m
    begun_then places =
        ap (λ (g : HostState). begun_of (node_of g n).book) (host_then m (Starts n plan more payload))
        ∙ ap begun_of (own_book n within m.host.state plan more payload places)

    starts_out : (passes ticks : ℕ) → TiedAt these (Submitting passes ticks) m → May m (Host_does (Starts n plan more payload)) → IsHeardPlainly n (happens m (Host_does (Starts n plan more payload))) payload
        → (1 ≤ (node_of (happens m (Host_does (Starts n plan more payload))).host.state n).segments → HasTaken n (happens m (Host_does (Starts n plan more payload))))
        → IsOutPlainly n (Submitting passes ticks) (happens m (Host_does (Starts n plan more payload)))
    unfolding May
    starts_out passes ticks tied may plainly taken = record {
      flying = subst (AllByRecursion (IsOut (λ (frame : Flown). IsHeardPlainly n (happens m (Host_does (Starts n plan more payload))) frame.payload))) (sym (does_calm airs m (Starts n plan more payload)).on)
          (home_out (λ (frame : Flown). IsHeardPlainly n (happens m (Host_does (Starts n plan more payload))) frame.payload) (on_air m.outside.outer.air.frames)
          (none_fly (Submitting passes ticks) m tied.line tied.awaits tied.tie may.0.0.free.none_under_way));
      given = λ asking.
          inr (record {
            request = record { purpose = Attempt n more payload; progress = Submitted };
            payload = payload;
            under_way = ap (λ (g : HostState). g.requests.under_way) (host_then m (Starts n plan more payload));
            carries = By_attempt more refl;
            line = ap (λ (g : HostState). on_line g.side.turn) (host_then m (Starts n plan more payload))
                ∙ ap (λ (g : HostState). frame_of (Attempt n more payload) g.requests.last_id ∷ []) (sym (host_then m (Starts n plan more payload)));
            plainly = plainly;
          });
      taken = taken;
    }

    -- with the whole message: it has no segments
    whole_none : plan ≡ Whole → length m.host.state.nodes ≡ 233 → (node_of m.host.state n).segments ≡ 0 → 1 ≤ (node_of (happens m (Host_does (Starts n plan more payload))).host.state n).segments → ⊥
    whole_none whole places none some =
        let there : node_of (after m.host.state (Starts n plan more payload)) n ≡ after_start (node_of m.host.state n) plan = own_start n within m.host.state plan more payload places in
        let now : (node_of (happens m (Host_does (Starts n plan more payload))).host.state n).segments ≡ (after_start (node_of m.host.state n) plan).segments =
        ap (λ (g : HostState). (node_of g n).segments) (host_then m (Starts n plan more payload)) ∙ ap (λ (x : NodeState). x.segments) there in
        let same_many : (after_start (node_of m.host.state n) plan).segments ≡ (node_of m.host.state n).segments = ap (λ (p : Plan). (after_start (node_of m.host.state n) p).segments) whole in
        absurd (omega (arith, some, now, same_many, none))

  starts_at : (here next : Phase) (m : Machine) (event : Event) → Beside these n here next m event → (plan : Plan) (more : Bool) (payload : List ℕ) → event ≡ Host_does (Starts n plan more payload) → IsQuiet these n here m
      → ((passes ticks : ℕ) → here ≡ Submitting passes ticks → IsOutPlainly n (Submitting passes ticks) (happens m (Host_does (Starts n plan more payload)))) → IsQuiet these n next (happens m event)
  starts_at here next m event b plan more payload is q out = by (submits_at here next m event b.goes b.tied.line (subst StartsIn (sym is) tt))
    where
      by : SubmitsAt here next → IsQuiet these n next (happens m event)
      by (passes, (ticks, (at, to))) =
          quiet_so here next m event b q
          (subst (λ (q2 : Phase). IsOutPlainly n q2 (happens m event)) (sym to) (subst (λ (e : Event). IsOutPlainly n (Submitting passes ticks) (happens m e)) (sym is) (out passes ticks at)))

  pub starts_whole : (here next : Phase) (m : Machine) (event : Event) (b : Beside these n here next m event) (plan : Plan) (more : Bool) (payload : List ℕ) → event ≡ Host_does (Starts n plan more payload)
      → GivesWhole these m.host.state n b.tied.peopled.facts b.go alone.marked plan payload → IsQuiet these n here m → IsQuiet these n next (happens m event)
  unfolding May
  starts_whole here next m event b plan more payload is whole q =
      let may : May m (Host_does (Starts n plan more payload)) = subst (May m) is b.may in
      let places = b.tied.peopled.facts.nodes.places in
      let begun = begun_then m plan more payload places in
      let due : (node_of m.host.state n).series ≡ series.Due = may.0.2.0 in
      let none = (left_of (node_of m.host.state n) (b.tied.peopled.facts.nodes.facts n) (λ run. let wrong : series.Due ≡ series.Running = sym due ∙ run in absurd cc)).no_segments in
      starts_at here next m event b plan more payload is q
      (λ passes ticks at.
      starts_out m plan more payload passes ticks (subst (λ (q2 : Phase). TiedAt these q2 m) at b.tied) may
      (Is_whole (subst (λ (s : ℕ). 1 ≤ s) (sym begun) (starts_begun m n plan more payload may)) (subst (λ (s : ℕ). IsMessage s payload) (sym begun) whole.message))
      (λ some. absurd (whole_none m plan more payload whole.plan_is places none some)))

  pub starts_cut : (here next : Phase) (m : Machine) (event : Event) (b : Beside these n here next m event) (plan : Plan) (more : Bool) (payload : List ℕ) → event ≡ Host_does (Starts n plan more payload)
      → GivesFirst these m.host.state n b.tied.peopled.facts b.go alone.marked plan payload → HasTaken n (happens m event) → IsQuiet these n here m → IsQuiet these n next (happens m event)
  starts_cut here next m event b plan more payload is first taken q =
      let may : May m (Host_does (Starts n plan more payload)) = subst (May m) is b.may in
      let begun = begun_then m plan more payload b.tied.peopled.facts.nodes.places in
      let there : HasTaken n (happens m (Host_does (Starts n plan more payload))) = subst (λ (e : Event). HasTaken n (happens m e)) is taken in
      let long = few_bytes these m.host.state n b.tied.peopled.facts b.go alone.marked (last_begun n m) first.message first.cut in
      let any = some_bytes these m.host.state n b.tied.peopled.facts b.go alone.marked (last_begun n m) first.message first.cut in
      let part : IsPart first.message (last_begun n m % 16) payload = subst (IsPart first.message (last_begun n m % 16)) (sym first.text) (laws.part first.message (last_begun n m) 0 any (omega (arith, long)) (omega (arith, any))) in
      starts_at here next m event b plan more payload is q
      (λ passes ticks at.
      starts_out m plan more payload passes ticks (subst (λ (q2 : Phase). TiedAt these q2 m) at b.tied) may
      (Is_again (subst (λ (s : ℕ). 1 ≤ s) (sym begun) (starts_begun m n plan more payload may)) there first.message (subst (λ (s : ℕ). IsPart first.message (s % 16) payload) (sym begun) part)) (λ some. there))

  -- ---- with no event

  quiet_as : (here next : Phase) (m : Machine) → (IsAsking next → (on_line m.host.state.side.turn ≡ []) ⊎ GivesPlainly n m) → IsQuiet these n here m → IsQuiet these n next m
  quiet_as here next m given q = record { no_task = q.no_task; speak = q.speak; flying = q.flying; given = given; taken = q.taken }

  calm_as : (here next to : Phase) (m : Machine) → next ≡ to → (IsAsking to → ⊥) → IsQuiet these n here m → IsQuiet these n next m
  calm_as here next to m same_phase calm q = quiet_as here next m (λ asking. absurd (calm (subst IsAsking same_phase asking))) q

  turns_on : (here next : Phase) (m : Machine) → Turns here m next → LineAt here m → IsQuiet these n here m → IsQuiet these n next m
  turns_on (Begun line) next m (inl (events, is, to)) at q = calm_as (Begun line) next _ m to (λ asking. asking) q
  turns_on (Begun line) next m (inr (ticks, is, to)) at q = calm_as (Begun line) next _ m to (λ asking. asking) q
  turns_on (Doing line []) next m to at q = calm_as (Doing line []) next _ m to (λ asking. asking) q
  turns_on (To_tick zero) next m to at q = calm_as (To_tick zero) next _ m to (λ asking. asking) q
  turns_on (Ticked ticks) next m to at q = calm_as (Ticked ticks) next _ m to (λ asking. asking) q
  turns_on (Arriving zero ticks) next m to at q = calm_as (Arriving zero ticks) next _ m to (λ asking. asking) q
  turns_on (Giving zero ticks) next m to at q = calm_as (Giving zero ticks) next _ m to (λ asking. asking) q
  turns_on (Ticking_devices place zero ticks) next m to at q = calm_as (Ticking_devices place zero ticks) next _ m to (λ asking. asking) q
  turns_on (Ticking_host [] ticks) next m to at q = calm_as (Ticking_host [] ticks) next _ m to (λ asking. asking) q
  turns_on (Sleeping passes ticks) next m (none, to) at q = quiet_as (Sleeping passes ticks) next m (λ asking. inl (settled_line passes ticks m at)) q
  turns_on (Submitting passes ticks) next m (pumped, to) at q = quiet_as (Submitting passes ticks) next m (λ asking. q.given tt) q
  turns_on (Moving passes ticks) next m (still, to) at q = calm_as (Moving passes ticks) next _ m to (λ asking. asking) q
  turns_on (Moved b passes ticks) next m (still, to) at q = calm_as (Moved b passes ticks) next _ m to (λ asking. asking) q
  turns_on here next m turns at q = absurd turns

  pub quiet_turn : (here next : Phase) (m : Machine) → BesideTurn these here next m → IsQuiet these n here m → IsQuiet these n next m
  quiet_turn here next m b q = turns_on here next m b.turns b.tied.0 q

  pub quiet_said : (line : Line) (m : Machine) → IsQuiet these n Between m → IsQuiet these n (Said_line line) m
  quiet_said line m q = quiet_as Between (Said_line line) m (λ asking. absurd asking) q
