-- An attempt starts that gives its message in segments: so the first of them is on its way to the chip.
use Rattle.std.proofs.Common.{◌≡◌, ◌≤◌, ◌<◌, ℕ, ◌+◌, Bool, true, List, [], ◌∷◌, length, refl, sym, ap, ◌∙◌, subst, arith}
use Rattle.supervision.specs.Host.{begun_of}
use Rattle.chip_sim.specs.Nodes.{is_marked}
use Rattle.host_requests.specs.Frames.{frame_of}
use Rattle.host_requests.specs.declared.task.Purpose.TheVariants.{Attempt}
use Rattle.host_requests.specs.declared.under_way.Progress.TheVariants.{Submitted}
use Rattle.host_node.specs.Facts.{NothingLeft}
use Rattle.host_node.specs.State.{NodeState}
use Rattle.host_node.specs.Steps.{after_start}
use Rattle.host_node.specs.declared.attempt.Plan.{Plan}
use Rattle.host_node.specs.declared.attempt.Plan.TheVariants.{Segments}
use Rattle.host_node.specs.declared.series.Series.TheVariants as series
use Rattle.host_model.specs.After.{after}
use Rattle.host_model.specs.Events.{Starts}
use Rattle.host_model.specs.Facts.{HostFacts}
use Rattle.host_model.specs.Sessions.{segment_count}
use Rattle.host_model.specs.State.{HostState, node_of}
use Rattle.world_model.specs.Events.{Host_does, happens}
use Rattle.world_model.specs.State.{Machine}
use Rattle.world_model.proofs.Hosting.{devices_host-all}
use Rattle.proof_messages.specs.Reporting.{TellsPlainly}
use Rattle.proof_answered.specs.proof_calm.proof_traffic.OnAir.{on_air}
use Rattle.proof_answered.specs.proof_calm.proof_work.proof_walk.Phases.{Submitting}
use Rattle.proof_answered.specs.proof_calm.Tied.{on_line, unheard}
use Rattle.proof_answered.specs.Workers.{IsFromSaying}
use Rattle.proof_answered.proofs.Calm.{does_calm}
use Rattle.proof_answered.proofs.Unheard.{does_says}
use Rattle.proof_answered.proofs.proof_traffic_Parts.{Airs}
use Rattle.proof_course_plain.proofs.Segments.{kept_slices}
use Rattle.proof_in_time.specs.Openly.{GoOpenly}
use Rattle.proof_in_time.specs.Parts.{AllPlain, AllTold, By_attempt, Given, Hears_one, IsCut, IsToGive, Parts, To_give}
use Rattle.proof_in_time.proofs.InTurn.{left_of}
use Rattle.proof_in_time.proofs.NodeWaits.{own_start}
use Rattle.proof_in_time.proofs.PartsArriving.{TakesParts}
use Rattle.proof_in_time.proofs.PartsBegun.{part_begins}
use Rattle.proof_in_time.proofs.PartsCarried.{Wraps, all_wrapped, itself_wraps, wraps_pile}
use Rattle.proof_in_time.proofs.PartsGiven.{GivesFirst, few_bytes}
use Rattle.proof_in_time.proofs.PartsHeard.{SliceLaws}
use Rattle.proof_in_time.proofs.PartsHosted.{cut_stays, host_then}
use Rattle.proof_in_time.proofs.PartsPhases.{same_first, within_so}

module _ (airs : Airs) (laws : SliceLaws) (these : List Bool) (n : ℕ) (marked : is_marked these n ≡ true) (within : n < 233) (passes ticks : ℕ) (m : Machine) (plan : Plan) (more : Bool) (payload : List ℕ) (facts : HostFacts m.host.state) (go : GoOpenly these m.host.state.commands)
    (places : length m.host.state.nodes ≡ 233) (due : (node_of m.host.state n).series ≡ series.Due) (empty : m.host.state.requests.queue ≡ []) (gives : GivesFirst these m.host.state n facts go marked plan payload)
    (takes : TakesParts n (begun_of (node_of m.host.state n).book) m) (plain : AllPlain these (on_air m.outside.outer.air.frames)) (told : AllTold these (unheard m.outside.outer)) where
  abbrev then_done : Machine
  then_done = happens m (Host_does (Starts n plan more payload))

  node_then : node_of (after m.host.state (Starts n plan more payload)) n ≡ after_start (node_of m.host.state n) (Segments (segment_count gives.message))
  node_then = own_start n within m.host.state plan more payload places ∙ ap (after_start (node_of m.host.state n)) gives.plan_is

  nothing : NothingLeft (node_of m.host.state n).attempt_wait (node_of m.host.state n).next_segment (node_of m.host.state n).segments (node_of m.host.state n).text (node_of m.host.state n).pending
  nothing = left_of (node_of m.host.state n) (facts.nodes.facts n) (λ run. let wrong : series.Due ≡ series.Running = sym due ∙ run in absurd cc)

  cut_then : IsCut n (begun_of (node_of m.host.state n).book) gives.message then_done.host.state
  cut_then =
      subst (IsCut n (begun_of (node_of m.host.state n).book) gives.message) (sym (host_then m (Starts n plan more payload)))
      (cut_stays n (begun_of (node_of m.host.state n).book) gives.message m.host.state (Starts n plan more payload) (ap (λ (x : NodeState). x.book.commands) node_then) gives.cut)

  long : length gives.message ≤ 273
  long = few_bytes these m.host.state n facts go marked (begun_of (node_of m.host.state n).book) gives.message gives.cut

  give : (h : HostState) → h ≡ after m.host.state (Starts n plan more payload) → (later : Machine) → later.host.state ≡ h → IsToGive n (begun_of (node_of m.host.state n).book) gives.message 0 1 (Submitting passes ticks) later
  give h is later host =
      let all : later.host.state ≡ after m.host.state (Starts n plan more payload) = host ∙ is in
      Given (record { purpose = Attempt n more payload; progress = Submitted }) tt (ap (λ (g : HostState). g.requests.queue) all ∙ empty) (ap (λ (g : HostState). g.requests.under_way) all) (By_attempt more (ap (λ (p : List ℕ). Attempt n more p) gives.text))
      (ap (λ (g : HostState). on_line g.side.turn) all ∙ ap (λ (g : HostState). frame_of (Attempt n more payload) g.requests.last_id ∷ []) (sym all))
      (ap (λ (g : HostState). (node_of g n).next_segment) all ∙ ap (λ (x : NodeState). x.next_segment) node_then)

  told_then : AllTold these (unheard then_done.outside.outer)
  told_then =
      all_wrapped (IsFromSaying these TellsPlainly) (unheard m.outside.outer) (unheard then_done.outside.outer)
      (does_says (IsFromSaying these TellsPlainly) (Wraps (IsFromSaying these TellsPlainly) (unheard m.outside.outer)) (wraps_pile (IsFromSaying these TellsPlainly) (unheard m.outside.outer)) airs m (Starts n plan more payload)
      (itself_wraps (IsFromSaying these TellsPlainly) (unheard m.outside.outer))) told

  pub parts_start : 1 ≤ length gives.message → Parts these n (begun_of (node_of m.host.state n).book) 23 (Submitting passes ticks) then_done
  parts_start some =
      let host = host_then m (Starts n plan more payload) in
      let first = same_first n m.outside.devices then_done.outside.devices (devices_host-all m (Starts n plan more payload ∷ [])) takes.stands in
      let begun = part_begins laws (begun_of (node_of m.host.state n).book) gives.message takes.stands.device some long (kept_slices _ _ (takes.stands.device.sessions.taken + 1) takes.stands.device.reassembly takes.keeps) takes.step in
      record {
        message = gives.message;
        cut = cut_then;
        count = ap (λ (h : HostState). (node_of h n).segments) host ∙ ap (λ (x : NodeState). x.segments) node_then;
        no_text = ap (λ (h : HostState). (node_of h n).text) host ∙ (ap (λ (x : NodeState). x.text) node_then ∙ nothing.no_text);
        no_pending = ap (λ (h : HostState). (node_of h n).pending) host ∙ (ap (λ (x : NodeState). x.pending) node_then ∙ nothing.no_pending);
        stands = first.0;
        hears = Hears_one 0;
        inside = omega (arith, some);
        next = 1;
        later = 1;
        way = To_give 0 refl (give (after m.host.state (Starts n plan more payload)) refl then_done host) (subst (AllPlain these) (sym (does_calm airs m (Starts n plan more payload)).on) plain) told_then (omega arith);
        ticks = 22;
        within = within_so (begun_of (node_of m.host.state n).book) gives.message takes.stands.device first.0.device first.1 (Hears_one 0) 1 22 begun;
        few = omega arith;
      }
