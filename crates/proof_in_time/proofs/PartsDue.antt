-- An attempt of a node starts whose commands go unsealed, with its message, or with the first segment of that: then its segments are on their way. Nothing else of the node is, where what is on the air and
-- at the chip for the host asks for nothing: no task of the host waits then.
use Rattle.std.proofs.Common.{◌∷◌, [], false, ◌∙◌, arith, refl, sym, ap, subst, ◌≡◌, ◌<◌, ℕ, inl, inr, Bool, true, List}
use Rattle.std.specs.Prelude.{◌⊎◌}
use Rattle.supervision.specs.Host.{begun_of}
use Rattle.chip_functions.specs.Field.{IsNode}
use Rattle.chip_sim.specs.Nodes.{is_marked}
use Rattle.device_kinds.specs.Kind.{lists}
use Rattle.host_node.specs.State.{NodeState}
use Rattle.host_node.specs.Steps.{after_start}
use Rattle.host_node.specs.declared.attempt.Plan.{Plan}
use Rattle.host_node.specs.declared.attempt.Plan.TheVariants.{Sealed, Segments, Whole}
use Rattle.host_node.specs.declared.series.Series.TheVariants as series
use Rattle.host_requests.specs.Frames.{frame_of}
use Rattle.host_requests.specs.declared.task.Purpose.TheVariants.{Attempt}
use Rattle.host_requests.specs.declared.under_way.Progress.TheVariants.{Submitted}
use Rattle.host_model.specs.After.{after}
use Rattle.host_model.specs.Taking.{is_secure}
use Rattle.host_model.specs.Events.{Starts}
use Rattle.host_model.specs.Facts.{HostFacts}
use Rattle.host_model.specs.State.{HostState, node_of}
use Rattle.world_model.specs.Events.{Host_does, happens, May}
use Rattle.world_model.specs.State.{Machine}
use Rattle.proof_answered.specs.proof_calm.proof_traffic.OnAir.{on_air}
use Rattle.proof_answered.specs.proof_calm.proof_work.proof_walk.Phases.{Submitting}
use Rattle.proof_answered.specs.proof_calm.Tied.{on_line, unheard}
use Rattle.proof_answered.specs.Listening.{HasListener}
use Rattle.proof_answered.proofs.proof_traffic_Parts.{Airs}
use Rattle.proof_in_time.specs.Coming.{Asked, AsksFor, IsMessage, WaitsFor}
use Rattle.proof_in_time.specs.InStep.{HasInStep}
use Rattle.proof_in_time.specs.Open.{IsFar, WaitsParts}
use Rattle.proof_in_time.specs.Openly.{GoOpenly}
use Rattle.proof_in_time.specs.Parts.{AllPlain, AllTold, Parts}
use Rattle.proof_in_time.proofs.AskedSo.{starts_begun}
use Rattle.proof_in_time.proofs.Bounded.{waits_none}
use Rattle.proof_in_time.proofs.NodeWaits.{own_start}
use Rattle.proof_in_time.proofs.PartsGiven.{GivesFirst, GivesWhole, gives_part, some_bytes}
use Rattle.proof_in_time.proofs.PartsHeard.{SliceLaws}
use Rattle.proof_in_time.proofs.PartsInStep.{takes_parts}
use Rattle.proof_in_time.proofs.PartsHosted.{host_then}
use Rattle.proof_in_time.proofs.PartsStarted.{parts_start}

-- an attempt that starts runs, and what is kept of the node
pub record IsStarted (x y : NodeState) : Type 0 where
  pub book : y.book ≡ x.book
  pub classes : y.classes ≡ x.classes
  pub wait : y.attempt_wait ≡ x.attempt_wait
  pub runs : y.series ≡ series.Running

pub started_so : (x : NodeState) (plan : Plan) → IsStarted x (after_start x plan)
started_so x Whole = record { book = refl; classes = refl; wait = refl; runs = refl }
started_so x (Segments count) = record { book = refl; classes = refl; wait = refl; runs = refl }
started_so x (Sealed plain) = record { book = refl; classes = refl; wait = refl; runs = refl }

module _ (airs : Airs) (laws : SliceLaws) (these : List Bool) (n : ℕ) (marked : is_marked these n ≡ true) (within : n < 233) (node : IsNode n) (passes ticks : ℕ) (m : Machine) (plan : Plan) (more : Bool) (payload : List ℕ) (may : May m (Host_does (Starts n plan more payload)))
    (facts : HostFacts m.host.state) (go : GoOpenly these m.host.state.commands) where
  -- the session is the one that was begun last, before and after
  abbrev begun : ℕ
  begun = begun_of (node_of m.host.state n).book

  module _ (step : HasInStep n m) (cut : lists step.device.kind 0x55 ≡ true) (listens : HasListener n m.outside.devices) (plain : AllPlain these (on_air m.outside.outer.air.frames)) (told : AllTold these (unheard m.outside.outer)) where
    due_parts : GivesWhole these m.host.state n facts go marked plan payload ⊎ (Parts these n begun 23 (Submitting passes ticks) (happens m (Host_does (Starts n plan more payload))) × GivesFirst these m.host.state n facts go marked plan payload)
    unfolding May
    due_parts = by (gives_part these m.host.state n facts go marked plan more payload may.0.1)
      where
        by : GivesWhole these m.host.state n facts go marked plan payload ⊎ GivesFirst these m.host.state n facts go marked plan payload → GivesWhole these m.host.state n facts go marked plan payload ⊎ (Parts these n begun 23 (Submitting passes ticks) (happens m (Host_does (Starts n plan more payload))) × GivesFirst these m.host.state n facts go marked plan payload)
        by (inl whole) = inl whole
        by (inr gives) =
            let takes = takes_parts n m step node cut listens (starts_begun m n plan more payload may) in
            let some = some_bytes these m.host.state n facts go marked begun gives.message gives.cut in
            inr (parts_start airs laws these n marked within passes ticks m plan more payload facts go facts.nodes.places may.0.2.0 may.0.0.no_task gives takes plain told some, gives)

    -- so the wait of the attempt, which has not begun, is longer than what is to come
    pub due_waits : is_secure (node_of m.host.state n).classes ≡ false
        → (WaitsFor false n 23 (Submitting passes ticks) (happens m (Host_does (Starts n plan more payload))) × GivesWhole these m.host.state n facts go marked plan payload) ⊎ (WaitsParts these n 23 (Submitting passes ticks) (happens m (Host_does (Starts n plan more payload))) × GivesFirst these m.host.state n facts go marked plan payload)
    unfolding May
    due_waits bare = by due_parts
      where
        host : (happens m (Host_does (Starts n plan more payload))).host.state ≡ after m.host.state (Starts n plan more payload)
        host = host_then m (Starts n plan more payload)

        there : node_of (happens m (Host_does (Starts n plan more payload))).host.state n ≡ after_start (node_of m.host.state n) plan
        there = ap (λ (h : HostState). node_of h n) host ∙ own_start n within m.host.state plan more payload facts.nodes.places

        kept : IsStarted (node_of m.host.state n) (after_start (node_of m.host.state n) plan)
        kept = started_so (node_of m.host.state n) plan

        session : begun ≡ begun_of (node_of (happens m (Host_does (Starts n plan more payload))).host.state n).book
        session = sym (ap (λ (x : NodeState). begun_of x.book) there ∙ ap begun_of kept.book)

        open_then : is_secure (node_of (happens m (Host_does (Starts n plan more payload))).host.state n).classes ≡ false
        open_then = ap (λ (x : NodeState). is_secure x.classes) there ∙ (ap is_secure kept.classes ∙ bare)

        far : (left : ℕ) → IsFar n left (Submitting passes ticks) (happens m (Host_does (Starts n plan more payload)))
        far left =
            inl (ap (λ (x : NodeState). x.attempt_wait) there
            ∙ (kept.wait ∙ waits_none (node_of m.host.state n) (facts.nodes.facts n) (λ run. let wrong : series.Due ≡ series.Running = sym may.0.2.0 ∙ run in absurd cc)))

        by : GivesWhole these m.host.state n facts go marked plan payload ⊎ (Parts these n begun 23 (Submitting passes ticks) (happens m (Host_does (Starts n plan more payload))) × GivesFirst these m.host.state n facts go marked plan payload)
            → (WaitsFor false n 23 (Submitting passes ticks) (happens m (Host_does (Starts n plan more payload))) × GivesWhole these m.host.state n facts go marked plan payload) ⊎ (WaitsParts these n 23 (Submitting passes ticks) (happens m (Host_does (Starts n plan more payload))) × GivesFirst these m.host.state n facts go marked plan payload)
        by (inl whole) =
            let asks : AsksFor n (begun_of (node_of (happens m (Host_does (Starts n plan more payload))).host.state n).book) (happens m (Host_does (Starts n plan more payload))).host.state =
            record {
              request = record { purpose = Attempt n more payload; progress = Submitted };
              more = more;
              payload = payload;
              under_way = ap (λ (g : HostState). g.requests.under_way) host;
              purpose = refl;
              message = subst (λ (s : ℕ). IsMessage s payload) session whole.message;
              frame = ap (λ (g : HostState). on_line g.side.turn) host ∙ ap (λ (g : HostState). frame_of (Attempt n more payload) g.requests.last_id ∷ []) (sym host);
            } in
            inl (record { openly = open_then; once = omega arith; bounded = λ run. record { left = 23; few = omega arith; within = omega arith; comes = Asked tt asks (omega arith); waits = far 23 } }, whole)
        by (inr (parts, gives)) = inr (
          record {
            openly = open_then;
            once = omega arith;
            running = ap (λ (x : NodeState). x.series) there ∙ kept.runs;
            left = 23;
            few = omega arith;
            within = omega arith;
            parts = subst (λ (s : ℕ). Parts these n s 23 (Submitting passes ticks) (happens m (Host_does (Starts n plan more payload)))) session parts;
            waits = far 23;
          },
          gives,
        )
