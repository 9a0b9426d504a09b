-- What the host takes a node to list, over any events: what its device lists, once an interview of it has succeeded. So what is such of that list is such of what the host knows.
use Rattle.std.proofs.Common.{◌≡◌, ℕ, List, [], ◌∷◌, Some, inl, inr, sym, ap, subst, ◌∙◌}
use Rattle.std.specs.List.{AllByRecursion}
use Rattle.std.proofs.lemmas.Bool.{cases_eq}
use Rattle.host_node.specs.Steps.{after_interview}
use Rattle.host_node.specs.TableState.{node_of}
use Rattle.host_model.specs.State.{HostState}
use Rattle.host_model.specs.Events.{HostEvent, Interviews}
use Rattle.host_model.specs.After.{after as host_after}
use Rattle.host_model.specs.Did.{after_all as host_after_all}
use Rattle.world_model.specs.State.{Machine}
use Rattle.world_model.specs.Events.{Event, Outside_does, Host_does, Host_takes, Decoder_ticks, Refuses, Shows_values, Restarts, happens, May}
use Rattle.world_model.specs.Did.{MayAll}
use Rattle.proof_spoken.specs.Said.{AllTell, TellListing, Tells, TellsListing}
use Rattle.proof_spoken.proofs.Classes.{LeavesRecords, classes_of, event_kept, joined_place, set_here, set_there}
use Rattle.proof_messages.proofs.LockSessions.{some_same}

-- ---- what the host knows of the node

module _ (law : LeavesRecords) (listing : ℕ → List ℕ) (node : ℕ) (Is : List ℕ → Type 0) (lists_so : Is (listing node)) where
  -- what it takes the node to list is such
  abbrev pub KnowsSo : HostState → Type 0
  KnowsSo h = (classes : List ℕ) → classes_of h.nodes node ≡ Some classes → Is classes

  kept_so : (old new : HostState) → classes_of new.nodes node ≡ classes_of old.nodes node → KnowsSo old → KnowsSo new
  kept_so old new same knows classes is = knows classes (sym same ∙ is)

  host_knows : (h : HostState) (event : HostEvent) → TellsListing listing h event → KnowsSo h → KnowsSo (host_after h event)
  host_knows h (Interviews n listens classes update) tells knows = elim (cases_eq node n) [
    | inl same ↦ λ found is.
        let told : Some classes ≡ Some found =
        sym (set_here h.nodes n (after_interview (node_of h.nodes n) listens classes) (joined_place h.nodes n tells.joined))
        ∙ (ap (λ (k : ℕ). classes_of (host_after h (Interviews n listens classes update)).nodes k) (sym same) ∙ is) in
        subst Is (ap listing same ∙ (sym tells.lists ∙ some_same classes found told)) lists_so
    | inr other ↦ kept_so h (host_after h (Interviews n listens classes update)) (set_there h.nodes n (after_interview (node_of h.nodes n) listens classes) node other) knows
  ]
  host_knows h event tells knows = kept_so h (host_after h event) (event_kept law h event tt node) knows

  hosts_know : (h : HostState) (events : List HostEvent) → TellListing listing h events → KnowsSo h → KnowsSo (host_after_all h events)
  hosts_know h [] tells knows = knows
  hosts_know h (event ∷ events) tells knows = hosts_know (host_after h event) events tells.1 (host_knows h event tells.0 knows)

  machine_knows : (m : Machine) (event : Event) → Tells listing m event → KnowsSo m.host.state → KnowsSo (happens m event).host.state
  unfolding happens
  machine_knows m (Outside_does event) tells knows = knows
  machine_knows m (Host_does event) tells knows = host_knows m.host.state event tells knows
  machine_knows m (Host_takes count rest items events) tells knows = hosts_know m.host.state events tells knows
  machine_knows m Decoder_ticks tells knows = knows
  machine_knows m (Refuses line refusal) tells knows = knows
  machine_knows m (Shows_values n) tells knows = knows
  machine_knows m (Restarts state) tells knows = kept_so m.host.state state (tells node) knows

  -- ---- events one after another

  -- what holds of each event at which the host knows the node so holds of all of them
  module _ (Holds : Event → Type 0) (one : (m : Machine) (event : Event) → May m event → KnowsSo m.host.state → Holds event) where
    pub all_hold : (m : Machine) (events : List Event) → MayAll m events → AllTell listing m events → KnowsSo m.host.state → AllByRecursion Holds events
    all_hold m [] may tells knows = tt
    all_hold m (event ∷ events) may tells knows = (one m event may.0 knows, all_hold (happens m event) events may.1 tells.1 (machine_knows m event tells.0 knows))
