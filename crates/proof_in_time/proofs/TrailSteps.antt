-- What is on its way of an attempt of one node alone that takes segments goes on, once its device has taken the session, or where none runs: all of it, at each event and with none.
use Rattle.std.proofs.Common.{◌≡◌, ℕ, Bool, true, Some, List, length}
use Rattle.chip_functions.specs.Field.{IsNode}
use Rattle.chip_sim.specs.Nodes.{is_marked}
use Rattle.host_node.specs.Search.{next_of}
use Rattle.host_model.specs.State.{HostState}
use Rattle.proof_answered.specs.Sleepers.{IsAlone}
use Rattle.proof_answered.specs.Workers.{KnowsWorkers}
use Rattle.proof_answered.proofs.Speaking.{Same}
use Rattle.proof_answered.proofs.proof_traffic_Parts.{Airs}
use Rattle.proof_in_time.proofs.Bounded.{Devices}
use Rattle.proof_in_time.proofs.OpenBeside.{tied_then}
use Rattle.proof_in_time.proofs.OpenSteps.{TrailSteps}
use Rattle.proof_in_time.proofs.PartsArriving.{SegmentLaws}
use Rattle.proof_in_time.proofs.PartsSupplied.{around_of}
use Rattle.proof_in_time.proofs.Plainly.{Tells}
use Rattle.proof_in_time.proofs.TrailAsked.{over_trails, trail_goes, trail_turn}
use Rattle.proof_in_time.proofs.TrailDevices.{AgainLaws}
use Rattle.proof_in_time.proofs.TrailQuiet.{quiet_on, quiet_said, quiet_turn, starts_cut, starts_whole}

module _ (airs : Airs) (devices : Devices) (laws : SegmentLaws) (again : AgainLaws) (tells : Tells) (same : Same) (these : List Bool) (many : length these ≡ 233) (n : ℕ) (alone : IsAlone these n) (is_node : IsNode n)
    (workers : (h : HostState) (k : ℕ) → KnowsWorkers these h → next_of h.nodes h.served ≡ Some k → is_marked these k ≡ true) where
  pub trail_steps : TrailSteps airs devices laws tells these many n alone is_node workers
  trail_steps = record {
    quiet = quiet_on airs devices laws again tells same these many n alone is_node workers;
    starts_whole = starts_whole airs devices laws again tells same these many n alone is_node workers;
    starts_cut = starts_cut airs devices laws again tells same these many n alone is_node workers;
    quiet_turn = quiet_turn airs devices laws again tells same these many n alone is_node workers;
    quiet_said = quiet_said airs devices laws again tells same these many n alone is_node workers;
    trail = λ here next m event b lasts t.
        trail_goes airs laws these many n alone is_node here next m event b.goes
        (around_of airs laws these many n alone is_node tells workers here next m event b.goes b.may b.tied b.then_tied b.sent b.lines b.speak b.knows b.go b.joined b.listen b.step b.cut b.served b.calls t.running) lasts t;
    trail_turn = λ here next m b t. trail_turn these n is_node here next m b.turns b.tied.1 b.tied.0 (tied_then these next m b.then_tied) t;
    over = λ here next m event b left runs o. over_trails airs laws these many n alone is_node here next m event b.goes left runs o;
  }
