use Rattle.std.proofs.Common.{◌≡◌}
use Rattle.std.specs.Prelude.{filter}
use Rattle.std.specs.List.{range_with_len, flat_map}
use Rattle.chip_sim.specs.Did.{after_all}
use Rattle.outside_model.specs.State.{with_chip}
use Rattle.outside_model.specs.Nodes.{is_known, pairs_of}
use Rattle.outside_step.proofs.outside.OutsideCore.discover.Given as goal

abbrev pub invariant-loop-place : goal.invariant-loop-place
invariant-loop-place l = l.self ≡ with_chip l.fn.self (after_all l.fn.self.chip.state
    (flat_map (λ node. pairs_of l.fn.self.air node) (filter (λ node. is_known l.fn.self.air node) (range_with_len 1 l.place))))
