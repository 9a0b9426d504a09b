use Rattle.std.proofs.Common.{◌≡◌, map}
use Rattle.std.specs.Prelude.{filter, true, ◌&&◌}
use Rattle.std.specs.List.{range_with_len}
use Rattle.route_table.specs.Network.{linked}
use Rattle.chip_sim.specs.Events.{Linked}
use Rattle.chip_sim.specs.Did.{after_all}
use Rattle.outside_model.specs.State.{with_chip}
use Rattle.outside_model.specs.Nodes.{is_known}
use Rattle.outside_step.proofs.outside.OutsideCore.learn_links.Given as goal

abbrev pub invariant-loop-place : goal.invariant-loop-place
invariant-loop-place l = l.self ≡ with_chip l.fn.self (after_all l.fn.self.chip.state
    (map (λ other. Linked l.node other true) (filter (λ other. is_known l.fn.self.air other && linked l.fn.self.air.network l.node other) (range_with_len 1 l.place))))
