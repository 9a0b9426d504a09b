use Rattle.std.proofs.Common.{◌≡◌}
use Rattle.std.specs.Prelude.{filter}
use Rattle.std.specs.List.{range_with_len}
use Rattle.route_table.specs.Network.{linked}
use Rattle.chip_sim.proofs.answers.neighbours.Given as goal

abbrev pub invariant-loop-place : goal.invariant-loop-place
invariant-loop-place l = l.mask ≡ filter (λ m. linked l.fn.table l.fn.node m) (range_with_len 1 l.place)
