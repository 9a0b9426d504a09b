use Rattle.std.proofs.Common.{◌≡◌}
use Rattle.std.specs.Prelude.{filter, ◌||◌, nat_eq}
use Rattle.std.specs.List.{range_with_len}
use Rattle.chip_sim.specs.Nodes.{is_marked}
use Rattle.chip_sim.proofs.marks.Marks.mask_with_home.Given as goal

abbrev pub invariant-loop-place : goal.invariant-loop-place
invariant-loop-place l = l.mask ≡ filter (λ n. nat_eq n 1 || is_marked l.fn.self n) (range_with_len 1 l.place)
