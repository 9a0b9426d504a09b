use Rattle.std.proofs.Common.{◌≡◌}
use Rattle.chip_functions.proofs.MaskLemmas.{nodes_below}
use Rattle.chip_functions.proofs.mask.NodeMask.nodes.Given as goal

abbrev pub invariant-loop-place : goal.invariant-loop-place
invariant-loop-place l = l.nodes.items ≡ nodes_below l.self l.place
