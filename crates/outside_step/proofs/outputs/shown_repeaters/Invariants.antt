use Rattle.std.proofs.Common.{◌≡◌, take}
use Rattle.std.specs.Prelude.{filter}
use Rattle.outside_model.specs.Chip.{is_node}
use Rattle.outside_step.proofs.outputs.shown_repeaters.Given as goal

abbrev pub invariant-loop-hop : goal.invariant-loop-hop
invariant-loop-hop l = l.repeaters ≡ filter is_node (take l.hop-index l.hop-items)
