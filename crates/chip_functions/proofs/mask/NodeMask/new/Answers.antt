use Rattle.std.proofs.Common.{◌∙◌}
use Rattle.chip_functions.proofs.MaskLemmas.{no_nodes}
use Rattle.chip_functions.proofs.mask.NodeMask.new.Goals as goal

pub returns : goal.returns
returns c = c.of_bytes.ensures ∙ no_nodes
