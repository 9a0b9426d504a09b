use Rattle.std.proofs.Common.{◌∙◌, ap}
use Rattle.chip_functions.specs.Mask.{with_node}
use Rattle.chip_functions.proofs.MaskLemmas.{with_bit-nodes}
use Rattle.chip_functions.proofs.mask.NodeMask.insert.Goals as goal

pub returns : goal.returns
returns c = rw (← c.number-place.ensures.value) (with_bit-nodes c.number-place.result c.self.inside.bits c.self.told c.number-place.ensures.from_one c.number-place.ensures.to_max ∙ ap (with_node c.number-place.result) c.self.view_is)
