use Rattle.chip_functions.proofs.MaskLemmas.{test_contains}
use Rattle.chip_functions.proofs.mask.NodeMask.contains.Goals as goal

pub returns : goal.returns
returns c = test_contains c.self.inside.bits c.args.self.now c.number-place.result c.args.node c.number-place.ensures.value c.number-place.ensures.from_one c.number-place.ensures.to_max c.self.view_is
