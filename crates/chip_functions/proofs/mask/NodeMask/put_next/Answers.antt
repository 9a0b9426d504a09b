use Rattle.chip_functions.proofs.MaskLemmas.{skip_next}
use Rattle.chip_functions.proofs.mask.NodeMask.put_next.Goals as goal

pub returns-in_default : goal.returns-in_default
returns-in_default c = skip_next c.args.self.now c.args.nodes.now.items c.args.place c.in-Some.node c.contains.result c.in-Some.ensures.1 c.contains.ensures c.if-contains.false
