use Rattle.std.proofs.Common.{◌∙◌, ap, subst}
use Rattle.chip_functions.specs.Mask.{AreNodes, mask_of}
use Rattle.chip_functions.proofs.MaskLemmas.{mask_of-nodes_of, are_nodes}
use Rattle.chip_functions.proofs.mask.NodeMask.as_bytes.Goals as goal

pub returns-clause-value : goal.returns-clause-value
returns-clause-value c = mask_of-nodes_of c.self.inside.bits c.self.told c.self.invariant ∙ ap mask_of c.self.view_is

pub returns-clause-nodes : goal.returns-clause-nodes
returns-clause-nodes c = subst AreNodes c.self.view_is (are_nodes c.self.inside.bits)
