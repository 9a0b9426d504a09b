use Rattle.std.proofs.Common.{take}
use Rattle.std.specs.List.{AllByRecursion}
use Rattle.zw_text.specs.Fits.{IsNode}
use Rattle.zw_range.proofs.range.nodes.Given as goal

abbrev pub invariant-nodes : goal.invariant-nodes
invariant-nodes l = AllByRecursion IsNode (take l.one-index l.nodes)
