use Rattle.std.proofs.Common.{◌≡◌, map, take}
use Rattle.zw_base.specs.declared.property.Name.TheVariants.{Member}
use Rattle.host_heard.specs.Telling.{value_at}
use Rattle.host_heard.proofs.values.all_members.Given as goal

-- the first nodes are there
abbrev pub invariant-loop-node : goal.invariant-loop-node
invariant-loop-node l = l.values ≡ map (λ node. value_at l.end (Member l.group node) 1) (take l.node-index l.nodes)
