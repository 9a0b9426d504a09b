use Rattle.std.proofs.Common.{◌≡◌, ◌++◌, drop}
use Rattle.device_kinds.specs.Judging.{memberships}
use Rattle.device_kinds.proofs.judging.members.Given as goal

abbrev pub invariant-loop-node : goal.invariant-loop-node
invariant-loop-node l = l.settings.items ++ memberships l.end l.value (drop l.node-index l.nodes) ≡ memberships l.end l.value l.nodes
