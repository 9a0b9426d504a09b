-- One bit is put in or taken out.
use Rattle.std.proofs.Common.{arith}
use Rattle.host_node.proofs.Words.{put_in, taken_out, marks_with, has_nodes_with}
use Rattle.host_node.proofs.node_set.NodeSet.set.Goals as goal

pub invariant_of-self : goal.invariant_of-self
invariant_of-self c =
    let n = c.number-number.result in
    has_nodes_with _ c.self.inside.words n _ (put_in c.self.inside.words n (omega arith)) c.number-number.ensures.from_one c.number-number.ensures.to_max c.self.invariant

pub invariant_of-self-else-is_in : goal.invariant_of-self-else-is_in
invariant_of-self-else-is_in c =
    let n = c.number-number.result in
    has_nodes_with _ c.self.inside.words n _ (taken_out c.self.inside.words n (omega arith)) c.number-number.ensures.from_one c.number-number.ensures.to_max c.self.invariant

pub returns-then-is_in : goal.returns-then-is_in
returns-then-is_in c =
    let n = c.number-number.result in
    rw (← c.self.view_is, c.if-is_in.true, ← c.number-number.ensures.value) (marks_with _ c.self.inside.words n _ (put_in c.self.inside.words n (omega arith)))

pub returns-else-is_in : goal.returns-else-is_in
returns-else-is_in c =
    let n = c.number-number.result in
    rw (← c.self.view_is, c.if-is_in.false, ← c.number-number.ensures.value) (marks_with _ c.self.inside.words n _ (taken_out c.self.inside.words n (omega arith)))
