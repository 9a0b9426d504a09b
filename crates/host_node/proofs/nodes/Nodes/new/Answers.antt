-- Nothing is known of the nodes that are made.
use Rattle.std.proofs.Common.{◌<◌, arith}
use Rattle.host_node.proofs.Words.{some_where, value_of}
use Rattle.host_node.proofs.TableLists.{made_one_more, all_made, all_new}
use Rattle.host_node.proofs.nodes.Nodes.new.Goals as goal

pub loop-number-preserved : goal.loop-number-preserved
loop-number-preserved c =
    let within : c.loop-number.number < 233 = omega arith in
    let read = some_where _ c.read_node-in-loop-number.result _ c.read_node-in-loop-number.ensures (omega arith, omega arith) in
    made_one_more c.loop-number.nodes.items c.push-in-loop-number.new.self.items c.in_ok-new-2.field-0 c.loop-number.number c.unwrap-node.result c.loop-number.invariant (omega arith)
    c.in_ok-push-2.ensures.items c.in_ok-new-2.ensures (value_of c.read_node-in-loop-number.result c.loop-number.number c.unwrap-node.result read c.unwrap-node.ensures)

pub invariant_of-result : goal.invariant_of-result
invariant_of-result c = all_new c.loop-number.nodes.items c.new-2.result (all_made c.loop-number.nodes.items c.loop-number.number (omega arith) c.loop-number.invariant) c.new-2.ensures

pub returns : goal.returns
returns c = all_made c.loop-number.nodes.items c.loop-number.number (omega arith) c.loop-number.invariant
