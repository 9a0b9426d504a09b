use Rattle.std.proofs.Common.{◌≡◌, subst}
use Rattle.std.specs.Prelude.{IfOk}
use Rattle.host_node.specs.TableState.{node_of}
use Rattle.host_orders.specs.Refusals.{Known, classes_of}
use Rattle.host_orders.specs.Wrapping.{carriage_of}
use Rattle.host_orders.specs.declared.carriage.Carriage.{Carriage}
use Rattle.host_model.specs.May.{known_of}
use Rattle.host_parts.proofs.Judged.{judged_carries, judged_by_rules, known_is}
use Rattle.host_parts.proofs.accepting.judge_by_node.Goals as goal

pub returns-clause-carried : goal.returns-clause-carried
returns-clause-carried c =
    let known : Known = record { joined = c.is_joined.result; classes = c.class_list.result.now; waiting = c.waiting.result } in
    let same : known ≡ known_of (node_of c.args.nodes.now c.args.order.now.node)
    = known_is c.of-state.result.now (node_of c.args.nodes.now c.args.order.now.node) known c.of-state.ensures.value c.is_joined.ensures c.class_list.ensures c.waiting.ensures.count in
    subst (λ (k : Known). IfOk c.judge.result (λ (carriage : Carriage). carriage ≡ carriage_of (classes_of k) c.args.order.now)) same
    (judged_carries c.judge.result known c.args.order.now c.judge.ensures.refuses c.judge.ensures.carried)

pub returns-clause-by_a_rule : goal.returns-clause-by_a_rule
returns-clause-by_a_rule c =
    let known : Known = record { joined = c.is_joined.result; classes = c.class_list.result.now; waiting = c.waiting.result } in
    judged_by_rules c.judge.result known c.args.order.now c.judge.ensures.refuses
