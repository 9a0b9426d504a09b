use Rattle.std.proofs.Common.{◌≡◌, refl, sym, ◌∙◌}
use Rattle.host_model.specs.State.{first_host, first_nodes}
use Rattle.host_step.proofs.Answered.{some_is}
use Rattle.host_step.proofs.First.{nodes_are_first}
use Rattle.host_step.proofs.Kept.{same_facts}
use Rattle.host_step.proofs.host.HostCore.new.Goals as goal

pub invariant_of-result-2 : goal.invariant_of-result-2
invariant_of-result-2 c =
    let two : c.unwrap-first.result ≡ 2 = some_is c.read_node.result _ 2 c.unwrap-first.result c.read_node.ensures c.unwrap-first.ensures in
    let nodes : first_nodes ≡ c.nodes-2.inside.nodes.items
    = nodes_are_first c.in_ok-nodes.nodes c.join.new.self c.nodes-2.inside.nodes.items c.unwrap-first.result c.in_ok-from_slice.field-0 c.in_ok-nodes.ensures two c.join.ensures c.in_ok-from_slice.ensures (c.nodes-2.view_is ∙ c.interviewed.ensures) in
    same_facts (first_host c.args.keys) _ (c.facts_are_kept.ensures.first c.args.keys) nodes (sym c.new-4.ensures.items) (sym c.in_ok-new-3.ensures) (sym c.new-6.ensures) refl
