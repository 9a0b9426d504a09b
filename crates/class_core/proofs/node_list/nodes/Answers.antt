use Rattle.std.proofs.Common.{ℕ, ◌+◌, List, [], Result, refl, subst, sym}
use Rattle.class_core.specs.declared.fault.ClassFault.{ClassFault}
use Rattle.class_core.specs.Reading.{Gives}
use Rattle.class_core.proofs.ListSteps.{IsNodesSoFar, nodes_begin, nodes_one, nodes_bad, nodes_end}
use Rattle.class_core.proofs.node_list.nodes.Goals as goal

pub loop-i-init : goal.loop-i-init
loop-i-init c = subst (λ (l : List ℕ). IsNodesSoFar c.args.at c.args.bytes.now l c.from-i.result) (sym c.new-list.ensures)
    (subst (λ (i : ℕ). IsNodesSoFar c.args.at c.args.bytes.now [] i) (sym c.from-i.ensures) (nodes_begin c.args.at c.args.bytes.now))

pub returns-in-None : goal.returns-in-None
unfolding Rattle.class_core.specs.Reading.nodes_at
returns-in-None c = subst (λ (r : Result (List ℕ) ClassFault). Gives c.bad_value.result r) (sym (nodes_bad c.args.at c.args.bytes.now c.loop-i.list c.loop-i.i _ c.loop-i-test.true refl c.in-None.ensures c.loop-i.invariant)) c.bad_value.ensures

pub loop-i-preserved : goal.loop-i-preserved
loop-i-preserved c = subst (λ (l : List ℕ). IsNodesSoFar c.args.at c.args.bytes.now l (c.loop-i.i + 1)) (sym c.in_ok-push-in-Some.ensures.ok)
    (nodes_one c.args.at c.args.bytes.now c.loop-i.list c.loop-i.i c.in-Some.node c.loop-i-test.true c.in-Some.ensures.0 (rw c.in-Some.ensures.0 c.in-Some.ensures.1) c.loop-i.invariant)

pub returns : goal.returns
unfolding Rattle.class_core.specs.Reading.nodes_at
returns c = nodes_end c.args.at c.args.bytes.now c.loop-i.list c.loop-i.i c.loop-i-test.false c.loop-i.invariant
