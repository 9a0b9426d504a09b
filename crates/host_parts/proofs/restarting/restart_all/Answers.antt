use Rattle.std.proofs.Common.{◌≡◌, ◌<◌, ◌≤◌, ℕ, List, Option, Some, None, length, sym, ap, ◌∙◌, subst, arith}
use Rattle.std.specs.Option.{SomeIff}
use Rattle.host_node.specs.State.{NodeState}
use Rattle.host_node.specs.Events.NodeEvent.{Restarts}
use Rattle.host_node.specs.TableState.{nodes_after}
use Rattle.host_parts.proofs.Restarted.{none_yet, one_more, all_of_them}
use Rattle.host_parts.proofs.restarting.restart_all.Goals as goal

read_is : (o : Option ℕ) (P : Type 0) (k n : ℕ) → SomeIff o P k → o ≡ Some n → n ≡ k
read_is None P k n s e = cc
read_is (Some m) P k n s e = cc

pub loop-number-init : goal.loop-number-init
loop-number-init c = (none_yet c.args.nodes.now, omega arith, c.requires)

pub loop-number-preserved : goal.loop-number-preserved
loop-number-preserved c =
    let old = c.args.nodes.now in
    let number = c.loop-number.number in
    let node : c.unwrap-node.result ≡ number = read_is c.read_node.result _ number c.unwrap-node.result c.read_node.ensures c.unwrap-node.ensures in
    let within : number < length old = subst (λ (k : ℕ). number < k) (sym c.requires) c.loop-number-test.true in (
      c.restart.ensures ∙ ap (λ (k : ℕ). nodes_after c.loop-number.nodes k Restarts) node
          ∙ ap (λ (l : List NodeState). nodes_after l number Restarts) c.loop-number.invariant.0 ∙ one_more old number c.loop-number.auto.number within,
      omega arith,
      c.loop-number.invariant.2,
    )

pub returns : goal.returns
returns c = c.loop-number.invariant.0 ∙ all_of_them c.args.nodes.now c.loop-number.number (subst (λ (k : ℕ). k ≤ c.loop-number.number) (sym c.requires) c.loop-number-test.false)
