use Rattle.std.proofs.Common.{◌≡◌, ℕ, Bool, false, sym, ap, ◌∙◌, subst}
use Rattle.std.specs.Prelude.{Contains, IsTrue}
use Rattle.zw_base.specs.declared.order.Order.{Order}
use Rattle.host_node.specs.State.{NodeState}
use Rattle.host_model.specs.State.{node_of}
use Rattle.host_model.specs.After.{node_for, node_with}
use Rattle.host_step_kept.proofs.Waiting.{none_is_cancelled, not_cancelled_by}
use Rattle.host_step_kept.proofs.restoring.waits_for.Goals as goal

pub returns-in_err-command_at-clause-none : goal.returns-in_err-command_at-clause-none
returns-in_err-command_at-clause-none c = λ _. none_is_cancelled c.args.core.now.state c.args.command c.invariant_holds.ensures (sym c.in_err-command_at.ensures)

pub returns-else-waits-clause-none : goal.returns-else-waits-clause-none
returns-else-waits-clause-none c = λ _.
    let h = c.args.core.now.state in
    let node : c.order.result.now.node ≡ node_for h c.args.command = ap (λ (o : Order). o.node) c.order.ensures ∙ ap node_with c.in_ok-command_at.ensures in
    let here : c.node.result.now ≡ node_of h (node_for h c.args.command) = c.node.ensures.value ∙ ap (λ (k : ℕ). node_of h k) node in
    not_cancelled_by h c.args.command (λ waits. never (c.waits.ensures.1 (subst (λ (s : NodeState). Contains s.waiting c.args.command) (sym here) waits)) c.if-waits.false)
  where
    never : {b : Bool} → IsTrue b → b ≡ false → ⊥
    never t f = cc
