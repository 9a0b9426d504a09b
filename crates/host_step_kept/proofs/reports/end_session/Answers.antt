use Rattle.std.proofs.Common.{◌≡◌, ◌∙◌, ◌&&◌, Bool, List, sym, ap, subst}
use Rattle.std.specs.List.{AllByRecursion}
use Rattle.zw_base.specs.declared.property.Setting.{Setting}
use Rattle.value_store.specs.Values.{IsReserved}
use Rattle.host_node.specs.State.{NodeState, is_false}
use Rattle.host_model.specs.After.{finishing, holding, is_held}
use Rattle.host_model.specs.Events.{Finishes}
use Rattle.host_model.specs.Facts.{HostFacts}
use Rattle.host_step.proofs.Found.{settings_are_kept}
use Rattle.host_step_kept.proofs.reports.end_session.Goals as goal

pub finish-requires-clause-reserved : goal.finish-requires-clause-reserved
finish-requires-clause-reserved c =
    let h = c.args.core.now.state in
    subst (λ (made : List Setting). AllByRecursion (λ (one : Setting). IsReserved h.store c.args.node one.property) made) (sym c.requires.confirms)
    (settings_are_kept h c.args.node c.args.session c.args.command c.args.status c.invariant_holds.ensures c.requires.may.carried)

pub finish-requires-clause-facts : goal.finish-requires-clause-facts
finish-requires-clause-facts c =
    let h = c.args.core.now.state in
    let held : c.asks_for_hold-is_held.result ≡ is_held h c.args.node c.args.wake_request
    = c.asks_for_hold-is_held.ensures ∙ ap (λ (n : NodeState). c.args.wake_request && is_false n.listens) c.node.ensures.value in
    subst (λ (b : Bool). HostFacts (holding (finishing h c.args.node c.args.id c.args.command c.args.status) c.args.node b)) (sym held)
    (c.facts_are_kept.ensures.each h (Finishes c.args.node c.args.session c.args.id c.args.command c.args.status c.args.wake_request) c.invariant_holds.ensures c.requires.may)
