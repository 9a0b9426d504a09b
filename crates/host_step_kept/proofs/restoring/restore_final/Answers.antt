use Rattle.std.proofs.Common.{◌≡◌, ◌∙◌, Some, List, ℕ, sym, subst, arith}
use Rattle.std.specs.List.{AllByRecursion}
use Rattle.std.proofs.lemmas.Grind.{common_steps}
use Rattle.zw_base.specs.declared.property.Setting.{Setting}
use Rattle.supervision.specs.Host.{open_session, command_at as command_of_session}
use Rattle.value_store.specs.Values.{IsReserved}
use Rattle.host_node.specs.State.{NodeState}
use Rattle.host_model.specs.State.{node_of}
use Rattle.host_model.specs.After.{finishing}
use Rattle.host_model.specs.Facts.{HostFacts}
use Rattle.host_step.proofs.Found.{settings_are_kept}
use Rattle.host_model.proofs.Recorded.{opened_so}
use Rattle.host_step_kept.proofs.Restored.{final_kept}
use Rattle.host_step_kept.proofs.restoring.restore_final.Goals as goal

pub finish-requires-clause-reserved : goal.finish-requires-clause-reserved
finish-requires-clause-reserved c =
    let h = c.args.core.now.state in
    let carried : command_of_session (node_of h c.args.node).book.commands c.args.session ≡ Some c.unwrap-command.result
    = subst (λ (s : NodeState). command_of_session s.book.commands c.args.session ≡ Some c.unwrap-command.result) c.node-2.ensures.value (sym c.command_of.ensures ∙ c.unwrap-command.ensures) in
    subst (λ (made : List Setting). AllByRecursion (λ (one : Setting). IsReserved h.store c.args.node one.property) made) (sym (c.as_slice.ensures ∙ c.in_ok-confirmed.ensures))
    (settings_are_kept h c.args.node c.args.session c.unwrap-command.result c.args.status c.invariant_holds.ensures carried)

pub finish-requires-clause-facts : goal.finish-requires-clause-facts
finish-requires-clause-facts c =
    let h = c.args.core.now.state in
    let n = c.args.node in
    let command = c.unwrap-command.result in
    let carried : command_of_session (node_of h n).book.commands c.args.session ≡ Some command
    = subst (λ (s : NodeState). command_of_session s.book.commands c.args.session ≡ Some command) c.node-2.ensures.value (sym c.command_of.ensures ∙ c.unwrap-command.ensures) in
    let current : c.current.result ≡ Some c.args.session = grind (arith, common_steps) in
    let opened : open_session (node_of h n).book ≡ Some c.args.session
    = subst (λ (s : NodeState). open_session s.book ≡ Some c.args.session) c.node.ensures.value (sym c.current.ensures ∙ current) in
    subst (λ (k : ℕ). HostFacts (finishing h n k command c.args.status)) (sym c.session_id.ensures.value)
    (final_kept c.a_record_restores_what_it_says.ensures.facts h n c.args.session command c.args.status c.invariant_holds.ensures (opened_so (open_session (node_of h n).book) c.args.session opened) carried)
