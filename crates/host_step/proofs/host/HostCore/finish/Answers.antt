use Rattle.std.proofs.Common.{◌≡◌, ◌∙◌, List, ℕ, refl, sym, ap, subst}
use Rattle.std.specs.List.{AllByRecursion}
use Rattle.zw_base.specs.declared.property.Setting.{Setting}
use Rattle.zw_text.specs.declared.entry.Outcome.{Outcome}
use Rattle.supervision.specs.Session.{IsStatus}
use Rattle.value_store.specs.Values.{IsReserved}
use Rattle.host_node.specs.Events.NodeEvent.{Reports as node_reports}
use Rattle.host_node.specs.TableState.{nodes_after}
use Rattle.host_model.specs.State.{HostState, HostParts, command_at, with_outcome}
use Rattle.host_model.specs.After.{confirming, finishing, holding, outcome_of}
use Rattle.host_keep.specs.Status.{status_byte}
use Rattle.host_model.specs.Sessions.{settings_with}
use Rattle.host_step.specs.Inside.{state_of, parts_of}
use Rattle.host_step.proofs.Finished.{finished_state}
use Rattle.host_step.proofs.Found.{status_is_one}
use Rattle.host_step.proofs.Kept.{kept_as_by}
use Rattle.host_step.proofs.host.HostCore.finish.Goals as goal

pub report-requires-clause-known : goal.report-requires-clause-known
report-requires-clause-known c = subst (λ (b : ℕ). IsStatus b) (sym c.byte.ensures) (status_is_one c.args.status)

pub confirm-requires : goal.confirm-requires
confirm-requires c =
    subst (λ (s : HostParts). AllByRecursion (λ (one : Setting). IsReserved s.state.store c.args.node one.property) c.args.confirmed.now) (sym c.self.view_is) c.requires.reserved

pub invariant_of-self : goal.invariant_of-self
invariant_of-self c =
    let reported : c.report.new.self ≡ nodes_after c.self.inside.nodes c.args.node (node_reports c.args.id (status_byte c.args.status))
    = c.report.ensures.state ∙ ap (λ (b : ℕ). nodes_after c.self.inside.nodes c.args.node (node_reports c.args.id b)) c.byte.ensures in
    let state = finished_state (state_of c.self.inside) c.args.node c.args.id c.args.command c.args.status c.args.is_held c.report.new.self c.hold.new.nodes reported c.hold.ensures in
    let commands : c.set_outcome.new.commands.items ≡ with_outcome c.self.inside.commands.items c.args.command (outcome_of c.args.status)
    = c.set_outcome.ensures ∙ ap (λ (o : Outcome). with_outcome c.self.inside.commands.items c.args.command o) c.outcome_of.ensures in
    let made : c.args.confirmed.now ≡ settings_with c.args.status (command_at c.self.inside.commands.items c.args.command)
    = c.requires.confirms ∙ sym (ap (λ (s : HostParts). settings_with c.args.status (command_at s.state.commands c.args.command)) c.self.view_is) in
    let store : c.confirm.new.store ≡ confirming c.self.inside.store c.args.node (settings_with c.args.status (command_at c.self.inside.commands.items c.args.command))
    = c.confirm.ensures ∙ ap (λ (ss : List Setting). confirming c.self.inside.store c.args.node ss) made in
    kept_as_by (λ (h : HostState). holding (finishing h c.args.node c.args.id c.args.command c.args.status) c.args.node c.args.is_held) (parts_of c.self.inside) c.args.self.now _ _ c.self.view_is c.requires.facts state refl (sym commands) refl (sym store) refl
