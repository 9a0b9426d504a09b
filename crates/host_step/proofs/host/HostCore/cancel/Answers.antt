use Rattle.std.proofs.Common.{◌≡◌, refl, sym, subst}
use Rattle.std.specs.Prelude.{Contains}
use Rattle.host_node.specs.Events.NodeEvent.{Cancels}
use Rattle.host_node.specs.TableState.{nodes_after, node_of as node_among}
use Rattle.host_model.specs.State.{HostState, HostParts, node_of}
use Rattle.host_step.specs.Changes.{cancelling}
use Rattle.host_step.specs.Inside.{parts_of}
use Rattle.host_step.proofs.Answered.{on_ok}
use Rattle.host_step.proofs.Kept.{kept_by}
use Rattle.host_step.proofs.host.HostCore.cancel.Goals as goal

pub invariant_of-self : goal.invariant_of-self
invariant_of-self c =
    let here : Contains (node_among c.self.inside.nodes c.args.node).waiting c.args.command = subst (λ (s : HostParts). Contains (node_of s.state c.args.node).waiting c.args.command) (sym c.self.view_is) c.requires.waits in
    let done : c.cancel.new.self ≡ nodes_after c.self.inside.nodes c.args.node (Cancels c.args.command) = on_ok c.cancel.result _ (c.cancel.ensures.waits.1 here) c.cancel.ensures.ok in
    kept_by (λ (h : HostState). cancelling h c.args.node c.args.command) (parts_of c.self.inside) c.args.self.now _ c.self.view_is c.requires.facts (sym done) (sym c.set_outcome.ensures) refl refl refl
