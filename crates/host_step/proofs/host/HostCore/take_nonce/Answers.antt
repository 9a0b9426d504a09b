use Rattle.std.proofs.Common.{refl, sym}
use Rattle.host_model.specs.State.{HostState}
use Rattle.host_model.specs.After.{node_does}
use Rattle.host_node.specs.Events.NodeEvent.{Takes_nonce}
use Rattle.host_step.specs.Inside.{parts_of}
use Rattle.host_step.proofs.Kept.{kept_by}
use Rattle.host_step.proofs.host.HostCore.take_nonce.Goals as goal

pub invariant_of-self : goal.invariant_of-self
invariant_of-self c =
    kept_by (λ (h : HostState). node_does h c.args.node (Takes_nonce c.args.seen c.args.text)) (parts_of c.self.inside) c.args.self.now _ c.self.view_is c.requires.facts (sym c.take_nonce.ensures) refl refl refl refl
