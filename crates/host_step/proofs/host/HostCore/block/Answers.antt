use Rattle.std.proofs.Common.{refl, sym}
use Rattle.host_model.specs.State.{HostState}
use Rattle.host_model.specs.After.{node_does}
use Rattle.host_node.specs.Events.NodeEvent.{Blocks}
use Rattle.host_step.specs.Inside.{parts_of}
use Rattle.host_step.proofs.Kept.{kept_by}
use Rattle.host_step.proofs.host.HostCore.block.Goals as goal

pub invariant_of-self : goal.invariant_of-self
invariant_of-self c =
    kept_by (λ (h : HostState). node_does h c.args.node Blocks) (parts_of c.self.inside) c.args.self.now _ c.self.view_is c.requires (sym c.block.ensures) refl refl refl refl
