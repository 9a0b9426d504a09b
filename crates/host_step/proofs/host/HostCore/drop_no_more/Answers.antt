use Rattle.std.proofs.Common.{refl, sym, subst}
use Rattle.std.specs.Prelude.{IsTrue}
use Rattle.host_model.specs.State.{HostParts}
use Rattle.host_node.specs.State.{wants_no_more}
use Rattle.host_node.specs.TableState.{node_of}
use Rattle.host_model.specs.Events.{Drops_no_more}
use Rattle.host_step.specs.Inside.{parts_of}
use Rattle.host_step.proofs.Kept.{kept}
use Rattle.host_step.proofs.host.HostCore.drop_no_more.Goals as goal

pub invariant_of-self : goal.invariant_of-self
invariant_of-self c =
    kept c.facts_are_kept.ensures.each (parts_of c.self.inside) c.args.self.now _ (Drops_no_more c.args.node) c.self.view_is c.self.invariant c.requires (sym c.drop_no_more.ensures) refl refl refl refl

pub drop_no_more-requires : goal.drop_no_more-requires
drop_no_more-requires c =
    subst (λ (s : HostParts). IsTrue (wants_no_more (node_of s.state.nodes c.args.node))) (sym c.self.view_is)
    (c.the_least_is_found.ensures.passes (λ k. wants_no_more (node_of c.args.self.now.state.nodes k)) 0 c.args.node c.requires.0)
