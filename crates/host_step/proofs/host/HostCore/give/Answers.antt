use Rattle.std.proofs.Common.{refl, sym}
use Rattle.host_model.specs.State.{HostState}
use Rattle.host_model.specs.After.{giving}
use Rattle.host_step.specs.Inside.{parts_of}
use Rattle.host_step.proofs.Kept.{kept_by}
use Rattle.host_step.proofs.host.HostCore.give.Goals as goal

pub invariant_of-self : goal.invariant_of-self
invariant_of-self c =
    kept_by (λ (h : HostState). giving h c.args.node c.args.drawn) (parts_of c.self.inside) c.args.self.now _ c.self.view_is c.requires.facts refl refl (sym c.give.ensures.after) refl refl
