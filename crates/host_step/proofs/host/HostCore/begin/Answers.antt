use Rattle.std.proofs.Common.{refl, sym}
use Rattle.host_model.specs.State.{HostState}
use Rattle.host_step.specs.Changes.{beginning}
use Rattle.host_step.specs.Inside.{parts_of}
use Rattle.host_step.proofs.Kept.{kept_by}
use Rattle.host_step.proofs.host.HostCore.begin.Goals as goal

pub invariant_of-self : goal.invariant_of-self
invariant_of-self c =
    kept_by (λ (h : HostState). beginning h c.args.node c.args.command) (parts_of c.self.inside) c.args.self.now _ c.self.view_is c.requires.facts (sym c.begin.ensures.state) (sym c.set_outcome.ensures) refl refl refl
