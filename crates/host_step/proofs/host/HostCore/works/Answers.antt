use Rattle.std.proofs.Common.{refl, sym}
use Rattle.host_model.specs.Events.{Works}
use Rattle.host_step.specs.Inside.{parts_of}
use Rattle.host_step.proofs.Kept.{kept}
use Rattle.host_step.proofs.host.HostCore.works.Goals as goal

pub invariant_of-self : goal.invariant_of-self
invariant_of-self c =
    kept c.facts_are_kept.ensures.each (parts_of c.self.inside) c.args.self.now _ (Works c.args.node c.args.id) c.self.view_is c.self.invariant c.requires.may (sym c.report.ensures.state) refl refl refl refl
