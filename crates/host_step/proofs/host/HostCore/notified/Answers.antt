use Rattle.std.proofs.Common.{refl, sym}
use Rattle.host_model.specs.Events.{Notifies}
use Rattle.host_step.specs.Inside.{parts_of}
use Rattle.host_step.proofs.Kept.{kept}
use Rattle.host_step.proofs.host.HostCore.notified.Goals as goal

pub invariant_of-self : goal.invariant_of-self
invariant_of-self c =
    kept c.facts_are_kept.ensures.each (parts_of c.self.inside) c.args.self.now _ (Notifies c.args.node) c.self.view_is c.self.invariant tt (sym c.notified.ensures) refl refl refl refl
