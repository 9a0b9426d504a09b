use Rattle.std.proofs.Common.{refl, sym}
use Rattle.host_model.specs.Events.{Gives_segment}
use Rattle.host_step.specs.Inside.{parts_of}
use Rattle.host_step.proofs.Kept.{kept}
use Rattle.host_step.proofs.host.HostCore.give_segment.Goals as goal

pub invariant_of-self-2 : goal.invariant_of-self-2
invariant_of-self-2 c =
    kept c.facts_are_kept.ensures.each (parts_of c.self.inside) c.args.self.now _ (Gives_segment c.args.node c.args.more c.args.payload) c.self.view_is c.self.invariant c.requires.may (sym c.give_segment.ensures.state) refl refl refl (sym c.number-self-inside.ensures.value)
