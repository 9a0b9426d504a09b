use Rattle.std.proofs.Common.{refl, sym}
use Rattle.host_model.specs.Opening.{restarted}
use Rattle.host_step.specs.Inside.{state_of}
use Rattle.host_step.proofs.Kept.{same_facts}
use Rattle.host_step.proofs.host.HostCore.restart.Goals as goal

pub restart_all-requires : goal.restart_all-requires
restart_all-requires c = c.self.invariant.nodes.places

pub invariant_of-self : goal.invariant_of-self
invariant_of-self c =
    same_facts (restarted (state_of c.self.inside)) _ (c.a_restart_keeps_what_is_held.ensures.facts (state_of c.self.inside) c.self.invariant) (sym c.restart_all.ensures) refl refl refl refl
