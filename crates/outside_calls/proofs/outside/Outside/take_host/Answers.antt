use Rattle.std.proofs.Common.{◌≡◌, false, sym, subst}
use Rattle.outside_model.specs.State.{OuterState, is_stalled}
use Rattle.outside_calls.proofs.QuietEvents.{goes_took}
use Rattle.outside_calls.proofs.outside.Outside.take_host.Goals as goal

pub returns-clause-goes : goal.returns-clause-goes
returns-clause-goes c =
    rw (← c.self.view_is) (goes_took _ _ _ (subst (λ (o : OuterState). is_stalled o ≡ false) (sym c.self.view_is) c.requires) c.take_host.ensures.way)
