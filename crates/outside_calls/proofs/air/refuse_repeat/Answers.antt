use Rattle.air_frames.specs.declared.ages.Refusal.TheVariants.{Stale}
use Rattle.outside_step.proofs.Answered.{map_ok}
use Rattle.outside_calls.proofs.air.refuse_repeat.Goals as goal

pub returns-in-Stale-clause-ok : goal.returns-in-Stale-clause-ok
returns-in-Stale-clause-ok c = map_ok c.refuse-in-Stale.result _ _ (λ entered. (Stale c.in-Stale.later, c.in-Stale.is, entered)) c.refuse-in-Stale.ensures.ok
