use Rattle.std.proofs.Common.{[], ◌∷◌, refl}
use Rattle.host_heard.specs.declared.told.Told.TheVariants.{NonceGet}
use Rattle.law_host.specs.Heard.{heeds_alone}
use Rattle.law_host.specs.Worked.{given_beside_unkept, given_sealed}
use Rattle.law_time.specs.Choice.{may_send}
use Rattle.law_time.proofs.Deciding.{kept}
use Rattle.law_time.proofs.Computing.{computing}
use Rattle.law_host.proofs.heeds.worked_heeds.Goals as goal

pub returns-clause-beside : goal.returns-clause-beside
unfolding computing
returns-clause-beside c = kept (may_send (heeds_alone (λ past carried. NonceGet ∷ []))) given_beside_unkept refl

pub returns-clause-sealed : goal.returns-clause-sealed
unfolding computing
returns-clause-sealed c = kept (may_send (heeds_alone (λ past carried. NonceGet ∷ []))) given_sealed refl
