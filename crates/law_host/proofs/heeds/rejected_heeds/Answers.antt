use Rattle.std.proofs.Common.{[], ◌∷◌, refl}
use Rattle.law_host.specs.Heard.{heeds_alone}
use Rattle.law_host.specs.Worked.{given_beside_unkept, given_sealed}
use Rattle.law_time.specs.Choice.{may_send}
use Rattle.law_time.specs.Heeds.{heeds_of}
use Rattle.law_time.specs.law_transcript.Worked.{the_lock, the_switch}
use Rattle.law_time.proofs.Deciding.{broken}
use Rattle.law_time.proofs.Computing.{computing}
use Rattle.law_host.proofs.heeds.rejected_heeds.Goals as goal

pub returns-clause-beside : goal.returns-clause-beside
unfolding computing
returns-clause-beside c = broken (may_send (heeds_alone (λ past carried. []))) given_beside_unkept refl

pub returns-clause-among : goal.returns-clause-among
unfolding computing
returns-clause-among c = broken (may_send (heeds_of (the_switch ∷ []))) given_beside_unkept refl

pub returns-clause-sealed : goal.returns-clause-sealed
unfolding computing
returns-clause-sealed c = broken (may_send (heeds_of (the_lock ∷ []))) given_sealed refl
