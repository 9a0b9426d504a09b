use Rattle.std.proofs.Common.{◌++◌, refl}
use Rattle.law_host.specs.Heard.{heeds_alone}
use Rattle.law_host.specs.Worked.{after_counted, second_nonce, second_taken}
use Rattle.law_time.specs.Choice.{may_send}
use Rattle.law_time.proofs.Deciding.{broken}
use Rattle.law_time.proofs.Computing.{computing}
use Rattle.law_host.proofs.story.rejected_story.Goals as goal

pub returns : goal.returns
unfolding computing
returns c = broken (may_send (heeds_alone (λ past carried. second_nonce))) (after_counted.before ++ second_taken) refl
