use Rattle.law_time.proofs.Computing.{computing}
use Rattle.law_time.proofs.waits.rejected_prompt.Goals as goal

pub returns : goal.returns
unfolding computing
returns c = λ law. law.begins.1.1.1.1.0
