use Rattle.law_time.proofs.Computing.{computing}
use Rattle.law_host.proofs.legal.rejected_legal.Goals as goal

pub returns : goal.returns
unfolding computing
returns c = λ law. law.prompt.begins.1.1.1.1.0
