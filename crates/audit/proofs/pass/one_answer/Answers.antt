use Rattle.audit.proofs.Alone.{one-answer}
use Rattle.audit.proofs.pass.one_answer.Goals as goal

pub returns : goal.returns
returns c = one-answer
