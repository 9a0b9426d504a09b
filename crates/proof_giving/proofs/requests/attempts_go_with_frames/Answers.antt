-- By the sign that is given.
use Rattle.proof_giving.proofs.Acked.{acked_so}
use Rattle.proof_giving.proofs.requests.attempts_go_with_frames.Goals as goal

pub returns : goal.returns
returns c = acked_so
