use Rattle.proof_once.proofs.Ties.{course_ties}
use Rattle.proof_once.proofs.laws.courses_tie_their_ends.Goals as goal

pub returns : goal.returns
returns c = course_ties
