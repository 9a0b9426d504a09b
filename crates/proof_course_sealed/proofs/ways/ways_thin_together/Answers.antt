-- Each clause is a lemma on ways.
use Rattle.proof_course_sealed.proofs.ThinnedWays.{up_together, down_together}
use Rattle.proof_course_sealed.proofs.ways.ways_thin_together.Goals as goal

pub returns-clause-up : goal.returns-clause-up
returns-clause-up c = up_together

pub returns-clause-down : goal.returns-clause-down
returns-clause-down c = down_together
