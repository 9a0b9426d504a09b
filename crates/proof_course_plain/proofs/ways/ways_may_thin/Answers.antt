-- Each clause is a lemma.
use Rattle.proof_course_plain.proofs.ThinnedWays.{up_thins, down_thins}
use Rattle.proof_course_plain.proofs.ways.ways_may_thin.Goals as goal

pub returns-clause-up : goal.returns-clause-up
returns-clause-up c = up_thins

pub returns-clause-down : goal.returns-clause-down
returns-clause-down c = down_thins
