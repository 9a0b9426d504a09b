-- The tie is that of the walk, and gives what was judged here.
use Rattle.std.proofs.Common.{[], refl}
use Rattle.proof_alone.specs.law_time.Moments.{Allows}
use Rattle.proof_alone.specs.law_time.Waking.{may_wake}
use Rattle.proof_alone.specs.State.{first_alone}
use Rattle.proof_alone.proofs.Running.{run_keeps}
use Rattle.proof_waking.specs.Judged.{KnowsJudged}
use Rattle.proof_waking.proofs.Judging.{first_judged, judged_walk}
use Rattle.proof_waking.proofs.Settling.{behind_brought, behind_here}
use Rattle.proof_waking.proofs.judged.hosts_judge_as_told.Goals as goal

pub returns-clause-walk : goal.returns-clause-walk
returns-clause-walk c = judged_walk

pub returns-clause-first : goal.returns-clause-first
returns-clause-first c = first_judged

pub returns-clause-run : goal.returns-clause-run
returns-clause-run c = λ keys records here told m run. (run_keeps (Allows may_wake) KnowsJudged judged_walk [] run (first_judged (first_alone keys records) refl)).1

pub returns-clause-here : goal.returns-clause-here
returns-clause-here c = behind_here

pub returns-clause-brought : goal.returns-clause-brought
returns-clause-brought c = behind_brought
