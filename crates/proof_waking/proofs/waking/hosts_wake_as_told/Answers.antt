-- What is entered at each step of the walk is allowed.
use Rattle.std.proofs.Common.{[], refl}
use Rattle.proof_alone.specs.law_time.Moments.{Allows}
use Rattle.proof_alone.specs.law_time.Waking.{may_wake}
use Rattle.proof_alone.specs.State.{first_alone}
use Rattle.proof_alone.proofs.Running.{run_keeps}
use Rattle.proof_waking.specs.Judged.{KnowsJudged}
use Rattle.proof_waking.proofs.Judging.{first_judged, judged_walk}
use Rattle.proof_waking.proofs.waking.hosts_wake_as_told.Goals as goal

pub returns : goal.returns
returns c = λ keys records told run. (run_keeps (Allows may_wake) KnowsJudged judged_walk [] run.2 (first_judged (first_alone keys records) refl)).0
