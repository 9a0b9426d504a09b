-- The law over the tables, what was judged and which nodes listen.
use Rattle.std.proofs.Common.{[], refl}
use Rattle.std.specs.Prelude.{Some}
use Rattle.proof_work.specs.law_time.Holds.{may_hold}
use Rattle.proof_work.specs.law_time.Moments.{Allows}
use Rattle.proof_work.specs.law_time.Waking.{may_wake}
use Rattle.proof_work.specs.proof_host.Laws.{MayStand}
use Rattle.proof_requests.specs.proof_alone.State.{first_alone}
use Rattle.proof_requests.specs.proof_alone.Tables.{KnowsTables}
use Rattle.proof_requests.proofs.Running.{run_keeps}
use Rattle.proof_requests.specs.proof_waking.Judged.{KnowsJudged}
use Rattle.proof_attempts.specs.Kept.{KnowsHeard, KnowsUnowed}
use Rattle.proof_attempts.proofs.KeptAwake.{kept_walk}
use Rattle.proof_attempts.proofs.Lasting.{law_along}
use Rattle.proof_attempts.proofs.holds.hosts_hold_as_asked.Goals as goal

pub returns : goal.returns
returns c = λ keys told run.
    (law_along keys KnowsHeard KnowsUnowed
    (λ here told m run. (
      (
        (run_keeps MayStand KnowsTables c.hosts_keep_their_tables.ensures.walk [] run (c.hosts_keep_their_tables.ensures.first keys)).1,
        (run_keeps (Allows may_wake) KnowsJudged c.hosts_judge_as_told.ensures.walk [] run (c.hosts_judge_as_told.ensures.first (first_alone keys (Some [])) refl)).1,
      ),
      c.hosts_listen_as_told.ensures.run keys here told m run,
    ))
    (Allows may_hold) (kept_walk (λ past e. Unit {0})) refl run.0 told run.1 run.2).0
