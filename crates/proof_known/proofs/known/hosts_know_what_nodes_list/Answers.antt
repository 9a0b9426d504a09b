-- What is known goes on along each run.
use Rattle.std.proofs.Common.{[], refl}
use Rattle.std.specs.Prelude.{Some}
use Rattle.proof_transcript.specs.law_time.Moments.{Allows}
use Rattle.proof_transcript.specs.law_time.Waking.{may_wake}
use Rattle.proof_transcript.specs.law_host.Heard.{listing_heard}
use Rattle.proof_transcript.specs.proof_host.Laws.{MayStand}
use Rattle.proof_waking.specs.proof_alone.State.{first_alone}
use Rattle.proof_waking.specs.proof_alone.Runs.{both_know}
use Rattle.proof_waking.specs.proof_alone.Tables.{KnowsTables}
use Rattle.proof_waking.proofs.Running.{over, run_keeps}
use Rattle.proof_waking.specs.Judged.{KnowsJudged}
use Rattle.proof_known.specs.Known.{KnowsHeard, KnowsNodes}
use Rattle.proof_known.proofs.Events.{beside}
use Rattle.proof_known.proofs.Knowing.{heard_walk}
use Rattle.proof_known.proofs.known.hosts_know_what_nodes_list.Goals as goal

pub returns-clause-walk : goal.returns-clause-walk
returns-clause-walk c =
    over (both_know KnowsTables KnowsJudged) (Allows may_wake) (Allows may_wake) KnowsHeard
    (beside MayStand (Allows may_wake) KnowsTables KnowsJudged c.hosts_keep_their_tables.ensures.walk c.hosts_judge_as_told.ensures.walk)
    (heard_walk c.a_restart_needs_the_records_alone.ensures.others c.interviews_give_what_is_known.ensures.again c.restarts_go_on.ensures.each)

pub returns-clause-first : goal.returns-clause-first
returns-clause-first c = λ keys. (
  (c.hosts_keep_their_tables.ensures.first keys, c.hosts_judge_as_told.ensures.first (first_alone keys (Some [])) refl),
  c.interviews_give_what_is_known.ensures.first (listing_heard []) keys,
)

pub returns-clause-run : goal.returns-clause-run
returns-clause-run c = λ keys here told m run. (run_keeps (Allows may_wake) KnowsNodes (returns-clause-walk c) [] run (returns-clause-first c keys)).1.1
