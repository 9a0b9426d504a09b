-- The tie lasts over what each node is told and waits for, and is so at first; and each acceptance counts for its node.
use Rattle.std.proofs.Common.{[], refl}
use Rattle.std.specs.Prelude.{Some}
use Rattle.s0_crypto.specs.declared.key_pair.Keys.{Keys}
use Rattle.zw_text.specs.Transcript.{not_accepting}
use Rattle.proof_work.specs.proof_host.Laws.{MayStand}
use Rattle.proof_work.proofs.Lists.{each-weaker}
use Rattle.proof_requests.specs.proof_alone.Answering.{AsOrdered, MayAnswer}
use Rattle.proof_requests.specs.proof_alone.Phases.{Resting}
use Rattle.proof_requests.specs.proof_alone.Runs.{Walk, both_know}
use Rattle.proof_requests.specs.proof_alone.State.{first_alone}
use Rattle.proof_requests.specs.proof_alone.Tables.{KnowsTables}
use Rattle.proof_requests.specs.proof_alone.Words.{KnowsWords}
use Rattle.proof_requests.proofs.proof_waking_Answering.{answers_walk}
use Rattle.proof_requests.proofs.proof_waking_Carrying.{numbers_from}
use Rattle.proof_requests.proofs.Running.{over, run_keeps}
use Rattle.proof_attempts.specs.Series.{KnowsNumbers, KnowsSeries, RunsAsTold}
use Rattle.proof_attempts.specs.Since.{AlongRuns, KnowsSince}
use Rattle.proof_attempts.specs.Waking.{CountsAwake}
use Rattle.proof_attempts.proofs.Lasting.{along, since_walk}
use Rattle.proof_attempts.proofs.SeriesSteps.{first_runs}
use Rattle.proof_attempts.proofs.SeriesTie.{runs_last}
use Rattle.proof_attempts.proofs.series.hosts_run_series_as_told.Goals as goal

-- each order is accepted directly after its words
numbers_along : (keys : Keys) → Walk MayStand KnowsTables → KnowsTables Resting [] (first_alone keys (Some [])) → AlongRuns keys KnowsNumbers
numbers_along keys tables first here told m run n =
    let each = (run_keeps MayAnswer (both_know KnowsTables KnowsWords) (over KnowsTables MayStand MayAnswer KnowsWords tables answers_walk) [] run (first, tt)).0 in
    numbers_from n not_accepting [] told refl (each-weaker MayAnswer AsOrdered (λ past e may. may.order) [] told each)

pub returns-clause-along : goal.returns-clause-along
returns-clause-along c = λ keys.
    along keys KnowsSeries (KnowsSince RunsAsTold)
    (λ here told m run. (
      (
        (
          (c.hosts_know_their_work.ensures keys here told m run, c.hosts_listen_as_told.ensures.run keys here told m run),
          numbers_along keys c.hosts_keep_their_tables.ensures.walk (c.hosts_keep_their_tables.ensures.first keys) here told m run,
        ),
        (run_keeps MayStand (both_know KnowsTables (KnowsSince CountsAwake)) c.hosts_count_awake.ensures.walk [] run (c.hosts_count_awake.ensures.first keys)).1.1,
      ),
      c.hosts_tell_those_that_wait_for_nothing.ensures keys here told m run,
    ))
    (since_walk RunsAsTold KnowsSeries runs_last) (first_runs keys)

pub returns-clause-rests : goal.returns-clause-rests
returns-clause-rests c = λ keys told m run n from to. (returns-clause-along c keys Resting told m run n from to).runs
