-- The walk of this law goes over that of tables.
use Rattle.std.proofs.Common.{[]}
use Rattle.std.specs.Prelude.{Some}
use Rattle.law_host.specs.law_transcript.Answers.{MayCancel}
use Rattle.proof_line.specs.world_model.State.{first_machine}
use Rattle.proof_line.specs.world_lines.Spoken.{transcript_of}
use Rattle.law_host.specs.Heard.{heard_by_host}
use Rattle.proof_line.specs.proof_host.Laws.{MayStand}
use Rattle.proof_line.proofs.Lists.{each-weaker}
use Rattle.proof_alone.specs.State.{first_alone}
use Rattle.proof_alone.specs.Answering.{AsOrdered, MayAnswer}
use Rattle.proof_alone.specs.Runs.{both_know}
use Rattle.proof_alone.specs.Tables.{KnowsTables}
use Rattle.proof_alone.specs.Words.{KnowsWords}
use Rattle.proof_alone.proofs.Answering.{answers_walk}
use Rattle.proof_alone.proofs.Carrying.{carries_once}
use Rattle.proof_alone.proofs.Running.{over, run_keeps}
use Rattle.proof_alone.proofs.tables.hosts_answer_what_is_asked.Goals as goal

pub returns-clause-told : goal.returns-clause-told
returns-clause-told c = λ keys told run.
    let each =
    (run_keeps
    MayAnswer
    (both_know KnowsTables KnowsWords)
    (over KnowsTables MayStand MayAnswer KnowsWords c.hosts_keep_their_tables.ensures.walk answers_walk)
    []
    run.2
    (c.hosts_keep_their_tables.ensures.first keys, tt)).0 in (
      each-weaker MayAnswer MayCancel (λ past e may. may.cancel) [] told each,
      λ node. carries_once node told (c.hosts_keep_their_tables.ensures.laws keys told run) (each-weaker MayAnswer AsOrdered (λ past e may. may.order) [] told each),
    )

pub returns-clause-heard : goal.returns-clause-heard
returns-clause-heard c = λ keys devices lines are.
    let told = transcript_of (first_machine keys (Some []) devices) lines in
    returns-clause-told c keys (heard_by_host told)
    (c.what_is_heard_is_a_hosts.ensures.told (first_alone keys (Some [])) told (c.lines_are_a_hosts.ensures.told keys devices lines are))
