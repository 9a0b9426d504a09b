-- Lines are told by a host alone, and so is what is heard of them.
use Rattle.std.specs.Prelude.{Some, []}
use Rattle.proof_waking.specs.world_model.State.{first_machine}
use Rattle.proof_waking.specs.world_lines.Spoken.{transcript_of}
use Rattle.proof_waking.specs.law_host.Heard.{heard_by_host}
use Rattle.proof_waking.specs.proof_alone.State.{first_alone}
use Rattle.proof_requests.proofs.ends.lines_end_interviews.Goals as goal

pub returns-clause-lines : goal.returns-clause-lines
returns-clause-lines c = λ keys devices lines are.
    let past = transcript_of (first_machine keys (Some []) devices) lines in
    c.hosts_end_interviews.ensures keys past (c.lines_are_a_hosts.ensures.told keys devices lines are)

pub returns-clause-heard : goal.returns-clause-heard
returns-clause-heard c = λ keys devices lines are.
    let past = transcript_of (first_machine keys (Some []) devices) lines in
    c.hosts_end_interviews.ensures keys (heard_by_host past)
    (c.what_is_heard_is_a_hosts.ensures.told (first_alone keys (Some [])) past (c.lines_are_a_hosts.ensures.told keys devices lines are))
