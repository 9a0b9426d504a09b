-- Lines are told by a host alone, and so is what is heard of them.
use Rattle.std.specs.Prelude.{Some, []}
use Rattle.world_model.specs.State.{first_machine}
use Rattle.proof_rests.specs.world_lines.Spoken.{transcript_of}
use Rattle.proof_rests.specs.proof_requests.law_host.Heard.{heard_by_host}
use Rattle.proof_rests.specs.proof_requests.proof_alone.Phases.{Resting}
use Rattle.proof_rests.specs.proof_requests.proof_alone.State.{first_alone}
use Rattle.proof_ends.proofs.ends.lines_note_ends.Goals as goal

pub returns-clause-lines : goal.returns-clause-lines
returns-clause-lines c = λ keys devices lines are.
    let start = first_alone keys (Some []) in
    let past = transcript_of (first_machine keys (Some []) devices) lines in
    let told = c.lines_are_a_hosts.ensures.told keys devices lines are in
    (c.hosts_note_ends.ensures.told keys past told, c.hosts_note_ends.ensures.told keys (heard_by_host past) (c.what_is_heard_is_a_hosts.ensures.told start past told))

pub returns-clause-whole : goal.returns-clause-whole
returns-clause-whole c = λ keys devices lines are whole.
    let start = first_alone keys (Some []) in
    let past = transcript_of (first_machine keys (Some []) devices) lines in
    let (m, run, same, left) = c.lines_are_a_hosts.ensures.keeper keys devices lines are whole in (
      c.hosts_note_ends.ensures.whole keys past m run left,
      c.hosts_note_ends.ensures.whole keys (heard_by_host past) m (c.what_is_heard_is_a_hosts.ensures.run start Resting past m run) left,
    )
