-- Lines are told by a host alone, and so is what is heard of them.
use Rattle.std.specs.Prelude.{Some, []}
use Rattle.proof_attempts.specs.world_model.State.{first_machine}
use Rattle.proof_attempts.specs.world_lines.Spoken.{transcript_of}
use Rattle.proof_known.specs.law_host.Heard.{heard_by_host}
use Rattle.proof_known.specs.proof_alone.Phases.{Resting}
use Rattle.proof_known.specs.proof_alone.State.{first_alone}
use Rattle.proof_notes.proofs.notes.lines_note_in_full.Goals as goal

pub returns-clause-lines : goal.returns-clause-lines
returns-clause-lines c = λ keys devices lines are.
    let start = first_alone keys (Some []) in
    let past = transcript_of (first_machine keys (Some []) devices) lines in
    let told = c.lines_are_a_hosts.ensures.told keys devices lines are in
    (c.hosts_note_in_full.ensures.told keys past told, c.hosts_note_in_full.ensures.told keys (heard_by_host past) (c.what_is_heard_is_a_hosts.ensures.told start past told))

pub returns-clause-whole : goal.returns-clause-whole
returns-clause-whole c = λ keys devices lines are whole.
    let start = first_alone keys (Some []) in
    let past = transcript_of (first_machine keys (Some []) devices) lines in
    let (m, run, same, left) = c.lines_are_a_hosts.ensures.keeper keys devices lines are whole in (
      c.hosts_note_in_full.ensures.whole keys past (m, run),
      c.hosts_note_in_full.ensures.whole keys (heard_by_host past) (m, c.what_is_heard_is_a_hosts.ensures.run start Resting past m run),
    )
