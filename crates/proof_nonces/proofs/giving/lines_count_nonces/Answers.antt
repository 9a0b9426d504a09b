-- Lines are told by a host alone, and so is what is heard of them.
use Rattle.std.specs.Prelude.{Some, []}
use Rattle.proof_notes.specs.world_model.State.{first_machine}
use Rattle.proof_notes.specs.world_lines.Spoken.{transcript_of}
use Rattle.proof_notes.specs.proof_known.law_host.Heard.{heard_by_host}
use Rattle.proof_notes.specs.proof_known.proof_alone.State.{first_alone}
use Rattle.proof_nonces.proofs.giving.lines_count_nonces.Goals as goal

pub returns : goal.returns
returns c = λ keys devices lines are.
    let start = first_alone keys (Some []) in
    let past = transcript_of (first_machine keys (Some []) devices) lines in
    let told = c.lines_are_a_hosts.ensures.told keys devices lines are in
    (c.hosts_count_nonces.ensures.told keys past told, c.hosts_count_nonces.ensures.told keys (heard_by_host past) (c.what_is_heard_is_a_hosts.ensures.told start past told))
