-- What is heard of lines is told by a run of a host alone.
use Rattle.std.proofs.Common.{[]}
use Rattle.std.specs.Prelude.{Some}
use Rattle.proof_line.specs.world_model.State.{first_machine}
use Rattle.proof_line.specs.world_lines.Spoken.{transcript_of}
use Rattle.law_host.specs.Heard.{heard_by_host}
use Rattle.proof_alone.specs.State.{first_alone}
use Rattle.proof_alone.proofs.tables.what_is_heard_keeps_the_laws_of_hosts.Goals as goal

pub returns : goal.returns
returns c = λ keys devices lines are.
    let told = transcript_of (first_machine keys (Some []) devices) lines in
    c.hosts_keep_their_tables.ensures.laws keys (heard_by_host told)
    (c.what_is_heard_is_a_hosts.ensures.told (first_alone keys (Some [])) told (c.lines_are_a_hosts.ensures.told keys devices lines are))
