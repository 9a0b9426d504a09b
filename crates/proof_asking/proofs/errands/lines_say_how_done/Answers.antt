-- Lines are told by a host alone, and so is what is heard of them.
use Rattle.std.specs.Prelude.{Some, []}
use Rattle.s0_crypto.specs.Sealing.{keys_of}
use Rattle.law_transcript.specs.Nodes.{always, listing_of}
use Rattle.world_model.specs.State.{first_machine}
use Rattle.world_lines.specs.Spoken.{transcript_of}
use Rattle.proof_requests.specs.law_host.Heard.{heard_by_host}
use Rattle.proof_requests.specs.proof_alone.State.{first_alone}
use Rattle.proof_asking.proofs.errands.lines_say_how_done.Goals as goal

pub returns-clause-lines : goal.returns-clause-lines
returns-clause-lines c = λ key devices lines are.
    let past = transcript_of (first_machine (keys_of key) (Some []) devices) lines in
    c.ends_say_how_done.ensures (always (listing_of devices)) key past (c.lines_send_what_is_due.ensures key devices lines are)
    (c.hosts_tell_of_ends.ensures.told (keys_of key) past (c.lines_are_a_hosts.ensures.told (keys_of key) devices lines are))

pub returns-clause-heard : goal.returns-clause-heard
returns-clause-heard c = λ key devices lines are.
    let past = transcript_of (first_machine (keys_of key) (Some []) devices) lines in
    c.hosts_say_how_done.ensures key (heard_by_host past)
    (c.what_is_heard_is_a_hosts.ensures.told (first_alone (keys_of key) (Some [])) past (c.lines_are_a_hosts.ensures.told (keys_of key) devices lines are))
