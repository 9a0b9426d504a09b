-- By the messages that are chosen along the run.
use Rattle.std.specs.Prelude.{Some, []}
use Rattle.proof_attempts.specs.world_model.State.{first_machine}
use Rattle.proof_attempts.specs.world_lines.Spoken.{transcript_of}
use Rattle.proof_attempts.specs.proof_requests.law_host.Heard.{heard_by_host}
use Rattle.proof_attempts.specs.proof_requests.proof_alone.State.{first_alone}
use Rattle.proof_queue.proofs.fits.hosts_fit_their_queue.Goals as goal

pub returns-clause-told : goal.returns-clause-told
returns-clause-told c = λ keys told run for_host.
    let (here, m, ran, careful) = run in
    let (taken, sure, as_told) = c.hosts_go_by_messages.ensures keys here told m ran in
    (taken, c.hosts_queue_as_told.ensures.fits keys taken here told m ran careful sure for_host, c.hosts_queue_as_told.ensures.goes keys taken here told m ran careful sure)

pub returns-clause-heard : goal.returns-clause-heard
returns-clause-heard c = λ keys devices lines are.
    let past = transcript_of (first_machine keys (Some []) devices) lines in
    let (here, m, ran, careful) = c.lines_are_a_hosts.ensures.carefully keys devices lines are in
    let heard = c.what_is_heard_is_a_hosts.ensures.carefully (first_alone keys (Some [])) here past m (ran, careful) in
    returns-clause-told c keys (heard_by_host past) (here, m, heard.0, heard.1)
    (c.hosts_answer_lines.ensures.heard keys past (c.lines_are_a_hosts.ensures.told keys devices lines are))
