-- So it is at each run.
use Rattle.host_model.specs.Taking.{told_requests}
use Rattle.proof_ends.specs.proof_requests.proof_alone.Phases.{Behind}
use Rattle.proof_following.proofs.Hearing.{frame_follows}
use Rattle.proof_following.proofs.hosts.hosts_end_by_frames.Goals as goal

pub returns : goal.returns
returns c = λ keys heeds event past m course run of errands over gone.
    frame_follows c.hosts_tell_of_ends.ensures.walk c.hosts_show_open_sessions.ensures.opened heeds past m event of (c.hosts_tell_of_sleep.ensures keys (Behind (told_requests event)) past m run) errands
    course over gone
