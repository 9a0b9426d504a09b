-- So it is at each run.
use Rattle.std.specs.Prelude.{[], ◌∷◌, ◌++◌}
use Rattle.host_model.specs.Taking.{told_requests}
use Rattle.proof_ends.specs.proof_requests.proof_alone.Phases.{Behind}
use Rattle.proof_following.specs.Quiet.{acknowledges}
use Rattle.proof_following.proofs.Judging.{judged_follows}
use Rattle.proof_following.proofs.hosts.hosts_judge_frames.Goals as goal

pub returns : goal.returns
returns c = λ keys heeds event past rest frame m course run of next brings fits none over calm undenied errands gone.
    judged_follows c.hosts_tell_of_ends.ensures.walk c.hosts_show_open_sessions.ensures.opened heeds past m event of
    (c.hosts_tell_of_sleep.ensures keys (Behind (told_requests event)) (past ++ acknowledges ∷ []) m run) rest frame course next brings fits none over calm undenied errands gone
