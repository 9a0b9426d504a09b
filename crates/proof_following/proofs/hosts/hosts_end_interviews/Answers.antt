-- So it is at each run.
use Rattle.std.specs.Prelude.{true, false, [], ◌∷◌}
use Rattle.host_model.specs.Events.{Interviews, Interview_unkept}
use Rattle.proof_ends.specs.proof_requests.proof_alone.Phases.{Behind}
use Rattle.proof_following.proofs.Informing.{interview_follows}
use Rattle.proof_following.proofs.hosts.hosts_end_interviews.Goals as goal

pub returns-clause-kept : goal.returns-clause-kept
returns-clause-kept c = λ keys heeds n listens classes update keepings past m course run errands running chosen.
    interview_follows past m (Interviews n listens classes update ∷ []) tt c.hosts_show_open_sessions.ensures.opened heeds
    (c.hosts_tell_of_sleep.ensures keys (Behind (Interviews n listens classes update ∷ [])) past m run) errands true keepings course running chosen

pub returns-clause-unkept : goal.returns-clause-unkept
returns-clause-unkept c = λ keys heeds n update keepings past m course run errands running chosen.
    interview_follows past m (Interview_unkept n update ∷ []) tt c.hosts_show_open_sessions.ensures.opened heeds
    (c.hosts_tell_of_sleep.ensures keys (Behind (Interview_unkept n update ∷ [])) past m run) errands false keepings course running chosen
