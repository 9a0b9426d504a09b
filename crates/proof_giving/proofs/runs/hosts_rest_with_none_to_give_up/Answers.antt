-- At a rest each node is tied to its attempts, and nothing that came is to be judged.
use Rattle.std.proofs.Common.{ℕ, ap, ◌∙◌}
use Rattle.law_time.specs.Unanswered.{none_to_give_up}
use Rattle.proof_queue.specs.proof_attempts.proof_requests.law_host.Heard.{heeds_alone}
use Rattle.proof_queue.specs.proof_attempts.proof_requests.proof_alone.Phases.{Resting}
use Rattle.proof_giving.proofs.Rested.{rests_without}
use Rattle.proof_giving.proofs.runs.hosts_rest_with_none_to_give_up.Goals as goal

pub returns-clause-rests : goal.returns-clause-rests
returns-clause-rests c = λ keys taken told m run careful sure heeded.
    rests_without (heeds_alone taken) told m (c.hosts_count_attempts.ensures.grounds keys taken Resting told m run) (c.hosts_count_attempts.ensures.known keys taken Resting told m run careful sure heeded)

pub returns-clause-ticks : goal.returns-clause-ticks
returns-clause-ticks c = λ keys taken here told m run careful sure heeded awaits.
    let (k, before, rests, goes, heeds, now) = c.ticks_begin_at_rest.ensures keys taken here told m run careful sure heeded awaits in
    ap (λ (n : ℕ). none_to_give_up (heeds_alone taken) told n) now ∙ returns-clause-rests c keys taken told k before rests goes heeds
