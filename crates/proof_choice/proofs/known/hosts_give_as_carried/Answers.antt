-- The tie lasts along each run.
use Rattle.proof_giving.specs.proof_queue.proof_attempts.Since.{KnowsSince}
use Rattle.proof_giving.specs.proof_queue.proof_attempts.Waking.{KnowsWork}
use Rattle.proof_giving.proofs.Lasting.{along, since_walk}
use Rattle.proof_choice.specs.Plans.{PlansAreSo}
use Rattle.proof_choice.proofs.Plans.{first_plans, plans_last}
use Rattle.proof_choice.proofs.known.hosts_give_as_carried.Goals as goal

pub returns : goal.returns
returns c = λ keys.
    along keys KnowsWork (KnowsSince PlansAreSo) (c.hosts_know_their_work.ensures keys) (since_walk PlansAreSo KnowsWork (plans_last c.attempts_stay_with_the_request.ensures.keeps)) (first_plans keys)
