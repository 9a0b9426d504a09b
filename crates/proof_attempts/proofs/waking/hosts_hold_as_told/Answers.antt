-- The tie lasts over the work of the host and which nodes listen, and is so at first.
use Rattle.proof_requests.specs.proof_alone.Phases.{Resting}
use Rattle.proof_attempts.specs.Since.{KnowsSince}
use Rattle.proof_attempts.specs.Waking.{HeldAsTold, KnowsHearing}
use Rattle.proof_attempts.proofs.Holding.{first_held, held_lasts}
use Rattle.proof_attempts.proofs.Lasting.{along, since_walk}
use Rattle.proof_attempts.proofs.waking.hosts_hold_as_told.Goals as goal

pub returns-clause-along : goal.returns-clause-along
returns-clause-along c = λ keys.
    along keys KnowsHearing (KnowsSince HeldAsTold) (λ here told m run. (c.hosts_know_their_work.ensures keys here told m run, c.hosts_listen_as_told.ensures.run keys here told m run))
    (since_walk HeldAsTold KnowsHearing (held_lasts c.work_in_order_means.ensures.told)) (first_held keys)

pub returns-clause-rests : goal.returns-clause-rests
returns-clause-rests c = λ keys told m run n from to. returns-clause-along c keys Resting told m run n from to
