-- The tie lasts over the work, and is so at first.
use Rattle.proof_attempts.specs.Since.{KnowsSince}
use Rattle.proof_attempts.specs.Waiting.{WaitInOrder}
use Rattle.proof_attempts.specs.Waking.{KnowsWork}
use Rattle.proof_attempts.proofs.Doings.{first_well, well_last}
use Rattle.proof_attempts.proofs.Lasting.{along, since_walk}
use Rattle.proof_attempts.proofs.work.hosts_tell_those_that_wait_for_nothing.Goals as goal

pub returns : goal.returns
returns c = λ keys. along keys KnowsWork (KnowsSince WaitInOrder) (c.hosts_know_their_work.ensures keys) (since_walk WaitInOrder KnowsWork well_last) (first_well keys)
