-- The tie lasts along each run.
use Rattle.proof_giving.specs.proof_queue.proof_attempts.Since.{KnowsSince}
use Rattle.proof_giving.proofs.Lasting.{along, since_walk}
use Rattle.proof_choice.specs.Blocked.{BlockingGround, BlocksAsTold}
use Rattle.proof_choice.proofs.BlockedTie.{blocks_last, first_blocks}
use Rattle.proof_choice.proofs.known.hosts_block_as_told.Goals as goal

pub returns : goal.returns
returns c = λ keys.
    along keys BlockingGround (KnowsSince BlocksAsTold) (λ here told m run. (c.hosts_know_their_work.ensures keys here told m run, (c.hosts_ask_as_told.ensures.run keys here told m run).0))
    (since_walk BlocksAsTold BlockingGround blocks_last) (first_blocks keys)
