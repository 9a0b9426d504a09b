-- What is sealed leaves alone which nonces are live.
use Rattle.device_sim.proofs.NonceLemmas.{named_is_spent}
use Rattle.device_sim.proofs.laws.nonces_are_spent.Goals as goal

pub returns : goal.returns
returns c = named_is_spent
