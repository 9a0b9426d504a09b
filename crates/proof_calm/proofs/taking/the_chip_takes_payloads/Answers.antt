-- A request of the host is read as it, and taken.
use Rattle.proof_calm.proofs.Payloads.{takes_request}
use Rattle.proof_calm.proofs.taking.the_chip_takes_payloads.Goals as goal

pub returns : goal.returns
returns c = λ s purpose n payload id is node some few from to idle joined. takes_request s purpose n payload id is node some few from to idle joined
