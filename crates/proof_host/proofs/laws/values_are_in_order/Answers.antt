use Rattle.proof_host.proofs.Values.{settings_sorted}
use Rattle.proof_host.proofs.laws.values_are_in_order.Goals as goal

pub returns : goal.returns
returns c = settings_sorted
