use Rattle.proof_host.proofs.HostsFromRecords.{starts_as}
use Rattle.proof_host.proofs.lives.what_is_kept_starts_a_host.Goals as goal

pub returns : goal.returns
returns c = starts_as
