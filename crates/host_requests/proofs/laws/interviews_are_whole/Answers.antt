use Rattle.host_requests.proofs.Handing.{whole}
use Rattle.host_requests.proofs.laws.interviews_are_whole.Goals as goal

pub returns : goal.returns
returns c = whole
