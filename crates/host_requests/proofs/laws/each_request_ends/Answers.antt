use Rattle.host_requests.proofs.Ending.{ends}
use Rattle.host_requests.proofs.laws.each_request_ends.Goals as goal

pub returns : goal.returns
returns c = ends
