use Rattle.host_requests.proofs.FactsKept.{kept, kept_all}
use Rattle.host_requests.proofs.laws.requests_stay_valid.Goals as goal

pub returns-clause-step : goal.returns-clause-step
returns-clause-step c = kept

pub returns-clause-all : goal.returns-clause-all
returns-clause-all c = kept_all
