use Rattle.host_model.proofs.Beginning.{begins_alone}
use Rattle.host_model.proofs.record_laws.a_host_begins_with_what_is_kept.Goals as goal

pub returns : goal.returns
returns c = begins_alone
