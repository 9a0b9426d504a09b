use Rattle.host_keep.proofs.RecordLists.{after_all-append, legal_one_more}
use Rattle.host_keep.proofs.laws.records_go_on.Goals as goal

pub returns : goal.returns
returns c = record { kept = after_all-append; legal = legal_one_more }
