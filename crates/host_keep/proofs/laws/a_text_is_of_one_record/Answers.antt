use Rattle.host_keep.proofs.RowsBack.{one_record}
use Rattle.host_keep.proofs.laws.a_text_is_of_one_record.Goals as goal

pub returns : goal.returns
returns c = one_record
