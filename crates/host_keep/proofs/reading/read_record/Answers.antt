use Rattle.host_keep.proofs.RowsBack.{bad_is_none}
use Rattle.host_keep.proofs.reading.read_record.Goals as goal

pub returns-clause-bad : goal.returns-clause-bad
returns-clause-bad c = bad_is_none c.find_record.result c.args.bytes.now c.find_record.ensures.only
