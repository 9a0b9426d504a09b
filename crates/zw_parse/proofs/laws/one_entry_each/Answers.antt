-- No two entries have one text.
use Rattle.zw_parse.proofs.EntryLaws.{one-entry}
use Rattle.zw_parse.proofs.laws.one_entry_each.Goals as goal

pub returns : goal.returns
returns c = one-entry
