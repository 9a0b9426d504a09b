use Rattle.host_keep.proofs.RecordLists.{give_one, good_not_bad, bad_once}
use Rattle.host_keep.proofs.laws.texts_give_one_thing.Goals as goal

pub returns : goal.returns
returns c = record { one = give_one; good = good_not_bad; place = bad_once }
