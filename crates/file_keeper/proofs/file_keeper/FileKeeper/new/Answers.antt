use Rattle.file_keeper.proofs.Drawers.{drawer_new}
use Rattle.file_keeper.proofs.file_keeper.FileKeeper.new.Goals as goal

pub invariant_of-result : goal.invariant_of-result
invariant_of-result g c = drawer_new _ _ c.new.result.items c.new.ensures
