use Rattle.value_store.proofs.Seen.{seen-none}
use Rattle.value_store.proofs.store.Store.new.Goals as goal

pub returns : goal.returns
returns c = rw c.new.ensures.items seen-none
