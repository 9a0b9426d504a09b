use Rattle.value_store.proofs.Released.{released_is_undone}
use Rattle.value_store.proofs.laws.what_is_released_is_undone.Goals as goal

pub returns : goal.returns
returns c = released_is_undone
