use Rattle.std.proofs.Common.{[], refl}
use Rattle.law_wire.proofs.Computing.{reckoning}
use Rattle.law_wire.proofs.Walks.{direct}
use Rattle.law_wire.proofs.chip.worked_telling.Goals as goal

pub returns : goal.returns
unfolding reckoning
returns c = record { joined = refl; way = []; route = (direct _ _ 5 refl).walk; awake = refl }
