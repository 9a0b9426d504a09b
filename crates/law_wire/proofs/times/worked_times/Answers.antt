use Rattle.std.proofs.Common.{refl, arith}
use Rattle.law_wire.proofs.Computing.{reckoning}
use Rattle.law_wire.proofs.times.worked_times.Goals as goal

pub returns-clause-two : goal.returns-clause-two
unfolding reckoning
returns-clause-two c = (
  refl,
  (
    record { later = omega arith; asked = omega arith; filled = refl },
    (refl, (refl, (record { later = omega arith; asked = omega arith; filled = refl }, (refl, tt)))),
  ),
)

pub returns-clause-next : goal.returns-clause-next
unfolding reckoning
returns-clause-next c = record { later = omega arith; asked = omega arith; filled = refl }
