use Rattle.std.proofs.Common.{refl}
use Rattle.law_wire.proofs.moments.worked_room.Goals as goal

pub returns-clause-fits : goal.returns-clause-fits
returns-clause-fits c = refl

pub returns-clause-lacks : goal.returns-clause-lacks
returns-clause-lacks c = refl

pub returns-clause-heard : goal.returns-clause-heard
returns-clause-heard c = refl

pub returns-clause-own : goal.returns-clause-own
returns-clause-own c = refl
