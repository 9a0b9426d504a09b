use Rattle.std.proofs.Common.{◌≡◌, true, false}
use Rattle.law_wire.proofs.moments.rejected_room.Goals as goal

false_true : false ≡ true → ⊥
false_true same = cc

pub returns-clause-fits : goal.returns-clause-fits
returns-clause-fits c = λ law. false_true law

pub returns-clause-lacks : goal.returns-clause-lacks
returns-clause-lacks c = λ law. false_true law

pub returns-clause-heard : goal.returns-clause-heard
returns-clause-heard c = λ law. false_true law
