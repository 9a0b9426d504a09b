use Rattle.std.proofs.Common.{refl}
use Rattle.law_wire.proofs.Computing.{reckoning}
use Rattle.law_wire.proofs.networks.worked_air_links.Goals as goal

pub returns-clause-first : goal.returns-clause-first
unfolding reckoning
returns-clause-first c = refl

pub returns-clause-set : goal.returns-clause-set
unfolding reckoning
returns-clause-set c = refl

pub returns-clause-cut : goal.returns-clause-cut
unfolding reckoning
returns-clause-cut c = refl

pub returns-clause-turned : goal.returns-clause-turned
unfolding reckoning
returns-clause-turned c = refl

pub returns-clause-same_start : goal.returns-clause-same_start
unfolding reckoning
returns-clause-same_start c = refl

pub returns-clause-same_end : goal.returns-clause-same_end
unfolding reckoning
returns-clause-same_end c = refl

pub returns-clause-itself : goal.returns-clause-itself
unfolding reckoning
returns-clause-itself c = refl

pub returns-clause-other_line : goal.returns-clause-other_line
unfolding reckoning
returns-clause-other_line c = refl
