use Rattle.std.proofs.Common.{refl}
use Rattle.law_wire.proofs.Computing.{reckoning}
use Rattle.law_wire.proofs.networks.worked_table.Goals as goal

pub returns-clause-first : goal.returns-clause-first
unfolding reckoning
returns-clause-first c = refl

pub returns-clause-joins : goal.returns-clause-joins
unfolding reckoning
returns-clause-joins c = refl

pub returns-clause-apart : goal.returns-clause-apart
unfolding reckoning
returns-clause-apart c = refl

pub returns-clause-early : goal.returns-clause-early
unfolding reckoning
returns-clause-early c = refl

pub returns-clause-unknown : goal.returns-clause-unknown
unfolding reckoning
returns-clause-unknown c = refl

pub returns-clause-known : goal.returns-clause-known
unfolding reckoning
returns-clause-known c = refl

pub returns-clause-joins_again : goal.returns-clause-joins_again
unfolding reckoning
returns-clause-joins_again c = refl

pub returns-clause-refused : goal.returns-clause-refused
unfolding reckoning
returns-clause-refused c = refl

pub returns-clause-discovers : goal.returns-clause-discovers
unfolding reckoning
returns-clause-discovers c = refl

pub returns-clause-discovers_dead : goal.returns-clause-discovers_dead
unfolding reckoning
returns-clause-discovers_dead c = refl

pub returns-clause-discovers_known : goal.returns-clause-discovers_known
unfolding reckoning
returns-clause-discovers_known c = refl

pub returns-clause-cut : goal.returns-clause-cut
unfolding reckoning
returns-clause-cut c = refl

pub returns-clause-forgets : goal.returns-clause-forgets
unfolding reckoning
returns-clause-forgets c = refl

pub returns-clause-forgets_another : goal.returns-clause-forgets_another
unfolding reckoning
returns-clause-forgets_another c = refl
