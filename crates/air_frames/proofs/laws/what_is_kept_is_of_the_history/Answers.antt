use Rattle.air_frames.proofs.Counted.{IsOf-first, IsOf-goes, IsOf-lands, IsOf-begins}
use Rattle.air_frames.proofs.laws.what_is_kept_is_of_the_history.Goals as goal

pub returns-clause-first : goal.returns-clause-first
returns-clause-first c = IsOf-first

pub returns-clause-goes : goal.returns-clause-goes
returns-clause-goes c = IsOf-goes

pub returns-clause-lands : goal.returns-clause-lands
returns-clause-lands c = IsOf-lands

pub returns-clause-begins : goal.returns-clause-begins
returns-clause-begins c = IsOf-begins
