use Rattle.include_world.proofs.Events.{added}
use Rattle.include_world.proofs.laws.what_is_said_is_so.Goals as goal

pub returns : goal.returns
returns c = added
