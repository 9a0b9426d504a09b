use Rattle.include_world.proofs.KnownAfterCalls.{first_if}
use Rattle.include_world.proofs.world.IncludeWorld.new.Goals as goal

pub returns-clause-reached : goal.returns-clause-reached
returns-clause-reached c = first_if c.args.key c.made.result c.made.ensures.sixteen c.made.ensures.first
