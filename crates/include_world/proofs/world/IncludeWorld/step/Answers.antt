use Rattle.include_world.proofs.KnownAfterCalls.{tells_on}
use Rattle.include_world.proofs.world.IncludeWorld.step.Goals as goal

pub returns-clause-added : goal.returns-clause-added
returns-clause-added g c = tells_on c.args.line.now c.run_line.result c.args.self.now c.run_line.new.self c.args.out.now.items c.run_line.new.out.items c.run_line.ensures.ok c.run_line.ensures.err
