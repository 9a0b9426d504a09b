-- What the chip took is its part of a pass.
use Rattle.world_step.proofs.Bytes.{chip_part}
use Rattle.world_step.proofs.sides.Sides.chip_takes.Goals as goal

pub returns-clause-ok : goal.returns-clause-ok
returns-clause-ok c =
    chip_part c.chip_takes.result c.args.self.now.host c.args.self.now.outer c.chip_takes.new.self c.args.out.now.items c.chip_takes.new.out.items c.chip_takes.ensures.ok c.chip_takes.ensures.moved
