use Rattle.outside_step.specs.contracts.outside.OutsideCore.{the_view}
use Rattle.outside_step.proofs.Parts.{chip_is}
use Rattle.outside_step.proofs.outside.OutsideCore.collide.Goals as goal

pub returns-clause-ok : goal.returns-clause-ok
returns-clause-ok c = rw (← c.self.view_is) (chip_is (the_view c.self.inside) _ _ c.collide.ensures.decoder c.collide.ensures.state)
