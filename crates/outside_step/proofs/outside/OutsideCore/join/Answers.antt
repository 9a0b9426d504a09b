use Rattle.std.proofs.Common.{refl}
use Rattle.outside_step.specs.contracts.outside.OutsideCore.{the_view}
use Rattle.outside_step.proofs.Parts.{joined_is}
use Rattle.outside_step.proofs.outside.OutsideCore.join.Goals as goal

pub returns : goal.returns
returns c =
    rw (← c.self.view_is)
    (joined_is (the_view c.self.inside) _ _ c.join.new.self c.join-2.new.self.state _ _ refl c.join.ensures.decoder c.join.ensures.state c.join-2.ensures.state c.learn_links.ensures)
