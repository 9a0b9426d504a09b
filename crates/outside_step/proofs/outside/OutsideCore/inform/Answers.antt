use Rattle.outside_step.specs.contracts.outside.OutsideCore.{the_view}
use Rattle.outside_step.proofs.Doings.{informed}
use Rattle.outside_step.proofs.outside.OutsideCore.inform.Goals as goal

pub returns : goal.returns
returns c =
    rw (← c.self.view_is) (informed c.put_outputs.result (the_view c.self.inside) _ c.args.node _ _ _ _ _ _ c.in_ok-info.ensures.decoder c.in_ok-info.ensures.state c.new-outputs.ensures c.in_ok-info.ensures.outs c.put_outputs.ensures)
