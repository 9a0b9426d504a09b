use Rattle.chip_sim.specs.Events.{Ticked}
use Rattle.outside_step.specs.contracts.outside.OutsideCore.{the_view}
use Rattle.outside_step.proofs.Doings.{ticked, sendable_outs}
use Rattle.outside_step.proofs.outside.OutsideCore.tick_chip.Goals as goal

pub put_outputs-requires : goal.put_outputs-requires
put_outputs-requires c = sendable_outs c.self.inside.chip.state Ticked _ _ c.new-outputs.ensures c.in_ok-tick.ensures.outs tt

pub returns : goal.returns
returns c =
    rw (← c.self.view_is) (ticked c.put_outputs.result (the_view c.self.inside) _ _ _ _ _ _ c.in_ok-tick.ensures.decoder c.in_ok-tick.ensures.state c.new-outputs.ensures c.in_ok-tick.ensures.outs c.put_outputs.ensures)
