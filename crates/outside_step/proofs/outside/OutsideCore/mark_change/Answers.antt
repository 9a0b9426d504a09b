use Rattle.serial_pipes.specs.Events.{Changes}
use Rattle.outside_step.specs.contracts.outside.OutsideCore.{the_view}
use Rattle.outside_step.proofs.Answered.{map_ok}
use Rattle.outside_step.proofs.Parts.{way_host, way_chip}
use Rattle.outside_step.proofs.outside.OutsideCore.mark_change.Goals as goal

pub returns-in-Host-clause-ok : goal.returns-in-Host-clause-ok
returns-in-Host-clause-ok c =
    map_ok c.change.result _ _ (λ marked. rw (← c.self.view_is) (way_host (the_view c.self.inside) c.args.side c.change.new.self (Changes c.args.garble) c.in-Host.is marked)) c.change.ensures.ok

pub returns-in-Chip-clause-ok : goal.returns-in-Chip-clause-ok
returns-in-Chip-clause-ok c =
    map_ok c.change-in-Chip.result _ _ (λ marked. rw (← c.self.view_is) (way_chip (the_view c.self.inside) c.args.side c.change-in-Chip.new.self (Changes c.args.garble) c.in-Chip.is marked)) c.change-in-Chip.ensures.ok
