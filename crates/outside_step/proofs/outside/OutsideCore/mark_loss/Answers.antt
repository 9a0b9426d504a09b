use Rattle.serial_pipes.specs.Events.{Loses}
use Rattle.outside_step.specs.contracts.outside.OutsideCore.{the_view}
use Rattle.outside_step.proofs.Answered.{map_ok}
use Rattle.outside_step.proofs.Parts.{way_host, way_chip}
use Rattle.outside_step.proofs.outside.OutsideCore.mark_loss.Goals as goal

pub returns-in-Host-clause-ok : goal.returns-in-Host-clause-ok
returns-in-Host-clause-ok c =
    map_ok c.lose.result _ _ (λ marked. rw (← c.self.view_is) (way_host (the_view c.self.inside) c.args.side c.lose.new.self Loses c.in-Host.is marked)) c.lose.ensures.ok

pub returns-in-Chip-clause-ok : goal.returns-in-Chip-clause-ok
returns-in-Chip-clause-ok c =
    map_ok c.lose-in-Chip.result _ _ (λ marked. rw (← c.self.view_is) (way_chip (the_view c.self.inside) c.args.side c.lose-in-Chip.new.self Loses c.in-Chip.is marked)) c.lose-in-Chip.ensures.ok
