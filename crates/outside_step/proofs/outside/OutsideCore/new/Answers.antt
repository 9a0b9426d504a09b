use Rattle.outside_step.proofs.Parts.{first_is}
use Rattle.outside_step.proofs.outside.OutsideCore.new.Goals as goal

pub returns : goal.returns
returns c =
    first_is _ _ _ _ _ _ c.in_ok-first_chip.ensures.decoder c.in_ok-first_chip.ensures.state c.in_ok-air.ensures c.in_ok-to_chip.ensures c.in_ok-to_host.ensures c.new-3.ensures.items c.new-4.ensures.items
