use Rattle.outside_calls.proofs.Ticking.{ticks_quietly}
use Rattle.outside_calls.proofs.devices.tick_device.Goals as goal

pub returns-clause-quiet : goal.returns-clause-quiet
returns-clause-quiet g c = ticks_quietly _ _ _ _ c.in_ok-made.ensures.ok c.in_ok-made.ensures.replies c.in_ok-made.ensures.made
