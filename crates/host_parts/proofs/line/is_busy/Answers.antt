use Rattle.host_parts.proofs.Ending.{busy_is}
use Rattle.host_parts.proofs.line.is_busy.Goals as goal

pub returns : goal.returns
returns c = busy_is c.args.link.now.side.turn c.is_busy.result c.is_busy.ensures.0 c.is_busy.ensures.1
