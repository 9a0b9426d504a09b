-- What the text is read as decides.
use Rattle.event_flow.proofs.LineLaws.{one_line}
use Rattle.event_flow.proofs.laws.one_event_line_each.Goals as goal

pub returns : goal.returns
returns c = one_line
