-- Each line's text is read as that line.
use Rattle.zw_text.proofs.TextLaws.{one_line, one_replay}
use Rattle.zw_text.proofs.laws.one_line_each.Goals as goal

pub returns-clause-line : goal.returns-clause-line
returns-clause-line c = one_line

pub returns-clause-replay : goal.returns-clause-replay
returns-clause-replay c = one_replay
