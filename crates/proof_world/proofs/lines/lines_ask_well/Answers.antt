-- Each clause is a lemma on lines.
use Rattle.proof_world.proofs.Schedules.{asked_both, line_asked, lines_asked}
use Rattle.proof_world.proofs.lines.lines_ask_well.Goals as goal

pub returns-clause-line : goal.returns-clause-line
returns-clause-line c = line_asked

pub returns-clause-lines : goal.returns-clause-lines
returns-clause-lines c = lines_asked

pub returns-clause-both : goal.returns-clause-both
returns-clause-both c = asked_both
