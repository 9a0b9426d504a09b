use Rattle.proof_include.proofs.Lines.{came_first, came_more}
use Rattle.proof_include.proofs.laws.lines_lead_on.Goals as goal

pub returns-clause-first : goal.returns-clause-first
returns-clause-first c = came_first

pub returns-clause-more : goal.returns-clause-more
returns-clause-more c = came_more
