-- Lines are paths.
use Rattle.proof_walk.proofs.Lines.{whole_line, line_part}
use Rattle.proof_walk.proofs.paths.lines_are_paths.Goals as goal

pub returns-clause-whole : goal.returns-clause-whole
returns-clause-whole c = whole_line

pub returns-clause-part : goal.returns-clause-part
returns-clause-part c = line_part
