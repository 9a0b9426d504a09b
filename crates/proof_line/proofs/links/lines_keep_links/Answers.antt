-- The links of that law keep the rules.
use Rattle.proof_line.proofs.links.lines_keep_links.Goals as goal

pub returns-clause-cut : goal.returns-clause-cut
returns-clause-cut c = λ keys devices lines are. (c.lines_clear_the_line.ensures.cut keys devices lines are).links

pub returns-clause-whole : goal.returns-clause-whole
returns-clause-whole c = λ keys devices lines are whole. (c.lines_clear_the_line.ensures.whole keys devices lines are whole).links
