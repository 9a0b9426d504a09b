-- Entry by entry, the line is read as the entry, and keeps each rule.
use Rattle.proof_audit.proofs.Judged.{answers_yes, parts_answer_yes}
use Rattle.proof_audit.proofs.whole.kept_rules_answer_yes.Goals as goal

pub returns-clause-whole : goal.returns-clause-whole
returns-clause-whole c = answers_yes

pub returns-clause-parts : goal.returns-clause-parts
returns-clause-parts c = parts_answer_yes
