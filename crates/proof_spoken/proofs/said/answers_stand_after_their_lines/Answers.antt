use Rattle.proof_spoken.proofs.SaidOrders.{line_answers, lines_answer}
use Rattle.proof_spoken.proofs.said.answers_stand_after_their_lines.Goals as goal

pub returns-clause-line : goal.returns-clause-line
returns-clause-line c = λ listing. line_answers c.the_machine_keeps_facts.ensures.all listing c.asides_keep_facts.ensures

pub returns-clause-lines : goal.returns-clause-lines
returns-clause-lines c = λ listing. lines_answer c.the_machine_keeps_facts.ensures.all listing c.asides_keep_facts.ensures
