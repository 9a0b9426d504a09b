-- What the text is read as decides, both ways.
use Rattle.std.proofs.Common.{subst}
use Rattle.zw_words.specs.Fields.{Gives}
use Rattle.include_text.proofs.TextLaws.{line_again, line_answer}
use Rattle.include_text.proofs.read.read_include.Goals as goal

pub returns-clause-found : goal.returns-clause-found
returns-clause-found c = line_answer c.args.text.now c.line_of_text.result c.line_of_text.ensures

pub returns-clause-only : goal.returns-clause-only
returns-clause-only c line is = subst (λ r. Gives c.line_of_text.result r) (line_again c.args.text.now line is) c.line_of_text.ensures
