-- What the text is read as decides, both ways.
use Rattle.event_flow.proofs.LineLaws.{answers, found_answer}
use Rattle.event_flow.proofs.read.read_event.Goals as goal

pub returns-clause-found : goal.returns-clause-found
returns-clause-found c = found_answer c.args.text.now c.read_text.result c.read_text.ensures

pub returns-clause-only : goal.returns-clause-only
returns-clause-only c line is = answers c.read_text.result c.args.text.now line c.read_text.ensures is
