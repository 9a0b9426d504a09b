-- Event by event, no text is shown but stored values.
use Rattle.proof_audit.proofs.Texts.{lines_show}
use Rattle.proof_audit.proofs.text.lines_show_texts.Goals as goal

pub returns : goal.returns
returns c = lines_show
