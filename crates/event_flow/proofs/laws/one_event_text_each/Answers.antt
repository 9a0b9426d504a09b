-- Each entry is found again from its text.
use Rattle.event_flow.proofs.Texts.{one-text}
use Rattle.event_flow.proofs.laws.one_event_text_each.Goals as goal

pub returns : goal.returns
returns c = one-text
