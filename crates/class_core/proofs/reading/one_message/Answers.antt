use Rattle.class_core.proofs.MessageLaws.{one_message}
use Rattle.class_core.proofs.reading.one_message.Goals as goal

pub returns : goal.returns
returns c = one_message
