use Rattle.class_info.proofs.InfoLaws.{one_message}
use Rattle.class_info.proofs.reading.one_message.Goals as goal

pub returns : goal.returns
returns c = one_message
