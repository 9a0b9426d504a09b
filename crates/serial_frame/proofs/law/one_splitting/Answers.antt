use Rattle.serial_frame.proofs.Streams.{one-splitting}
use Rattle.serial_frame.proofs.law.one_splitting.Goals as goal

pub returns : goal.returns
returns c = one-splitting
