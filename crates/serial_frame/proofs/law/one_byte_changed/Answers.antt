use Rattle.serial_frame.proofs.Changed.{frame_changed}
use Rattle.serial_frame.proofs.law.one_byte_changed.Goals as goal

pub returns : goal.returns
returns c = frame_changed
