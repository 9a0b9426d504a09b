use Rattle.serial_frame.proofs.First as read
use Rattle.serial_frame.proofs.law.one_reading.Goals as goal

pub returns : goal.returns
returns c = read.one_reading
