use Rattle.std.proofs.Common.{refl}
use Rattle.law_transcript.proofs.Computing.{computing_devices}
use Rattle.law_transcript.proofs.device.worked_records.Goals as goal

pub returns-clause-plain : goal.returns-clause-plain
unfolding computing_devices
returns-clause-plain c = record { joined = refl; interviewed = refl; waits = refl; begun = refl; ended = refl }

pub returns-clause-failed : goal.returns-clause-failed
unfolding computing_devices
returns-clause-failed c = record { joined = refl; interviewed = refl; waits = refl; begun = refl; ended = refl }

pub returns-clause-unsupported : goal.returns-clause-unsupported
unfolding computing_devices
returns-clause-unsupported c = record { joined = refl; interviewed = refl; waits = refl; begun = refl; ended = refl }

pub returns-clause-unanswered : goal.returns-clause-unanswered
unfolding computing_devices
returns-clause-unanswered c = record { joined = refl; interviewed = refl; waits = refl; begun = refl; ended = refl }

pub returns-clause-interviewed : goal.returns-clause-interviewed
unfolding computing_devices
returns-clause-interviewed c = record { joined = refl; interviewed = refl; waits = refl; begun = refl; ended = refl }
