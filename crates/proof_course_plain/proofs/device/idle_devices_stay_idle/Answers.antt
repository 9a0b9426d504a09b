-- Each clause is a lemma.
use Rattle.std.proofs.Common.{refl}
use Rattle.proof_course_plain.proofs.Idle.{idle_ticks}
use Rattle.proof_course_plain.proofs.device.idle_devices_stay_idle.Goals as goal

pub returns-clause-fresh : goal.returns-clause-fresh
returns-clause-fresh c = λ node kind key. record { no_work = refl; no_change = refl; no_segments = refl }

pub returns-clause-ticks : goal.returns-clause-ticks
returns-clause-ticks c = idle_ticks
