use Rattle.std.proofs.Common.{refl}
use Rattle.law_transcript.proofs.Computing.{computing_devices}
use Rattle.law_transcript.proofs.device.worked_table.Goals as goal

pub returns-clause-plain : goal.returns-clause-plain
unfolding computing_devices
returns-clause-plain c = refl

pub returns-clause-repeated : goal.returns-clause-repeated
unfolding computing_devices
returns-clause-repeated c = refl

pub returns-clause-lossy : goal.returns-clause-lossy
unfolding computing_devices
returns-clause-lossy c = refl

pub returns-clause-cancelled : goal.returns-clause-cancelled
unfolding computing_devices
returns-clause-cancelled c = refl

pub returns-clause-restarted : goal.returns-clause-restarted
unfolding computing_devices
returns-clause-restarted c = refl

pub returns-clause-sleeping : goal.returns-clause-sleeping
unfolding computing_devices
returns-clause-sleeping c = refl

pub returns-clause-sealed : goal.returns-clause-sealed
unfolding computing_devices
returns-clause-sealed c = refl

pub returns-clause-cut : goal.returns-clause-cut
unfolding computing_devices
returns-clause-cut c = refl

pub returns-clause-heard : goal.returns-clause-heard
unfolding computing_devices
returns-clause-heard c = refl

pub returns-clause-two : goal.returns-clause-two
unfolding computing_devices
returns-clause-two c = refl

pub returns-clause-restarted_since : goal.returns-clause-restarted_since
unfolding computing_devices
returns-clause-restarted_since c = refl

pub returns-clause-unanswered : goal.returns-clause-unanswered
unfolding computing_devices
returns-clause-unanswered c = refl

pub returns-clause-nodes_in_order : goal.returns-clause-nodes_in_order
unfolding computing_devices
returns-clause-nodes_in_order c = refl

pub returns-clause-values_in_order : goal.returns-clause-values_in_order
unfolding computing_devices
returns-clause-values_in_order c = refl
