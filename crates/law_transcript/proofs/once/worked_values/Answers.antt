use Rattle.law_transcript.proofs.Computing.{computing}
use Rattle.law_transcript.proofs.Headlines.{plain_device, repeated_device, lossy_device, cancelled_device, restarted_device, sleeping_device, sealed_device, cut_device}
use Rattle.law_transcript.proofs.once.worked_values.Goals as goal

pub returns-clause-plain : goal.returns-clause-plain
returns-clause-plain c = plain_device.confirms

pub returns-clause-repeated : goal.returns-clause-repeated
returns-clause-repeated c = repeated_device.confirms

pub returns-clause-lossy : goal.returns-clause-lossy
returns-clause-lossy c = lossy_device.confirms

pub returns-clause-cancelled : goal.returns-clause-cancelled
returns-clause-cancelled c = cancelled_device.confirms

pub returns-clause-restarted : goal.returns-clause-restarted
returns-clause-restarted c = restarted_device.confirms

pub returns-clause-sleeping : goal.returns-clause-sleeping
returns-clause-sleeping c = sleeping_device.confirms

pub returns-clause-sealed : goal.returns-clause-sealed
returns-clause-sealed c = sealed_device.confirms

pub returns-clause-cut : goal.returns-clause-cut
returns-clause-cut c = cut_device.confirms

pub returns-clause-failed : goal.returns-clause-failed
unfolding computing
returns-clause-failed c = ((λ success. absurd cc, tt), tt)
