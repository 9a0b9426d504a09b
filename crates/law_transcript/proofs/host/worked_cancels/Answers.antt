use Rattle.std.proofs.Common.{refl}
use Rattle.law_transcript.specs.Worked.{plain_exchange, repeated_exchange, lossy_exchange, cancelled_order, restarted_host, sleeping_node, sealed_exchange, long_message}
use Rattle.law_transcript.proofs.Entries.{cancels}
use Rattle.law_transcript.proofs.Computing.{computing}
use Rattle.law_transcript.proofs.host.worked_cancels.Goals as goal

pub returns-clause-plain : goal.returns-clause-plain
unfolding computing
returns-clause-plain c = cancels plain_exchange tt

pub returns-clause-repeated : goal.returns-clause-repeated
unfolding computing
returns-clause-repeated c = cancels repeated_exchange tt

pub returns-clause-lossy : goal.returns-clause-lossy
unfolding computing
returns-clause-lossy c = cancels lossy_exchange tt

pub returns-clause-cancelled : goal.returns-clause-cancelled
unfolding computing
returns-clause-cancelled c = cancels cancelled_order ((refl, refl), tt)

pub returns-clause-restarted : goal.returns-clause-restarted
unfolding computing
returns-clause-restarted c = cancels restarted_host tt

pub returns-clause-sleeping : goal.returns-clause-sleeping
unfolding computing
returns-clause-sleeping c = cancels sleeping_node tt

pub returns-clause-sealed : goal.returns-clause-sealed
unfolding computing
returns-clause-sealed c = cancels sealed_exchange tt

pub returns-clause-cut : goal.returns-clause-cut
unfolding computing
returns-clause-cut c = cancels long_message tt
