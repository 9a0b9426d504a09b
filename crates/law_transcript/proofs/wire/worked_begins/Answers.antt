use Rattle.std.proofs.Common.{refl}
use Rattle.law_transcript.specs.Worked.{plain_exchange, repeated_exchange, lossy_exchange, cancelled_order, restarted_host, sleeping_node, sealed_exchange, long_message}
use Rattle.law_transcript.proofs.Entries.{begins_with_unit}
use Rattle.law_transcript.proofs.Computing.{computing}
use Rattle.law_transcript.proofs.wire.worked_begins.Goals as goal

pub returns-clause-plain : goal.returns-clause-plain
unfolding computing
returns-clause-plain c = begins_with_unit plain_exchange (refl, tt)

pub returns-clause-repeated : goal.returns-clause-repeated
unfolding computing
returns-clause-repeated c = begins_with_unit repeated_exchange (refl, tt)

pub returns-clause-lossy : goal.returns-clause-lossy
unfolding computing
returns-clause-lossy c = begins_with_unit lossy_exchange (refl, (refl, tt))

pub returns-clause-cancelled : goal.returns-clause-cancelled
unfolding computing
returns-clause-cancelled c = begins_with_unit cancelled_order (refl, tt)

pub returns-clause-restarted : goal.returns-clause-restarted
unfolding computing
returns-clause-restarted c = begins_with_unit restarted_host (refl, tt)

pub returns-clause-sleeping : goal.returns-clause-sleeping
unfolding computing
returns-clause-sleeping c = begins_with_unit sleeping_node (refl, tt)

pub returns-clause-sealed : goal.returns-clause-sealed
unfolding computing
returns-clause-sealed c = begins_with_unit sealed_exchange (refl, tt)

pub returns-clause-cut : goal.returns-clause-cut
unfolding computing
returns-clause-cut c = begins_with_unit long_message (refl, tt)
