use Rattle.std.proofs.Common.{refl}
use Rattle.law_transcript.specs.Worked.{plain_exchange, repeated_exchange, lossy_exchange, cancelled_order, restarted_host, sleeping_node, sealed_exchange, long_message}
use Rattle.law_wire.specs.Pipes.{may_overrun}
use Rattle.law_transcript.proofs.Deciding.{kept}
use Rattle.law_wire.proofs.Computing.{reckoning}
use Rattle.law_wire.proofs.pipes.worked_pipes.Goals as goal

pub returns-clause-full : goal.returns-clause-full
unfolding reckoning
returns-clause-full c = refl

pub returns-clause-changed : goal.returns-clause-changed
unfolding reckoning
returns-clause-changed c = refl

pub returns-clause-lost : goal.returns-clause-lost
unfolding reckoning
returns-clause-lost c = refl

pub returns-clause-taken : goal.returns-clause-taken
unfolding reckoning
returns-clause-taken c = refl

pub returns-clause-fits : goal.returns-clause-fits
unfolding reckoning
returns-clause-fits c = refl

pub returns-clause-plain : goal.returns-clause-plain
unfolding reckoning
returns-clause-plain c = kept may_overrun plain_exchange refl

pub returns-clause-repeated : goal.returns-clause-repeated
unfolding reckoning
returns-clause-repeated c = kept may_overrun repeated_exchange refl

pub returns-clause-lossy : goal.returns-clause-lossy
unfolding reckoning
returns-clause-lossy c = kept may_overrun lossy_exchange refl

pub returns-clause-cancelled : goal.returns-clause-cancelled
unfolding reckoning
returns-clause-cancelled c = kept may_overrun cancelled_order refl

pub returns-clause-restarted : goal.returns-clause-restarted
unfolding reckoning
returns-clause-restarted c = kept may_overrun restarted_host refl

pub returns-clause-sleeping : goal.returns-clause-sleeping
unfolding reckoning
returns-clause-sleeping c = kept may_overrun sleeping_node refl

pub returns-clause-sealed : goal.returns-clause-sealed
unfolding reckoning
returns-clause-sealed c = kept may_overrun sealed_exchange refl

pub returns-clause-cut : goal.returns-clause-cut
unfolding reckoning
returns-clause-cut c = kept may_overrun long_message refl
