use Rattle.std.proofs.Common.{refl, inl, inr}
use Rattle.law_transcript.specs.Worked.{plain_exchange, repeated_exchange, lossy_exchange, cancelled_order, restarted_host, sleeping_node, sealed_exchange, long_message}
use Rattle.law_transcript.proofs.Entries.{brings_what_was_heard}
use Rattle.law_transcript.proofs.Computing.{computing}
use Rattle.law_transcript.proofs.wire.worked_bringing.Goals as goal

pub returns-clause-plain : goal.returns-clause-plain
unfolding computing
returns-clause-plain c = brings_what_was_heard plain_exchange ((inl (refl, tt), tt), tt)

pub returns-clause-repeated : goal.returns-clause-repeated
unfolding computing
returns-clause-repeated c = brings_what_was_heard repeated_exchange ((inl (refl, tt), tt), ((inl (refl, tt), tt), tt))

pub returns-clause-lossy : goal.returns-clause-lossy
unfolding computing
returns-clause-lossy c = brings_what_was_heard lossy_exchange ((inl (refl, tt), tt), ((inr (inl (refl, tt)), tt), tt))

pub returns-clause-cancelled : goal.returns-clause-cancelled
unfolding computing
returns-clause-cancelled c = brings_what_was_heard cancelled_order ((inl (refl, tt), tt), tt)

pub returns-clause-restarted : goal.returns-clause-restarted
unfolding computing
returns-clause-restarted c = brings_what_was_heard restarted_host ((inl (refl, tt), tt), tt)

pub returns-clause-sleeping : goal.returns-clause-sleeping
unfolding computing
returns-clause-sleeping c = brings_what_was_heard sleeping_node ((inl (refl, tt), tt), ((inl (refl, tt), tt), ((inr (inr (inl (refl, tt))), tt), tt)))

pub returns-clause-sealed : goal.returns-clause-sealed
unfolding computing
returns-clause-sealed c = brings_what_was_heard sealed_exchange ((inl (refl, tt), tt), ((inr (inl (refl, tt)), tt), ((inr (inr (inl (refl, tt))), tt), tt)))

pub returns-clause-cut : goal.returns-clause-cut
unfolding computing
returns-clause-cut c = brings_what_was_heard long_message ((inl (refl, tt), tt), ((inr (inl (refl, tt)), tt), tt))
