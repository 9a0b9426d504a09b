use Rattle.std.proofs.Common.{refl, inl, inr}
use Rattle.law_transcript.specs.Worked.{plain_exchange, repeated_exchange, lossy_exchange, cancelled_order, restarted_host, sleeping_node, sealed_exchange, long_message}
use Rattle.law_transcript.proofs.Entries.{numbers_frames}
use Rattle.law_transcript.proofs.Computing.{computing}
use Rattle.law_transcript.proofs.air.worked_frames.Goals as goal

pub returns-clause-plain : goal.returns-clause-plain
unfolding computing
returns-clause-plain c = numbers_frames plain_exchange ((refl, inl refl), ((refl, inr refl), tt))

pub returns-clause-repeated : goal.returns-clause-repeated
unfolding computing
returns-clause-repeated c = numbers_frames repeated_exchange ((refl, inl refl), ((refl, inr refl), ((refl, inl refl), ((refl, inr refl), tt))))

pub returns-clause-lossy : goal.returns-clause-lossy
unfolding computing
returns-clause-lossy c = numbers_frames lossy_exchange ((refl, inl refl), ((refl, inl refl), ((refl, inl refl), ((refl, inl refl), ((refl, inr refl), ((refl, inl refl), ((refl, inr refl), tt)))))))

pub returns-clause-cancelled : goal.returns-clause-cancelled
unfolding computing
returns-clause-cancelled c = numbers_frames cancelled_order ((refl, inl refl), ((refl, inr refl), tt))

pub returns-clause-restarted : goal.returns-clause-restarted
unfolding computing
returns-clause-restarted c = numbers_frames restarted_host ((refl, inl refl), ((refl, inr refl), tt))

pub returns-clause-sleeping : goal.returns-clause-sleeping
unfolding computing
returns-clause-sleeping c = numbers_frames sleeping_node ((refl, inr refl), ((refl, inl refl), ((refl, inr refl), ((refl, inl refl), ((refl, inr refl), ((refl, inl refl), tt))))))

pub returns-clause-sealed : goal.returns-clause-sealed
unfolding computing
returns-clause-sealed c = numbers_frames sealed_exchange ((refl, inl refl), ((refl, inr refl), ((refl, inl refl), ((refl, inr refl), ((refl, inl refl), ((refl, inr refl), ((refl, inl refl), ((refl, inr refl), tt))))))))

pub returns-clause-cut : goal.returns-clause-cut
unfolding computing
returns-clause-cut c = numbers_frames long_message ((refl, inl refl), ((refl, inl refl), ((refl, inr refl), ((refl, inr refl), tt))))
