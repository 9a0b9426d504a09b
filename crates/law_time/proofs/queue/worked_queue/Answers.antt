use Rattle.law_time.specs.Heeds.{heeds_of}
use Rattle.std.proofs.Common.{[], ◌∷◌, refl}
use Rattle.law_time.specs.Queue.{may_queue}
use Rattle.law_time.specs.WorkedQueue.{dropped_no_more, dropped_nonce}
use Rattle.law_time.specs.WorkedWaits.{answered_errands, full_queue}
use Rattle.law_wire.specs.law_transcript.Worked.{cancelled_order, long_message, lossy_exchange, plain_exchange, repeated_exchange, restarted_host, sealed_exchange, sleeping_node, the_lock, the_plug, the_sensor, the_switch}
use Rattle.law_time.proofs.Computing.{computing}
use Rattle.law_wire.proofs.Deciding.{kept}
use Rattle.law_time.proofs.queue.worked_queue.Goals as goal
use Rattle.law_time.specs.WorkedTurns.{dropped_at_once, dropped_after_lost, dropped_after_report, refused_otherwise, unkept_though_full, dropped_again, dropped_once, dropped_woken}

pub returns-clause-full : goal.returns-clause-full
unfolding computing
returns-clause-full c = kept (may_queue (heeds_of (the_switch ∷ []))) full_queue refl

pub returns-clause-answered : goal.returns-clause-answered
unfolding computing
returns-clause-answered c = kept (may_queue (heeds_of (the_switch ∷ []))) answered_errands refl

pub returns-clause-no_more : goal.returns-clause-no_more
unfolding computing
returns-clause-no_more c = kept (may_queue (heeds_of (the_switch ∷ the_sensor ∷ []))) dropped_no_more refl

pub returns-clause-nonce : goal.returns-clause-nonce
unfolding computing
returns-clause-nonce c = kept (may_queue (heeds_of (the_switch ∷ the_lock ∷ []))) dropped_nonce refl

pub returns-clause-plain : goal.returns-clause-plain
unfolding computing
returns-clause-plain c = kept (may_queue (heeds_of (the_switch ∷ []))) plain_exchange refl

pub returns-clause-repeated : goal.returns-clause-repeated
unfolding computing
returns-clause-repeated c = kept (may_queue (heeds_of (the_switch ∷ []))) repeated_exchange refl

pub returns-clause-lossy : goal.returns-clause-lossy
unfolding computing
returns-clause-lossy c = kept (may_queue (heeds_of (the_switch ∷ []))) lossy_exchange refl

pub returns-clause-cancelled : goal.returns-clause-cancelled
unfolding computing
returns-clause-cancelled c = kept (may_queue (heeds_of (the_switch ∷ []))) cancelled_order refl

pub returns-clause-restarted : goal.returns-clause-restarted
unfolding computing
returns-clause-restarted c = kept (may_queue (heeds_of (the_switch ∷ []))) restarted_host refl

pub returns-clause-sleeping : goal.returns-clause-sleeping
unfolding computing
returns-clause-sleeping c = kept (may_queue (heeds_of (the_sensor ∷ []))) sleeping_node refl

pub returns-clause-sealed : goal.returns-clause-sealed
unfolding computing
returns-clause-sealed c = kept (may_queue (heeds_of (the_lock ∷ []))) sealed_exchange refl

pub returns-clause-cut : goal.returns-clause-cut
unfolding computing
returns-clause-cut c = kept (may_queue (heeds_of (the_plug ∷ []))) long_message refl

pub returns-clause-at_once : goal.returns-clause-at_once
unfolding computing
returns-clause-at_once c = kept (may_queue (heeds_of (the_switch ∷ []))) dropped_at_once refl

pub returns-clause-after_lost : goal.returns-clause-after_lost
unfolding computing
returns-clause-after_lost c = kept (may_queue (heeds_of (the_switch ∷ []))) dropped_after_lost refl

pub returns-clause-after_report : goal.returns-clause-after_report
unfolding computing
returns-clause-after_report c = kept (may_queue (heeds_of (the_switch ∷ []))) dropped_after_report refl

pub returns-clause-unkept : goal.returns-clause-unkept
unfolding computing
returns-clause-unkept c = kept (may_queue (heeds_of (the_switch ∷ []))) unkept_though_full refl

pub returns-clause-otherwise : goal.returns-clause-otherwise
unfolding computing
returns-clause-otherwise c = kept (may_queue (heeds_of (the_switch ∷ []))) refused_otherwise refl

pub returns-clause-dropped_once : goal.returns-clause-dropped_once
unfolding computing
returns-clause-dropped_once c = kept (may_queue (heeds_of (the_switch ∷ []))) dropped_once refl

pub returns-clause-dropped_again : goal.returns-clause-dropped_again
unfolding computing
returns-clause-dropped_again c = kept (may_queue (heeds_of (the_switch ∷ []))) dropped_again refl

pub returns-clause-dropped_woken : goal.returns-clause-dropped_woken
unfolding computing
returns-clause-dropped_woken c = kept (may_queue (heeds_of (the_switch ∷ []))) dropped_woken refl
