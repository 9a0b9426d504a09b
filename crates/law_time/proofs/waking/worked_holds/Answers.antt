use Rattle.std.proofs.Common.{refl}
use Rattle.law_time.specs.Holds.{may_hold}
use Rattle.law_time.specs.WorkedWaits.{held_node}
use Rattle.law_wire.specs.law_transcript.Worked.{cancelled_order, long_message, lossy_exchange, plain_exchange, repeated_exchange, restarted_host, sealed_exchange, sleeping_node}
use Rattle.law_time.proofs.Computing.{computing}
use Rattle.law_wire.proofs.Deciding.{kept}
use Rattle.law_time.proofs.waking.worked_holds.Goals as goal
use Rattle.law_time.specs.WorkedWaking.{held_by_both, held_by_first, held_by_sealed, held_failing, held_unsupported, not_held_by_second, not_held_by_work}

pub returns-clause-held : goal.returns-clause-held
unfolding computing
returns-clause-held c = kept may_hold held_node refl

pub returns-clause-sleeping : goal.returns-clause-sleeping
unfolding computing
returns-clause-sleeping c = kept may_hold sleeping_node refl

pub returns-clause-plain : goal.returns-clause-plain
unfolding computing
returns-clause-plain c = kept may_hold plain_exchange refl

pub returns-clause-repeated : goal.returns-clause-repeated
unfolding computing
returns-clause-repeated c = kept may_hold repeated_exchange refl

pub returns-clause-lossy : goal.returns-clause-lossy
unfolding computing
returns-clause-lossy c = kept may_hold lossy_exchange refl

pub returns-clause-cancelled : goal.returns-clause-cancelled
unfolding computing
returns-clause-cancelled c = kept may_hold cancelled_order refl

pub returns-clause-restarted : goal.returns-clause-restarted
unfolding computing
returns-clause-restarted c = kept may_hold restarted_host refl

pub returns-clause-sealed : goal.returns-clause-sealed
unfolding computing
returns-clause-sealed c = kept may_hold sealed_exchange refl

pub returns-clause-cut : goal.returns-clause-cut
unfolding computing
returns-clause-cut c = kept may_hold long_message refl

pub returns-clause-failing : goal.returns-clause-failing
unfolding computing
returns-clause-failing c = kept may_hold held_failing refl

pub returns-clause-unsupported : goal.returns-clause-unsupported
unfolding computing
returns-clause-unsupported c = kept may_hold held_unsupported refl

pub returns-clause-both : goal.returns-clause-both
unfolding computing
returns-clause-both c = kept may_hold held_by_both refl

pub returns-clause-first : goal.returns-clause-first
unfolding computing
returns-clause-first c = kept may_hold held_by_first refl

pub returns-clause-second : goal.returns-clause-second
unfolding computing
returns-clause-second c = kept may_hold not_held_by_second refl

pub returns-clause-working : goal.returns-clause-working
unfolding computing
returns-clause-working c = kept may_hold not_held_by_work refl

pub returns-clause-by_sealed : goal.returns-clause-by_sealed
unfolding computing
returns-clause-by_sealed c = kept may_hold held_by_sealed refl
