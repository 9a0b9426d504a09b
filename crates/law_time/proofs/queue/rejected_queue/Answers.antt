use Rattle.law_time.specs.Heeds.{heeds_of}
use Rattle.std.proofs.Common.{[], ◌∷◌, refl}
use Rattle.law_time.specs.Queue.{may_queue}
use Rattle.law_time.specs.WrongQueue.{dropped_with_room, let_in_though_full, refused_with_room, reported_though_full, waits_though_full}
use Rattle.law_wire.specs.law_transcript.Worked.{the_lock, the_sensor, the_switch}
use Rattle.law_time.specs.WrongEntries.{dropped_of_another, refused_for_fewer}
use Rattle.law_time.proofs.Computing.{computing}
use Rattle.law_wire.proofs.Deciding.{broken}
use Rattle.law_time.proofs.queue.rejected_queue.Goals as goal
use Rattle.law_time.specs.WrongTurns.{dropped_twice, undropped_before_session, undropped_before_unit, undropped_in_tick}

pub returns-clause-room : goal.returns-clause-room
unfolding computing
returns-clause-room c = broken (may_queue (heeds_of (the_switch ∷ []))) refused_with_room refl

pub returns-clause-full : goal.returns-clause-full
unfolding computing
returns-clause-full c = broken (may_queue (heeds_of (the_switch ∷ []))) let_in_though_full refl

pub returns-clause-dropped : goal.returns-clause-dropped
unfolding computing
returns-clause-dropped c = broken (may_queue (heeds_of (the_switch ∷ the_sensor ∷ []))) dropped_with_room refl

pub returns-clause-waits : goal.returns-clause-waits
unfolding computing
returns-clause-waits c = broken (may_queue (heeds_of (the_switch ∷ the_sensor ∷ []))) waits_though_full refl

pub returns-clause-reported : goal.returns-clause-reported
unfolding computing
returns-clause-reported c = broken (may_queue (heeds_of (the_switch ∷ the_lock ∷ []))) reported_though_full refl

pub returns-clause-fewer : goal.returns-clause-fewer
unfolding computing
returns-clause-fewer c = broken (may_queue (heeds_of (the_switch ∷ []))) refused_for_fewer refl

pub returns-clause-dropped_of_another : goal.returns-clause-dropped_of_another
unfolding computing
returns-clause-dropped_of_another c = broken (may_queue (heeds_of (the_switch ∷ the_sensor ∷ []))) dropped_of_another refl

pub returns-clause-twice : goal.returns-clause-twice
unfolding computing
returns-clause-twice c = broken (may_queue (heeds_of (the_switch ∷ []))) dropped_twice refl

pub returns-clause-in_tick : goal.returns-clause-in_tick
unfolding computing
returns-clause-in_tick c = broken (may_queue (heeds_of (the_switch ∷ []))) undropped_in_tick refl

pub returns-clause-before_session : goal.returns-clause-before_session
unfolding computing
returns-clause-before_session c = broken (may_queue (heeds_of (the_switch ∷ []))) undropped_before_session refl

pub returns-clause-before_unit : goal.returns-clause-before_unit
unfolding computing
returns-clause-before_unit c = broken (may_queue (heeds_of (the_switch ∷ []))) undropped_before_unit refl
