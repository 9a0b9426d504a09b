use Rattle.std.proofs.Common.{refl}
use Rattle.law_time.proofs.Computing.{computing}
use Rattle.law_time.proofs.calm.worked_calm.Goals as goal

pub returns-clause-first : goal.returns-clause-first
unfolding computing
returns-clause-first c = record { still = record { marks = refl; judged = refl; host = refl; chip = refl; called = refl; settled = refl; air = refl; idle = refl; asleep = refl; working = refl }; to_come = refl }

pub returns-clause-last : goal.returns-clause-last
unfolding computing
returns-clause-last c = record { still = record { marks = refl; judged = refl; host = refl; chip = refl; called = refl; settled = refl; air = refl; idle = refl; asleep = refl; working = refl }; to_come = refl }

pub returns-clause-sleeping : goal.returns-clause-sleeping
unfolding computing
returns-clause-sleeping c = record { still = record { marks = refl; judged = refl; host = refl; chip = refl; called = refl; settled = refl; air = refl; idle = refl; asleep = refl; working = refl }; to_come = refl }

pub returns-clause-before_two : goal.returns-clause-before_two
unfolding computing
returns-clause-before_two c = record { still = record { marks = refl; judged = refl; host = refl; chip = refl; called = refl; settled = refl; air = refl; idle = refl; asleep = refl; working = refl }; to_come = refl }

pub returns-clause-before_waking : goal.returns-clause-before_waking
unfolding computing
returns-clause-before_waking c = record { still = record { marks = refl; judged = refl; host = refl; chip = refl; called = refl; settled = refl; air = refl; idle = refl; asleep = refl; working = refl }; to_come = refl }

pub returns-clause-units : goal.returns-clause-units
unfolding computing
returns-clause-units c = record { still = record { marks = refl; judged = refl; host = refl; chip = refl; called = refl; settled = refl; air = refl; idle = refl; asleep = refl; working = refl }; to_come = refl }

pub returns-clause-frames : goal.returns-clause-frames
unfolding computing
returns-clause-frames c = record { still = record { marks = refl; judged = refl; host = refl; chip = refl; called = refl; settled = refl; air = refl; idle = refl; asleep = refl; working = refl }; to_come = refl }

pub returns-clause-restarted : goal.returns-clause-restarted
unfolding computing
returns-clause-restarted c = record { still = record { marks = refl; judged = refl; host = refl; chip = refl; called = refl; settled = refl; air = refl; idle = refl; asleep = refl; working = refl }; to_come = refl }

pub returns-clause-unknown : goal.returns-clause-unknown
unfolding computing
returns-clause-unknown c = record { still = record { marks = refl; judged = refl; host = refl; chip = refl; called = refl; settled = refl; air = refl; idle = refl; asleep = refl; working = refl }; to_come = refl }

pub returns-clause-waiting_asleep : goal.returns-clause-waiting_asleep
unfolding computing
returns-clause-waiting_asleep c = record { still = record { marks = refl; judged = refl; host = refl; chip = refl; called = refl; settled = refl; air = refl; idle = refl; asleep = refl; working = refl }; to_come = refl }

pub returns-clause-before_series : goal.returns-clause-before_series
unfolding computing
returns-clause-before_series c = record { still = record { marks = refl; judged = refl; host = refl; chip = refl; called = refl; settled = refl; air = refl; idle = refl; asleep = refl; working = refl }; to_come = refl }

pub returns-clause-long_ago : goal.returns-clause-long_ago
unfolding computing
returns-clause-long_ago c = record { still = record { marks = refl; judged = refl; host = refl; chip = refl; called = refl; settled = refl; air = refl; idle = refl; asleep = refl; working = refl }; to_come = refl }

pub returns-clause-unkept : goal.returns-clause-unkept
unfolding computing
returns-clause-unkept c = record { still = record { marks = refl; judged = refl; host = refl; chip = refl; called = refl; settled = refl; air = refl; idle = refl; asleep = refl; working = refl }; to_come = refl }

pub returns-clause-abort : goal.returns-clause-abort
unfolding computing
returns-clause-abort c = record { still = record { marks = refl; judged = refl; host = refl; chip = refl; called = refl; settled = refl; air = refl; idle = refl; asleep = refl; working = refl }; to_come = refl }

pub returns-clause-after_frame : goal.returns-clause-after_frame
unfolding computing
returns-clause-after_frame c = record { still = record { marks = refl; judged = refl; host = refl; chip = refl; called = refl; settled = refl; air = refl; idle = refl; asleep = refl; working = refl }; to_come = refl }

pub returns-clause-dropped : goal.returns-clause-dropped
unfolding computing
returns-clause-dropped c = record { still = record { marks = refl; judged = refl; host = refl; chip = refl; called = refl; settled = refl; air = refl; idle = refl; asleep = refl; working = refl }; to_come = refl }

pub returns-clause-told : goal.returns-clause-told
unfolding computing
returns-clause-told c = record { still = record { marks = refl; judged = refl; host = refl; chip = refl; called = refl; settled = refl; air = refl; idle = refl; asleep = refl; working = refl }; to_come = refl }

pub returns-clause-settled : goal.returns-clause-settled
unfolding computing
returns-clause-settled c = refl
