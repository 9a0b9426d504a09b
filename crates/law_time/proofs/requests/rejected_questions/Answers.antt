use Rattle.std.proofs.Common.{refl}
use Rattle.law_time.specs.Questions.{may_answer}
use Rattle.law_time.specs.WrongRequests.{answered_of_another, answered_otherwise, left_unanswered}
use Rattle.law_time.specs.WrongEntries.{neighbours_of_another, failed_otherwise, answered_late}
use Rattle.law_time.proofs.Computing.{computing}
use Rattle.law_wire.proofs.Deciding.{broken}
use Rattle.law_time.proofs.requests.rejected_questions.Goals as goal
use Rattle.law_time.specs.WrongEnds.{answered_twice, neighbours_untold}

pub returns-clause-answered_otherwise : goal.returns-clause-answered_otherwise
unfolding computing
returns-clause-answered_otherwise c = broken may_answer answered_otherwise refl

pub returns-clause-another : goal.returns-clause-another
unfolding computing
returns-clause-another c = broken may_answer answered_of_another refl

pub returns-clause-unanswered : goal.returns-clause-unanswered
unfolding computing
returns-clause-unanswered c = broken may_answer left_unanswered refl

pub returns-clause-neighbours : goal.returns-clause-neighbours
unfolding computing
returns-clause-neighbours c = broken may_answer neighbours_of_another refl

pub returns-clause-failed : goal.returns-clause-failed
unfolding computing
returns-clause-failed c = broken may_answer failed_otherwise refl

pub returns-clause-late : goal.returns-clause-late
unfolding computing
returns-clause-late c = broken may_answer answered_late refl

pub returns-clause-untold : goal.returns-clause-untold
unfolding computing
returns-clause-untold c = broken may_answer neighbours_untold refl

pub returns-clause-twice : goal.returns-clause-twice
unfolding computing
returns-clause-twice c = broken may_answer answered_twice refl
