use Rattle.std.proofs.Common.{refl}
use Rattle.law_time.specs.Interviews.{may_end}
use Rattle.law_time.specs.WrongRequests.{failed_though_informed, interviewed_early, left_unended}
use Rattle.law_time.specs.WrongEntries.{interviewed_of_another, interviewed_unknown}
use Rattle.law_time.proofs.Computing.{computing}
use Rattle.law_wire.proofs.Deciding.{broken}
use Rattle.law_time.proofs.requests.rejected_interviews.Goals as goal
use Rattle.law_time.specs.WrongEnds.{failed_by_response, failed_by_second, failed_of_another, failed_twice, interviewed_of_two, interviewed_twice, interviewed_uninformed, left_uninformed}

pub returns-clause-interviewed_early : goal.returns-clause-interviewed_early
unfolding computing
returns-clause-interviewed_early c = broken may_end interviewed_early refl

pub returns-clause-informed : goal.returns-clause-informed
unfolding computing
returns-clause-informed c = broken may_end failed_though_informed refl

pub returns-clause-unended : goal.returns-clause-unended
unfolding computing
returns-clause-unended c = broken may_end left_unended refl

pub returns-clause-interviewed_of_another : goal.returns-clause-interviewed_of_another
unfolding computing
returns-clause-interviewed_of_another c = broken may_end interviewed_of_another refl

pub returns-clause-unknown : goal.returns-clause-unknown
unfolding computing
returns-clause-unknown c = broken may_end interviewed_unknown refl

pub returns-clause-failed_of_another : goal.returns-clause-failed_of_another
unfolding computing
returns-clause-failed_of_another c = broken may_end failed_of_another refl

pub returns-clause-failed_twice : goal.returns-clause-failed_twice
unfolding computing
returns-clause-failed_twice c = broken may_end failed_twice refl

pub returns-clause-failed_by_second : goal.returns-clause-failed_by_second
unfolding computing
returns-clause-failed_by_second c = broken may_end failed_by_second refl

pub returns-clause-uninformed : goal.returns-clause-uninformed
unfolding computing
returns-clause-uninformed c = broken may_end interviewed_uninformed refl

pub returns-clause-twice : goal.returns-clause-twice
unfolding computing
returns-clause-twice c = broken may_end interviewed_twice refl

pub returns-clause-left_uninformed : goal.returns-clause-left_uninformed
unfolding computing
returns-clause-left_uninformed c = broken may_end left_uninformed refl

pub returns-clause-of_two : goal.returns-clause-of_two
unfolding computing
returns-clause-of_two c = broken may_end interviewed_of_two refl

pub returns-clause-by_response : goal.returns-clause-by_response
unfolding computing
returns-clause-by_response c = broken may_end failed_by_response refl
