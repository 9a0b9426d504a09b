-- Each clause is one of the facts that every list of events keeps.
use Rattle.supervision.proofs.OnceLemmas.{always-facts}
use Rattle.supervision.proofs.OnceLaws.{changes-rise, get_names_one, report_names_one, told-success, told-refusal, end_known}
use Rattle.supervision.specs.Once.{run, start}
use Rattle.supervision.proofs.laws.once_only.Goals as goal

pub returns-clause-rising : goal.returns-clause-rising
returns-clause-rising c = λ events. changes-rise (run events start) (always-facts events)

pub returns-clause-begun : goal.returns-clause-begun
returns-clause-begun c = λ events. (always-facts events).done.begun

pub returns-clause-done_once : goal.returns-clause-done_once
returns-clause-done_once c = λ events. (always-facts events).done.rise

pub returns-clause-not_ahead : goal.returns-clause-not_ahead
returns-clause-not_ahead c = λ events. (always-facts events).agree.not_ahead

pub returns-clause-one_after : goal.returns-clause-one_after
returns-clause-one_after c = λ events. (always-facts events).agree.one_after

pub returns-clause-get_names_one : goal.returns-clause-get_names_one
returns-clause-get_names_one c = λ events. get_names_one (run events start) (always-facts events)

pub returns-clause-report_names_one : goal.returns-clause-report_names_one
returns-clause-report_names_one c = λ events. report_names_one (run events start) (always-facts events)

pub returns-clause-told_is_done : goal.returns-clause-told_is_done
returns-clause-told_is_done c = λ events. (always-facts events).told.was_done

pub returns-clause-told_once : goal.returns-clause-told_once
returns-clause-told_once c = λ events. (always-facts events).told.rise

pub returns-clause-success : goal.returns-clause-success
returns-clause-success c = λ events. told-success (run events start) (always-facts events)

pub returns-clause-refusal : goal.returns-clause-refusal
returns-clause-refusal c = λ events. told-refusal (run events start) (always-facts events)

pub returns-clause-end_known : goal.returns-clause-end_known
returns-clause-end_known c = λ events. end_known (run events start) (always-facts events)

pub returns-clause-each_ended : goal.returns-clause-each_ended
returns-clause-each_ended c = λ events. (always-facts events).told.each
