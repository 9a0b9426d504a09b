-- Each clause is a lemma on one call.
use Rattle.std.proofs.Common.{arith}
use Rattle.std.proofs.lemmas.Bool.Decides.{nat_tests}
use Rattle.supervision.proofs.EndsLemmas.{EndsAgree-start, EndsAgree-begins, EndsAgree-attempts, EndsAgree-heard, EndsAgree-finished, EndsAgree-reported, get_near, segment_near, report_near, GetFits-sent, GetFits-begins, ReportFits-sent, ReportFits-begins, ReportFits-heard, ReportFits-finished}
use Rattle.supervision.proofs.laws.both_ends.Goals as goal

pub returns-clause-at_first : goal.returns-clause-at_first
returns-clause-at_first c = EndsAgree-start

pub returns-clause-begin : goal.returns-clause-begin
returns-clause-begin c = EndsAgree-begins

pub returns-clause-attempts : goal.returns-clause-attempts
returns-clause-attempts c = EndsAgree-attempts

pub returns-clause-hear : goal.returns-clause-hear
returns-clause-hear c = EndsAgree-heard

pub returns-clause-finish : goal.returns-clause-finish
returns-clause-finish c = EndsAgree-finished

pub returns-clause-report : goal.returns-clause-report
returns-clause-report c = EndsAgree-reported

pub returns-clause-get_near : goal.returns-clause-get_near
returns-clause-get_near c = λ host device get agree fits fresh. get_near host device get agree fits (grind (arith, nat_tests))

pub returns-clause-report_near : goal.returns-clause-report_near
returns-clause-report_near c = λ host device report fits fresh. report_near host device report fits (grind (arith, nat_tests))

pub returns-clause-get_sent : goal.returns-clause-get_sent
returns-clause-get_sent c = GetFits-sent

pub returns-clause-get_kept : goal.returns-clause-get_kept
returns-clause-get_kept c = GetFits-begins

pub returns-clause-report_sent : goal.returns-clause-report_sent
returns-clause-report_sent c = ReportFits-sent

pub returns-clause-report_kept : goal.returns-clause-report_kept
returns-clause-report_kept c = ReportFits-begins

pub returns-clause-report_kept_on_hear : goal.returns-clause-report_kept_on_hear
returns-clause-report_kept_on_hear c = ReportFits-heard

pub returns-clause-report_kept_on_finish : goal.returns-clause-report_kept_on_finish
returns-clause-report_kept_on_finish c = ReportFits-finished

pub returns-clause-segment_near : goal.returns-clause-segment_near
returns-clause-segment_near c = λ host device get agree fits fresh. segment_near host device get agree fits (grind (arith, nat_tests))
