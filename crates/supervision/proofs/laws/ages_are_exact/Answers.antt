-- Each clause is a lemma on 64 sessions in a row.
use Rattle.supervision.proofs.EndsLemmas.{late_get, late_report}
use Rattle.supervision.proofs.laws.ages_are_exact.Goals as goal

pub returns-clause-get : goal.returns-clause-get
returns-clause-get c = late_get

pub returns-clause-report : goal.returns-clause-report
returns-clause-report c = late_report
