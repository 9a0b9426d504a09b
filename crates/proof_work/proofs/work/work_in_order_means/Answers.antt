use Rattle.proof_work.proofs.Meaning.{series_means, attempt_woken, told_once, told_while}
use Rattle.proof_work.proofs.work.work_in_order_means.Goals as goal

pub returns-clause-series : goal.returns-clause-series
returns-clause-series c = series_means

pub returns-clause-woken : goal.returns-clause-woken
returns-clause-woken c = attempt_woken

pub returns-clause-once : goal.returns-clause-once
returns-clause-once c = told_once

pub returns-clause-told : goal.returns-clause-told
returns-clause-told c = told_while
