-- Each step of a node, with what is told of it.
use Rattle.std.proofs.Common.{refl}
use Rattle.proof_attempts.proofs.SeriesSteps.{begins, busy, finishes, gives_up, gives_up_before, goes_again, occasion, rises, settled, starts}
use Rattle.proof_attempts.proofs.series.series_go_with_nodes.Goals as goal

pub returns-clause-settled : goal.returns-clause-settled
returns-clause-settled c = settled

pub returns-clause-rises : goal.returns-clause-rises
returns-clause-rises c = rises

pub returns-clause-occasion : goal.returns-clause-occasion
returns-clause-occasion c = λ n past s node now told facts tie. occasion n past s node now told (busy node facts) tie

pub returns-clause-begins : goal.returns-clause-begins
returns-clause-begins c = begins

pub returns-clause-again : goal.returns-clause-again
returns-clause-again c = goes_again

pub returns-clause-gives_up : goal.returns-clause-gives_up
returns-clause-gives_up c = λ node now attempts. gives_up node.listens node now attempts refl

pub returns-clause-gives_up_before : goal.returns-clause-gives_up_before
returns-clause-gives_up_before c = λ node now attempts. gives_up_before node.listens node now attempts refl

pub returns-clause-finishes : goal.returns-clause-finishes
returns-clause-finishes c = finishes

pub returns-clause-starts : goal.returns-clause-starts
returns-clause-starts c = starts
