-- Lemmas on lists of turns.
use Rattle.law_time.specs.Stretches.{turns}
use Rattle.proof_answered.proofs.WokenLast.{last_so, never_woken}
use Rattle.proof_answered.proofs.sleepers.nodes_are_woken_last.Goals as goal

pub returns-clause-last : goal.returns-clause-last
returns-clause-last c = λ n stretch last. last_so (turns n stretch) last

pub returns-clause-never : goal.returns-clause-never
returns-clause-never c = never_woken
