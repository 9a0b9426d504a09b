use Rattle.std.proofs.Common.{refl}
use Rattle.law_time.specs.Choice.{may_number}
use Rattle.law_time.specs.WrongChoice.{id_over_restart, id_repeated, id_skipped, sent_with_options}
use Rattle.law_time.proofs.Computing.{computing}
use Rattle.law_wire.proofs.Deciding.{broken}
use Rattle.law_time.proofs.choice.rejected_callbacks.Goals as goal

pub returns-clause-skipped : goal.returns-clause-skipped
unfolding computing
returns-clause-skipped c = broken may_number id_skipped refl

pub returns-clause-repeated : goal.returns-clause-repeated
unfolding computing
returns-clause-repeated c = broken may_number id_repeated refl

pub returns-clause-over_restart : goal.returns-clause-over_restart
unfolding computing
returns-clause-over_restart c = broken may_number id_over_restart refl

pub returns-clause-options : goal.returns-clause-options
unfolding computing
returns-clause-options c = broken may_number sent_with_options refl
