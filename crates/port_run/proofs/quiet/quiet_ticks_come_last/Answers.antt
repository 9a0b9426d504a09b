use Rattle.port_run.proofs.QuietTicks.{all_come_last, some_come_last}
use Rattle.port_run.proofs.quiet.quiet_ticks_come_last.Goals as goal

pub returns-clause-all : goal.returns-clause-all
returns-clause-all c = λ end keys number texts old new input told ran. all_come_last keys number texts old new input told end ran

pub returns-clause-some : goal.returns-clause-some
returns-clause-some c = λ reason keys number texts old new input told ran. some_come_last keys number texts old new input told reason ran
