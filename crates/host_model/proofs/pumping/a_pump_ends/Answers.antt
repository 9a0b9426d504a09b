-- A turn of a pump is there, may happen, and leaves fewer.
use Rattle.host_model.proofs.Pumps.{turn, there_is_a_next, few_turns}
use Rattle.host_model.proofs.pumping.a_pump_ends.Goals as goal

pub returns-clause-next : goal.returns-clause-next
returns-clause-next c = there_is_a_next

pub returns-clause-may : goal.returns-clause-may
returns-clause-may c = λ h event f next. (turn h event f next).may

pub returns-clause-fewer : goal.returns-clause-fewer
returns-clause-fewer c = λ h event f next. (turn h event f next).less

pub returns-clause-most : goal.returns-clause-most
returns-clause-most c = few_turns
