use Rattle.proof_work.proofs.Doing.{pump_done, tick_done, all_judged_done}
use Rattle.proof_work.proofs.work.hosts_do_these.Goals as goal

pub returns-clause-pumps : goal.returns-clause-pumps
returns-clause-pumps c = pump_done

pub returns-clause-ticks : goal.returns-clause-ticks
returns-clause-ticks c = tick_done

pub returns-clause-items : goal.returns-clause-items
returns-clause-items c = all_judged_done
