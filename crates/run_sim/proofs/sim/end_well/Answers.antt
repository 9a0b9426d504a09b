-- The table, written whole or in part.
use Rattle.std.proofs.Common.{sym}
use Rattle.run_sim.proofs.SimRun.{OnOk-is, closed_well, closed_in_part}
use Rattle.run_sim.proofs.sim.end_well.Goals as goal

pub returns-in-Ok-clause-closes : goal.returns-in-Ok-clause-closes
returns-in-Ok-clause-closes g c = λ shelf number reads.
    closed_well _ c.add_table.new.out.items _ _ (OnOk-is c.add_table.result _ (sym c.if-is_err.ensures.value) c.add_table.ensures shelf number reads)
    c.in-Ok.ensures.written

pub returns-clause-closes : goal.returns-clause-closes
returns-clause-closes g c = λ shelf number reads.
    closed_in_part _ c.add_table.new.out.items _ _ (OnOk-is c.add_table.result _ (sym c.if-is_err.ensures.value) c.add_table.ensures shelf number reads)
    c.in-Err.ensures.prefix
