-- A run from its world to its status.
use Rattle.run_lines.proofs.Completing.{is_done}
use Rattle.run_lines.specs.Lines.{fault_by}
use Rattle.zw_text.specs.Line.{line_at}
use Rattle.run_sim.specs.Sim.{SimRuns, SimStops, IsTable}
use Rattle.run_sim.proofs.SimRun.{sim_ran, no_world}
use Rattle.run_sim.proofs.sim.run_sim.Goals as goal

pub returns-in_default-clause-ran : goal.returns-in_default-clause-ran
returns-in_default-clause-ran g c = no_world _ _ _ _ _ _ _ _

pub returns-clause-ran : goal.returns-clause-ran
returns-clause-ran g c = sim_ran c.args.quiet c.args.key _ _ _ _ _ _ _ _ _ _ _ _ _ _ _ c.run_to_status.ensures.ran c.in-Ok.ensures

pub returns-clause-complete : goal.returns-clause-complete
returns-clause-complete g c =
    λ good no_read no_write. is_done (fault_by line_at) (SimRuns c.args.quiet) (SimStops c.args.quiet) IsTable _ _ _ _ _ _ _ c.run_to_status.ensures.ran good
    (λ e. no_read (c.run_to_status.ensures.read_fault e)) (λ e. no_write (c.run_to_status.ensures.write_fault e))
