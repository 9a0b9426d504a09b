use Rattle.run_lines.proofs.Completing.{is_done}
use Rattle.run_lines.proofs.scenario.run_scenario.Goals as goal

pub returns-clause-complete : goal.returns-clause-complete
returns-clause-complete g c =
    λ good no_read no_write. is_done g.M.Machine.refuses g.M.Machine.runs g.M.Machine.stops g.M.Machine.ends _ _ _ _ _ _ _ c.run_to_status.ensures.ran good
    (λ e. no_read (c.run_to_status.ensures.read_fault e)) (λ e. no_write (c.run_to_status.ensures.write_fault e))
