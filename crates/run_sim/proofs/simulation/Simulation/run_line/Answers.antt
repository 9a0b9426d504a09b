-- A text that is a line, one that is invalid, and one that is not read.
use Rattle.std.proofs.Common.{Option, Result, Ok, ap, ◌∙◌}
use Rattle.zw_words.specs.declared.fault.LineFault.{LineFault}
use Rattle.zw_text.specs.declared.line.Line.{Line}
use Rattle.run_sim.proofs.SimRun.{line_runs, line_stops, none_runs, not_read}
use Rattle.run_sim.proofs.simulation.Simulation.run_line.Goals as goal

-- what was read, as the answer of a reading
abbrev read : Option Line → Result (Option Line) LineFault
read found = Ok found

pub returns-in-Ok-clause-ok : goal.returns-in-Ok-clause-ok
returns-in-Ok-clause-ok g c = line_runs c.args.self.now.quiet c.args.text.now c.in-Ok-Some.line _ _ _ (c.in-Ok-Some.ensures.exact ∙ ap read c.in-Ok-Some.field-0-is) c.in-Ok.ensures.ok

pub returns-in-Ok-Some-clause-err : goal.returns-in-Ok-Some-clause-err
returns-in-Ok-Some-clause-err g c = line_stops c.args.self.now.quiet c.args.text.now c.in-Ok-Some.line _ _ _ (c.in-Ok-Some.ensures.exact ∙ ap read c.in-Ok-Some.field-0-is) c.in-Err-run_one.ensures.err

pub returns-in-Ok-None-clause-ok : goal.returns-in-Ok-None-clause-ok
returns-in-Ok-None-clause-ok g c = none_runs c.args.self.now.quiet c.args.text.now _ _ (c.in-Ok-None.ensures.exact ∙ ap read c.in-Ok-None.field-0-is) c.requires.empty

pub returns-clause-err : goal.returns-clause-err
returns-clause-err g c = not_read c.args.self.now.quiet c.in-Err.fault _ c.args.text.now _ c.in-Err.ensures.exact c.requires.empty
