-- The lines, and the table after the last of them.
use Rattle.run_lines.specs.declared.running.LinesEnd.TheVariants.{All}
use Rattle.run_sim.proofs.sim.run_to_status.Goals as goal

pub returns-in-All-clause-ran : goal.returns-in-All-clause-ran
returns-in-All-clause-ran g c = record {
  end = All;
  mid = g.K.Sink.written c.run_lines.new.sink;
  lines = c.in-All.ensures.ran;
  closes = c.end_well.ensures.closes _ _ _;
}
