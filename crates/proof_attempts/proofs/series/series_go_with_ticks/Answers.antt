-- The tie at first, in a tick, and where a part begins.
use Rattle.proof_attempts.proofs.SeriesSteps.{first_runs, part_begins, tick_rises}
use Rattle.proof_attempts.proofs.series.series_go_with_ticks.Goals as goal

pub returns-clause-first : goal.returns-clause-first
returns-clause-first c = first_runs

pub returns-clause-rises : goal.returns-clause-rises
returns-clause-rises c = tick_rises

pub returns-clause-turns : goal.returns-clause-turns
returns-clause-turns c = part_begins
