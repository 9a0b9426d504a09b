-- At first no tick has begun, and none was asked for.
use Rattle.std.proofs.Common.{[], refl}
use Rattle.proof_line.specs.proof_walk.Time.{MayCount}
use Rattle.proof_alone.specs.State.{first_alone}
use Rattle.proof_alone.specs.Time.{KnowsClock}
use Rattle.proof_alone.proofs.Running.{run_keeps}
use Rattle.proof_alone.proofs.Timing.{clock_is, clock_walk, first_clock}
use Rattle.proof_alone.proofs.time.hosts_tell_time.Goals as goal

pub returns-clause-walk : goal.returns-clause-walk
returns-clause-walk c = clock_walk

pub returns-clause-counts : goal.returns-clause-counts
returns-clause-counts c = λ keys records told run. (run_keeps MayCount KnowsClock clock_walk [] run.2 (first_clock (first_alone keys records) refl refl refl)).0

pub returns-clause-clock : goal.returns-clause-clock
returns-clause-clock c = λ keys records here told m run awaits. clock_is told m (run_keeps MayCount KnowsClock clock_walk [] run (first_clock (first_alone keys records) refl refl refl)).1 awaits
