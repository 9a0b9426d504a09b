use Rattle.std.proofs.Common.{◌≡◌, ℕ, length, ap, arith}
use Rattle.law_time.proofs.Computing.{computing}
use Rattle.law_host.proofs.legal.rejected_start.Goals as goal

all_none : ◌≡◌ {A = ℕ} 21 0 → ⊥
all_none e = omega (arith, e)

-- these records have no outcome, and one is shown
pub returns-clause-records : goal.returns-clause-records
returns-clause-records c = λ from. c.rejected_records.ensures.lacking (record { kept = from.kept; gives = from.gives; shows = from.shows })

pub returns-clause-running : goal.returns-clause-running
unfolding computing
returns-clause-running c = λ from. all_none (ap length from.anew)
