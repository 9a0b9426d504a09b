-- The walk, its start, and what it says where nothing waits.
use Rattle.std.proofs.Common.{List, sym, subst}
use Rattle.std.specs.List.{AllByRecursion}
use Rattle.serial_frame.specs.Frame.{FrameParts}
use Rattle.proof_chip.specs.Told.{TakesNone}
use Rattle.proof_chip.proofs.ToldWalk.{told_first, told_walk}
use Rattle.proof_chip.proofs.due.results_are_told.Goals as goal

pub returns-clause-walk : goal.returns-clause-walk
returns-clause-walk c = told_walk

pub returns-clause-first : goal.returns-clause-first
returns-clause-first c = told_first

pub returns-clause-none : goal.returns-clause-none
returns-clause-none c = λ past m known each_told waits. known.0 each_told (subst (λ (l : List FrameParts). AllByRecursion TakesNone l) (sym waits) tt)
