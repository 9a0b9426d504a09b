-- Each clause is a lemma.
use Rattle.chip_sim.proofs.Histories.{well_all}
use Rattle.proof_course_plain.proofs.ChipSide.{chips_move}
use Rattle.proof_course_plain.specs.Mesh.{IsTold}
use Rattle.proof_course_plain.proofs.lines.chips_carry_reports.Goals as goal

pub returns-clause-moves : goal.returns-clause-moves
returns-clause-moves c = chips_move IsTold

pub returns-clause-waits : goal.returns-clause-waits
returns-clause-waits c = well_all
