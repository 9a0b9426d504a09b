-- One walk over quiet lines, from any machine that has no marks.
use Rattle.std.proofs.Common.{[], refl}
use Rattle.outside_model.specs.State.{first_outer}
use Rattle.proof_work.specs.proof_walk.Walk.{Walk}
use Rattle.proof_work.proofs.ByLine.{walk_of}
use Rattle.proof_work.proofs.Lines.{lines_lead}
use Rattle.proof_work.specs.Phases.{AsksNothing}
use Rattle.proof_calm.specs.Marks.{IsUnmarked}
use Rattle.proof_calm.specs.Quiet.{InQuiet, AtQuiet, DoingQuiet, KnowUnmarked}
use Rattle.proof_calm.proofs.Unmarked.{event_unmarked}
use Rattle.proof_calm.proofs.Quiet.{by_quiet_lines}
use Rattle.proof_calm.proofs.marks.quiet_lines_mark_nothing.Goals as goal

unmarked_walk : Walk AsksNothing KnowUnmarked
unmarked_walk = walk_of AsksNothing (AtQuiet IsUnmarked) (AtQuiet IsUnmarked) (DoingQuiet IsUnmarked) (InQuiet IsUnmarked) (by_quiet_lines IsUnmarked event_unmarked)

pub returns-clause-first : goal.returns-clause-first
unfolding first_outer
returns-clause-first c = λ keys records devices. record { to_chip = refl; to_host = refl; frames = refl; acknowledgements = refl; link = refl; moves = refl }

pub returns-clause-walk : goal.returns-clause-walk
returns-clause-walk c = unmarked_walk

pub returns-clause-lines : goal.returns-clause-lines
returns-clause-lines c = λ m lines are whole quiet unmarked. (lines_lead AsksNothing KnowUnmarked unmarked_walk [] m lines are whole (λ said. unmarked)).1 quiet
