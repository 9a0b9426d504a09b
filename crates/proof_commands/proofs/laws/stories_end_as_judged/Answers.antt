-- The lines up to the end of the quiet ones were said.
use Rattle.law_time.specs.Stretches.{EndsAsJudged}
use Rattle.proof_commands.proofs.InTime.{done, answered_so}
use Rattle.proof_commands.proofs.Speaking.{all_said}
use Rattle.proof_commands.proofs.laws.stories_end_as_judged.Goals as goal

pub returns : goal.returns
returns c = λ key old new story unentered is fair before stretch more are schedules.
    let again = c.lines_are_read_as_said.ensures in
    answered_so again key old new story unentered is fair before stretch more are schedules EndsAsJudged
    (c.stretches_end_by_kind.ensures key old.devices (all_said before) (all_said stretch) fair.made
    (done again key old new story unentered is fair before stretch more are schedules))
