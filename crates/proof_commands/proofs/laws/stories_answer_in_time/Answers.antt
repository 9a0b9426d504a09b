-- The lines up to the end of the stretch were said, and run whole.
use Rattle.law_time.specs.Stretches.{AnswersAlone, AnswersAsleep, AnswersTogether}
use Rattle.proof_ready.specs.Each.{AnswersEach}
use Rattle.proof_commands.proofs.InTime.{done, answered_so, whole}
use Rattle.proof_commands.proofs.Speaking.{all_said}
use Rattle.proof_commands.proofs.laws.stories_answer_in_time.Goals as goal

pub returns : goal.returns
returns c = λ key old new story unentered is fair before stretch more are schedules.
    let again = c.lines_are_read_as_said.ensures in
    let were_done = done again key old new story unentered is fair before stretch more are schedules in
    let were_whole = whole again key old new story unentered is fair before stretch more are schedules in (
      answered_so again key old new story unentered is fair before stretch more are schedules (AnswersTogether key)
          (c.stretches_are_answered_in_time.ensures.together key old.devices (all_said before) (all_said stretch) fair.made were_done were_whole),
      answered_so again key old new story unentered is fair before stretch more are schedules (AnswersAsleep key)
          (c.stretches_are_answered_in_time.ensures.asleep key old.devices (all_said before) (all_said stretch) fair.made were_done were_whole),
      answered_so again key old new story unentered is fair before stretch more are schedules (AnswersAlone key)
          (c.stretches_are_answered_in_time.ensures.alone key old.devices (all_said before) (all_said stretch) fair.made were_done were_whole),
      answered_so again key old new story unentered is fair before stretch more are schedules (AnswersEach key)
          (c.stretches_are_answered_in_time.ensures.each key old.devices (all_said before) (all_said stretch) fair.made were_done were_whole),
    )
