-- What is proved of lines of the machine is so of stories: over a new keeper.
use Rattle.run_all.specs.host_core.Network.{keys_of}
use Rattle.world_lines.specs.Spoken.{transcript_of}
use Rattle.proof_answers.specs.Answered.{AnswersByLink}
use Rattle.proof_commands.specs.Laws.{AreSchedules, first}
use Rattle.proof_commands.proofs.Speaking.{all_said}
use Rattle.proof_commands.proofs.Told.{fresh}
use Rattle.proof_commands.proofs.AsSaid.{as_run, of_new}
use Rattle.proof_commands.proofs.laws.stories_air_what_is_taken.Goals as goal

pub returns : goal.returns
returns c = λ key old new story unentered is tells whole all.
    of_new c.lines_are_read_as_said.ensures key old new story unentered is tells (AnswersByLink whole old.devices)
    (λ done runs. as_run (λ full. AnswersByLink full old.devices) (transcript_of (fresh key old) (all_said story)) (AreSchedules (first key old) story)
    (c.chips_answer_in_order.ensures.cut (keys_of key) old.devices (all_said story) done)
    (λ schedules. c.chips_answer_in_order.ensures.whole (keys_of key) old.devices (all_said story) done (runs schedules)) whole all)
