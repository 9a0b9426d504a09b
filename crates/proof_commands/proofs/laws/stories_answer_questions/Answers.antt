-- The lines of a story were said, and these laws hold of lines that were said.
use Rattle.run_all.specs.host_core.Network.{keys_of}
use Rattle.law_transcript.specs.Nodes.{always, listing_of}
use Rattle.law_time.specs.Errands.{SaysHowDone}
use Rattle.law_time.specs.Interviews.{EndsInterviews}
use Rattle.law_time.specs.Questions.{AnswersQuestions}
use Rattle.proof_commands.proofs.AsSaid.{of_new}
use Rattle.proof_commands.proofs.Speaking.{all_said}
use Rattle.proof_commands.proofs.laws.stories_answer_questions.Goals as goal

pub returns-clause-questions : goal.returns-clause-questions
returns-clause-questions c = λ key old new story unentered is tells.
    of_new c.lines_are_read_as_said.ensures key old new story unentered is tells AnswersQuestions
    (λ done runs. c.lines_answer_questions.ensures.lines (keys_of key) old.devices (all_said story) done)

pub returns-clause-interviews : goal.returns-clause-interviews
returns-clause-interviews c = λ key old new story unentered is tells.
    of_new c.lines_are_read_as_said.ensures key old new story unentered is tells EndsInterviews
    (λ done runs. c.lines_end_interviews.ensures.lines (keys_of key) old.devices (all_said story) done)

pub returns-clause-done : goal.returns-clause-done
returns-clause-done c = λ key old new story unentered is tells.
    of_new c.lines_are_read_as_said.ensures key old new story unentered is tells (SaysHowDone (always (listing_of old.devices)))
    (λ done runs. c.lines_say_how_done.ensures.lines key old.devices (all_said story) done)
