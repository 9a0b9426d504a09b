-- A story is made of the steps of the run.
use Rattle.proof_commands.proofs.Stepping.{has_story}
use Rattle.proof_commands.proofs.port.runs_have_stories.Goals as goal

pub returns : goal.returns
returns c = has_story
