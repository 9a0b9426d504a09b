-- A story is made of the lines of the run.
use Rattle.proof_commands.proofs.Stories.{has_story}
use Rattle.proof_commands.proofs.sim.runs_have_stories.Goals as goal

pub returns : goal.returns
returns c = has_story
