use Rattle.proof_commands.proofs.Replaying.{lines_keep}
use Rattle.proof_commands.proofs.replay.whole_lines_keep_facts.Goals as goal

pub returns : goal.returns
returns c = lines_keep c.events_keep_facts.ensures.each c.asides_keep_facts.ensures
