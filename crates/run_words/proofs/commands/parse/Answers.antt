use Rattle.clap.proofs.WalkLemmas.{both}
use Rattle.run_words.proofs.commands.parse.Goals as goal

pub returns-in-Ok-clause-parses : goal.returns-in-Ok-clause-parses
returns-in-Ok-clause-parses c = (c.in-Ok.ensures.kinds c.requires, (c.in-Ok.ensures.matches (both _ _ c.requires).0).0)
