-- Each command keeps its own laws, and each story those of stories.
use Rattle.proof_commands.proofs.all.commands_keep_laws.Goals as goal

pub returns : goal.returns
returns c ended words key old new sixteen = record {
  sim = c.sim_keeps_laws.ensures ended key old new;
  restarts = c.restarts_read_records.ensures ended key old new;
  generate = c.generate_keeps_laws.ensures ended key old new;
  stories = c.every_story_keeps_laws.ensures key old new;
  replay = c.replay_keeps_laws.ensures ended key _ _ _ _ _ _;
  include = c.include_keeps_laws.ensures ended key _ _ _ _ sixteen;
  host = c.port_keeps_laws.ensures ended key _ _ _ _;
}
