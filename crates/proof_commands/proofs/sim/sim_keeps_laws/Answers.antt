-- The story, the table, and that all is in order.
use Rattle.proof_commands.proofs.sim.sim_keeps_laws.Goals as goal

pub returns : goal.returns
returns c = λ ended key old new. record {
  story = c.runs_have_stories.ensures ended key old new;
  table = c.runs_end_with_tables.ensures ended key old new;
  audited = c.runs_are_in_order.ensures ended key old new;
}
