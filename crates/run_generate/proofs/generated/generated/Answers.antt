-- Turn after turn.
use Rattle.run_generate.specs.Generate.{first_lines}
use Rattle.run_generate.proofs.Made.{one_more_turn}
use Rattle.run_generate.proofs.generated.generated.Goals as goal

pub loop-turn-preserved : goal.loop-turn-preserved
loop-turn-preserved c = one_more_turn first_lines c.loop-turn.lines.items c.add_command.new.lines.items c.loop-turn.turn c.loop-turn.invariant c.in_ok-add_command.ensures
