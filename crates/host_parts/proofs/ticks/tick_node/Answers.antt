use Rattle.std.proofs.Common.{sym}
use Rattle.host_model.specs.State.{HostState}
use Rattle.host_parts.proofs.Ending.{ticked_state}
use Rattle.host_parts.proofs.ticks.tick_node.Goals as goal

pub returns-clause-state : goal.returns-clause-state
returns-clause-state c = λ (h : HostState).
    sym (ticked_state (record h { nodes = c.args.nodes.now; commands = c.args.commands.now.items }) c.args.node c.tick-end.result c.open_command-command.result c.tick-end.new.self c.end_attempt.new.commands.items c.tick-end.ensures.state c.tick-end.ensures.answer (cc) c.end_attempt.ensures.state)
