use Rattle.std.proofs.Common.{◌↔◌, drop}
use Rattle.encap.specs.Wraps.{AllCommands}
use Rattle.encap.proofs.wrappable.are_commands.Given as goal

-- those that are left decide
abbrev pub invariant-loop-command : goal.invariant-loop-command
invariant-loop-command l = AllCommands l.within l.commands ↔ AllCommands l.within (drop l.command-index l.commands)
