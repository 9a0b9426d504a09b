use Rattle.std.proofs.Common.{◌≡◌, ◌++◌, map, take}
use Rattle.run_tools.specs.Events.{entry_line}
use Rattle.run_tools.proofs.event_machine.add_entries.Given as goal

abbrev pub invariant-loop-entry : goal.invariant-loop-entry
invariant-loop-entry l = l.out.items ≡ l.fn.out.items ++ map entry_line (take l.entry-index l.entries)
