use Rattle.std.proofs.Common.{ℕ, List, length, true}
use Rattle.encap.specs.Wraps.{IsListOf, AllCommands}
use Rattle.encap.specs.Faults.{IsFirstFault}
use Rattle.encap.specs.declared.fault.WrapFault.{WrapFault}
use Rattle.encap.proofs.batch.check_commands.Given as goal

-- the rest is a list of those that are left, and they decide
abbrev pub invariant-loop-command : goal.invariant-loop-command
invariant-loop-command l =
    (commands : List (List ℕ)) → IsListOf commands l.fn.listed
    → (left : List (List ℕ)) × IsListOf left l.rest × (AllCommands true left → AllCommands true commands)
    × ((fault : WrapFault) → IsFirstFault true left fault → IsFirstFault true commands fault)

abbrev pub decreases-loop-command : goal.decreases-loop-command
decreases-loop-command l = length l.rest
