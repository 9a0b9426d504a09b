use Rattle.std.proofs.Common.{◌≡◌, drop}
use Rattle.unit_report.specs.Named.{first_fault}
use Rattle.unit_report.proofs.payload.first_fault.Given as goal

-- what is wrong first is wrong first in what is to be read
abbrev pub invariant-loop-command : goal.invariant-loop-command
invariant-loop-command l = first_fault l.commands ≡ first_fault (drop l.command-index l.commands)
