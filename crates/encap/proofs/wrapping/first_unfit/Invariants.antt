use Rattle.std.proofs.Common.{◌≡◌, drop}
use Rattle.encap.specs.Written.{first_long}
use Rattle.encap.proofs.wrapping.first_unfit.Given as goal

-- it is among those that are left
abbrev pub invariant-loop-command : goal.invariant-loop-command
invariant-loop-command l = first_long l.commands ≡ first_long (drop l.command-index l.commands)
