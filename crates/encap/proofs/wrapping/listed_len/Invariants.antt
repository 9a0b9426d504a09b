use Rattle.std.proofs.Common.{◌≡◌, ◌≤◌, ◌*◌, length, take}
use Rattle.encap.specs.Wraps.{listed}
use Rattle.encap.proofs.wrapping.listed_len.Given as goal

-- that of the first commands
abbrev pub invariant-loop-command : goal.invariant-loop-command
invariant-loop-command l = (l.len ≡ length (listed (take l.command-index l.commands))) × (l.len ≤ 256 * l.command-index)
