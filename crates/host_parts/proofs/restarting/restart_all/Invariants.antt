use Rattle.std.proofs.Common.{◌≡◌, ◌≤◌, length}
use Rattle.host_parts.proofs.Restarted.{so_far}
use Rattle.host_parts.proofs.restarting.restart_all.Given as goal

abbrev pub invariant-loop-number : goal.invariant-loop-number
invariant-loop-number l = (l.nodes ≡ so_far l.fn.nodes l.number) × (1 ≤ l.number) × (length l.fn.nodes ≡ 233)
