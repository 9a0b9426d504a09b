use Rattle.std.proofs.Common.{length}
use Rattle.host_parts.proofs.finishing.+confirm.Given as goal

abbrev pub decreases-confirm : goal.decreases-confirm
decreases-confirm l = length l.confirmed.now
