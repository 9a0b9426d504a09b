use Rattle.std.proofs.Common.{length}
use Rattle.host_step_kept.proofs.reports.+note_confirmed.Given as goal

abbrev pub decreases-note_confirmed : goal.decreases-note_confirmed
decreases-note_confirmed l = length l.confirmed.now
