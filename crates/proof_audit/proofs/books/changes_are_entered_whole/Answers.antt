use Rattle.std.proofs.Common.{[]}
use Rattle.proof_headline.proofs.ShownChanges.{adds_by}
use Rattle.proof_audit.proofs.ChangesWalk.{lines-so}
use Rattle.proof_audit.proofs.WholeChanges.{no-pieces}
use Rattle.proof_audit.proofs.books.changes_are_entered_whole.Goals as goal

pub returns : goal.returns
returns c = λ m lines done.
    lines-so (adds_by c.when_changes_come.ensures.heard c.when_changes_come.ensures.ticked c.when_changes_come.ensures.woken c.when_changes_come.ensures.by_hand) [] m lines done
    (no-pieces m.outside.devices)
