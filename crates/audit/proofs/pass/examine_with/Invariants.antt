use Rattle.std.proofs.Common.{◌≡◌, ◌+◌, List, [], length}
use Rattle.zw_text.specs.declared.entry.Entry.{Entry}
use Rattle.audit.specs.Breaking.{Keeps}
use Rattle.audit.specs.Keeping.{IsKeptOf}
use Rattle.audit.proofs.pass.examine_with.Given as goal

-- what was read so far breaks no rule, and what is kept is of it
abbrev pub invariant-lines : goal.invariant-lines
invariant-lines l = (entries : List Entry) × Keeps [] l.text entries l.left × IsKeptOf l.ledger entries × (l.line ≡ length entries + 1)

abbrev pub decreases-lines : goal.decreases-lines
decreases-lines l = length l.left
