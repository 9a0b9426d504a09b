use Rattle.std.proofs.Common.{◌≡◌, ℕ, List, ◌++◌, length}
use Rattle.encap.specs.Wraps.{IsListOf}
use Rattle.encap.proofs.batch.collect.Given as goal

-- the rest is a list of those that are not collected
abbrev pub invariant-loop-command : goal.invariant-loop-command
invariant-loop-command l =
    (commands : List (List ℕ)) → IsListOf commands l.fn.listed
    → (left : List (List ℕ)) × IsListOf left l.rest × (commands ≡ l.commands.items ++ left)

abbrev pub decreases-loop-command : goal.decreases-loop-command
decreases-loop-command l = length l.rest
