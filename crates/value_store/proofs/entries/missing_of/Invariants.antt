use Rattle.std.proofs.Common.{◌≡◌, ◌++◌, length, is_some}
use Rattle.std.specs.FinMap.{find}
use Rattle.value_store.specs.Values.{key_cmp, missing_by}
use Rattle.value_store.proofs.entries.missing_of.Given as goal

-- what was found missing and what is of the rest are all
abbrev pub invariant-loop-property : goal.invariant-loop-property
invariant-loop-property l =
    l.missing.items ++ missing_by (λ p. is_some (find key_cmp (l.node, p) l.entries)) l.rest ≡ missing_by (λ p. is_some (find key_cmp (l.node, p) l.entries)) l.properties

abbrev pub decreases-loop-property : goal.decreases-loop-property
decreases-loop-property l = length l.rest
