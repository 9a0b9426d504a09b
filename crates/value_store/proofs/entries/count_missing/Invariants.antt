use Rattle.std.proofs.Common.{◌≡◌, ◌+◌, ◌≤◌, ◌++◌, length}
use Rattle.std.specs.Set.{distinct_count}
use Rattle.zw_base.specs.PropertyOrder.{same_property}
use Rattle.value_store.specs.Entries.{properties_among}
use Rattle.value_store.proofs.entries.count_missing.Given as goal

-- what is counted and what is left are all
abbrev pub invariant-loop-property : goal.invariant-loop-property
invariant-loop-property l =
    let kept = properties_among l.entries l.node in
    record {
      counted : l.missing + distinct_count same_property (l.rest ++ kept) ≡ distinct_count same_property (l.properties ++ kept);
      bound : l.missing + length l.rest ≤ length l.properties;
    }

abbrev pub decreases-loop-property : goal.decreases-loop-property
decreases-loop-property l = length l.rest
