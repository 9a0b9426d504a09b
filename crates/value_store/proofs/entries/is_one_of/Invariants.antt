use Rattle.std.proofs.Common.{◌≡◌, drop}
use Rattle.value_store.specs.Values.{is_among}
use Rattle.value_store.proofs.entries.is_one_of.Given as goal

-- it is among all where it is among what is left
abbrev pub invariant-loop-other : goal.invariant-loop-other
invariant-loop-other l = is_among (drop l.other-index l.properties) l.property ≡ is_among l.properties l.property
