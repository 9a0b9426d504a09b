use Rattle.std.proofs.Common.{◌≡◌, ◌++◌, map, take}
use Rattle.host_model.specs.Listing.{value_entry}
use Rattle.host_core.proofs.listing.list_all.Given as goal

abbrev pub invariant-loop-one : goal.invariant-loop-one
invariant-loop-one l = l.out.items ≡ l.fn.out.items ++ map (value_entry l.fn.node) (take l.one-index l.held.items)
