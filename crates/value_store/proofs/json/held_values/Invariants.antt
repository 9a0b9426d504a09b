use Rattle.std.proofs.Common.{◌≡◌, ◌++◌, map, drop}
use Rattle.serde_json.specs.View.{view}
use Rattle.value_store.specs.ValueText.{held_data}
use Rattle.value_store.proofs.json.held_values.Given as goal

-- what is made and what is left are all
abbrev pub invariant-loop-one : goal.invariant-loop-one
invariant-loop-one l = map view l.values.items ++ map held_data (drop l.one-index l.held) ≡ map held_data l.held
