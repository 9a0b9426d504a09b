use Rattle.std.proofs.Common.{◌≡◌, map, take}
use Rattle.serde_json.specs.View.{view}
use Rattle.host_keep.specs.RecordText.{number_data}
use Rattle.host_keep.proofs.writing.row_value.Given as goal

abbrev pub invariant-loop-number : goal.invariant-loop-number
invariant-loop-number l = map view l.values.items ≡ map number_data (take l.number-index l.numbers)
