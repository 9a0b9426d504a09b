use Rattle.std.proofs.Common.{◌≡◌, ℕ, List, take, map}
use Rattle.serde_json.specs.View.{view}
use Rattle.host_keep.specs.RecordText.{number_data}
use Rattle.host_keep.proofs.reading.numbers_in.Given as goal

-- of a row of numbers, those so far were found
abbrev pub invariant-loop-item : goal.invariant-loop-item
invariant-loop-item l = (ns : List ℕ) → map view l.item-items ≡ map number_data ns → l.numbers.items ≡ take l.item-index ns
