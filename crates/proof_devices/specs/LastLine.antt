-- Lines with further events of the last one (this project's own rule): what was done and not entered.
use Rattle.std.specs.Prelude.{List, [], ◌∷◌, ◌++◌}
use Rattle.world_model.specs.Events.{Event}
use Rattle.world_lines.specs.Spoken.{Spoken}

abbrev pub with_last : List Event → List Spoken → List Spoken
with_last more [] = []
with_last more (line ∷ []) = record { words = line.words; line = line.line; events = line.events ++ more } ∷ []
with_last more (line ∷ (next ∷ lines)) = line ∷ with_last more (next ∷ lines)
