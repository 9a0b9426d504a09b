-- Lines that were all run whole (this project's own).
use Rattle.std.specs.Prelude.{List, [], ◌∷◌}
use Rattle.world_model.specs.State.{Machine}
use Rattle.world_model.specs.Lines.{IsLine}
use Rattle.world_lines.specs.Spoken.{Spoken, after}

-- the events of each are all of its schedule
abbrev pub AreWhole : Machine → List Spoken → Type 0
AreWhole m [] = Unit {0}
AreWhole m (spoken ∷ more) = IsLine spoken.line m spoken.events × AreWhole (after m spoken) more
