-- Lines as they are said, whose restarts go on from what was recorded (this project's own).
use Rattle.std.specs.Prelude.{◌≡◌, List, [], ◌∷◌}
use Rattle.zw_text.specs.declared.entry.Entry.TheVariants.{Said}
use Rattle.zw_text.specs.Transcript.{line_of}
use Rattle.proof_once.specs.world_model.State.{Machine}
use Rattle.proof_once.specs.world_model.Did.{MayAll}
use Rattle.proof_once.specs.world_model.Prefixes.{IsLineBefore}
use Rattle.proof_world.specs.world_lines.Spoken.{Spoken, after}
use Rattle.proof_world.specs.Restarts.{AllStartWell}

-- the words are read as the line; its events are those of such a line, all of them where others follow, and may happen; and a host that starts again has what the one before recorded
pub record IsSpoken (more : List Spoken) (m : Machine) (spoken : Spoken) : Type 0 where
  pub read : line_of (Said spoken.words) ≡ spoken.line ∷ []
  pub is_line : IsLineBefore more spoken.line m spoken.events
  pub may : MayAll m spoken.events
  pub well : AllStartWell m spoken.events

-- lines, one after another
abbrev pub AreSpoken : Machine → List Spoken → Type 0
AreSpoken m [] = Unit {0}
AreSpoken m (spoken ∷ more) = IsSpoken more m spoken × AreSpoken (after m spoken) more
