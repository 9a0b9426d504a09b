-- Lines that were done, one after another, with no word of restarts; an allocation failure may have cut the last one short (this project's own).
use Rattle.std.specs.Prelude.{◌≡◌, ℕ, List, [], ◌∷◌, ◌++◌, Ok, Some}
use Rattle.zw_text.specs.Line.{line_at}
use Rattle.zw_text.specs.declared.line.Line.{Line}
use Rattle.zw_text.specs.declared.entry.Entry.TheVariants.{Said}
use Rattle.zw_text.specs.Transcript.{line_of}
use Rattle.world_model.specs.State.{Machine}
use Rattle.world_model.specs.Events.{Event}
use Rattle.world_model.specs.Did.{MayAll}
use Rattle.world_model.specs.Prefixes.{IsLineBefore}
use Rattle.world_lines.specs.Spoken.{Spoken, after}

-- a line that was read from a text
abbrev pub IsRead : Line → Type 0
IsRead line = (text : List ℕ) × (line_at text ≡ Ok (Some line))

-- the words are read as the line, and its events are those of such a line, all of them where others follow, and may happen
pub record IsDone (more : List Spoken) (m : Machine) (spoken : Spoken) : Type 0 where
  pub read : line_of (Said spoken.words) ≡ spoken.line ∷ []
  pub is_line : IsLineBefore more spoken.line m spoken.events
  pub may : MayAll m spoken.events

-- so of lines, one after another, the last of which an allocation failure may have cut short
abbrev pub AreDone : Machine → List Spoken → Type 0
AreDone m [] = Unit {0}
AreDone m (spoken ∷ more) = IsDone more m spoken × AreDone (after m spoken) more

-- all their events, in order
abbrev pub events_of : List Spoken → List Event
events_of [] = []
events_of (spoken ∷ more) = spoken.events ++ events_of more
