-- Worlds that lines lead to (this project's own rule, docs/INCLUSION.md).
use Rattle.std.specs.Prelude.{◌≡◌, ℕ, List, [], ◌∷◌, ◌++◌}
use Rattle.include_text.specs.declared.line.IncludeLine.{IncludeLine}
use Rattle.include_text.specs.declared.entry.IncludeEntry.{IncludeEntry}
use Rattle.include_world.specs.World.{WorldState, IncludeEvent, first_world, after_all}
use Rattle.include_world.specs.Line.{IsLine}
use Rattle.include_world.specs.Added.{Reached}

-- events are those of lines in turn
abbrev pub AreLines : List IncludeLine → WorldState → List IncludeEvent → Type 0
AreLines [] old events = events ≡ []
AreLines (line ∷ lines) old events = (first rest : List IncludeEvent) × (events ≡ first ++ rest) × IsLine line old first × AreLines lines (after_all old first) rest

-- lines made this transcript, and this world, from the first one
pub record CameTo (key : List ℕ) (T : List IncludeEntry) (world : WorldState) : Type 0 where
  pub reached : Reached key T world
  pub lines : List IncludeLine
  pub are : AreLines lines (first_world key) reached.events
