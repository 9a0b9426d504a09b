-- Lines as they are said, one after another, with what the machine does at each, and the transcript of them (this project's own).
use Rattle.std.specs.Prelude.{ℕ, List, [], ◌∷◌, ◌++◌}
use Rattle.zw_text.specs.declared.line.Line.{Line}
use Rattle.zw_text.specs.declared.entry.Entry.{Entry}
use Rattle.zw_text.specs.declared.entry.Entry.TheVariants.{Said}
use Rattle.world_model.specs.State.{Machine}
use Rattle.world_model.specs.Events.{Event}
use Rattle.world_model.specs.Did.{happens_all, entries_all}

-- the words that were said, the line that they are, and the events of it
pub record Spoken : Type 0 where
  pub words : List ℕ
  pub line : Line
  pub events : List Event

-- what is entered of it: the words, and then what its events enter
abbrev pub entries_of : Machine → Spoken → List Entry
entries_of m spoken = Said spoken.words ∷ entries_all m spoken.events

abbrev pub after : Machine → Spoken → Machine
after m spoken = happens_all m spoken.events

abbrev pub after_all : Machine → List Spoken → Machine
after_all m [] = m
after_all m (spoken ∷ more) = after_all (after m spoken) more

-- the transcript of them
abbrev pub transcript_of : Machine → List Spoken → List Entry
transcript_of m [] = []
transcript_of m (spoken ∷ more) = entries_of m spoken ++ transcript_of (after m spoken) more
