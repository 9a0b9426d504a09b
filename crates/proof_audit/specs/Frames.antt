-- What the rule of the air takes of a transcript beside the laws (this project's own rule).
use Rattle.std.specs.Prelude.{◌≡◌, List, [], ◌∷◌, ⊤}
use Rattle.std.specs.List.{AllByRecursion}
use Rattle.zw_text.specs.Transcript.{line_of}
use Rattle.zw_text.specs.declared.line.Line.{Line}
use Rattle.zw_text.specs.declared.entry.Entry.{Entry}
use Rattle.zw_text.specs.declared.entry.Entry.TheVariants.{Said}

-- the words of an entry that shows some are those of a line
abbrev pub ShowsLine : Entry → Type 0
ShowsLine (Said words) = (line : Line) × (line_of (Said words) ≡ line ∷ [])
ShowsLine _ = ⊤

abbrev pub ShowLines : List Entry → Type 0
ShowLines entries = AllByRecursion ShowsLine entries
