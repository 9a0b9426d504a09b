-- Transcripts of entries of which each is one line.
use Rattle.std.specs.Prelude.{List}
use Rattle.std.specs.List.{AllByRecursion}
use Rattle.zw_text.specs.Fits.{EntryFits, IsOneLine}
use Rattle.zw_text.specs.declared.entry.Entry.{Entry}

-- an entry whose numbers are in their ranges, and which is one line
abbrev pub IsLine : Entry → Type 0
IsLine entry = EntryFits entry × IsOneLine entry

abbrev pub AreLines : List Entry → Type 0
AreLines entries = AllByRecursion IsLine entries
