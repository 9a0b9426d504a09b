-- Entries that are read back as they were written: their numbers are in their ranges, and each is one line (this project's own rule).
use Rattle.std.specs.Prelude.{◌≡◌, ℕ, List}
use Rattle.std.specs.List.{AllByRecursion}
use Rattle.zw_text.specs.Fits.{EntryFits, IsOneLine, feeds}
use Rattle.zw_text.specs.declared.entry.Entry.{Entry}
use Rattle.zw_text.specs.declared.entry.Entry.TheVariants.{Json, Said}
use Rattle.zw_parse.specs.Said.{IsEntry, SaysLine}
use Rattle.world_lines.specs.Spoken.{Spoken}

-- the entry has a line in a transcript, and its text has no line feed
pub record IsLegible (entry : Entry) : Type 0 where
  pub is : IsEntry entry
  pub one_line : IsOneLine entry

abbrev pub AreLegible : List Entry → Type 0
AreLegible entries = AllByRecursion IsLegible entries

-- each number of the entries is in its range
abbrev pub AreInRange : List Entry → Type 0
AreInRange entries = AllByRecursion EntryFits entries

-- words of a line, which have no line feed
pub record AreOfLine (words : List ℕ) : Type 0 where
  pub says : SaysLine words
  pub one_line : feeds words ≡ 0

abbrev pub SaysWords : Spoken → Type 0
SaysWords spoken = AreOfLine spoken.words

-- what an entry shows as a text, if it does, is words of a line, or values that have no line feed
abbrev pub ShowsText : Entry → Type 0
ShowsText (Said words) = AreOfLine words
ShowsText (Json text) = feeds text ≡ 0
ShowsText _ = Unit {0}

abbrev pub ShowTexts : List Entry → Type 0
ShowTexts entries = AllByRecursion ShowsText entries
