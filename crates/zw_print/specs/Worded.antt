-- Which entries are made of words alone.
use Rattle.std.specs.Prelude.{Bool, true, false}
use Rattle.zw_text.specs.declared.entry.Entry.{Entry}
use Rattle.zw_text.specs.declared.entry.Entry.TheVariants.{Said, Json}

-- whether an entry has no bytes as they came: a line and stored values stand in theirs
abbrev pub is_worded : Entry → Bool
is_worded (Said words) = false
is_worded (Json text) = false
is_worded _ = true
