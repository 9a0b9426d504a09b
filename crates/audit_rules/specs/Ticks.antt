-- Whether ticks are run, by the entries before a line (this project's own rule).
use Rattle.std.specs.Prelude.{Bool, false, List}
use Rattle.zw_text.specs.declared.entry.Entry.{Entry}
use Rattle.zw_text.specs.declared.entry.Entry.TheVariants.{Said}
use Rattle.zw_text.specs.Transcript.{folded}
use Rattle.audit_books.specs.Scenes.{is_tick, line_in}

-- whether ticks are run: the last line that was run is a `tick`
abbrev pub ticks_following : Bool → Entry → Bool
ticks_following before (Said words) = is_tick (line_in words)
ticks_following before _ = before

abbrev pub runs_ticks : List Entry → Bool
runs_ticks past = folded ticks_following false past
