-- When the number of a tick stands (this project's own rule): once, before the first entry of the tick, and nowhere else.
use Rattle.std.specs.Prelude.{◌≡◌, ◌≤◌, ◌<◌, ℕ, ◌-◌, Bool, true, false, List, length, drop, []}
use Rattle.std.specs.List.{list_any}
use Rattle.zw_text.specs.declared.entry.Entry.{Entry}
use Rattle.zw_text.specs.declared.entry.Entry.TheVariants.{Said, Time}
use Rattle.zw_text.specs.Transcript.{lines_run, line_last}
use Rattle.law_transcript.specs.Lists.{EachAfter}
use Rattle.law_transcript.specs.Restarts.{ticks_asked}
use Rattle.law_wire.specs.Asked.{clock_of}

-- whether the last entry is the number of a tick
abbrev pub is_time : Entry → Bool
is_time (Time tick) = true
is_time _ = false

abbrev pub tells_tick : List Entry → Bool
tells_tick past = list_any is_time (drop (length past - 1) past)

-- a tick may begin here: it is one that lines ask for, later than all that began, and the one before has an entry
pub record IsDue (past : List Entry) (tick : ℕ) : Type 0 where
  pub later : clock_of past < tick
  pub asked : tick ≤ ticks_asked (lines_run past)
  pub filled : tells_tick past ≡ false

-- a line does not follow such a number, and no other entry a `tick` line
abbrev pub MayBeTold : List Entry → Entry → Type 0
MayBeTold past (Time tick) = IsDue past tick
MayBeTold past (Said words) = tells_tick past ≡ false
MayBeTold past entry = ticks_asked (line_last past) ≡ 0

abbrev pub TellsTime : List Entry → Type 0
TellsTime transcript = EachAfter MayBeTold [] transcript
