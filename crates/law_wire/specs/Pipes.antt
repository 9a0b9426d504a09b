-- Which units find no room in their pipe (this project's own rule: a pipe holds 4,096 bytes each way, and a unit without room is lost whole).
-- A data frame is in the pipe until the other side has answered it; an answer, of one byte, until the other side has gone on.
use Rattle.std.specs.Prelude.{◌≡◌, ℕ, ◌+◌, ◌-◌, ◌==◌, ◌&&◌, ◌||◌, not, nat_le, Bool, true, false, if◌then◌else◌, List, [], ◌∷◌, ◌++◌, drop, length, take}
use Rattle.std.specs.List.{flat_map, list_all, list_any}
use Rattle.zw_words.specs.declared.side.Side.{Side}
use Rattle.zw_words.specs.declared.side.Side.TheVariants.{Host, Chip}
use Rattle.zw_text.specs.declared.entry.Entry.{Entry}
use Rattle.zw_text.specs.declared.entry.Entry.TheVariants.{Said, Written, Dropped, Garbled, Overrun, Time}
use Rattle.zw_text.specs.Transcript.{line_of, same_side}
use Rattle.law_transcript.specs.Lists.{EachAfter}
use Rattle.law_transcript.specs.Restarts.{is_restart, begins_refused}

abbrev pub pipe_places : ℕ
pipe_places = 4096

-- the pipe of a side: the lengths of its data frames that were not answered, oldest first; how many answers it has given since the other side
-- went on; how many before this line or tick, which may still be there where 64 passes did not empty it; and whether it has written in this one
pub record Pipe : Type 0 where
  pub frames : List ℕ
  pub answers : ℕ
  pub older : ℕ
  pub has_written : Bool

abbrev pub empty_pipe : Pipe
empty_pipe = record { frames = []; answers = 0; older = 0; has_written = false }

-- a unit goes into it; it is lost after all
abbrev pub with_unit : ℕ → Pipe → Pipe
with_unit count pipe =
    if count == 1 then record pipe { answers = pipe.answers + 1; has_written = true } else record pipe { frames = pipe.frames ++ count ∷ []; has_written = true }

-- the other side writes: an answer takes a frame away, and what it has gone on after is gone
abbrev pub with_answer : ℕ → Pipe → Pipe
with_answer count pipe = if count == 1 then record pipe { frames = drop 1 pipe.frames } else pipe

abbrev pub gone_on : Pipe → Pipe
gone_on pipe = if pipe.has_written then record pipe { answers = 0; older = 0 } else pipe

-- a line or tick begins: the host has taken all that the chip answered, and the chip may not have
abbrev pub with_turn : Side → Pipe → Pipe
with_turn Host pipe = record pipe { answers = 0; older = pipe.older + pipe.answers; has_written = false }
with_turn Chip pipe = record pipe { answers = 0; has_written = false }

-- whether the unit just written was lost, whole or changed
abbrev pub is_lost : Side → List Entry → Bool
is_lost side (Dropped on ∷ rest) = same_side side on
is_lost side (Overrun on ∷ rest) = same_side side on
is_lost side (Garbled on unit ∷ Overrun of ∷ rest) = same_side side of
is_lost side _ = false

-- one entry, with those after it
abbrev pub pipe_by_unit : Side → Side → ℕ → Bool → Pipe → Pipe
pipe_by_unit side on count lost pipe =
    if same_side side on then (if lost then pipe else with_unit count pipe) else with_answer count (gone_on pipe)

abbrev pub pipe_step : Side → Pipe → Entry → List Entry → Pipe
pipe_step side pipe (Written on unit) rest = pipe_by_unit side on (length unit) (is_lost side rest) pipe
pipe_step side pipe (Said words) rest = if is_restart (line_of (Said words)) && not (begins_refused rest) then empty_pipe else with_turn side pipe
pipe_step side pipe (Time tick) rest = with_turn side pipe
pipe_step side pipe entry rest = pipe

abbrev pub pipe_from : Side → Pipe → List Entry → Pipe
pipe_from side pipe [] = pipe
pipe_from side pipe (entry ∷ rest) = pipe_from side (pipe_step side pipe entry rest) rest

-- the bytes that are surely there, and those that may be
abbrev pub sum_of : List ℕ → ℕ
sum_of [] = 0
sum_of (count ∷ counts) = count + sum_of counts

abbrev pub bytes_surely : Side → List Entry → ℕ
bytes_surely side past = let pipe : Pipe = pipe_from side empty_pipe past in sum_of pipe.frames + pipe.answers

abbrev pub bytes_perhaps : Side → List Entry → ℕ
bytes_perhaps side past = let pipe : Pipe = pipe_from side empty_pipe past in sum_of pipe.frames + pipe.answers + pipe.older

-- ---- the law

-- a unit that has just been written, as it goes into its pipe, and what stands before it
pub record Unit_last : Type 0 where
  pub side : Side
  pub count : ℕ
  pub before : List Entry

abbrev pub unit_by : List Entry → Entry → List Unit_last
unit_by past (Written side unit) = record { side = side; count = length unit; before = take (length past - 1) past } ∷ []
unit_by past (Garbled side unit) = record { side = side; count = length unit; before = take (length past - 2) past } ∷ []
unit_by past _ = []

abbrev pub unit_last : List Entry → List Unit_last
unit_last past = flat_map (unit_by past) (drop (length past - 1) past)

-- whether the entry says that it was lost or changed by a mark
abbrev pub is_marked : Entry → Bool
is_marked (Dropped side) = true
is_marked (Garbled side unit) = true
is_marked _ = false

-- it may have no room, or have room
abbrev pub may_lack : Side → Unit_last → Bool
may_lack side unit = same_side side unit.side && not (nat_le (bytes_perhaps unit.side unit.before + unit.count) pipe_places)

abbrev pub may_fit : Unit_last → Bool
may_fit unit = nat_le (bytes_surely unit.side unit.before + unit.count) pipe_places

-- a unit is overrun where it has no room, after its mark if it has one, and nowhere else
abbrev pub may_overrun : List Entry → Entry → Bool
may_overrun past (Overrun side) = list_any (may_lack side) (unit_last past)
may_overrun past entry = is_marked entry || list_all may_fit (unit_last past)

abbrev pub OverrunsWhenFull : List Entry → Type 0
OverrunsWhenFull transcript = EachAfter (λ past entry. may_overrun past entry ≡ true) [] transcript
