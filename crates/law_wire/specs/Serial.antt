-- What of a transcript concerns the serial line (this project's own rule): how lines and ticks begin, each tick as one, and the units that are written,
-- with what arrives of each, or finds no room.
use Rattle.std.specs.Prelude.{ℕ, ◌+◌, ◌-◌, Bool, true, false, if◌then◌else◌, List, [], ◌∷◌, ◌++◌, replicate}
use Rattle.zw_words.specs.declared.side.Side.{Side}
use Rattle.zw_text.specs.declared.line.Line.{Line}
use Rattle.zw_text.specs.declared.line.Line.TheVariants as lines
use Rattle.zw_text.specs.declared.entry.Entry.{Entry}
use Rattle.zw_text.specs.declared.entry.Entry.TheVariants.{Said, Written, Garbled, Overrun, Time}
use Rattle.zw_text.specs.Transcript.{line_of, same_side}
use Rattle.law_transcript.specs.Restarts.{begins_refused, ticks_asked}
use Rattle.law_wire.specs.Pipes.{is_lost}

-- a line begins that is no `tick`; a tick begins; or a side writes a unit, of which this arrives, and this finds no room
pub data SerialEvent : Type 0 where
  Line_begins : (line : List Line) → SerialEvent
  Tick_begins : SerialEvent
  Writes : (side : Side) (unit : List ℕ) (arriving lacking : List (List ℕ)) → SerialEvent

-- what arrives of a unit, by the entries directly after it
abbrev pub changed_or_not : Side → List ℕ → List Entry → List ℕ
changed_or_not side unit (Garbled on changed ∷ rest) = if same_side side on then changed else unit
changed_or_not side unit _ = unit

abbrev pub arriving_of : Side → List ℕ → List Entry → List (List ℕ)
arriving_of side unit rest = if is_lost side rest then [] else changed_or_not side unit rest ∷ []

-- and what finds no room, as it then is
abbrev pub is_overrun : Side → List Entry → Bool
is_overrun side (Overrun on ∷ rest) = same_side side on
is_overrun side (Garbled on unit ∷ Overrun of ∷ rest) = same_side side of
is_overrun side _ = false

abbrev pub lacking_of : Side → List ℕ → List Entry → List (List ℕ)
lacking_of side unit rest = if is_overrun side rest then changed_or_not side unit rest ∷ [] else []

-- a line that is refused does nothing, and a `tick` line is its ticks
abbrev pub done_line : List Line → List Entry → List Line
done_line line rest = if begins_refused rest then [] else line

abbrev pub beginning_of : List Line → List SerialEvent
beginning_of (lines.Tick count ∷ more) = []
beginning_of line = Line_begins line ∷ []

-- the ticks after one up to another, also those in which nothing is entered
abbrev pub ticks_up_to : ℕ → ℕ → List SerialEvent
ticks_up_to now tick = replicate (tick - now) Tick_begins

-- from a tick on, where lines have asked for so many
abbrev pub serial_events_from : ℕ → ℕ → List Entry → List SerialEvent
serial_events_from now due [] = []
serial_events_from now due (Said words ∷ rest) =
    ticks_up_to now due ++ beginning_of (done_line (line_of (Said words)) rest) ++ serial_events_from due (due + ticks_asked (line_of (Said words))) rest
serial_events_from now due (Time tick ∷ rest) = ticks_up_to now tick ++ serial_events_from tick due rest
serial_events_from now due (Written side unit ∷ rest) = Writes side unit (arriving_of side unit rest) (lacking_of side unit rest) ∷ serial_events_from now due rest
serial_events_from now due (entry ∷ rest) = serial_events_from now due rest

abbrev pub serial_events : List Entry → List SerialEvent
serial_events transcript = serial_events_from 0 0 transcript

-- at the end of a whole run stands what would stand before a further line
abbrev pub ended : Bool → List Entry → List Entry
ended true transcript = transcript ++ Said [] ∷ []
ended false transcript = transcript
