-- Laws that judge each entry by those before it, the clock, and how long ago something was (ticks of 100 ms; this project's own
-- rule).
use Rattle.std.specs.Prelude.{◌≡◌, ℕ, ◌+◌, ◌-◌, nat_lt, Bool, true, if◌then◌else◌, List, []}
use Rattle.zw_text.specs.declared.entry.Entry.{Entry}
use Rattle.zw_text.specs.declared.entry.Entry.TheVariants.{Said, Time}
use Rattle.zw_text.specs.Transcript.{folded, line_of, lines_run, time_of}
use Rattle.law_wire.specs.law_transcript.Lists.{EachAfter}
use Rattle.law_wire.specs.law_transcript.Restarts.{ticks_asked}

-- an entry may stand after these
abbrev pub Allows : (List Entry → Entry → Bool) → List Entry → Entry → Type 0
Allows may past entry = may past entry ≡ true

-- after what stood before, every entry may stand after those before it
abbrev pub KeepsAfter : List Entry → (List Entry → Entry → Bool) → List Entry → Type 0
KeepsAfter before may transcript = EachAfter (Allows may) before transcript

-- every entry of a transcript may
abbrev pub Keeps : (List Entry → Entry → Bool) → List Entry → Type 0
Keeps may transcript = KeepsAfter [] may transcript

-- the ticks of the lines before the last one, and those that the last one asks for
pub record Passing : Type 0 where
  pub before : ℕ
  pub asked : ℕ

abbrev pub passing_step : Passing → Entry → Passing
passing_step passing (Said words) = record { before = passing.before + passing.asked; asked = ticks_asked (line_of (Said words)) }
passing_step passing entry = passing

-- the later of two times
abbrev pub later_of : ℕ → ℕ → ℕ
later_of first second = if nat_lt first second then second else first

-- the clock after the last of these entries
abbrev pub clock : List Entry → ℕ
clock past = later_of (folded passing_step (record { before = 0; asked = 0 }) past).before (time_of past)

-- the clock at the end of what stands before an entry: a line begins after all ticks that were asked for, and a tick after the one before
abbrev pub now_at : List Entry → Entry → ℕ
now_at past (Said words) = ticks_asked (lines_run past)
now_at past (Time tick) = tick - 1
now_at past entry = clock past
