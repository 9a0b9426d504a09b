-- The rule of the air: numbers, one fate each in ticks, and further hearings only where a fresh frame is repeated (this
-- project's own rule).
use Rattle.std.specs.Prelude.{ℕ, ◌+◌, ◌==◌, ◌&&◌, ◌||◌, not, nat_le, nat_lt, Bool, false, if◌then◌else◌, List, [], ◌∷◌, length, Option, Some, None, is_none}
use Rattle.std.specs.List.{list_any}
use Rattle.air_frames.specs.Ages.{stale_by}
use Rattle.zw_text.specs.declared.line.Line.{Line}
use Rattle.zw_text.specs.declared.line.Line.TheVariants as lines
use Rattle.zw_text.specs.declared.entry.Entry.{Entry}
use Rattle.zw_text.specs.declared.entry.Entry.TheVariants.{Air, Heard, Lost, Unheard}
use Rattle.zw_text.specs.Transcript.{AirFrame, frames, line_last}
use Rattle.law_transcript.specs.Lists.{shown_after}
use Rattle.law_transcript.specs.Repeats.{frame_of, later_nonces, later_sessions}
use Rattle.audit_rules.specs.Ticks.{runs_ticks}

-- the frame of which something became
abbrev pub fate_of : Entry → List ℕ
fate_of (Heard frame) = frame ∷ []
fate_of (Lost frame) = frame ∷ []
fate_of (Unheard frame) = frame ∷ []
fate_of _ = []

-- the frames of which something became while ticks were run, in order
abbrev pub landed_at : List Entry → Entry → List ℕ
landed_at past entry = if runs_ticks past then fate_of entry else []

abbrev pub landed : List Entry → List ℕ
landed past = shown_after landed_at [] past

abbrev pub has_landed : List Entry → ℕ → Bool
has_landed past frame = list_any (λ other. other == frame) (landed past)

-- whether the frame was sent
abbrev pub is_sent : List Entry → ℕ → Bool
is_sent past frame = nat_lt 0 frame && nat_le frame (length (frames past))

-- whether a frame is fresh: how many frames came after it is not asked
abbrev pub is_fresh : List Entry → Option AirFrame → Bool
is_fresh past None = false
is_fresh past (Some frame) = is_none (stale_by frame.payload (later_sessions past frame) (later_nonces past frame))

-- whether the line asks for the frame once more
abbrev pub asks_for : List Line → ℕ → Bool
asks_for (lines.Repeat asked ∷ more) frame = asked == frame
asks_for _ frame = false

-- whether nothing can become of the frame now: it was not sent, or ticks are run and it has landed
abbrev pub breaks_fate : List Entry → ℕ → Bool
breaks_fate past frame = not (is_sent past frame) || (runs_ticks past && has_landed past frame)

-- whether it can be heard now: ticks are run, or the line directly before asks for it once more and it is fresh
abbrev pub may_hear : List Entry → ℕ → Bool
may_hear past frame = runs_ticks past || (asks_for (line_last past) frame && is_fresh past (frame_of past frame))

-- whether a line breaks the rule
abbrev pub breaks_air : List Entry → Entry → Bool
breaks_air past (Air frame sender receiver repeaters payload) = not (frame == length (frames past) + 1)
breaks_air past (Lost frame) = breaks_fate past frame
breaks_air past (Unheard frame) = breaks_fate past frame
breaks_air past (Heard frame) = breaks_fate past frame || not (may_hear past frame)
breaks_air past _ = false
