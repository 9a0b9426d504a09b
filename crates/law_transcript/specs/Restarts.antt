-- Restarts of the host, and the clock, by the transcript so far (this project's own rule).
use Rattle.std.specs.Prelude.{ℕ, ◌+◌, Bool, true, false, not, ◌&&◌, if◌then◌else◌, List, [], ◌∷◌, ◌++◌}
use Rattle.zw_text.specs.declared.line.Line.{Line}
use Rattle.zw_text.specs.declared.line.Line.TheVariants.{Tick, Repeat as RepeatLine, Restart as RestartLine}
use Rattle.zw_text.specs.declared.entry.Entry.{Entry}
use Rattle.zw_text.specs.declared.entry.Entry.TheVariants.{Refused}
use Rattle.zw_text.specs.Transcript.{line_of, line_last}

-- whether the entries begin with a refusal
abbrev pub begins_refused : List Entry → Bool
begins_refused (Refused refusal ∷ rest) = true
begins_refused _ = false

-- whether the line is `restart`
abbrev pub is_restart : List Line → Bool
is_restart (RestartLine ∷ lines) = true
is_restart _ = false

-- the entries since the last restart that was not refused, and all where there was none
abbrev pub since_restart_from : List Entry → List Entry → List Entry
since_restart_from past [] = past
since_restart_from past (entry ∷ rest) =
    since_restart_from (if is_restart (line_of entry) && not (begins_refused rest) then [] else past ++ entry ∷ []) rest

abbrev pub since_restart : List Entry → List Entry
since_restart transcript = since_restart_from [] transcript

-- the ticks that a line asks for
abbrev pub ticks_of : Line → ℕ
ticks_of (Tick count) = count
ticks_of _ = 0

-- the ticks that lines ask for
abbrev pub ticks_asked : List Line → ℕ
ticks_asked [] = 0
ticks_asked (line ∷ lines) = ticks_of line + ticks_asked lines

-- whether the line is `repeat`
abbrev pub is_repeat : List Line → Bool
is_repeat (RepeatLine frame ∷ lines) = true
is_repeat _ = false

-- whether what stands next answers a `repeat` line
abbrev pub repeats : List Entry → Bool
repeats past = is_repeat (line_last past)
