-- What is known of time at each phase of a host alone (this project's own rule): its clock is that of the transcript, and the ticks that have begun and are to come are those that
-- lines have asked for.
use Rattle.std.specs.Prelude.{◌≡◌, ◌⊎◌, ◌≤◌, ◌<◌, ◌+◌, true, false, List}
use Rattle.zw_text.specs.declared.entry.Entry.{Entry}
use Rattle.zw_text.specs.Transcript.{folded, lines_run, time_of}
use Rattle.law_host.specs.law_transcript.Restarts.{ticks_asked}
use Rattle.law_host.specs.law_time.Moments.{Passing, passing_step}
use Rattle.proof_alone.specs.State.{HostMachine}
use Rattle.proof_alone.specs.Runs.{Knowledge}

-- the ticks of the lines before the last one, and those that the last one asks for
abbrev pub passing : List Entry → Passing
passing past = folded passing_step (record { before = 0; asked = 0 }) past

-- no number is to be entered: the number of the tick stands, or the line has begun since the last tick
pub record TieClock (past : List Entry) (m : HostMachine) : Type 0 where
  pub asked : m.clock + m.left ≡ ticks_asked (lines_run past)
  pub all : (passing past).before + (passing past).asked ≡ ticks_asked (lines_run past)
  pub begun : (passing past).before ≤ m.clock
  pub shown : time_of past ≤ m.clock
  pub later : m.awaits ≡ true → time_of past < m.clock
  pub now : m.awaits ≡ false → (m.clock ≡ (passing past).before) ⊎ (m.clock ≡ time_of past)

abbrev pub KnowsClock : Knowledge
KnowsClock here past m = TieClock past m
