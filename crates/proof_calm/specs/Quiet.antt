-- Quiet lines: those of a stretch, and what is known of the machine while no other was said (this project's own rule).
use Rattle.std.specs.Prelude.{◌≡◌, true, List}
use Rattle.std.specs.List.{list_all, AllByRecursion}
use Rattle.zw_text.specs.declared.line.Line.{Line}
use Rattle.zw_text.specs.declared.entry.Entry.{Entry}
use Rattle.zw_text.specs.Transcript.{lines_run}
use Rattle.law_time.specs.Stretches.{is_quiet_line}
use Rattle.world_model.specs.State.{Machine}
use Rattle.world_model.specs.Events.{Event}
use Rattle.proof_work.specs.proof_walk.Phases.{Phase}
use Rattle.proof_work.specs.proof_walk.Outside.{CoversOuter}
use Rattle.proof_work.specs.proof_walk.ByLine.{KnownOf, by_line}
use Rattle.proof_calm.specs.Marks.{IsQuietEvent, IsUnmarked}

-- no other line was said
abbrev pub AreQuiet : List Entry → Type 0
AreQuiet past = list_all is_quiet_line (lines_run past) ≡ true

-- then this is so of the machine: between lines, as the words of one stand and it has begun, and with these events of it to come
abbrev pub InQuiet : (Machine → Type 0) → KnownOf
InQuiet Known past m = AreQuiet past → Known m

abbrev pub AtQuiet : (Machine → Type 0) → Line → KnownOf
AtQuiet Known line past m = AreQuiet past → (is_quiet_line line ≡ true) × Known m

abbrev pub DoingQuiet : (Machine → Type 0) → Line → List Event → KnownOf
DoingQuiet Known line left past m = AreQuiet past → AllByRecursion (CoversOuter IsQuietEvent) left × Known m

-- at each phase of a line
abbrev pub KnowUnmarked : Phase → List Entry → Machine → Type 0
KnowUnmarked = by_line (AtQuiet IsUnmarked) (AtQuiet IsUnmarked) (DoingQuiet IsUnmarked) (InQuiet IsUnmarked)
