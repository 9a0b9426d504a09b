-- Whether a host is prompt (this project's own rule): it does what it is asked for as soon as it can, each thing in its turn.
use Rattle.std.specs.Prelude.{Bool, List, []}
use Rattle.zw_text.specs.declared.entry.Entry.{Entry}
use Rattle.law_wire.specs.law_transcript.Lists.{EachAfter}
use Rattle.law_wire.specs.law_transcript.Payloads.{FollowsBegin}
use Rattle.law_wire.specs.Serial.{ended}
use Rattle.law_time.specs.Heeds.{Heeds}
use Rattle.law_time.specs.Moments.{KeepsAfter}
use Rattle.law_time.specs.Queue.{may_queue}
use Rattle.law_time.specs.Choice.{may_follow, may_number, may_send}
use Rattle.law_time.specs.Unanswered.{GivesUp}
use Rattle.law_time.specs.Rests.{RestsAfter}

-- after what stood before, its queue is full where it says so, requests are sent in their turn, one after another, and numbered, a session begins with its
-- message, a command is given up after three attempts, and at a rest nothing is left undone
pub record IsPromptAfter (before : List Entry) (whole : Bool) (heeds : Heeds) (transcript : List Entry) : Type 0 where
  pub fits : KeepsAfter before (may_queue heeds) transcript
  pub turn : KeepsAfter before (may_send heeds) transcript
  pub one_by_one : KeepsAfter before may_follow transcript
  pub numbers : KeepsAfter before may_number transcript
  pub begins : EachAfter FollowsBegin before (ended whole transcript)
  pub gives_up : GivesUp before whole heeds transcript
  pub rests : RestsAfter before whole heeds transcript

-- from its start on
abbrev pub IsPrompt : Bool → Heeds → List Entry → Type 0
IsPrompt whole heeds transcript = IsPromptAfter [] whole heeds transcript
