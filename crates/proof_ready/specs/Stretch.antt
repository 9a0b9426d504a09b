-- A stretch for nodes at work that begins where all is still (this project's own rule): what is assumed of it by its text.
use Rattle.std.specs.Prelude.{◌≡◌, ◌++◌, Bool, ℕ, List, Some, []}
use Rattle.std.specs.List.{AllByRecursion}
use Rattle.s0_crypto.specs.declared.key_pair.Keys.{Keys}
use Rattle.s0_crypto.specs.Sealing.{keys_of}
use Rattle.zw_text.specs.declared.entry.Entry.{Entry}
use Rattle.law_wire.specs.law_transcript.Headline.{IsAsMade}
use Rattle.law_wire.specs.law_transcript.Nodes.{always, listing_of}
use Rattle.law_time.specs.Calm.{IsStill}
use Rattle.law_time.specs.Stretches.{IsStretch, workers}
use Rattle.proof_rests.specs.proof_attempts.proof_host.device_sim.State.{State}
use Rattle.proof_rests.specs.proof_attempts.world_model.State.{Machine, first_machine}
use Rattle.proof_rests.specs.world_lines.Spoken.{Spoken, after_all, transcript_of}
use Rattle.proof_rests.specs.world_lines.Done.{AreDone}
use Rattle.proof_rests.specs.world_lines.Whole.{AreWhole}
use Rattle.proof_ready.specs.Ease.{clock_of}
use Rattle.proof_ready.specs.Ready.{AreFit, marks_of}

-- the first machine; that after lines, and their entries; those of more lines behind them; and the nodes at work in these
abbrev pub first_of : Keys → List State → Machine
first_of keys devices = first_machine keys (Some []) devices

abbrev pub moment : Keys → List State → List Spoken → Machine
moment keys devices before = after_all (first_of keys devices) before

abbrev pub told_before : Keys → List State → List Spoken → List Entry
told_before keys devices before = transcript_of (first_of keys devices) before

abbrev pub told_in : Keys → List State → List Spoken → List Spoken → List Entry
told_in keys devices before lines = transcript_of (moment keys devices before) lines

abbrev pub at_work : Keys → List State → List Spoken → List Spoken → List Bool
at_work keys devices before lines = marks_of (workers (told_before keys devices before) (told_in keys devices before lines))

-- All lines were run whole, and the devices are as their makers left them. All is still as the stretch begins; it is one by the law, and its nodes at work
-- are plain listeners, or one that sleeps, or one of any kind. The keys are those of the network.
pub record IsStretchByText (key : List ℕ) (keys : Keys) (devices : List State) (before lines : List Spoken) : Type 0 where
  pub keys_are : keys ≡ keys_of key
  pub done : AreDone (first_of keys devices) (before ++ lines)
  pub whole : AreWhole (first_of keys devices) (before ++ lines)
  pub made : AllByRecursion (IsAsMade key) devices
  pub still : IsStill (always (listing_of (moment keys devices before).outside.devices)) (moment keys devices before).outside.devices (told_before keys devices before)
      (clock_of (told_before keys devices before))
  pub stretch : IsStretch key (moment keys devices before).outside.devices (told_before keys devices before) (told_in keys devices before lines)
  pub are_fit : AreFit (moment keys devices before).outside.devices (told_before keys devices before) (told_in keys devices before lines)
