-- That a repeat is heard where it is asked for, over the history of the air that the transcript shows (this project's own rule), and what is known of it at each phase of a line.
use Rattle.std.specs.Prelude.{◌≡◌, ◌≢◌, ◌⊎◌, ℕ, true, None, List, ◌∷◌, is_some}
use Rattle.std.specs.List.{AllByRecursion}
use Rattle.air_frames.specs.History.{refusal_in}
use Rattle.device_sim.specs.State.{State}
use Rattle.mesh_sim.specs.Fates.{listener_of}
use Rattle.zw_text.specs.declared.line.Line.{Line}
use Rattle.zw_text.specs.declared.line.Line.TheVariants as lines
use Rattle.zw_text.specs.declared.entry.Entry.{Entry}
use Rattle.zw_text.specs.declared.entry.Entry.TheVariants.{Heard}
use Rattle.zw_text.specs.Transcript.{line_last}
use Rattle.law_transcript.specs.Answers.{before_last}
use Rattle.law_transcript.specs.Nodes.{controller, device_of}
use Rattle.law_wire.specs.Arriving.{hears_again, is_awake}
use Rattle.world_model.specs.State.{Machine}
use Rattle.world_model.specs.Events.{Event}
use Rattle.world_model.specs.Lines.{IsEffect}
use Rattle.proof_air.specs.proof_walk.Phases.{Phase, Said_line, Begun, Doing}
use Rattle.proof_air.specs.proof_walk.Time.{KnowTime}
use Rattle.proof_air.specs.proof_walk.Walk.{both_know}
use Rattle.proof_air.specs.Hearing.{KnowAir}
use Rattle.proof_air.specs.Logs.{log_of, IsApart}
use Rattle.proof_devices.specs.Living.{Acts, KnowDevices}

-- directly after a line that repeats a frame, fresh by the history before the line, it is heard where somebody is there to hear it
abbrev pub MayAnswer : List State → List Entry → Entry → Type 0
MayAnswer devices past e =
    (number : ℕ) (more : List Line) → line_last past ≡ lines.Repeat number ∷ more →
    AllByRecursion IsApart (log_of (before_last past))
    × (refusal_in (log_of (before_last past)) number ≡ None → hears_again devices past number ≡ true → e ≡ Heard number)

-- whatever stands next may
abbrev pub Answered : List State → List Entry → Type 0
Answered devices past = (e : Entry) → MayAnswer devices past e

-- the effect of a line is still to come, where it repeats a frame
abbrev pub IsAwaited : Phase → Machine → Type 0
IsAwaited (Said_line line) m = Unit {0}
IsAwaited (Begun line) m = Unit {0}
IsAwaited (Doing (lines.Repeat number) (first ∷ left)) m = IsEffect (lines.Repeat number) m (first ∷ left)
IsAwaited here m = ⊥

-- at each phase of a line
abbrev pub KnowAnswers : List State → Phase → List Entry → Machine → Type 0
KnowAnswers devices here past m = IsAwaited here m ⊎ Answered devices past

-- where it is known of the history of the air, of time and of the devices
abbrev pub Ground : List State → Phase → List Entry → Machine → Type 0
Ground devices = both_know (both_know KnowAir KnowTime) (KnowDevices devices)

-- who listens where a frame is to be repeated is who does by the transcript (`devices_listen_as_shown` of proof_devices)
abbrev pub Listens : List State → Type 0
Listens devices =
    (past : List Entry) (m : Machine) (frame : ℕ) (left : List Event) (node : ℕ) → node ≢ controller →
    KnowTime (Doing (lines.Repeat frame) left) past m → Acts devices (lines.Repeat frame) left past m →
    is_some (listener_of node m.outside.devices) ≡ is_awake past (device_of node devices)
