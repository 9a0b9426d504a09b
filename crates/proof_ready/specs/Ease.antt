-- A machine at ease (this project's own rule): what is so of it where its transcript, with its devices, is calm.
use Rattle.std.specs.Prelude.{◌≡◌, ℕ, ◌+◌, Bool, true, false, List, [], ◌∷◌, length, Some, None}
use Rattle.s0_crypto.specs.declared.key_pair.Keys.{Keys}
use Rattle.serial_link.specs.declared.turn.Turn.TheVariants as turns
use Rattle.air_frames.specs.Frames.{FramesState}
use Rattle.zw_text.specs.declared.entry.Entry.{Entry}
use Rattle.zw_text.specs.Transcript.{lines_run}
use Rattle.proof_rests.specs.proof_attempts.proof_host.device_sim.State.{State}
use Rattle.law_wire.specs.law_transcript.Restarts.{ticks_asked}
use Rattle.law_time.specs.Interviews.{listens}
use Rattle.law_time.specs.Waking.{counts_awake}
use Rattle.proof_rests.specs.proof_requests.host_model.May.{IsFree}
use Rattle.proof_rests.specs.proof_requests.host_model.State.{HostState, node_of}
use Rattle.zw_words.specs.declared.side.Side.TheVariants.{Host}
use Rattle.law_wire.specs.Links.{arrival_of}
use Rattle.law_wire.specs.Serial.{SerialEvent}
use Rattle.law_wire.specs.Serial.SerialEvent.{Writes}
use Rattle.law_wire.specs.Reach.{CanBeReached}
use Rattle.law_wire.specs.law_transcript.Nodes.{is_joined}
use Rattle.proof_chip.specs.proof_world.world_lines.chip_sim.Nodes.{is_marked}
use Rattle.proof_chip.specs.proof_world.world_lines.chip_sim.Rules.{WaitsWell}
use Rattle.proof_chip.specs.proof_line.outside_model.State.{OuterState}
use Rattle.proof_chip.specs.proof_world.proof_serial.Chip.{HasFrames}
use Rattle.proof_chip.specs.proof_world.proof_serial.Line.{AreAtRest}
use Rattle.proof_rests.specs.proof_attempts.world_model.State.{Machine, first_machine}
use Rattle.proof_rests.specs.world_lines.Spoken.{Spoken, after_all, transcript_of}
use Rattle.proof_rests.specs.world_lines.Done.{AreDone}
use Rattle.proof_rests.specs.world_lines.Whole.{AreWhole}
use Rattle.proof_in_time.specs.proof_answered.proof_calm.Known.{IsBlank}
use Rattle.proof_in_time.specs.proof_answered.proof_calm.proof_traffic.OnAir.{on_air}
use Rattle.proof_in_time.specs.proof_answered.proof_calm.proof_work.Rests.{Rests}

-- the clock after lines that were run whole
abbrev pub clock_of : List Entry → ℕ
clock_of past = ticks_asked (lines_run past)

-- of the devices at first, the transcript and the machine after any lines from the first machine on that were all run whole, over a keeper that tells its records
-- and has none at first
abbrev pub AfterLines : (List State → List Entry → Machine → Type 0) → Type 0
AfterLines So =
    (keys : Keys) (devices : List State) (lines : List Spoken) → AreDone (first_machine keys (Some []) devices) lines → AreWhole (first_machine keys (Some []) devices) lines
    → So devices (transcript_of (first_machine keys (Some []) devices) lines) (after_all (first_machine keys (Some []) devices) lines)

-- the host has heard all that was on its way; neither side holds part of a unit, the format carries each frame of the chip, and of these some wait only while one is on the line
pub record HostHasHeard (m : Machine) : Type 0 where
  pub to_host : m.outside.outer.to_host.bytes ≡ []
  pub at_rest : AreAtRest m
  pub fit : HasFrames m.outside.outer.chip.state.port
  pub waits : WaitsWell m.outside.outer.chip.state.port

-- how many units of the host have arrived for the chip since a line or tick began
abbrev pub arrived_from : ℕ → List SerialEvent → ℕ
arrived_from count [] = count
arrived_from count (Writes side unit arriving lacking ∷ events) = arrived_from (count + length (arrival_of Host (Writes side unit arriving lacking))) events
arrived_from count (event ∷ events) = arrived_from 0 events

-- the chip sends nothing, and waits for no call
pub record AwaitsNothing (o : OuterState) : Type 0 where
  pub sending : o.chip.state.sending ≡ None
  pub aborted : o.chip.state.aborted ≡ 0
  pub calls : o.calls ≡ []

-- the chip has heard all that was on its way, has no frame on the line, and no result is due to it
pub record ChipRests (o : OuterState) : Type 0 where
  pub to_chip : o.to_chip.bytes ≡ []
  pub turn : o.chip.state.port.side.turn ≡ turns.Idle
  pub due : o.due ≡ []

-- nothing is known of a node that the chip has not joined
abbrev pub KnowsItsMembers : Machine → Type 0
KnowsItsMembers m = (n : ℕ) → is_marked m.outside.outer.chip.state.joined n ≡ false → IsBlank (node_of m.host.state n)

-- so many nodes are joined by the transcript, and can be reached by it
abbrev pub AreToReach : List Bool → List State → List Entry → Type 0
AreToReach these devices past = (n : ℕ) → is_marked these n ≡ true → (is_joined past n ≡ true) × CanBeReached devices past n

-- the host has no request under way, its side of the line is free, and it leaves nothing undone
pub record HostIsDone (h : HostState) : Type 0 where
  pub free : IsFree h
  pub rests : Rests h

-- the host takes a node to listen and to be awake as the transcript tells
pub record NodeIsAsTold (past : List Entry) (h : HostState) (n : ℕ) : Type 0 where
  pub awake : (node_of h n).awake ≡ counts_awake n past
  pub listens_so : (node_of h n).listens ≡ listens n past

-- all frames that were sent have had their fate
pub record AirIsEmpty (frames : FramesState) : Type 0 where
  pub landed : frames.landed ≡ frames.sent
  pub none_flies : on_air frames ≡ []
