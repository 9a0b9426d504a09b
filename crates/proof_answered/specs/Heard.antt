-- Payloads of the host that are heard (this project's own rule): the call for each says so.
use Rattle.std.specs.Prelude.{◌≡◌, ℕ, Bool, List, Some}
use Rattle.std.specs.List.{AllByRecursion}
use Rattle.zw_text.specs.declared.entry.Entry.{Entry}
use Rattle.serial_frame.specs.Frame.{FrameParts}
use Rattle.air_frames.specs.Flown.{Flown}
use Rattle.air_frames.specs.Frames.{next_of}
use Rattle.air_frames.specs.declared.frame.Heading.TheVariants.{Outward}
use Rattle.chip_functions.specs.declared.notice.Notice.TheVariants.{SendData}
use Rattle.chip_functions.specs.declared.notice.TransmitStatus.{TransmitStatus}
use Rattle.chip_functions.specs.declared.notice.TransmitStatus.TheVariants.{CompleteOk}
use Rattle.chip_sim.specs.Answers.{notice_frame}
use Rattle.mesh_sim.specs.Fates.{fate_of}
use Rattle.mesh_sim.specs.declared.fate.Fate.TheVariants.{AtDevice}
use Rattle.outside_model.specs.Events.{OuterEvent, Arrives}
use Rattle.outside_model.specs.State.{Outside}
use Rattle.world_model.specs.Events.{Event, Outside_does}
use Rattle.world_model.specs.State.{Machine}
use Rattle.proof_calm.specs.proof_work.proof_walk.Phases.{Phase}
use Rattle.proof_calm.specs.Live.{IsAskedAt}
use Rattle.proof_calm.specs.Tied.{unheard}
use Rattle.proof_answered.specs.Few.{IsStretched, Knows}

-- ---- the frames that the host has not judged

-- where one is a call, it says that the payload was heard
abbrev pub SaysHeard : FrameParts → Type 0
SaysHeard frame = (id : ℕ) (status : TransmitStatus) → frame ≡ notice_frame (SendData id status) → status ≡ CompleteOk

abbrev pub AllSayHeard : List FrameParts → Type 0
AllSayHeard frames = AllByRecursion SaysHeard frames

-- ---- what is assumed of events

-- a frame of the host that arrives is heard by a device
abbrev pub IsHeardOutside : Outside → OuterEvent → Type 0
IsHeardOutside w (Arrives drawn route) = (frame : Flown) → next_of w.outer.air.frames ≡ Some frame → frame.heading ≡ Outward → (place : ℕ) × (fate_of w.outer.air.network w.devices frame ≡ AtDevice place)
IsHeardOutside w event = Unit {0}

abbrev pub IsHeardThen : Machine → Event → Type 0
IsHeardThen m (Outside_does event) = IsHeardOutside m.outside event
IsHeardThen m event = Unit {0}

-- and the chip is asked for some nodes alone
abbrev pub IsHeardFor : List Bool → Machine → Event → Type 0
IsHeardFor these m event = IsAskedAt these event × IsHeardThen m event

-- ---- at each phase

abbrev pub KnowHeard : List Bool → Phase → List Entry → Machine → Type 0
KnowHeard these here past m = IsStretched past → Knows these here past m × AllSayHeard (unheard m.outside.outer)
