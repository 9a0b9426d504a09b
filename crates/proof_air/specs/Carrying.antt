-- What is known, at each phase of a line, of the payloads that the chip brings the host: each was heard on the air (this project's own rule).
use Rattle.std.specs.Prelude.{◌≡◌, ℕ, List, [], ◌∷◌, ◌++◌}
use Rattle.std.specs.List.{AllByRecursion}
use Rattle.serial_frame.specs.Frame.{FrameParts}
use Rattle.serial_frame.specs.Items.{unit_text}
use Rattle.serial_frame.specs.declared.unit.Unit.TheVariants.{Framed}
use Rattle.serial_link.specs.declared.turn.Turn.{Turn}
use Rattle.serial_link.specs.declared.turn.Turn.TheVariants.{Idle, Copied, Paused}
use Rattle.chip_sim.specs.Waiting.{PortState}
use Rattle.proof_walk.specs.mesh_sim.declared.event.AirEvent.{AirEvent}
use Rattle.proof_walk.specs.mesh_sim.declared.event.AirEvent.TheVariants as air_event
use Rattle.zw_text.specs.declared.entry.Entry.{Entry}
use Rattle.zw_text.specs.Transcript.{heard}
use Rattle.law_wire.specs.law_transcript.Lists.{Has}
use Rattle.law_wire.specs.law_transcript.Repeats.{frame_of}
use Rattle.law_wire.specs.law_transcript.Units.{bringing_in}
use Rattle.law_wire.specs.law_transcript.Carrying.{homeward, heard_home, WereHeard}
use Rattle.proof_walk.specs.outside_model.State.{Outside}
use Rattle.proof_walk.specs.Outside.{Pending, Judging, Dealing, Knowing}
use Rattle.proof_walk.specs.ByLine.{KnownOf}
use Rattle.proof_walk.specs.Phases.{Phase}
use Rattle.proof_air.specs.Logs.{Tie}

-- ---- the frames that the chip holds for the host

-- the payload that this frame brings was heard
abbrev pub Brings : List Entry → FrameParts → Type 0
Brings past f = WereHeard (heard_home past) (bringing_in (unit_text (Framed f)))

-- the frame that the link may write again is such
abbrev pub TurnHas : (FrameParts → Type 0) → Turn → Type 0
TurnHas Is Idle = Unit {0}
TurnHas Is (Copied f copies ticks) = Is f
TurnHas Is (Paused f copies ticks) = Is f

-- and so are those that wait
pub record PortHas (Is : FrameParts → Type 0) (port : PortState) : Type 0 where
  pub turn : TurnHas Is port.side.turn
  pub waiting : AllByRecursion Is port.waiting

-- ---- the payloads that are still to come to the chip

-- the frame of that number goes to the controller, with this payload
abbrev pub IsHome : List Entry → ℕ → ℕ → List ℕ → Type 0
IsHome past number node payload = homeward (frame_of past number) ≡ record { node = node; payload = payload } ∷ []

-- each is that of such a frame, and was heard before: with these, or with what is told before it
abbrev pub Come : List Entry → List ℕ → List AirEvent → Type 0
Come past numbers [] = Unit {0}
Come past numbers (air_event.Heard number ∷ events) = Come past (numbers ++ number ∷ []) events
Come past numbers (air_event.ToChip number from payload ∷ events) = (Has numbers number × IsHome past number from payload) × Come past numbers events
Come past numbers (event ∷ events) = Come past numbers events

abbrev pub PendingCome : Pending → List Entry → Type 0
PendingCome (Judging ways) past = Unit {0}
PendingCome (Dealing events) past = Come past (heard past) events

-- ---- what is known

pub record Holds (pending : Pending) (past : List Entry) (w : Outside) : Type 0 where
  pub port : PortHas (Brings past) w.outer.chip.state.port
  pub come : PendingCome pending past

-- within an event beside the history of the air
abbrev pub KnowsBeside : Pending → Knowing
KnowsBeside pending awaits past w = Tie pending past w × Holds pending past w

-- at each phase of a line, beside what is known of the air there
abbrev pub KnowHandlers : Phase → KnownOf
KnowHandlers here past m = PortHas (Brings past) m.outside.outer.chip.state.port
