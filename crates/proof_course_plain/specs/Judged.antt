-- What one event makes of the sessions of a device (this project's own; Supervision Report is that of the Z-Wave Transport-Encapsulation Command Class
-- Specification): it takes the next one with the verdict of its kind on the values that it has, ends the work that it is at, or is left as it was.
use Rattle.std.specs.Prelude.{◌≡◌, ◌≢◌, ◌⊎◌, ℕ, ◌+◌, ◌≤◌, true, List, [], ◌∷◌, Some, None, slice_get}
use Rattle.supervision.specs.declared.session.TheConstants.{WORKING, SUCCESS}
use Rattle.proof_course.specs.Parts.{numbered}
use Rattle.air_frames.specs.declared.frame.Heading.TheVariants.{Outward}
use Rattle.air_frames.specs.Ages.{refusal_of}
use Rattle.air_frames.specs.Flown.{Flown}
use Rattle.air_frames.specs.Frames.{FramesState, next_of, remembered}
use Rattle.host_orders.specs.Refusals.{IsFit}
use Rattle.device_kinds.specs.Judging.{status_of}
use Rattle.device_sim.specs.State.{State}
use Rattle.device_sim.specs.Event.{Hears, Ticks, Wakes, device_after}
use Rattle.mesh_sim.specs.Fates.{place_of}
use Rattle.outside_model.specs.Events.{OuterEvent, Sets_device}
use Rattle.world_model.specs.Events.{Event, Outside_does}
use Rattle.proof_once.specs.proof_messages.Asking.{verdict_on}
use Rattle.proof_course_plain.specs.Meaning.{Asked}

-- ---- a device

-- sessions and changes are as they were
pub record IsStill (old new : State) : Type 0 where
  pub sessions : new.sessions ≡ old.sessions
  pub journal : new.journal ≡ old.journal

-- the next session was taken: its command is this, as it was accepted, and its status is that of the verdict on the values before
pub record TakesAsAsked (orders : List Asked) (commands : List ℕ) (old new : State) : Type 0 where
  pub number : ℕ
  pub asked : Asked
  pub carried : numbered commands (old.sessions.taken + 1) ≡ number ∷ []
  pub accepted : numbered orders number ≡ asked ∷ []
  pub fit : IsFit asked.carriage.actuator asked.order
  pub end : asked.order.end ≤ 127
  pub free : old.sessions.status ≢ WORKING
  pub sessions : new.sessions ≡ record { taken = old.sessions.taken + 1; status = status_of (verdict_on old asked.carriage asked.order) }

-- the work of the last session is done
pub record EndsWork (old new : State) : Type 0 where
  pub working : old.sessions.status ≡ WORKING
  pub sessions : new.sessions ≡ record { taken = old.sessions.taken; status = SUCCESS }

abbrev pub Judges : List Asked → List ℕ → State → State → Type 0
Judges orders commands old new = IsStill old new ⊎ (TakesAsAsked orders commands old new ⊎ EndsWork old new)

-- so it is with a device of a node that hears the next frame, or one that may be heard again, that ticks, or that is woken
pub record JudgesEach (node : ℕ) (orders : List Asked) (commands : List ℕ) (frames : FramesState) (device : State) : Type 0 where
  pub arrives : (frame : Flown) (drawn : List ℕ) → next_of frames ≡ Some frame → frame.node ≡ node → frame.heading ≡ Outward → device.awake ≡ true → Judges orders commands device (device_after device (Hears frame.payload drawn))
  pub repeats : (number : ℕ) (frame : Flown) (drawn : List ℕ) → refusal_of frames number ≡ None → remembered frames number ≡ Some frame → frame.node ≡ node → frame.heading ≡ Outward → device.awake ≡ true
      → Judges orders commands device (device_after device (Hears frame.payload drawn))
  pub ticks : (drawn : List ℕ) → Judges orders commands device (device_after device (Ticks drawn))
  pub wakes : Judges orders commands device (device_after device Wakes)

-- ---- the devices

-- so it is with the first device of a node, at its place
pub record JudgesAt (node : ℕ) (orders : List Asked) (commands : List ℕ) (old new : List State) : Type 0 where
  pub place : ℕ
  pub device : State
  pub later : State
  pub first : place_of node old ≡ Some place
  pub stood : slice_get old place ≡ Some device
  pub stands : slice_get new place ≡ Some later
  pub judged : Judges orders commands device later

-- the device of the node is not set by hand
abbrev pub IsNoHandOutside : ℕ → OuterEvent → Type 0
IsNoHandOutside node (Sets_device n value route) = n ≢ node
IsNoHandOutside node event = Unit {0}

abbrev pub IsNoHand : ℕ → Event → Type 0
IsNoHand node (Outside_does event) = IsNoHandOutside node event
IsNoHand node event = Unit {0}
