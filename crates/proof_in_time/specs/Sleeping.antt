-- What is assumed of events of a machine with a node that sleeps, and when its Notification comes to the host (this project's own rule).
use Rattle.std.specs.Prelude.{Option, Some, ◌≡◌, ℕ, ◌-◌, ◌≤◌, ◌+◌, ◌&&◌, nat_le, nat_lt, if◌then◌else◌, Bool, true, List, length}
use Rattle.chip_sim.specs.Nodes.{is_marked}
use Rattle.route_table.specs.declared.route.Route.{Route}
use Rattle.air_frames.specs.Flown.{Flown}
use Rattle.air_frames.specs.Frames.{next_of}
use Rattle.device_sim.specs.Event.{Hears, device_after}
use Rattle.device_sim.specs.State.{State}
use Rattle.mesh_sim.specs.Fates.{fate_of}
use Rattle.mesh_sim.specs.declared.fate.Fate.TheVariants.{AtDevice}
use Rattle.outside_model.specs.Events.{Arrives}
use Rattle.world_model.specs.Events.{Event, Outside_does}
use Rattle.world_model.specs.State.{Machine}
use Rattle.proof_answered.specs.proof_calm.proof_traffic.OnAir.{on_air}
use Rattle.proof_answered.specs.proof_calm.proof_work.proof_walk.Phases.{Phase, Ticked, Arriving, Giving, Ticking_devices}
use Rattle.proof_answered.specs.proof_calm.Tied.{unheard}
use Rattle.proof_answered.specs.Sleepers.{HasSleeper, IsNotification, IsWanted, SaysAs, StaysUp, TellsWaking}
use Rattle.proof_in_time.specs.Coming.{Has, Stands, brings, one_later, ticks_left}
use Rattle.proof_in_time.specs.InHand.{ticks_begun}
use Rattle.proof_in_time.specs.InStep.{IsPlainly}

-- ---- what is assumed of events

-- where one of these nodes sleeps, its device stays awake where that is wanted, and says nothing at the wrong time
abbrev pub SleepsSo : List Bool → Machine → Event → Type 0
SleepsSo these m event = (n : ℕ) → is_marked these n ≡ true → HasSleeper n m.outside.devices → StaysUp these m event × SaysAs these m event

-- beside that their devices are in step with the host
abbrev pub IsPlainlyUp : List Bool → Machine → Event → Type 0
IsPlainlyUp these m event = IsPlainly these m event × SleepsSo these m event

-- ---- a frame arrives

-- a device that hears it is left awake, where that is wanted
abbrev pub LeavesUp : List Bool → Machine → List ℕ → Option Route → Type 0
LeavesUp these m drawn route =
    (n : ℕ) → is_marked these n ≡ true → (is : HasSleeper n m.outside.devices) → is.device.awake ≡ true → IsWanted n m (Outside_does (Arrives drawn route)) → (frame : Flown) → next_of m.outside.outer.air.frames ≡ Some frame
    → fate_of m.outside.outer.air.network m.outside.devices frame ≡ AtDevice is.place → (device_after is.device (Hears frame.payload drawn)).awake ≡ true

-- ---- how long ago it heard something

-- for how many ticks a device has heard nothing
abbrev pub quiet_for : State → ℕ
quiet_for device = device.clock - device.active_at

-- whether the device at a place is to tick in the tick that has begun
abbrev pub is_to_tick : Phase → ℕ → ℕ
is_to_tick (Ticked ticks) place = 1
is_to_tick (Arriving frames ticks) place = 1
is_to_tick (Giving results ticks) place = 1
is_to_tick (Ticking_devices at count ticks) place = if nat_le at place && nat_lt place (at + count) then 1 else 0
is_to_tick here place = 0

-- it heard something, or was woken, not long before so many ticks have begun
pub record IsLately (limit : ℕ) (here : Phase) (m : Machine) (place : ℕ) (device : State) : Type 0 where
  pub since : device.active_at ≤ device.clock
  pub quiet : quiet_for device + is_to_tick here place + (limit - ticks_begun m) ≤ 190

-- ---- it tells that it is awake

-- its Notification is on the air, or the chip has it for the host: so the host is told within so many ticks
pub data ComesUp (n left : ℕ) (here : Phase) (m : Machine) : Type 0 where
  Flies : (at : Stands (IsNotification n) (on_air m.outside.outer.air.frames)) → ticks_left here + one_later here (length at.before) ≤ left → ComesUp n left here m
  Told : (payload : List ℕ) → TellsWaking payload → Has (brings n payload) (unheard m.outside.outer) → ticks_left here ≤ left → ComesUp n left here m
