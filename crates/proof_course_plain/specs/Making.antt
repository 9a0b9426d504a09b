-- What the sessions of a device make: the settings that their commands ask for; and what it keeps of the segments of the next (this project's own rule over the Supervision and
-- Transport Service Command Classes).
use Rattle.std.specs.Prelude.{◌≡◌, ℕ, ◌+◌, ◌%◌, ◌<◌, ◌≤◌, true, List, [], ◌∷◌, Some, slice_get}
use Rattle.std.specs.List.{AllByRecursion}
use Rattle.zw_base.specs.declared.property.By.{By}
use Rattle.zw_base.specs.declared.property.By.TheVariants.{Session, Plain, Local}
use Rattle.zw_base.specs.declared.property.Setting.{Setting}
use Rattle.supervision.specs.Device.{Taken}
use Rattle.encap.specs.declared.plan.Plan.{Plan}
use Rattle.proof_course.specs.Parts.{numbered}
use Rattle.proof_course.specs.Sessions.{Message, Cargo, Command, Of_host, Answer, Of_node, is_segment_of_next}
use Rattle.proof_course.specs.SessionLaws.{NamesOne}
use Rattle.transport_segments.specs.Kept.{Reassembly, Empty, Partial}
use Rattle.transport_segments.specs.Runs.{Agrees}
use Rattle.host_orders.specs.Settings.{settings}
use Rattle.device_kinds.specs.declared.change.Change.{Change}
use Rattle.device_stack.specs.Effects.{work_ticks}
use Rattle.device_stack.specs.declared.work.Work.{Work}
use Rattle.device_sim.specs.State.{State}
use Rattle.device_sim.specs.Event.{DeviceEvent, Hears, Ticks, Wakes, Sets}
use Rattle.proof_once.specs.proof_messages.Slices.{KeepsSlices}
use Rattle.proof_course_plain.specs.Meaning.{Asked, IsMessageOf}

-- these are the settings that the command of a session asks for, as it was accepted
pub record IsAskedFor (orders : List Asked) (commands : List ℕ) (session : ℕ) (made : List Setting) : Type 0 where
  pub number : ℕ
  pub asked : Asked
  pub carried : numbered commands session ≡ number ∷ []
  pub accepted : numbered orders number ≡ asked ∷ []
  pub settings_are : made ≡ settings asked.carriage.actuator asked.order

-- a change by a session is of its settings
abbrev pub MakesBy : List Asked → List ℕ → By → List Setting → Type 0
MakesBy orders commands (Session session) made = IsAskedFor orders commands session made
MakesBy orders commands Plain made = Unit {0}
MakesBy orders commands Local made = Unit {0}

abbrev pub MakesAsked : List Asked → List ℕ → Change → Type 0
MakesAsked orders commands change = MakesBy orders commands change.by change.settings

-- each byte that is kept is that of the message of this session, and they came in whole slices
pub record KeepsOf (orders : List Asked) (commands : List ℕ) (session id : ℕ) (kept : Reassembly) : Type 0 where
  pub message : List ℕ
  pub of : IsMessageOf orders commands session message
  pub id_is : id ≡ session % 16
  pub agrees : Agrees message id kept
  pub slices : KeepsSlices kept

-- so it is with what is kept of segments, if anything is
abbrev pub KeepsNext : List Asked → List ℕ → ℕ → Reassembly → Type 0
KeepsNext orders commands session Empty = Unit {0}
KeepsNext orders commands session (Partial id places) = KeepsOf orders commands session id (Partial id places)

-- so many ticks of work are left, and its end is to be told
pub record IsToTell (left : ℕ) (work : Work) : Type 0 where
  pub few : left ≤ work_ticks
  pub plan : Plan
  pub told : work.answer ≡ Some plan

-- so each change of a device, and the work that it is at for its last session, which it is to tell; and what it keeps of segments is of the session after its last
pub record Makes (orders : List Asked) (commands : List ℕ) (device : State) : Type 0 where
  pub changes : AllByRecursion (MakesAsked orders commands) device.journal
  pub work : 0 < device.work_left → IsAskedFor orders commands device.sessions.taken device.work.settings
  pub answer : 0 < device.work_left → IsToTell device.work_left device.work
  pub keeps : KeepsNext orders commands (device.sessions.taken + 1) device.reassembly

-- so the devices of a node
abbrev pub AllMake : ℕ → List Asked → List ℕ → List State → Type 0
AllMake node orders commands devices = (place : ℕ) (device : State) → slice_get devices place ≡ Some device → device.node ≡ node → Makes orders commands device

-- a segment is of the next session, as far as its id tells that, only where it is of the session after the last that the device took
abbrev pub NamesNext : Taken → Message → Type 0
NamesNext device message = message.is_segment ≡ true → is_segment_of_next device message.session ≡ true → message.session ≡ device.taken + 1

-- a message is new at a device only where it is of the session after the last that it took
abbrev pub Names : Taken → Cargo → Type 0
Names device (Command message) = NamesOne device message × NamesNext device message
Names device Of_host = Unit {0}
Names device (Answer session status) = Unit {0}
Names device Of_node = Unit {0}

-- an event at which nothing is heard
abbrev pub HearsNone : DeviceEvent → Type 0
HearsNone (Hears payload drawn) = ⊥
HearsNone (Ticks drawn) = Unit {0}
HearsNone Wakes = Unit {0}
HearsNone (Sets value) = Unit {0}
