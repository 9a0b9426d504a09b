-- What becomes of the devices, whatever happens (this project's own): each goes on by events of its own, at its place in the list.
use Rattle.std.specs.Prelude.{◌≡◌, ◌⊎◌, ℕ, ◌≤◌, List, Some, slice_get, slice_set}
use Rattle.std.specs.List.{AllByRecursion, AllZip}
use Rattle.law_transcript.specs.device_sim.State.{State}
use Rattle.law_transcript.specs.device_sim.Event.{DeviceEvent, device_after}
use Rattle.law_transcript.specs.device_sim.Laws.{IsInOrder, done}
use Rattle.law_transcript.specs.Devices.{after_events}
use Rattle.law_transcript.specs.Lists.{Rises}
use Rattle.law_transcript.specs.Once.{sessions_by}

-- ---- from one list of devices to another

-- the device at a place had an event, and no other had
pub record Moves (old new : List State) : Type 0 where
  pub place : ℕ
  pub device : State
  pub event : DeviceEvent
  pub stood : slice_get old place ≡ Some device
  pub stands : new ≡ slice_set old place (device_after device event)

-- at most one device had an event
abbrev pub MovesOne : List State → List State → Type 0
MovesOne old new = (new ≡ old) ⊎ Moves old new

-- a device is what another was, after some events
abbrev pub GoesOn : State → State → Type 0
GoesOn old new = (events : List DeviceEvent) × (new ≡ after_events old events)

-- each is so what the one at its place was, and there are as many
abbrev pub GoOn : List State → List State → Type 0
GoOn old new = AllZip GoesOn old new

-- a device has the node, the kind and the key of another
pub record IsSame (old new : State) : Type 0 where
  pub node : new.node ≡ old.node
  pub kind : new.kind ≡ old.kind
  pub key : new.key ≡ old.key

abbrev pub AreSame : List State → List State → Type 0
AreSame old new = AllZip IsSame old new

-- ---- once

-- the journal of each is in order
abbrev pub AreInOrder : List State → Type 0
AreInOrder devices = AllByRecursion IsInOrder devices

-- a device has changed at most once by each session, in the order of the sessions, and by none above those that it is done with
pub record TakesOnce (device : State) : Type 0 where
  pub rising : Rises (sessions_by device.journal)
  pub begun : AllByRecursion (λ session. (1 ≤ session) × (session ≤ done device)) (sessions_by device.journal)

abbrev pub TakeOnce : List State → Type 0
TakeOnce devices = AllByRecursion TakesOnce devices
