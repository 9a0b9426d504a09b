-- What may happen to a device, what it is after it, and what it sends then.
use Rattle.std.specs.Prelude.{ℕ, List}
use Rattle.device_stack.specs.State.{State, Outcome}
use Rattle.device_stack.specs.Hearing.{hears}
use Rattle.device_stack.specs.Ticking.{ticked, woken, set_by_hand}

-- a payload that it hears while it is awake; a tick; a wake-up; a value set by hand. What is drawn serves a nonce
pub data DeviceEvent : Type 0 where
  Hears : (payload drawn : List ℕ) → DeviceEvent
  Ticks : (drawn : List ℕ) → DeviceEvent
  Wakes : DeviceEvent
  Sets : (value : ℕ) → DeviceEvent

-- both at once
unfoldable pub outcome_of : State → DeviceEvent → Outcome
outcome_of state (Hears payload drawn) = hears state payload drawn
outcome_of state (Ticks drawn) = ticked state
outcome_of state Wakes = woken state
outcome_of state (Sets value) = set_by_hand state value

-- the device after it
unfoldable pub device_after : State → DeviceEvent → State
device_after state event = (outcome_of state event).device

-- the payloads that it sends then, in their order
unfoldable pub device_replies : State → DeviceEvent → List (List ℕ)
device_replies state event = (outcome_of state event).replies
