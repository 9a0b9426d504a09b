-- What a device does by hand, as an event of it, and what it has done (this project's own rule, docs/MACHINE.md).
use Rattle.std.specs.Prelude.{◌≡◌, ◌⊎◌, ℕ, List, Option}
use Rattle.route_table.specs.declared.route.Route.{Route}
use Rattle.device_sim.specs.State.{State}
use Rattle.device_sim.specs.Event.{DeviceEvent, Wakes, Sets, device_after, device_replies}
use Rattle.outside_model.specs.State.{OuterState}
use Rattle.outside_model.specs.Devices.{HasWay, MayActByHand, set_by_hand}
use Rattle.outside_calls.specs.declared.acting.Act.{Act}
use Rattle.outside_calls.specs.declared.acting.Act.TheVariants.{Wake, Local}

-- what a device does by hand
abbrev pub act_event : Act → DeviceEvent
act_event Wake = Wakes
act_event (Local value) = Sets value

-- a device is as it was, or has done it
abbrev pub HasActed : OuterState → State → State → DeviceEvent → Type 0
HasActed o old new event = (new ≡ old) ⊎ ((route : Option Route) × HasWay o.air.network old.node (device_replies old event) route × (new ≡ device_after old event))

-- the devices are as they were, or that device has done it
abbrev pub HasActedByHand : OuterState → List State → List State → Option ℕ → DeviceEvent → Type 0
HasActedByHand o old new place event = (new ≡ old) ⊎ ((route : Option Route) × MayActByHand o old place event route × (new ≡ set_by_hand old place event))
