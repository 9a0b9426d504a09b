-- What devices say at an event (this project's own rule): something is so of each payload.
use Rattle.std.specs.Prelude.{◌≡◌, ℕ, true, Bool, List, Some, slice_get}
use Rattle.std.specs.List.{AllByRecursion}
use Rattle.air_frames.specs.Flown.{Flown}
use Rattle.air_frames.specs.Frames.{next_of}
use Rattle.chip_sim.specs.Nodes.{is_marked}
use Rattle.device_sim.specs.Event.{Hears, Ticks, Wakes, device_replies}
use Rattle.device_sim.specs.State.{State}
use Rattle.mesh_sim.specs.Fates.{fate_of, place_of}
use Rattle.mesh_sim.specs.declared.fate.Fate.TheVariants.{AtDevice}
use Rattle.outside_model.specs.Events.{OuterEvent, Arrives, Device_ticks, Wakes_device}
use Rattle.outside_model.specs.State.{Outside}
use Rattle.world_model.specs.Events.{Event, Outside_does}
use Rattle.world_model.specs.State.{Machine}

-- of what the device answers that hears the frame of one of these that arrives, of what a device of these says in its tick, and of what one says that is woken
abbrev pub SaysAt : List Bool → (List ℕ → Type 0) → Outside → OuterEvent → Type 0
SaysAt these Says w (Arrives drawn route) =
    (frame : Flown) (place : ℕ) (device : State) → next_of w.outer.air.frames ≡ Some frame → is_marked these frame.node ≡ true → fate_of w.outer.air.network w.devices frame ≡ AtDevice place → slice_get w.devices place ≡ Some device
    → AllByRecursion Says (device_replies device (Hears frame.payload drawn))
SaysAt these Says w (Device_ticks place drawn route) = (device : State) → is_marked these device.node ≡ true → slice_get w.devices place ≡ Some device → AllByRecursion Says (device_replies device (Ticks drawn))
SaysAt these Says w (Wakes_device node route) = (place : ℕ) (device : State) → place_of node w.devices ≡ Some place → slice_get w.devices place ≡ Some device → AllByRecursion Says (device_replies device Wakes)
SaysAt these Says w event = Unit {0}

abbrev pub SaysThen : List Bool → (List ℕ → Type 0) → Machine → Event → Type 0
SaysThen these Says m (Outside_does event) = SaysAt these Says m.outside event
SaysThen these Says m event = Unit {0}
