-- What an event of the machine enters of devices: nothing that one did; what one did that stands in the list; or that a frame was heard, and what was done then.
use Rattle.std.proofs.Common.{◌≡◌, ◌⊎◌, inl, inr, ℕ, Bool, List, [], ◌∷◌, refl}
use Rattle.std.specs.Prelude.{Option, Some, None, slice_get}
use Rattle.route_table.specs.declared.route.Route.{Route}
use Rattle.device_sim.specs.State.{State}
use Rattle.device_sim.specs.Event.{DeviceEvent, Ticks, Wakes, Sets}
use Rattle.mesh_sim.specs.Fates.{place_of}
use Rattle.zw_text.specs.declared.entry.Entry.{Entry}
use Rattle.zw_text.specs.declared.entry.Entry.TheVariants.{Refused}
use Rattle.zw_text.specs.declared.entry.Refusal.TheVariants.{NoDevice}
use Rattle.outside_model.specs.State.{OuterState}
use Rattle.outside_model.specs.Devices.{acts, acts_at, acts_by_hand}
use Rattle.outside_model.specs.Events.{Begins_line, Begins_tick, Arrives, Device_ticks, Repeats, Wakes_device, Sets_device, outcome, devices_after, stamp, ticked_entry}
use Rattle.world_model.specs.State.{Machine}
use Rattle.world_model.specs.Events.{Event, Outside_does, entries, May}
use Rattle.proof_air.specs.proof_walk.Outside.{nothing}
use Rattle.proof_air.specs.Logs.{Tie as TieAir}
use Rattle.proof_air.proofs.Entering.{AreOwn, acts_own}
use Rattle.proof_devices.proofs.Quiet.{AreIdle, stamp_idle, machine_still}
use Rattle.proof_devices.proofs.Hearing.{Enters, arrives_enters, again_enters}

-- a device that stands in the list did all of it, but for the number of the tick
pub record OfOne (devices : List State) (told : List Entry) : Type 0 where
  pub place : ℕ
  pub device : State
  pub stood : slice_get devices place ≡ Some device
  pub outer : OuterState
  pub did : List Entry
  pub own : AreOwn device.node did
  pub are : told ≡ stamp outer did

-- a frame may be heard
pub record OfFrame (past : List Entry) (joined : List Bool) (devices : List State) (told : List Entry) : Type 0 where
  pub outer : OuterState
  pub later : List State
  pub enters : Enters past joined (ticked_entry outer) told devices later

-- an event by which one may be
abbrev pub IsHearing : Event → Type 0
IsHearing (Outside_does (Arrives drawn route)) = Unit {0}
IsHearing (Outside_does (Repeats number drawn route)) = Unit {0}
IsHearing event = ⊥

abbrev pub TellsOf : List Entry → Machine → Event → List Entry → Type 0
TellsOf past m event told = AreIdle told ⊎ (OfOne m.outside.devices told ⊎ (IsHearing event × OfFrame past m.outside.outer.air.joined m.outside.devices told))

-- of itself or by hand
abbrev OfDevices : List State → List Entry → Type 0
OfDevices devices told = AreIdle told ⊎ OfOne devices told

at_tells : (o : OuterState) (devices : List State) (place : ℕ) (found : Option State) (event : DeviceEvent) (route : Option Route) → slice_get devices place ≡ found
    → OfDevices devices (stamp (acts_at o found event route).outer (acts_at o found event route).entries)
at_tells o devices place None event route stood = inl tt
at_tells o devices place (Some device) event route stood = inr (record {
  place = place;
  device = device;
  stood = stood;
  outer = (acts o device event route).outer;
  did = (acts o device event route).entries;
  own = acts_own o device event route;
  are = refl;
})

hand_tells : (o : OuterState) (devices : List State) (place : Option ℕ) (event : DeviceEvent) (route : Option Route)
    → OfDevices devices (stamp (acts_by_hand o devices place event route).outer (acts_by_hand o devices place event route).entries)
hand_tells o devices None event route = inl (stamp_idle o (Refused NoDevice ∷ []) (tt, tt))
hand_tells o devices (Some place) event route = at_tells o devices place (slice_get devices place) event route refl

by_devices : (past : List Entry) (m : Machine) (event : Event) (told : List Entry) → OfDevices m.outside.devices told → TellsOf past m event told
by_devices past m event told (inl idle) = inl idle
by_devices past m event told (inr one) = inr (inl one)

pub event_tells : (past : List Entry) (m : Machine) (event : Event) → TieAir nothing past m.outside → May m event → TellsOf past m event (entries m event)
unfolding entries outcome
event_tells past m (Outside_does Begins_line) air may = inl tt
event_tells past m (Outside_does Begins_tick) air may = inl tt
event_tells past m (Outside_does (Arrives drawn route)) air may = inr (inr (
  tt,
  record {
    outer = (outcome m.outside (Arrives drawn route)).outer;
    later = devices_after m.outside (Arrives drawn route);
    enters = arrives_enters past m.outside drawn route air;
  },
))
event_tells past m (Outside_does (Repeats number drawn route)) air may = inr (inr (
  tt,
  record {
    outer = (outcome m.outside (Repeats number drawn route)).outer;
    later = devices_after m.outside (Repeats number drawn route);
    enters = again_enters past m.outside number drawn route air;
  },
))
event_tells past m (Outside_does (Device_ticks place drawn route)) air may =
    by_devices past m (Outside_does (Device_ticks place drawn route)) _ (at_tells m.outside.outer m.outside.devices place (slice_get m.outside.devices place) (Ticks drawn) route refl)
event_tells past m (Outside_does (Wakes_device node route)) air may =
    by_devices past m (Outside_does (Wakes_device node route)) _ (hand_tells m.outside.outer m.outside.devices (place_of node m.outside.devices) Wakes route)
event_tells past m (Outside_does (Sets_device node value route)) air may =
    by_devices past m (Outside_does (Sets_device node value route)) _ (hand_tells m.outside.outer m.outside.devices (place_of node m.outside.devices) (Sets value) route)
event_tells past m event air may = inl (machine_still m event tt may).idle
