-- Ticks as paths: what is outside the host has its part, then the host, and then all settles.
use Rattle.std.proofs.Common.{ℕ, zero, suc, ◌+◌, ◌-◌, List, [], ◌∷◌, length, map, refl, ap}
use Rattle.proof_host.specs.host_model.Events.{HostEvent}
use Rattle.proof_host.specs.host_model.Ticking.{tick_events}
use Rattle.proof_device.specs.outside_model.Events.{OuterEvent, Arrives, Gives, Device_ticks}
use Rattle.proof_device.specs.outside_model.Schedules.{Arrivals, Givings, DeviceTicks}
use Rattle.proof_device.specs.world_model.State.{Machine}
use Rattle.proof_device.specs.world_model.Events.{Outside_does, Host_does, Decoder_ticks, happens}
use Rattle.proof_device.specs.world_model.Did.{Then, Nothing, PrefixOf, ThenPrefix}
use Rattle.proof_device.specs.world_model.Settling.{Settles}
use Rattle.proof_device.specs.world_model.Ticking.{IsClockTick, IsDelivery, IsGiving, IsDeviceTick, IsChipTick, IsOutsideTick, IsHostTick, IsTick, Ticks}
use Rattle.proof_device.specs.world_model.Prefixes.{SettlesPrefix, OutsideTickPrefix, TickPrefix, TicksPrefix}
use Rattle.proof_walk.specs.Phases.{To_tick, Ticked, Arriving, Giving, Ticking_devices, Ticking_chip, Ticking_decoder, Ticking_host, Sleeping}
use Rattle.proof_walk.specs.Paths.{Path, Leads, Begins}
use Rattle.proof_walk.specs.Paths.Path.{Ends, Turned, Stepped}
use Rattle.proof_walk.proofs.Joining.{same, then, nothing, some, then_some}
use Rattle.proof_walk.proofs.Settling.{settling, settling_begins}

-- ---- what is outside

arrivals : (frames ticks : ℕ) (m : Machine) (inner : List OuterEvent) → Arrivals frames inner → Path (Arriving zero ticks) (Arriving frames ticks) m (map Outside_does inner)
arrivals zero ticks m inner none = same [] (ap (λ (l : List OuterEvent). map Outside_does l) none) Ends
arrivals (suc frames) ticks m inner (drawn, route, rest, are, more) =
    same (Outside_does (Arrives drawn route) ∷ map Outside_does rest) (ap (λ (l : List OuterEvent). map Outside_does l) are)
    (Stepped {next = Arriving frames ticks} (drawn, route, refl, refl) (arrivals frames ticks (happens m (Outside_does (Arrives drawn route))) rest more))

delivery : (ticks : ℕ) → Leads (Ticked ticks) IsDelivery (Arriving zero ticks)
delivery ticks m events (inner, is, are) =
    let frames : ℕ = m.outside.outer.air.frames.sent - m.outside.outer.air.frames.landed in
    same (map Outside_does inner) are (Turned {next = Arriving frames ticks} refl (arrivals frames ticks m inner is))

givings : (results ticks : ℕ) (m : Machine) (inner : List OuterEvent) → Givings results inner → Path (Giving zero ticks) (Giving results ticks) m (map Outside_does inner)
givings zero ticks m inner none = same [] (ap (λ (l : List OuterEvent). map Outside_does l) none) Ends
givings (suc results) ticks m inner (route, rest, are, more) =
    same (Outside_does (Gives route) ∷ map Outside_does rest) (ap (λ (l : List OuterEvent). map Outside_does l) are)
    (Stepped {next = Giving results ticks} (route, refl, refl) (givings results ticks (happens m (Outside_does (Gives route))) rest more))

giving : (ticks : ℕ) → Leads (Arriving zero ticks) IsGiving (Giving zero ticks)
giving ticks m events (inner, is, are) =
    same (map Outside_does inner) are
    (Turned {next = Giving (length m.outside.outer.due) ticks} refl (givings (length m.outside.outer.due) ticks m inner is))

device_ticks : (place count ticks : ℕ) (m : Machine) (inner : List OuterEvent) → DeviceTicks place count inner
    → Path (Ticking_chip ticks) (Ticking_devices place count ticks) m (map Outside_does inner)
device_ticks place zero ticks m inner none = same [] (ap (λ (l : List OuterEvent). map Outside_does l) none) (Turned {next = Ticking_chip ticks} refl Ends)
device_ticks place (suc count) ticks m inner (drawn, route, rest, are, more) =
    same (Outside_does (Device_ticks place drawn route) ∷ map Outside_does rest) (ap (λ (l : List OuterEvent). map Outside_does l) are)
    (Stepped {next = Ticking_devices (place + 1) count ticks} (drawn, route, refl, refl)
    (device_ticks (place + 1) count ticks (happens m (Outside_does (Device_ticks place drawn route))) rest more))

devices_tick : (ticks : ℕ) → Leads (Giving zero ticks) IsDeviceTick (Ticking_chip ticks)
devices_tick ticks m events (inner, is, are) =
    same (map Outside_does inner) are
    (Turned {next = Ticking_devices 0 (length m.outside.devices) ticks} refl (device_ticks 0 (length m.outside.devices) ticks m inner is))

chip_ticks : (ticks : ℕ) → Leads (Ticking_chip ticks) IsChipTick (Ticking_decoder ticks)
chip_ticks ticks m events are = same _ are (Stepped {next = Ticking_decoder ticks} (refl, refl) Ends)

outside_ticks : (ticks : ℕ) → Leads (Ticked ticks) IsOutsideTick (Ticking_decoder ticks)
outside_ticks ticks =
    then (Ticked ticks) (Arriving zero ticks) (Ticking_decoder ticks) IsDelivery (Then IsGiving (Then IsDeviceTick IsChipTick)) (delivery ticks)
    (then (Arriving zero ticks) (Giving zero ticks) (Ticking_decoder ticks) IsGiving (Then IsDeviceTick IsChipTick) (giving ticks)
    (then (Giving zero ticks) (Ticking_chip ticks) (Ticking_decoder ticks) IsDeviceTick IsChipTick (devices_tick ticks) (chip_ticks ticks)))

-- ---- the host, and the whole

clock_ticks : (ticks : ℕ) → Leads (To_tick (suc ticks)) IsClockTick (Ticked ticks)
clock_ticks ticks m events are = same _ are (Stepped {next = Ticked ticks} (refl, refl) Ends)

host_events : (events : List HostEvent) (ticks : ℕ) (m : Machine) → Path (Sleeping 64 ticks) (Ticking_host events ticks) m (map Host_does events)
host_events [] ticks m = Turned {next = Sleeping 64 ticks} refl Ends
host_events (event ∷ events) ticks m = Stepped {next = Ticking_host events ticks} (refl, refl) (host_events events ticks (happens m (Host_does event)))

host_ticks : (ticks : ℕ) → Leads (Ticking_decoder ticks) IsHostTick (Sleeping 64 ticks)
host_ticks ticks m events are =
    same _ are (Stepped {next = Ticking_host (tick_events m.host.state) ticks} (refl, refl) (host_events (tick_events m.host.state) ticks (happens m Decoder_ticks)))

tick : (ticks : ℕ) → Leads (To_tick (suc ticks)) IsTick (To_tick ticks)
tick ticks =
    then (To_tick (suc ticks)) (Ticked ticks) (To_tick ticks) IsClockTick (Then IsOutsideTick (Then IsHostTick Settles)) (clock_ticks ticks)
    (then (Ticked ticks) (Ticking_decoder ticks) (To_tick ticks) IsOutsideTick (Then IsHostTick Settles) (outside_ticks ticks)
    (then (Ticking_decoder ticks) (Sleeping 64 ticks) (To_tick ticks) IsHostTick Settles (host_ticks ticks) (settling 64 ticks)))

pub all_ticks : (count : ℕ) → Leads (To_tick count) (Ticks count) (To_tick zero)
all_ticks zero m events none = same [] none Ends
all_ticks (suc ticks) m events is =
    then (To_tick (suc ticks)) (To_tick ticks) (To_tick zero) IsTick (Ticks ticks) (tick ticks) (λ m events is. all_ticks ticks m events is) m events is

-- ---- where an allocation failure cut them short

outside_begins : (ticks : ℕ) → Begins (Ticked ticks) OutsideTickPrefix
outside_begins ticks =
    then_some (Ticked ticks) (Arriving zero ticks) (PrefixOf IsDelivery) IsDelivery (ThenPrefix (PrefixOf IsGiving) IsGiving (ThenPrefix (PrefixOf IsDeviceTick) IsDeviceTick Nothing))
    (some (Ticked ticks) (Arriving zero ticks) IsDelivery (delivery ticks)) (delivery ticks)
    (then_some (Arriving zero ticks) (Giving zero ticks) (PrefixOf IsGiving) IsGiving (ThenPrefix (PrefixOf IsDeviceTick) IsDeviceTick Nothing)
    (some (Arriving zero ticks) (Giving zero ticks) IsGiving (giving ticks)) (giving ticks)
    (then_some (Giving zero ticks) (Ticking_chip ticks) (PrefixOf IsDeviceTick) IsDeviceTick Nothing
    (some (Giving zero ticks) (Ticking_chip ticks) IsDeviceTick (devices_tick ticks)) (devices_tick ticks) (nothing (Ticking_chip ticks))))

tick_begins : (ticks : ℕ) → Begins (To_tick (suc ticks)) TickPrefix
tick_begins ticks =
    then_some (To_tick (suc ticks)) (Ticked ticks) Nothing IsClockTick (ThenPrefix OutsideTickPrefix IsOutsideTick (ThenPrefix Nothing IsHostTick SettlesPrefix))
    (nothing (To_tick (suc ticks))) (clock_ticks ticks)
    (then_some (Ticked ticks) (Ticking_decoder ticks) OutsideTickPrefix IsOutsideTick (ThenPrefix Nothing IsHostTick SettlesPrefix) (outside_begins ticks) (outside_ticks ticks)
    (then_some (Ticking_decoder ticks) (Sleeping 64 ticks) Nothing IsHostTick SettlesPrefix (nothing (Ticking_decoder ticks)) (host_ticks ticks) (settling_begins 64 ticks)))

pub ticks_begin : (count : ℕ) → Begins (To_tick count) (TicksPrefix count)
ticks_begin zero m events none = nothing (To_tick zero) m events none
ticks_begin (suc ticks) m events is =
    then_some (To_tick (suc ticks)) (To_tick ticks) TickPrefix IsTick (TicksPrefix ticks) (tick_begins ticks) (tick ticks) (λ m events is. ticks_begin ticks m events is) m events is
