-- Which events ticks of 100 ms are (this project's own rule): frames on the air are delivered, results are given to the chip; the devices,
-- the chip and the host tick; and the whole settles.
use Rattle.std.specs.Prelude.{◌≡◌, ℕ, zero, suc, [], ◌∷◌, map, length}
use Rattle.host_model.specs.Ticking.{tick_events}
use Rattle.outside_model.specs.Events.{Begins_tick, Chip_ticks}
use Rattle.outside_model.specs.Schedules.{Delivers, Givings, DeviceTicks}
use Rattle.world_model.specs.Events.{Outside_does, Host_does, Decoder_ticks}
use Rattle.world_model.specs.Did.{Schedule, Then, These}
use Rattle.world_model.specs.Settling.{Outside, Settles}

-- the clock rises by one
abbrev pub IsClockTick : Schedule
IsClockTick = These (Outside_does Begins_tick ∷ [])

-- each frame on the air is delivered, in the order of numbers
abbrev pub IsDelivery : Schedule
IsDelivery m events = Outside (Delivers m.outside.outer) events

-- what is due to the chip is given to it, in its order
abbrev pub IsGiving : Schedule
IsGiving m events = Outside (Givings (length m.outside.outer.due)) events

-- the devices tick, in the order of the list
abbrev pub IsDeviceTick : Schedule
IsDeviceTick m events = Outside (DeviceTicks 0 (length m.outside.devices)) events

-- the chip ticks
abbrev pub IsChipTick : Schedule
IsChipTick = These (Outside_does Chip_ticks ∷ [])

-- what is outside the host ticks
abbrev pub IsOutsideTick : Schedule
IsOutsideTick = Then IsDelivery (Then IsGiving (Then IsDeviceTick IsChipTick))

-- the host ticks
abbrev pub IsHostTick : Schedule
IsHostTick m events = events ≡ Decoder_ticks ∷ map Host_does (tick_events m.host.state)

-- one tick
abbrev pub IsTick : Schedule
IsTick = Then IsClockTick (Then IsOutsideTick (Then IsHostTick Settles))

-- so many ticks
abbrev pub Ticks : ℕ → Schedule
Ticks zero m events = events ≡ []
Ticks (suc more) m events = Then IsTick (Ticks more) m events
