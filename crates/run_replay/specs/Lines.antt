-- Which events a line of `replay` is (this project's own rule): its own effect, or bytes of the chip, and a pump; or so many ticks, each
-- with a pump.
use Rattle.std.specs.Prelude.{◌≡◌, ℕ, zero, suc, IsTrue, List, [], ◌∷◌, ◌++◌}
use Rattle.std.specs.List.{flat_map}
use Rattle.serial_frame.specs.Stream.{Rest}
use Rattle.serial_frame.specs.declared.item.Item.{Item}
use Rattle.zw_text.specs.Line.{first_word, is_replayed}
use Rattle.zw_text.specs.declared.line.Line.{Line}
use Rattle.zw_text.specs.declared.line.Line.TheVariants.{Tick}
use Rattle.zw_text.specs.declared.line.ReplayLine.{ReplayLine}
use Rattle.zw_text.specs.declared.line.ReplayLine.TheVariants.{Plain, Chip}
use Rattle.host_model.specs.Events.{HostEvent}
use Rattle.host_model.specs.Did.{after_all}
use Rattle.host_model.specs.Pumping.{Pumps}
use Rattle.host_model.specs.Ticking.{tick_events}
use Rattle.world_model.specs.Events.{Event as MachineEvent, Host_does, Refuses as refuses, Shows_values as shows_values}
use Rattle.world_model.specs.Lines.{IsEffect as IsEffectThere}
use Rattle.run_replay.specs.Machine.{Event, Does_itself, Does_asked, Takes, Ticks, Refuses, Shows_values, Schedule, Then, alone}

-- the lines that speak to the host, and `tick`
abbrev pub IsReplayed : ReplayLine → Type 0
IsReplayed (Plain line) = IsTrue (is_replayed (first_word line))
IsReplayed (Chip bytes) = Unit {0}

-- what the host does of an event of the simulator's machine; the rest of the machine is not there
abbrev pub by_host : MachineEvent → List Event
by_host (Host_does event) = Does_asked event ∷ []
by_host (refuses line refusal) = Refuses line refusal ∷ []
by_host (shows_values node) = Shows_values node ∷ []
by_host event = []

-- the effect of a line but `tick`: what the host does of that which the line does in a scenario
abbrev pub IsEffect : Line → Schedule
IsEffect line m events = (there : List MachineEvent) × IsEffectThere line (alone m) there × (events ≡ flat_map by_host there)

-- the host submits what it may
abbrev pub IsPump : Schedule
IsPump m events = (pumped : List HostEvent) × Pumps m.host.state pumped × (events ≡ Does_itself pumped ∷ [])

-- bytes of the chip are taken; which items they end is said by when that may happen
abbrev pub IsTaking : List ℕ → Schedule
IsTaking bytes m events = (rest : Rest) × (items : List Item) × (judged : List HostEvent) × (events ≡ Takes bytes rest items judged ∷ [])

-- a tick: of the host, which then submits what it may
abbrev pub IsTick : Schedule
IsTick m events =
    (pumped : List HostEvent) × Pumps (after_all m.host.state (tick_events m.host.state)) pumped × (events ≡ Ticks (tick_events m.host.state ++ pumped) ∷ [])

abbrev pub AreTicks : ℕ → Schedule
AreTicks zero m events = events ≡ []
AreTicks (suc more) m events = Then IsTick (AreTicks more) m events

-- a line that scenarios have too
abbrev pub IsPlain : Line → Schedule
IsPlain (Tick count) = AreTicks count
IsPlain line = Then (IsEffect line) IsPump

-- the whole line
abbrev pub IsLine : ReplayLine → Schedule
IsLine (Plain line) = IsPlain line
IsLine (Chip bytes) = Then (IsTaking bytes) IsPump
