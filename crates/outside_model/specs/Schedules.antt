-- Which events a call is (this project's own rule, docs/MACHINE.md).
use Rattle.std.specs.Prelude.{◌≡◌, ℕ, zero, suc, ◌+◌, ◌-◌, ◌&&◌, not, nat_lt, Bool, true, false, Option, List, [], ◌∷◌, drop, length}
use Rattle.serial_frame.specs.declared.item.Item.{Item}
use Rattle.serial_frame.specs.Stream.{Rest}
use Rattle.route_table.specs.declared.route.Route.{Route}
use Rattle.outside_model.specs.State.{OuterState, is_stalled, Does}
use Rattle.outside_model.specs.Chip.{chip_takes, MayTake}
use Rattle.outside_model.specs.Events.{OuterEvent, Chip_takes, Arrives, Gives, Device_ticks, Repeats, Wakes_device, Sets_device}
use Rattle.zw_text.specs.declared.entry.Entry.{Entry}

-- the chip takes all bytes of its pipe at once, in whatever pieces they came; none where there are none, or in a stall
pub record TakesAll (old : OuterState) (events : List OuterEvent) : Type 0 where
  pub rest : Rest
  pub ways : List (Item × Option Route)
  pub are : events ≡ Chip_takes (length old.to_chip.bytes) rest ways ∷ []

abbrev pub TakesBy : Bool → List ℕ → OuterState → List OuterEvent → Type 0
TakesBy true bytes old events = events ≡ []
TakesBy false [] old events = events ≡ []
TakesBy false (byte ∷ bytes) old events = TakesAll old events

abbrev pub ChipTakes : OuterState → List OuterEvent → Type 0
ChipTakes old events = TakesBy (is_stalled old) old.to_chip.bytes old events

-- any byte moves to the chip
abbrev pub any_moves : OuterState → Bool
any_moves old = not (is_stalled old) && nat_lt 0 (length old.to_chip.bytes)

-- the chip took so many of its first bytes
pub record TakesBytes (count : ℕ) (old new : OuterState) (before all : List Entry) : Type 0 where
  pub rest : Rest
  pub ways : List (Item × Option Route)
  pub may : MayTake old count rest ways
  pub does : Does (chip_takes old count rest ways) new before all
  pub left : new.to_chip.bytes ≡ drop count old.to_chip.bytes
  pub moves : is_stalled new ≡ false

-- so many frames arrive
abbrev pub Arrivals : ℕ → List OuterEvent → Type 0
Arrivals zero events = events ≡ []
Arrivals (suc count) events = (drawn : List ℕ) × (route : Option Route) × (rest : List OuterEvent) × (events ≡ Arrives drawn route ∷ rest) × Arrivals count rest

-- the frames that are on the air arrive
abbrev pub Delivers : OuterState → List OuterEvent → Type 0
Delivers old events = Arrivals (old.air.frames.sent - old.air.frames.landed) events

-- a frame is heard again, or that is refused
abbrev pub IsRepeat : ℕ → List OuterEvent → Type 0
IsRepeat number events = (drawn : List ℕ) × (route : Option Route) × (events ≡ Repeats number drawn route ∷ [])

-- a device is woken, or set by hand, or that is refused
abbrev pub IsWake : ℕ → List OuterEvent → Type 0
IsWake node events = (route : Option Route) × (events ≡ Wakes_device node route ∷ [])

abbrev pub IsSet : ℕ → ℕ → List OuterEvent → Type 0
IsSet node value events = (route : Option Route) × (events ≡ Sets_device node value route ∷ [])

-- one event
abbrev pub IsOne : OuterEvent → List OuterEvent → Type 0
IsOne event events = events ≡ event ∷ []

-- so many results are given
abbrev pub Givings : ℕ → List OuterEvent → Type 0
Givings zero events = events ≡ []
Givings (suc count) events = (route : Option Route) × (rest : List OuterEvent) × (events ≡ Gives route ∷ rest) × Givings count rest

-- the devices from a place on tick, so many of them
abbrev pub DeviceTicks : ℕ → ℕ → List OuterEvent → Type 0
DeviceTicks place zero events = events ≡ []
DeviceTicks place (suc count) events =
    (drawn : List ℕ) × (route : Option Route) × (rest : List OuterEvent) × (events ≡ Device_ticks place drawn route ∷ rest) × DeviceTicks (place + 1) count rest
