-- What devices do of themselves or by hand, and what is shown of them (this project's own rule, docs/MACHINE.md).
use Rattle.std.specs.Prelude.{ℕ, Option, Some, None, List, [], ◌∷◌, drop, length, map, slice_get, slice_set, option_map}
use Rattle.std.specs.List.{flat_map}
use Rattle.zw_base.specs.declared.property.Setting.{Setting}
use Rattle.route_table.specs.declared.route.Route.{Route}
use Rattle.route_table.specs.Network.{Network}
pub use Rattle.mesh_sim.specs.Devices.{State}
use Rattle.mesh_sim.specs.Devices.{Change, DeviceEvent, device_after, device_replies, shown_of}
use Rattle.mesh_sim.specs.Air.{is_joined}
use Rattle.mesh_sim.specs.Fates.{place_of}
use Rattle.mesh_sim.specs.Routes.{IsRoute, backwards}
use Rattle.mesh_sim.specs.Steps.{answered_if, answers_if}
use Rattle.zw_text.specs.declared.entry.Entry.{Entry}
use Rattle.zw_text.specs.declared.entry.Entry.TheVariants.{Refused, Device}
use Rattle.zw_text.specs.declared.entry.Refusal.TheVariants.{NoDevice}
use Rattle.outside_model.specs.State.{OuterState, Outcome, silent, tells, and_then}
use Rattle.outside_model.specs.Air.{change_entries, sent_entries}
use Rattle.outside_model.specs.Results.{device_at}

-- changes of a device, one after another
abbrev pub changes_entries : ℕ → List Change → List Entry
changes_entries node changes = flat_map (λ (change : Change). change_entries node (Some change)) changes

-- what a device changed at an event
abbrev pub new_changes : State → DeviceEvent → List Change
new_changes device event = drop (length device.journal) (device_after device event).journal

-- payloads of a node go on the air over a way, where it is joined
abbrev pub sends_over : OuterState → ℕ → Option Route → List (List ℕ) → Outcome
sends_over o node way replies = record {
  outer = record o { air = answered_if (is_joined o.air node) o.air node way replies };
  entries = flat_map sent_entries (answers_if (is_joined o.air node) o.air node way replies);
}

-- the way is the route to the node walked backwards
abbrev pub sends : OuterState → ℕ → Option Route → List (List ℕ) → Outcome
sends o node route replies = sends_over o node (option_map backwards route) replies

-- an event of a device: what it changed is told, and what it sends goes on the air
abbrev pub acts : OuterState → State → DeviceEvent → Option Route → Outcome
acts o device event route =
    and_then (tells o (changes_entries device.node (new_changes device event))) (λ later. sends later device.node route (device_replies device event))

-- the route is that of the air to the node, where the device sends anything
abbrev pub HasWay : Network → ℕ → List (List ℕ) → Option Route → Type 0
HasWay network node [] route = Unit {0}
HasWay network node (reply ∷ replies) route = IsRoute network node route

-- an event of the device at a place; all others stay
abbrev pub acts_at : OuterState → Option State → DeviceEvent → Option Route → Outcome
acts_at o None event route = silent o
acts_at o (Some device) event route = acts o device event route

abbrev pub device_set : List State → ℕ → Option State → DeviceEvent → List State
device_set devices place None event = devices
device_set devices place (Some device) event = slice_set devices place (device_after device event)

abbrev pub MayAct : OuterState → Option State → DeviceEvent → Option Route → Type 0
MayAct o None event route = ⊥
MayAct o (Some device) event route = HasWay o.air.network device.node (device_replies device event) route

-- an event of the first device of a node, by hand: refused where there is none
abbrev pub acts_by_hand : OuterState → List State → Option ℕ → DeviceEvent → Option Route → Outcome
acts_by_hand o devices None event route = tells o (Refused NoDevice ∷ [])
acts_by_hand o devices (Some place) event route = acts_at o (slice_get devices place) event route

abbrev pub set_by_hand : List State → Option ℕ → DeviceEvent → List State
set_by_hand devices None event = devices
set_by_hand devices (Some place) event = device_set devices place (slice_get devices place) event

abbrev pub MayActByHand : OuterState → List State → Option ℕ → DeviceEvent → Option Route → Type 0
MayActByHand o devices None event route = Unit {0}
MayActByHand o devices (Some place) event route = MayAct o (slice_get devices place) event route

-- what a device keeps
abbrev pub device_entries : ℕ → Option State → List Entry
device_entries node None = []
device_entries node (Some device) = map (λ (setting : Setting). Device node setting) (shown_of device)

-- what the first device of a node keeps
abbrev pub kept_entries : ℕ → List State → List Entry
kept_entries node devices = device_entries node (device_at devices (place_of node devices))

-- what is shown of a device; refused where there is none
abbrev pub shown_entries : ℕ → Option State → List Entry
shown_entries node None = Refused NoDevice ∷ []
shown_entries node (Some device) = device_entries node (Some device)
