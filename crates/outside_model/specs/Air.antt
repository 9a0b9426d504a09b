-- What happens on the air, as it is told and as the chip learns of it (this project's own rule, docs/MACHINE.md).
use Rattle.std.specs.Prelude.{ℕ, ◌&&◌, nat_le, if◌then◌else◌, Option, Some, None, List, [], ◌∷◌, map, slice_get, length}
use Rattle.zw_base.specs.declared.property.Setting.{Setting}
use Rattle.mesh_sim.specs.Devices.{State, Change}
use Rattle.chip_sim.specs.Events.{Heard as chip_hears}
use Rattle.mesh_sim.specs.declared.event.AirEvent.{AirEvent}
use Rattle.mesh_sim.specs.declared.event.AirEvent.TheVariants.{Heard, Lost, Unheard, Sent, Changed, ToChip, Done}
use Rattle.mesh_sim.specs.Fates.{place_of}
use Rattle.zw_text.specs.declared.entry.Entry.{Entry}
use Rattle.zw_text.specs.declared.entry.Entry.TheVariants as entry
use Rattle.outside_model.specs.State.{OuterState, Outcome, silent, tells}
use Rattle.outside_model.specs.Chip.{shown_via, chip_does}
use Rattle.outside_model.specs.Results.{frame_ends, device_at}

-- a change of a device, one setting after another
abbrev pub change_entries : ℕ → Option Change → List Entry
change_entries node None = []
change_entries node (Some change) = map (λ (setting : Setting). entry.Dev node change.by setting) change.settings

-- the change at a place of a device's journal
abbrev pub change_at : Option State → ℕ → Option Change
change_at None at = None
change_at (Some device) at = slice_get device.journal at

-- a payload of 1 to 46 bytes comes to the chip
abbrev pub to_chip : OuterState → ℕ → List ℕ → Outcome
to_chip o from payload =
    if nat_le 1 (length payload) && nat_le (length payload) 46 then chip_does o (chip_hears from payload) else silent o

-- a frame that went on the air
abbrev pub sent_entries : AirEvent → List Entry
sent_entries (Heard frame) = []
sent_entries (Lost frame) = []
sent_entries (Unheard frame) = []
sent_entries (Sent frame from to route payload) = entry.Air frame from to (shown_via route) payload ∷ []
sent_entries (Changed node at) = []
sent_entries (ToChip frame from payload) = []
sent_entries (Done frame status dead) = []

-- one event of the air, with the devices as they are then
abbrev pub deals : List State → OuterState → AirEvent → Outcome
deals devices o (Heard frame) = tells o (entry.Heard frame ∷ [])
deals devices o (Lost frame) = tells o (entry.Lost frame ∷ [])
deals devices o (Unheard frame) = tells o (entry.Unheard frame ∷ [])
deals devices o (Sent frame from to route payload) = tells o (sent_entries (Sent frame from to route payload))
deals devices o (Changed node at) = tells o (change_entries node (change_at (device_at devices (place_of node devices)) at))
deals devices o (ToChip frame from payload) = to_chip o from payload
deals devices o (Done frame status dead) = frame_ends o status dead
