-- Which nodes are joined, as chip and air know it (this project's own rule, docs/MACHINE.md).
use Rattle.std.specs.Prelude.{ℕ, ◌-◌, ◌==◌, ◌||◌, ◌&&◌, Bool, true, false, Option, Some, None, List, ◌∷◌, map, filter}
use Rattle.std.specs.List.{range_with_len, flat_map}
use Rattle.route_table.specs.Network.{linked}
use Rattle.chip_sim.specs.Events.{ChipEvent, Joined, Linked}
use Rattle.chip_sim.specs.Did.{after_all}
use Rattle.mesh_sim.specs.Devices.{State, listens}
use Rattle.mesh_sim.specs.Air.{AirState, is_joined, joining}
use Rattle.outside_model.specs.State.{OuterState, with_chip}

-- node 1, or a node that is joined
abbrev pub is_known : AirState → ℕ → Bool
is_known air node = node == 1 || is_joined air node

-- a node listens where the list has a device of it that does
abbrev pub listens_at : Option State → Bool
listens_at None = false
listens_at (Some device) = listens device.kind

-- the live links of a node to nodes that are known
abbrev pub links_of : AirState → ℕ → List ChipEvent
links_of air node = map (λ other. Linked node other true) (filter (λ other. is_known air other && linked air.network node other) (range_with_len 1 232))

-- a node joins in the air and to the chip, which learns its live links
abbrev pub joins : OuterState → ℕ → Bool → OuterState
joins o node listening =
    record (with_chip o (after_all o.chip.state (Joined node listening ∷ links_of (joining o.air node listening) node))) { air = joining o.air node listening }

-- each pair of known nodes with whether they hear each other, for one node with those below it
abbrev pub pairs_of : AirState → ℕ → List ChipEvent
pairs_of air node = map (λ other. Linked node other (linked air.network node other)) (filter (λ other. is_known air other) (range_with_len 1 (node - 1)))

unfoldable pub all_pairs : AirState → List ChipEvent
all_pairs air = flat_map (λ node. pairs_of air node) (filter (λ node. is_known air node) (range_with_len 1 232))

-- the chip's table becomes the live links between known nodes
abbrev pub discovers : OuterState → OuterState
discovers o = with_chip o (after_all o.chip.state (all_pairs o.air))
