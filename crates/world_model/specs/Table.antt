-- The final table (this project's own): the clock; then for each joined node, in order, its sessions, its values and its device.
use Rattle.std.specs.Prelude.{ℕ, List, ◌∷◌, ◌++◌, filter}
use Rattle.std.specs.List.{flat_map, range_with_len}
use Rattle.zw_text.specs.declared.entry.Entry.{Entry}
use Rattle.zw_text.specs.declared.entry.Entry.TheVariants.{TableEnd}
use Rattle.host_model.specs.State.{HostState, node_of}
use Rattle.host_model.specs.Listing.{host_lines}
use Rattle.outside_model.specs.Devices.{kept_entries}
use Rattle.world_model.specs.State.{Machine}

-- the lines of a node
abbrev pub node_entries : Machine → ℕ → List Entry
node_entries m node = host_lines m.host.state node ++ kept_entries node m.outside.devices

-- the joined nodes
abbrev pub joined_nodes : HostState → List ℕ
joined_nodes h = filter (λ n. (node_of h n).joined) (range_with_len 1 232)

-- the whole table
abbrev pub table_entries : Machine → List Entry
table_entries m = TableEnd m.outside.outer.clock ∷ flat_map (node_entries m) (joined_nodes m.host.state)
