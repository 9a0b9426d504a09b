-- What the final table tells of a host's node (this project's own): its sessions, and its values.
use Rattle.std.specs.Prelude.{ℕ, List, ◌∷◌, map}
use Rattle.value_store.specs.Values.{held_of}
use Rattle.value_store.specs.declared.stored.Held.{Held}
use Rattle.zw_text.specs.declared.entry.Entry.{Entry}
use Rattle.zw_text.specs.declared.entry.Entry.TheVariants.{TableNode, TableValue}
use Rattle.host_model.specs.State.{HostState, node_of}

-- a value of a node
abbrev pub value_entry : ℕ → Held → Entry
value_entry node held = TableValue node held.property held.stored.confirmed held.stored.heard

-- the commands of a node's sessions, and its values
abbrev pub host_lines : HostState → ℕ → List Entry
host_lines h node = TableNode node (node_of h node).book.commands ∷ map (value_entry node) (held_of h.store node)
