-- What a call of the world tells of the final table (this project's own).
use Rattle.std.specs.Prelude.{ℕ, List, [], if◌then◌else◌}
use Rattle.zw_text.specs.declared.entry.Entry.{Entry}
use Rattle.host_model.specs.State.{node_of}
use Rattle.world_model.specs.State.{Machine}
use Rattle.world_model.specs.Table.{node_entries}

-- the lines of a node, where it is joined
abbrev pub listed : Machine → ℕ → List Entry
listed m node = if (node_of m.host.state node).joined then node_entries m node else []
