-- A host, where these are the parts that a function borrows.
use Rattle.std.specs.Prelude.{List}
use Rattle.serial_link.specs.State.{Side}
use Rattle.value_store.specs.Values.{Values}
use Rattle.host_requests.specs.State.{RequestsState}
use Rattle.host_node.specs.State.{NodeState}
use Rattle.host_model.specs.State.{Command, HostState}

-- its nodes and its commands
abbrev pub with_commands : HostState → List NodeState → List Command → HostState
with_commands h nodes commands = record h { nodes = nodes; commands = commands }

-- its values too
abbrev pub with_orders : HostState → List NodeState → List Command → Values → HostState
with_orders h nodes commands store = record h { nodes = nodes; commands = commands; store = store }

-- or its requests
abbrev pub with_requests : HostState → RequestsState → List NodeState → List Command → HostState
with_requests h requests nodes commands = record h { requests = requests; nodes = nodes; commands = commands }

-- and its side of the line
abbrev pub with_line : HostState → Side → RequestsState → List NodeState → List Command → HostState
with_line h side requests nodes commands = record h { side = side; requests = requests; nodes = nodes; commands = commands }
