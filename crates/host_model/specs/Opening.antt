-- A host that starts from its records (this project's own rule, docs/RECORDS.md).
use Rattle.std.specs.Prelude.{List, [], ◌∷◌, ◌++◌, map, take, drop}
use Rattle.s0_crypto.specs.declared.key_pair.Keys.{Keys}
use Rattle.host_node.specs.State.{NodeState}
use Rattle.host_node.specs.Steps.{after_restart}
use Rattle.host_keep.specs.declared.record.Record.{Record}
use Rattle.host_model.specs.State.{HostState, first_host}
use Rattle.host_model.specs.Restoring.{restored}

-- the host once it took up these records, in their order
unfoldable pub restored_all : HostState → List Record → HostState
restored_all h [] = h
restored_all h (one ∷ more) = restored_all (restored h one) more

-- each node restarts: only what was recorded of it is left, and a new series is due where a session is open and the node listens. No node
-- has number 0
unfoldable pub restarting : List NodeState → List NodeState
restarting nodes = take 1 nodes ++ map after_restart (drop 1 nodes)

-- the host restarts
abbrev pub restarted : HostState → HostState
restarted h = record h { nodes = restarting h.nodes }

-- the host that starts from these records
abbrev pub opened : Keys → List Record → HostState
opened keys records = restarted (restored_all (first_host keys) records)
