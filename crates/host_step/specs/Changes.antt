-- A host after an event, by its parts; and after one with a record, where that is no word of `host_model`.
use Rattle.std.specs.Prelude.{ℕ}
use Rattle.zw_text.specs.declared.entry.Outcome.TheVariants.{Begun, Cancelled}
use Rattle.host_node.specs.Events.NodeEvent.{Begins, Cancels}
use Rattle.host_model.specs.State.{HostState, HostParts, with_outcome}
use Rattle.host_model.specs.Events.{HostEvent}
use Rattle.host_model.specs.After.{after, node_does}

-- an event that leaves what is unfinished of the chip's bytes
abbrev pub parts_after : HostParts → HostEvent → HostParts
parts_after host event = record host { state = after host.state event }

-- a session of a node begins for this command
abbrev pub beginning : HostState → ℕ → ℕ → HostState
beginning h n command = record (node_does h n Begins) { commands = with_outcome h.commands command Begun }

-- a command that waits for a node is cancelled
abbrev pub cancelling : HostState → ℕ → ℕ → HostState
cancelling h n command = record (node_does h n (Cancels command)) { commands = with_outcome h.commands command Cancelled }
