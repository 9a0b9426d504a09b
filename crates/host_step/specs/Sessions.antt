-- What a host finds of the session that a node has open.
use Rattle.std.specs.Prelude.{◌≡◌, ◌≤◌, ℕ, length, Option, Some, None}
use Rattle.supervision.specs.Host.{open_session, command_at as command_of_session}
use Rattle.host_node.specs.Events.{FitsPlan}
use Rattle.host_model.specs.State.{HostState, Command, node_of, command_at}
use Rattle.host_model.specs.May.{IsStart}
use Rattle.host_parts.specs.declared.starts.Start.{Start}

-- the command of a number, where there is one
abbrev pub command_in : HostState → Option ℕ → Option Command
command_in h None = None
command_in h (Some number) = command_at h.commands number

-- the command of the open session of a node
abbrev pub open_order : HostState → ℕ → Option Command
open_order h n = order_by h n (open_session (node_of h n).book)
  where
    order_by : HostState → ℕ → Option ℕ → Option Command
    order_by h n None = None
    order_by h n (Some session) = command_in h (command_of_session (node_of h n).book.commands session)

-- how an attempt starts: what its plan allows, with at least one byte at once
pub record IsGoodStart (h : HostState) (n : ℕ) (start : Start) : Type 0 where
  pub starts : IsStart h n start.plan start.more start.payload
  pub fits : FitsPlan start.plan
  pub some : 1 ≤ length start.payload

-- that, or there is no command of an open session
abbrev pub StartsSo : HostState → ℕ → Option Start → Type 0
StartsSo h n None = open_order h n ≡ None
StartsSo h n (Some start) = IsGoodStart h n start
