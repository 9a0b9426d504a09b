-- What a running attempt has still to give is as its order is carried, whole, cut or sealed (this project's own rule).
use Rattle.std.specs.Prelude.{◌≡◌, ◌≤◌, ℕ, Some, None}
use Rattle.supervision.specs.Host.{command_at as command_of_session, open_session}
use Rattle.host_orders.specs.Wrapping.{form_of}
use Rattle.host_orders.specs.declared.carriage.Form.{Form}
use Rattle.host_orders.specs.declared.carriage.Form.TheVariants.{Plain, Cut, Sealed}
use Rattle.host_node.specs.State.{NodeState}
use Rattle.host_node.specs.declared.series.Series.TheVariants.{Running}
use Rattle.host_model.specs.State.{Command, HostState, command_at, node_of}
use Rattle.proof_giving.specs.proof_queue.proof_attempts.Since.{TieOf}

-- what is whole has no text, and what is cut has segments
abbrev pub GivesAs : Form → NodeState → Type 0
GivesAs Plain node = (node.segments ≡ 0) × (node.text ≡ None) × (node.pending ≡ None)
GivesAs Cut node = 1 ≤ node.segments
GivesAs Sealed node = node.segments ≡ 0

-- so the running attempt of a node, of its open session
abbrev pub PlanSo : HostState → ℕ → Type 0
PlanSo h n =
    (node_of h n).series ≡ Running → (session number : ℕ) (command : Command) → open_session (node_of h n).book ≡ Some session
    → command_of_session (node_of h n).book.commands session ≡ Some number → command_at h.commands number ≡ Some command → GivesAs (form_of command.carriage.outer) (node_of h n)

abbrev pub PlansAreSo : TieOf
PlansAreSo here past h clock = (n : ℕ) → 1 ≤ n → n ≤ 232 → PlanSo h n
